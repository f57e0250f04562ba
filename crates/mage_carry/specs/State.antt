-- What stands where while the directives of a worker are walked through.
use Rattle.std.specs.Prelude.{ℕ, ◌&&◌, Bool, true, false, not, List, Option, Some, None, nat_eq, nat_lt, slice_get, set, if◌then◌else◌}
use Rattle.std.specs.List.{list_any}

-- What a frame or a page holds: the variable that begins at each offset, if one does. A variable is named by the index of
-- the instruction whose result it is.
abbrev pub Content : Type 0
Content = ℕ → Option ℕ

-- nothing stands there
abbrev pub nothing : Content
nothing offset = None

-- what a slot is doing: a write carries a copy of what is written
pub data Slot : Type 0 where
  Idle : Slot
  Reads : (page : ℕ) → Slot
  Writes : (page : ℕ) → (content : Content) → Slot

pub record State : Type 0 where
  -- what each frame holds
  pub frames : List Content
  pub slots : List Slot
  -- what each page of the store got by the last write of it that finished, if one has
  pub pages : ℕ → Option Content
  -- the index of the instruction that is done next
  pub next : ℕ

abbrev pub is_idle : Slot → Bool
is_idle Idle = true
is_idle (Reads page) = false
is_idle (Writes page content) = false

-- whether a slot reads or writes the page
abbrev pub names : (page : ℕ) → Slot → Bool
names page Idle = false
names page (Reads other) = nat_eq page other
names page (Writes other content) = nat_eq page other

-- whether there is a value, and it passes the test
abbrev pub has : {T : Type 0} → (T → Bool) → Option T → Bool
has test None = false
has test (Some x) = test x

-- whether a page is there to be read or written: it is one of the store's, and no slot names it
abbrev pub may_name : (store page : ℕ) → List Slot → Bool
may_name store page slots = nat_lt page store && not (list_any (names page) slots)

-- whether a slot may begin to read or write a page: it is there and idle, and so is the page
abbrev pub may_issue : (store slot page : ℕ) → List Slot → Bool
may_issue store slot page slots = has is_idle (slice_get slots slot) && may_name store page slots

-- the state, where a frame holds something else
abbrev pub with_frame : (frame : ℕ) → Content → State → State
with_frame frame content state = record state { frames = set state.frames frame content }

-- the state, where a slot does something else
abbrev pub with_slot : (slot : ℕ) → Slot → State → State
with_slot slot doing state = record state { slots = set state.slots slot doing }

-- the pages, where one got what was written
abbrev pub got : (page : ℕ) → Content → (ℕ → Option Content) → ℕ → Option Content
got page content pages other = if nat_eq page other then Some content else pages other

-- the state, where a page got what was written
abbrev pub with_page : (page : ℕ) → Content → State → State
with_page page content state = record state { pages = got page content state.pages }
