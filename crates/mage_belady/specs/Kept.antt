-- What the code keeps while the pages of the steps come in, and what it stands for in the rule.
use Rattle.std.specs.Prelude.{◌≡◌, ◌<◌, ◌≤◌, ◌++◌, ◌&&◌, ℕ, List, [], ◌∷◌, Bool, true, false, not, length, map, set, nat_eq, if◌then◌else◌, slice_index, slice_index_or, Option, Some, None}
use Rattle.std.specs.HashSet.{contains}
use Rattle.mage_instr.specs.declared.instr.TheConstants.{NEVER}
use Rattle.mage_instr.specs.declared.instr.Step.{Step}
use Rattle.mage_instr.specs.declared.replaced.Replaced.{Replaced}
use Rattle.mage_instr.specs.declared.replaced.Replaced.TheVariants as entry
use Rattle.mage_instr.specs.Trace.{pages_of}
use Rattle.mage_next.specs.Next.{use_noted}
use Rattle.mage_belady.specs.declared.paging.Paging.{Paging}
use Rattle.mage_belady.specs.declared.use_map.Listed.{Listed}
use Rattle.mage_belady.specs.Plan.{is_in, AreDistinct}
use Rattle.mage_belady.specs.Uses.{frame_at}
use Rattle.mage_belady.specs.Rule.{Held, resident, frame_of, visited, all_brought_in}

-- the numbers beside the pages of a step are those that a function gives them
abbrev pub AreBeside : Step → (numbers : List ℕ) → (ℕ → ℕ) → Type 0
AreBeside step numbers f =
    (k : ℕ) → k < step.count → slice_index numbers k ≡ f (slice_index step.pages k)

-- a number stands beside a page of a step
abbrev pub IsBeside : Step → (numbers : List ℕ) → (page number : ℕ) → Type 0
IsBeside step numbers page number =
    (k : ℕ) × (k < step.count)
    × (slice_index step.pages k ≡ page) × (slice_index numbers k ≡ number)

-- A moment of the rule: what the frames have, when each page is used next, and the pages that came
-- in so far.
pub record Moment : Type 0 where
  pub held : List Held
  pub next : ℕ → ℕ
  pub known : List ℕ

-- of each frame in use, whether a result was put in its page
abbrev pub dirty_of : List Held → List Bool
dirty_of held = map (λ h. h.dirty) held

-- the frame of a page, where it is in memory
abbrev pub frame_if : ℕ → List ℕ → Option ℕ
frame_if page memory = if is_in page memory then Some (frame_of page memory) else None

-- which pages are listed: each, or each that is none of these
abbrev pub any_page : ℕ → Bool
any_page page = true

abbrev pub outside : List ℕ → ℕ → Bool
outside pages page = not (is_in page pages)

-- the pages in memory that pass a test, each with its frame under its next use
abbrev pub listing : (test : ℕ → Bool) → Moment → (n page : ℕ) → Option ℕ
listing test m n page =
    if test page && nat_eq n (m.next page) then frame_if page (resident m.held) else None

-- what the code keeps is what the rule has at a moment, where the pages that pass a test are listed
pub record Keeps (frames : ℕ) (m : Moment) (test : ℕ → Bool) (paging : Paging) : Type 0 where
  pub distinct : AreDistinct (resident m.held)
  pub fits : length m.held ≤ frames
  pub known : (page : ℕ) → is_in page (resident m.held) ≡ true → is_in page m.known ≡ true
  pub seen : (page : ℕ) → contains nat_eq paging.seen page ≡ is_in page m.known
  pub dirty : paging.dirty.items ≡ dirty_of m.held
  pub uses : (n page : ℕ) → frame_at paging.uses n page ≡ listing test m n page

-- the moment before step t, where `m.next` is when each page is used after the step
abbrev pub before : Step → (t : ℕ) → Moment → Moment
before step t m = record { held = m.held; next = use_noted step t m.next; known = m.known }

-- once a page of a step has come in, where it wasn't in memory
abbrev pub came : (frames : ℕ) (pages : List ℕ) (page : ℕ) → Moment → Moment
came frames pages page m = record {
  held = (visited frames m.next m.known pages m.held page).held;
  next = m.next;
  known = m.known ++ page ∷ [];
}

-- once all pages of a step have come in
abbrev pub served : (frames : ℕ) → Step → Moment → Moment
served frames step m = record {
  held = (all_brought_in frames m.next m.known (pages_of step) (pages_of step) m.held).held;
  next = m.next;
  known = m.known ++ pages_of step;
}

-- a page comes into a frame, and a step before had it or none had
abbrev pub comes_into : (again : Bool) (frame page : ℕ) → Replaced
comes_into again frame page = if again then entry.Load frame page else entry.Fresh frame page

-- a page came into the lowest free frame
pub record TakesFree (old new : Paging) (again : Bool) (page frame : ℕ) : Type 0 where
  pub taken : frame ≡ length old.dirty.items
  pub list : new.list.items ≡ old.list.items ++ comes_into again frame page ∷ []
  pub dirty : new.dirty.items ≡ old.dirty.items ++ false ∷ []
  pub uses : new.uses ≡ old.uses
  pub seen : new.seen ≡ old.seen

-- a page is saved where a result was put in it, and it is used again
abbrev pub saved : (dirty : Bool) → Listed → List Replaced
saved dirty last =
    if dirty && not (nat_eq last.next NEVER) then entry.Save last.frame last.page ∷ [] else []

-- a page came into the frame of another
pub record TakesOver (old new : Paging) (last : Listed) (again : Bool)
    (page frame : ℕ) : Type 0 where
  pub taken : frame ≡ last.frame
  pub list : new.list.items ≡ old.list.items
      ++ (saved (slice_index_or old.dirty.items last.frame false) last
      ++ comes_into again frame page ∷ [])
  pub dirty : new.dirty.items ≡ set old.dirty.items last.frame false
  pub uses : new.uses ≡ old.uses
  pub seen : new.seen ≡ old.seen

-- a page came in as in the rule, and this is its frame
pub record Brings (frames : ℕ) (pages : List ℕ) (page : ℕ) (m : Moment) (old new : Paging)
    (frame : ℕ) : Type 0 where
  pub list : new.list.items
      ≡ old.list.items ++ (visited frames m.next m.known pages m.held page).entries
  pub kept : Keeps frames (came frames pages page m) (outside pages) new
  pub stands : frame_if page (resident (came frames pages page m).held) ≡ Some frame

-- the pages of a step came in as in the rule, and these are their frames
pub record IsServed (frames : ℕ) (step : Step) (m : Moment) (test : ℕ → Bool) (old new : Paging)
    (at : List ℕ) : Type 0 where
  pub list : new.list.items ≡ old.list.items
      ++ (all_brought_in frames m.next m.known (pages_of step) (pages_of step) m.held).entries
  pub kept : Keeps frames (served frames step m) test new
  pub stand : AreBeside step at (λ page. frame_of page (resident (served frames step m).held))
  pub has : (page : ℕ) → is_in page (pages_of step) ≡ true
      → is_in page (resident (served frames step m).held) ≡ true
  pub inside : (k : ℕ) → k < step.count → slice_index at k < length new.dirty.items

-- the frames of a step's pages, as they were found
abbrev pub AreFound : Step → (found : List (Option ℕ)) → (memory : List ℕ) → Type 0
AreFound step found memory =
    (k : ℕ) → k < step.count
    → slice_index_or found k None ≡ frame_if (slice_index step.pages k) memory
