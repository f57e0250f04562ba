-- Homes: which page of the store each page is kept in. The pages that a list's transfers name become store pages.
use Rattle.std.specs.Prelude.{◌+◌, ℕ, List, [], ◌∷◌, ◌++◌, map, max, set, unwrap_or, Bool, true, false, if◌then◌else◌, nat_eq, Option, Some, None}
use Rattle.std.specs.List.{position}
use Rattle.mage_instr.specs.declared.directive.Directive.{Directive}
use Rattle.mage_instr.specs.declared.directive.Directive.TheVariants as directive
use Rattle.mage_sched.specs.Reads.{is_page}

-- the store of a worker
pub record Store : Type 0 where
  -- the page that holds each store page, if one does
  pub holders : List (Option ℕ)
  -- the page that lets its store page go at the finish of a slot's transfer, if one does
  pub ends : ℕ → Option ℕ

-- no store page was held yet
abbrev pub empty_store : Store
empty_store = record { holders = []; ends = λ slot. None }

-- whether no page holds a store page
abbrev pub is_free : (holder : Option ℕ) → Bool
is_free None = true
is_free (Some page) = false

-- how many store pages are held
abbrev pub number_held : (holders : List (Option ℕ)) → ℕ
number_held [] = 0
number_held (None ∷ holders) = number_held holders
number_held (Some page ∷ holders) = 1 + number_held holders

-- the store page that a page holds
abbrev pub home_of : (holders : List (Option ℕ)) → (page : ℕ) → Option ℕ
home_of holders page = position (λ holder. is_page holder page) holders

-- a page takes this store page, or else one more
abbrev pub taken : Option ℕ → (page : ℕ) → (holders : List (Option ℕ)) → List (Option ℕ)
taken None page holders = holders ++ Some page ∷ []
taken (Some home) page holders = set holders home (Some page)

-- a page that holds none takes the lowest store page that no page holds
abbrev pub housed_at : Option ℕ → (page : ℕ) → (holders : List (Option ℕ)) → List (Option ℕ)
housed_at None page holders = taken (position is_free holders) page holders
housed_at (Some home) page holders = holders

abbrev pub housed : (page : ℕ) → (holders : List (Option ℕ)) → List (Option ℕ)
housed page holders = housed_at (home_of holders page) page holders

-- nothing where the page holds a store page, else what does
abbrev pub cleared : (page : ℕ) → (holder : Option ℕ) → Option ℕ
cleared page holder = if is_page holder page then None else holder

-- a page, or none, lets its store page go
abbrev pub let_go : Option ℕ → (holders : List (Option ℕ)) → List (Option ℕ)
let_go None holders = holders
let_go (Some page) holders = map (cleared page) holders

-- whether a directive issues a transfer of a page
abbrev pub names : Directive → (page : ℕ) → Bool
names (directive.Fresh frame other) page = false
names (directive.IssueIn slot other) page = nat_eq other page
names (directive.FinishIn slot frame) page = false
names (directive.IssueOut slot frame other) page = nat_eq other page
names (directive.FinishOut slot) page = false
names (directive.Do job) page = false

-- how many transfers of a page some directives issue
abbrev pub transfers_of : List Directive → (page : ℕ) → ℕ
transfers_of [] page = 0
transfers_of (one ∷ list) page = if names one page then transfers_of list page + 1 else transfers_of list page

-- the page itself, where no later transfer names it
abbrev pub last_of : (later : List Directive) → (page : ℕ) → Option ℕ
last_of later page = if nat_eq (transfers_of later page) 0 then Some page else None

-- what ends at each slot's finish, where it is this for one of them
abbrev pub at_finish : (slot : ℕ) → Option ℕ → (ends : ℕ → Option ℕ) → ℕ → Option ℕ
at_finish slot page ends other = if nat_eq slot other then page else ends other

-- The store after a directive, where the others come later. A page holds a store page from its first write on, and until the
-- finish of the last transfer that names it.
abbrev pub store_after : Directive → (later : List Directive) → Store → Store
store_after (directive.Fresh frame page) later store = store
store_after (directive.IssueIn slot page) later store = record { holders = store.holders; ends = at_finish slot (last_of later page) store.ends }
store_after (directive.FinishIn slot frame) later store = record { holders = let_go (store.ends slot) store.holders; ends = at_finish slot None store.ends }
store_after (directive.IssueOut slot frame page) later store = record { holders = housed page store.holders; ends = at_finish slot (last_of later page) store.ends }
store_after (directive.FinishOut slot) later store = record { holders = let_go (store.ends slot) store.holders; ends = at_finish slot None store.ends }
store_after (directive.Do job) later store = store

-- a directive that names the store page of its page, or 0 where the page holds none
abbrev pub renamed : Directive → (holders : List (Option ℕ)) → Directive
renamed (directive.Fresh frame page) holders = directive.Fresh frame page
renamed (directive.IssueIn slot page) holders = directive.IssueIn slot (unwrap_or (home_of holders page) 0)
renamed (directive.FinishIn slot frame) holders = directive.FinishIn slot frame
renamed (directive.IssueOut slot frame page) holders = directive.IssueOut slot frame (unwrap_or (home_of holders page) 0)
renamed (directive.FinishOut slot) holders = directive.FinishOut slot
renamed (directive.Do job) holders = directive.Do job

-- directives with store pages, and the greatest number of these held at once
pub record Homed : Type 0 where
  pub directives : List Directive
  pub count : ℕ

-- one more directive in front
abbrev pub with_one : (one : Directive) → (held : ℕ) → Homed → Homed
with_one one held homed = record { directives = one ∷ homed.directives; count = max held homed.count }

-- directives with their store pages, from a store on
abbrev pub homed_from : Store → List Directive → Homed
homed_from store [] = record { directives = []; count = number_held store.holders }
homed_from store (one ∷ later) = with_one (renamed one (store_after one later store).holders) (number_held store.holders) (homed_from (store_after one later store) later)

-- directives with their store pages
abbrev pub homed_of : List Directive → Homed
homed_of directives = homed_from empty_store directives
