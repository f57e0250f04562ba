-- What the maps and tables of the code stand for.
use Rattle.std.specs.Prelude.{◌≡◌, ◌≢◌, ◌≤◌, ◌<◌, ℕ, zero, suc, Bool, false, List, [], ◌∷◌, Option, length, nat_eq, unwrap_or, slice_index_or}
use Rattle.std.specs.List.{position}
use Rattle.std.specs.Ordering.{nat_cmp}
use Rattle.std.specs.HashMap.{HashMap, get}
use Rattle.std.specs.BTreeSet.{BTreeSet, contains}
use Rattle.mage_instr.specs.declared.directive.Directive.{Directive}
use Rattle.mage_instr.specs.declared.replaced.Replaced.{Replaced}
use Rattle.mage_sched.specs.declared.past.Past.{Past}
use Rattle.mage_sched.specs.declared.slots.Slots.{Slots}
use Rattle.mage_sched.specs.declared.homes.Homes.{Homes}
use Rattle.mage_sched.specs.Reads.{gap_after, page_in, lost_in, is_page}
use Rattle.mage_sched.specs.Homes.{Store, is_free, taken, transfers_of}
use Rattle.mage_sched.specs.Slots.{Buffer}
use Rattle.mage_sched.specs.declared.read.Timed.{Timed}
use Rattle.mage_sched.specs.Schedule.{no_timed}

-- what is known of some entries, the newest first
pub record Knows (past : Past) (before : List Replaced) : Type 0 where
  pub gap : past.gap ≡ gap_after before
  pub memory : (frame : ℕ) → get nat_eq past.memory frame ≡ page_in before frame
  pub lost : (page : ℕ) → unwrap_or (get nat_eq past.lost page) 0 ≡ lost_in before page

-- the buffer that a table of slots stands for
abbrev pub buffer_of : Slots → Buffer
buffer_of slots = record { slots = slots.table.items; writes = slots.writes.items }

-- the gap in which read k is issued
abbrev pub issue_at : List Timed → (k : ℕ) → ℕ
issue_at reads k = (slice_index_or reads k no_timed).issue

-- no read is issued in a gap before that of a read before it
pub record AreOrdered (reads : List Timed) : Type 0 where
  pub order : (j k : ℕ) → j ≤ k → k < length reads → issue_at reads j ≤ issue_at reads k

-- the first n reads are issued before a gap
abbrev pub AreBefore : List Timed → (n gap : ℕ) → Type 0
AreBefore reads n gap = (k : ℕ) → k < n → issue_at reads k < gap

-- from read n on they are issued in a gap or behind it
abbrev pub AreFrom : List Timed → (n gap : ℕ) → Type 0
AreFrom reads n gap = (k : ℕ) → n ≤ k → k < length reads → gap ≤ issue_at reads k

-- how many transfers of a page a map counts
abbrev pub count_in : {S : Type 0} → (counts : HashMap ℕ ℕ S) → (page : ℕ) → ℕ
count_in counts page = unwrap_or (get nat_eq counts page) 0

-- whether a set has a store page
abbrev pub is_in : (homes : BTreeSet ℕ) → (home : ℕ) → Bool
is_in homes home = contains nat_cmp homes home

-- whether what holds the store page of this number passes a test
abbrev pub is_at : (Option ℕ → Bool) → (holders : List (Option ℕ)) → (home : ℕ) → Bool
is_at test [] home = false
is_at test (holder ∷ holders) zero = test holder
is_at test (holder ∷ holders) (suc home) = is_at test holders home

-- whether a page holds a store page
abbrev pub holds_at : (holders : List (Option ℕ)) → (page home : ℕ) → Bool
holds_at holders page home = is_at (λ holder. is_page holder page) holders home

-- the store pages that are free, and how many there are at all
pub record AreFree (homes : Homes) (holders : List (Option ℕ)) : Type 0 where
  pub free : (home : ℕ) → is_in homes.free home ≡ is_at is_free holders home
  pub count : homes.count ≡ length holders

-- a page took a store page of these, which no page held
pub record IsTaken (homes : Homes) (home page : ℕ) (holders : List (Option ℕ)) : Type 0 where
  pub rest : AreFree homes (taken (position is_free holders) page holders)
  pub vacant : (other : ℕ) → holds_at holders other home ≡ false
  pub here : (other : ℕ) → holds_at (taken (position is_free holders) page holders) other home ≡ nat_eq page other
  pub apart : (other at : ℕ) → at ≢ home → holds_at (taken (position is_free holders) page holders) other at ≡ holds_at holders other at

-- what the code keeps of a store before some directives
pub record Keeps (homes : Homes) (store : Store) (later : List Directive) : Type 0 where
  pub pages : AreFree homes store.holders
  pub held : (page home : ℕ) → is_page (get nat_eq homes.held page) home ≡ holds_at store.holders page home
  pub ends : (slot : ℕ) → get nat_eq homes.ends slot ≡ store.ends slot
  pub left : (page : ℕ) → count_in homes.left page ≡ transfers_of later page

-- a store with other holders, and with other ends
abbrev pub holders_after : Store → (holders : List (Option ℕ)) → Store
holders_after store holders = record { holders = holders; ends = store.ends }

abbrev pub ends_after : Store → (ends : ℕ → Option ℕ) → Store
ends_after store ends = record { holders = store.holders; ends = ends }
