-- What a page keeps of its places. The places from `next` on were never taken, and those in `freed` are free again.
use Rattle.std.specs.Prelude.{◌≡◌, ◌≤◌, ◌<◌, ◌/◌, ◌&&◌, ◌||◌, ℕ, Bool, true, not, nat_lt}
use Rattle.std.specs.Ordering.{nat_cmp}
use Rattle.std.specs.BTreeSet.{contains, btree_set_len, IsOrdered}
use Rattle.mage_instr.specs.Opcodes.{greatest_width}
use Rattle.mage_place.specs.declared.page.Page.{Page}

-- whether place k is taken
abbrev pub is_taken_on : Page → ℕ → Bool
is_taken_on p k = nat_lt k p.next && not (contains nat_cmp p.freed k)

-- whether some place is taken
abbrev pub is_used : Page → Bool
is_used p = nat_lt (btree_set_len p.freed) p.next

-- whether some place is free, of a page of so many wires
abbrev pub has_room : (wires : ℕ) → Page → Bool
has_room wires p = nat_lt 0 (btree_set_len p.freed) || nat_lt p.next (wires / p.class)

-- a page of so many wires that is kept right
pub record IsPage (wires : ℕ) (p : Page) : Type 0 where
  pub class_above : 1 ≤ p.class
  pub class_below : p.class ≤ greatest_width
  pub within : p.next ≤ wires / p.class
  pub freed : (k : ℕ) → contains nat_cmp p.freed k ≡ true → k < p.next
  pub ordered : IsOrdered nat_cmp p.freed
