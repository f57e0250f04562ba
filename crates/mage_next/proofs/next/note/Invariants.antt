-- The map has step t for the pages so far, and what it had for the others.
use Rattle.std.proofs.Common.{◌≡◌, ℕ, nat_eq, unwrap_or, take, if◌then◌else◌}
use Rattle.std.specs.List.{list_any}
use Rattle.std.specs.HashMap.{get}
use Rattle.mage_instr.specs.declared.instr.TheConstants.{NEVER}
use Rattle.mage_next.proofs.next.note.Given as goal

abbrev pub invariant-loop-k : goal.invariant-loop-k
invariant-loop-k l =
    (q : ℕ) → unwrap_or (get nat_eq l.seen q) NEVER ≡ (if list_any (nat_eq q) (take l.k l.step.pages) then l.t else unwrap_or (get nat_eq l.initial.seen q) NEVER)
