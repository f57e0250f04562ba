-- The pages so far have their next uses, and the others NEVER.
use Rattle.std.proofs.Common.{◌≡◌, ◌≤◌, ◌<◌, ℕ, nat_eq, unwrap_or, length, slice_index}
use Rattle.std.specs.HashMap.{get}
use Rattle.mage_instr.specs.declared.instr.TheConstants.{NEVER}
use Rattle.mage_next.proofs.next.uses_at.Given as goal

abbrev pub invariant-loop-k : goal.invariant-loop-k
invariant-loop-k l = record {
  four : length l.uses ≡ 4;
  next : (j : ℕ) → j < l.k → slice_index l.uses j ≡ unwrap_or (get nat_eq l.seen (slice_index l.step.pages j)) NEVER;
  past : (j : ℕ) → l.k ≤ j → j < 4 → slice_index l.uses j ≡ NEVER;
}
