-- The steps from t on have their next uses, and the map has the first use from t on of each page.
use Rattle.std.proofs.Common.{◌≡◌, ◌+◌, ◌≤◌, ◌<◌, ℕ, nat_eq, unwrap_or, vec_len, length, drop, slice_index, get_or, []}
use Rattle.std.specs.HashMap.{get}
use Rattle.mage_instr.specs.declared.instr.TheConstants.{NEVER}
use Rattle.mage_instr.specs.declared.instr.Step.{Step}
use Rattle.mage_next.specs.Next.{first_use, use_of}
use Rattle.mage_next.proofs.next.next_uses.Given as goal

abbrev pub invariant-loop-t : goal.invariant-loop-t
invariant-loop-t l = record {
  seen : (q : ℕ) → unwrap_or (get nat_eq l.seen q) NEVER ≡ first_use (drop l.t l.trace) l.t q;
  count : vec_len l.uses ≡ length l.trace;
  done : (s k : ℕ) (d : Step) → l.t ≤ s → s < length l.trace → k < 4 → slice_index (get_or l.uses.items s []) k ≡ use_of (get_or l.trace s d) (first_use (drop (s + 1) l.trace) (s + 1)) k;
}
