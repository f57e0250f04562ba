-- So far each value has its last use among the instructions before t.
use Rattle.std.proofs.Common.{◌≡◌, ◌<◌, ℕ, length, slice_index}
use Rattle.mage_place.specs.Live.{IsLastUse}
use Rattle.mage_place.proofs.last.last_uses.Given as goal

abbrev pub invariant-loop-t : goal.invariant-loop-t
invariant-loop-t l = record {
  count : length l.last.items ≡ l.t;
  last : (v : ℕ) → v < l.t → IsLastUse l.instrs l.t v (slice_index l.last.items v);
}
