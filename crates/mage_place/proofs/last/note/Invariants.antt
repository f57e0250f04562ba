-- The arguments so far are used at t, and the others as before.
use Rattle.std.proofs.Common.{◌≡◌, ℕ, nat_eq, take, slice_index, if◌then◌else◌}
use Rattle.std.specs.List.{list_any}
use Rattle.mage_place.proofs.last.note.Given as goal

abbrev pub invariant-loop-k : goal.invariant-loop-k
invariant-loop-k l = (v : ℕ) → slice_index l.last v ≡ (if list_any (nat_eq v) (take l.k l.instr.args) then l.t else slice_index l.initial.last v)
