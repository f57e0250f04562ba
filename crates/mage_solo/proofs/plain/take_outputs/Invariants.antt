use Rattle.std.proofs.Common.{◌≡◌, ◌≤◌, ◌+◌, ◌++◌, length}
use Rattle.std.specs.Prelude.{reverse}
use Rattle.std.specs.Vec.{vec_capacity}
use Rattle.mage_solo.specs.Plain.{lists_of, outputs_kept}
use Rattle.mage_solo.proofs.plain.take_outputs.Given as goal

abbrev pub invariant-loop-driver : goal.invariant-loop-driver
invariant-loop-driver l = record {
  kept : lists_of l.outputs.items ++ outputs_kept (reverse l.drivers.items) ≡ outputs_kept (reverse l.initial.drivers.items);
  room : length l.drivers.items + length l.outputs.items ≤ vec_capacity l.outputs;
}

abbrev pub decreases-loop-driver : goal.decreases-loop-driver
decreases-loop-driver l = length l.drivers.items
