use Rattle.std.proofs.Common.{◌≡◌, ◌<◌, ◌-◌, ◌^◌, ◌++◌, take}
use Rattle.mage_streams.specs.Garbling.{zero_labels}
use Rattle.mage_garble.proofs.inputs.label_inputs.Given as goal

abbrev pub invariant-loop-i : goal.invariant-loop-i
invariant-loop-i l = (l.wire < 2 ^ 63)
    × (take l.i l.into ++ zero_labels l.seed l.worker l.wire (l.i-end - l.i) ≡ zero_labels l.seed l.worker l.first l.i-end)
