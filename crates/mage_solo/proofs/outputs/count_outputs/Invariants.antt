use Rattle.std.proofs.Common.{◌≡◌, ◌≤◌, ◌+◌, drop}
use Rattle.mage_solo.specs.Plain.{outputs_done}
use Rattle.mage_solo.proofs.outputs.count_outputs.Given as goal

abbrev pub invariant-loop-directive : goal.invariant-loop-directive
invariant-loop-directive l = record {
  counted : l.count + outputs_done (drop l.directive-index l.directives) ≡ outputs_done l.directives;
  few : l.count ≤ l.directive-index;
}
