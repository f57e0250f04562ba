use Rattle.std.proofs.Common.{◌≡◌, ◌≤◌, ◌-◌, ◌*◌, ◌++◌, length, take}
use Rattle.mage_streams.specs.Evaluating.{next_labels}
use Rattle.mage_eval.specs.Reading.{after_labels}
use Rattle.mage_eval.proofs.inputs.read_labels.Given as goal

abbrev pub invariant-loop-i : goal.invariant-loop-i
invariant-loop-i g l = record {
  here : 16 * (l.i-end - l.i) ≤ l.stream.ready;
  enough : 16 * (l.i-end - l.i) ≤ length l.stream.left;
  labels : take l.i l.into ++ next_labels (l.i-end - l.i) l.stream.left ≡ next_labels l.i-end l.initial.stream.left;
  after : after_labels l.stream (l.i-end - l.i) ≡ after_labels l.initial.stream l.i-end;
}
