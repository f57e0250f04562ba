use Rattle.std.proofs.Common.{◌≡◌, ◌≤◌, ◌-◌, ◌++◌, drop, length, take}
use Rattle.mage_streams.specs.Evaluating.{first_labels}
use Rattle.mage_eval.proofs.inputs.first_labels.Given as goal

abbrev pub invariant-loop-i : goal.invariant-loop-i
invariant-loop-i l = record {
  within : l.next ≤ length l.labels;
  labels : take l.i l.into ++ first_labels (l.i-end - l.i) (drop l.next l.labels) ≡ first_labels l.i-end (drop l.place l.labels);
  place : drop (l.i-end - l.i) (drop l.next l.labels) ≡ drop l.i-end (drop l.place l.labels);
}
