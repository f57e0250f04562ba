use Rattle.std.proofs.Common.{◌≡◌, [], drop, refl}
use Rattle.std.proofs.Math.ListN.{drop_of_length-le}
use Rattle.mage_label.specs.Labels.{blank}
use Rattle.mage_eval.proofs.Bytes.{drop_next}
use Rattle.mage_eval.proofs.inputs.label_at.Goals as goal

pub returns-then-place-labels-clause-place : goal.returns-then-place-labels-clause-place
returns-then-place-labels-clause-place c = λ count. drop_next c.args.place count c.args.labels.now

pub returns-else-place-labels-clause-label : goal.returns-else-place-labels-clause-label
unfolding blank
returns-else-place-labels-clause-label c = λ count.
    let none : drop c.args.place c.args.labels.now ≡ [] = drop_of_length-le c.args.labels.now c.if-place-labels.false in
    rw none refl
