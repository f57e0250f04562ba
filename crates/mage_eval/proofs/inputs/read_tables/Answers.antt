use Rattle.std.proofs.Common.{ap, ◌∙◌}
use Rattle.mage_eval.specs.Reading.{Incoming, after_bytes}
use Rattle.mage_eval.proofs.Bytes.{tables_after}
use Rattle.mage_eval.proofs.inputs.read_tables.Goals as goal

pub returns-clause-left : goal.returns-clause-left
returns-clause-left g c =
    c.read_label-evaluator.ensures.left ∙ ap (λ (s : Incoming). after_bytes s 16) c.read_label-generator.ensures.left ∙ tables_after c.args.stream.now
