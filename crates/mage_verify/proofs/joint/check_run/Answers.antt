use Rattle.std.proofs.Common.{length, ap, ◌∙◌, Option, option_map}
use Rattle.std.specs.Option.{option_or}
use Rattle.mage_verify.specs.declared.fault.VerifyFault.TheVariants as wrong
use Rattle.mage_verify.specs.declared.turn.Place.{Place}
use Rattle.mage_verify.specs.Turns.{done_in}
use Rattle.mage_verify.proofs.Together.{zeros, joint_is}
use Rattle.mage_verify.proofs.joint.check_run.Goals as goal

pub returns-in-Some-clause-fault : goal.returns-in-Some-clause-fault
returns-in-Some-clause-fault c =
    joint_is c.args.workers.now c.count_all.result (done_in c.args.done.now) (done_in c.run-differing.new.done) c.waiting.result c.run-differing.result
    (zeros c.args.done.now (length c.args.workers.now) c.requires.none) c.count_all.ensures c.run-differing.ensures.done c.run-differing.ensures.differing c.waiting.ensures
    ∙ ap (λ (o : Option Place). option_or (option_map (λ p. wrong.Links p.worker p.directive) o) (option_map (λ p. wrong.Width p.worker p.directive) c.run-differing.result)) c.in-Some.is
