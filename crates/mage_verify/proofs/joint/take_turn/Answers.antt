use Rattle.std.proofs.Common.{ap, sym, subst, ◌∙◌}
use Rattle.mage_verify.specs.declared.turn.Turn.{Turn}
use Rattle.mage_verify.specs.Joint.{with_one, after_turn}
use Rattle.mage_verify.specs.Turns.{done_in, CanTurn}
use Rattle.mage_verify.proofs.Together.{hands_few}
use Rattle.mage_verify.proofs.joint.take_turn.Goals as goal

pub advance-requires-in-Hands-2-clause-few : goal.advance-requires-in-Hands-2-clause-few
advance-requires-in-Hands-2-clause-few c =
    hands_few c.args.workers.now (done_in c.args.done.now) (done_in c.advance-in-Hands.new.done) c.in-Hands.source c.in-Hands.target c.requires.parts
    (subst (CanTurn c.args.workers.now (done_in c.args.done.now)) c.in-Hands.is c.requires.goes) c.advance-in-Hands.ensures.done

pub returns-in-Hands-clause-done : goal.returns-in-Hands-clause-done
returns-in-Hands-clause-done c =
    c.advance-in-Hands-2.ensures.done ∙ ap (with_one c.in-Hands.target) c.advance-in-Hands.ensures.done
    ∙ sym (ap (λ (t : Turn). after_turn t (done_in c.args.done.now)) c.in-Hands.is)
