use Rattle.std.proofs.Common.{◌≡◌, length, ◌∙◌, arith}
use Rattle.std.proofs.lemmas.List.{length-map}
use Rattle.std.proofs.lemmas.Result.{err_from_is_err_and}
use Rattle.mage_engine.specs.Seen.{seen}
use Rattle.mage_core.specs.Ports.{port_tells}
use Rattle.mage_core.specs.Turns.{sights}
use Rattle.mage_core.proofs.Turned.{asked_more, asked_moves, asked_falls, asked_all, still_connect}
use Rattle.mage_core.proofs.turns.turn.Goals as goal

pub step-requires-clause-connect : goal.step-requires-clause-connect
step-requires-clause-connect g c κs within =
    still_connect g.D.Driver.rules (sights g.D.Driver.tells g.S.Store.tells c.args.machines.now.items) (sights g.D.Driver.tells g.S.Store.tells c.loop-worker.machines.items)
    c.args.link.now c.loop-worker.link c.loop-worker.worker c.loop-worker.invariant.asked c.requires.connect

pub returns-in_err-step-clause-turns : goal.returns-in_err-step-clause-turns
returns-in_err-step-clause-turns g c =
    let p = err_from_is_err_and c.from_residual.result c.from_residual.ensures.1 in
    rw (p.1, p.2) (asked_falls g.D.Driver.rules (sights g.D.Driver.tells g.S.Store.tells c.args.machines.now.items)
    (sights g.D.Driver.tells g.S.Store.tells c.loop-worker.machines.items) (sights g.D.Driver.tells g.S.Store.tells c.step.new.machines.items)
    c.args.link.now c.loop-worker.link c.step.new.link c.loop-worker.worker c.in_err-step.field-0.0 c.loop-worker.invariant.asked c.in_err-step.ensures.steps)

pub returns-then-branch-clause-turns : goal.returns-then-branch-clause-turns
returns-then-branch-clause-turns g c =
    asked_moves g.D.Driver.rules (sights g.D.Driver.tells g.S.Store.tells c.args.machines.now.items)
    (sights g.D.Driver.tells g.S.Store.tells c.loop-worker.machines.items) (sights g.D.Driver.tells g.S.Store.tells c.step.new.machines.items)
    c.args.link.now c.loop-worker.link c.step.new.link c.loop-worker.worker c.loop-worker.invariant.asked (rw c.if-branch.true at c.in_ok-step.ensures.steps)

pub loop-worker-preserved : goal.loop-worker-preserved
loop-worker-preserved g c = record {
  asked = asked_more g.D.Driver.rules (sights g.D.Driver.tells g.S.Store.tells c.args.machines.now.items)
      (sights g.D.Driver.tells g.S.Store.tells c.loop-worker.machines.items) (sights g.D.Driver.tells g.S.Store.tells c.step.new.machines.items)
      c.args.link.now c.loop-worker.link c.step.new.link c.loop-worker.worker c.loop-worker.invariant.asked (rw c.if-branch.false at c.in_ok-step.ensures.steps);
  count = c.in_ok-step.ensures.count ∙ c.loop-worker.invariant.count;
}

pub returns-clause-turns : goal.returns-clause-turns
returns-clause-turns g c =
    let long : length (sights g.D.Driver.tells g.S.Store.tells c.args.machines.now.items) ≡ length c.args.machines.now.items =
    length-map c.args.machines.now.items (λ machine. seen g.D.Driver.tells (port_tells g.S.Store.tells) machine) in
    let end = c.len-worker-end.ensures in
    let items = c.args.machines.now.ok.0 in
    let past = c.loop-worker-test.false in
    asked_all g.D.Driver.rules (sights g.D.Driver.tells g.S.Store.tells c.args.machines.now.items) (sights g.D.Driver.tells g.S.Store.tells c.loop-worker.machines.items)
    c.args.link.now c.loop-worker.link c.loop-worker.worker c.loop-worker.invariant.asked (omega (arith, long, end, items, past))
