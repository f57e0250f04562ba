use Rattle.std.proofs.Common.{length, sym, ◌∙◌}
use Rattle.mage_verify.specs.Joint.{lists_at}
use Rattle.mage_verify.specs.Turns.{done_in}
use Rattle.mage_verify.proofs.Together.{run_begins, run_goes_on, run_stops, run_ends}
use Rattle.mage_verify.proofs.joint.run.Goals as goal

pub loop-init : goal.loop-init
loop-init c = record {
  counted = c.requires.counted;
  run = run_begins (lists_at c.args.workers.now) (length c.args.workers.now) c.args.turns (done_in c.args.done.now);
}

pub loop-preserved : goal.loop-preserved
loop-preserved c = record {
  counted = c.take_turn.ensures.counted;
  run = rw (c.lower-lowest.ensures, c.differing_at.ensures)
      (run_goes_on (lists_at c.args.workers.now) (length c.args.workers.now) c.args.turns c.loop.counter (done_in c.args.done.now) (done_in c.loop.done) c.loop.lowest
      c.loop.invariant.run c.in-Some.turn (done_in c.take_turn.new.done) c.loop-test.true (sym c.first_turn.ensures.first ∙ c.in-Some.is) c.take_turn.ensures.done);
}

pub returns-in-None-clause-done : goal.returns-in-None-clause-done
returns-in-None-clause-done c =
    (run_stops (lists_at c.args.workers.now) (length c.args.workers.now) c.args.turns c.loop.counter (done_in c.args.done.now) (done_in c.loop.done) c.loop.lowest
    c.loop.invariant.run c.loop-test.true (sym c.first_turn.ensures.first ∙ c.in-None.is)).leads

pub returns-in-None-clause-differing : goal.returns-in-None-clause-differing
returns-in-None-clause-differing c =
    (run_stops (lists_at c.args.workers.now) (length c.args.workers.now) c.args.turns c.loop.counter (done_in c.args.done.now) (done_in c.loop.done) c.loop.lowest
    c.loop.invariant.run c.loop-test.true (sym c.first_turn.ensures.first ∙ c.in-None.is)).differs

pub returns-clause-done : goal.returns-clause-done
returns-clause-done c =
    (run_ends (lists_at c.args.workers.now) (length c.args.workers.now) c.args.turns c.loop.counter (done_in c.args.done.now) (done_in c.loop.done) c.loop.lowest
    c.loop.invariant.run c.loop-test.false).leads

pub returns-clause-differing : goal.returns-clause-differing
returns-clause-differing c =
    (run_ends (lists_at c.args.workers.now) (length c.args.workers.now) c.args.turns c.loop.counter (done_in c.args.done.now) (done_in c.loop.done) c.loop.lowest
    c.loop.invariant.run c.loop-test.false).differs
