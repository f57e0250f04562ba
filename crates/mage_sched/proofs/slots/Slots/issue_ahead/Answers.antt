use Rattle.std.proofs.Common.{refl, arith}
use Rattle.mage_sched.specs.Views.{buffer_of}
use Rattle.mage_sched.proofs.Ahead.{ahead_from-first, ahead_from-stop}
use Rattle.mage_sched.proofs.Walks.{at_end}
use Rattle.mage_sched.proofs.slots.Slots.issue_ahead.Goals as goal

pub loop-k-init : goal.loop-k-init
loop-k-init c =
    let e = ahead_from-first c.args.reads.now c.args.gap c.args.next c.requires.before in
    record { count = refl; list = rw e refl; buffer = rw e refl; from = omega arith; before = λ k below. omega (arith, c.requires.before k below) }

pub returns-then-read-gap-clause-list : goal.returns-then-read-gap-clause-list
returns-then-read-gap-clause-list c =
    let e = ahead_from-stop c.args.reads.now c.args.gap c.loop-k.k c.requires.ordered c.loop-k-test.true c.if-read-gap.true in
    at_end (buffer_of c.loop-k.self) c.loop-k.self.list.items _ (rw e at c.loop-k.invariant.list)

pub returns-then-read-gap-clause-buffer : goal.returns-then-read-gap-clause-buffer
returns-then-read-gap-clause-buffer c =
    let e = ahead_from-stop c.args.reads.now c.args.gap c.loop-k.k c.requires.ordered c.loop-k-test.true c.if-read-gap.true in
    rw e at c.loop-k.invariant.buffer
