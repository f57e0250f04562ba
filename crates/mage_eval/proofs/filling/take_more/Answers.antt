use Rattle.std.proofs.Common.{◌≡◌, ◌+◌, take, length, length-take, arith}
use Rattle.mage_eval.proofs.Bytes.{taken}
use Rattle.mage_eval.proofs.filling.take_more.Goals as goal

pub returns-clause-same : goal.returns-clause-same
returns-clause-same g c = λ told.
    let size : c.args.ready + c.in_ok-count.count ≡ length (take c.args.ready c.args.buffer.now) + c.in_ok-count.count = omega (arith, length-take c.args.ready c.args.buffer.now, c.requires.room) in
    taken _ _ (take c.args.ready c.args.buffer.now) c.take.new.into _ _ c.in_ok-count.count told size c.in_ok-count.ensures.within c.in_ok-count.ensures.takes
