use Rattle.mage_place.proofs.SoundFacts.{no_instr}
use Rattle.mage_pipe.proofs.Joining.{argument_more, arguments_end}
use Rattle.mage_pipe.proofs.making.read_all.Goals as goal

pub loop-k-preserved : goal.loop-k-preserved
loop-k-preserved c = argument_more c.args.instrs.now c.loop-k.k no_instr c.loop-k-test.true c.read.ensures c.loop-k.invariant

pub returns : goal.returns
returns c = arguments_end c.args.instrs.now c.loop-k.k c.loop-k-test.false c.loop-k.invariant
