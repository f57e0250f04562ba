use Rattle.std.proofs.Common.{arith}
use Rattle.mage_carry.specs.Views.{content_of}
use Rattle.mage_carry.proofs.Freeing.{freed_none, freed_more, freed_all}
use Rattle.mage_carry.proofs.held.Held.free.Goals as goal

pub loop-offset-init : goal.loop-offset-init
loop-offset-init c = freed_none c.args.instrs.now c.args.other c.args.count (content_of c.args.self.now) _ c.requires (omega arith)

pub loop-offset-preserved : goal.loop-offset-preserved
loop-offset-preserved c = freed_more c.args.instrs.now c.args.other c.args.count (content_of c.args.self.now) (content_of c.loop-offset.self) (content_of c.free_at.new.self) c.loop-offset.offset c.loop-offset.invariant c.free_at.ensures

pub returns : goal.returns
returns c = freed_all c.args.instrs.now c.args.other c.args.count (content_of c.args.self.now) (content_of c.loop-offset.self) c.loop-offset.offset (omega arith) c.loop-offset.invariant
