use Rattle.std.proofs.Common.{length, ◌∙◌}
use Rattle.mage_bank.proofs.Banking.{inside}
use Rattle.mage_bank.proofs.Packing.{loaded}
use Rattle.mage_bank.proofs.values.load.Goals as goal

pub returns : goal.returns
returns g c =
    let n = length c.args.into.now in
    c.unpack_each.ensures ∙ loaded g.D.Driver.rules c.args.frames.now c.args.spot n c.from.result c.from-2.result c.index-frames-from.result c.deref.result.now
    c.from.ensures c.from-2.ensures (inside g.D.Driver.WIRE_BYTES n c.args.frames.now c.args.spot c.from.result c.requires.lies c.from.ensures) c.index-frames-from.is c.deref.ensures.value
