use Rattle.std.proofs.Common.{length}
use Rattle.mage_bank.proofs.Banking.{inside, lengths_written}
use Rattle.mage_bank.proofs.Packing.{stored}
use Rattle.mage_bank.proofs.values.store.Goals as goal

pub returns-clause-bank : goal.returns-clause-bank
returns-clause-bank g c =
    let frames = c.args.frames.now in
    stored g.D.Driver.rules frames c.args.spot c.args.wires.now c.from.result c.from-2.result c.index-frames-from.result c.deref_mut.result.now c.pack_each.new.frame
    c.from.ensures c.from-2.ensures (inside g.D.Driver.WIRE_BYTES (length c.args.wires.now) frames c.args.spot c.from.result c.requires.lies c.from.ensures) c.index-frames-from.is
    c.deref_mut.ensures.value c.pack_each.auto.frame c.pack_each.ensures

pub returns-clause-lengths : goal.returns-clause-lengths
returns-clause-lengths g c =
    lengths_written c.args.frames.now c.from.result c.index-frames-from.result c.deref_mut.result.now c.pack_each.new.frame c.index-frames-from.is c.deref_mut.ensures.value c.pack_each.auto.frame
