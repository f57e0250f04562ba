use Rattle.std.proofs.Common.{◌+◌, ap₂}
use Rattle.mage_bank.proofs.Banking.{inside}
use Rattle.mage_bank.proofs.Packing.{sent_one}
use Rattle.mage_bank.proofs.links.send.Goals as goal

pub returns : goal.returns
returns g c =
    let frames = c.args.frames.now in
    let place = c.from.result + c.from-2.result in
    sent_one g.D.Driver.rules frames c.args.spot c.args.wire c.from-3.result place c.index-frames-from.result c.deref.result.now c.link_bytes.result c.unpack_at.result
    c.from-3.ensures (ap₂ (λ a b. a + b) c.from.ensures c.from-2.ensures)
    (inside g.D.Driver.WIRE_BYTES (c.args.wire + 1) frames c.args.spot c.from-3.result c.requires.lies c.from-3.ensures) c.index-frames-from.is c.deref.ensures.value
    c.link_bytes.ensures c.unpack_at.ensures
