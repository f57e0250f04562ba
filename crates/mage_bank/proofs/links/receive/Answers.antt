use Rattle.std.proofs.Common.{◌≡◌, ◌+◌, ◌*◌, ◌∷◌, [], take, ap, ap₂, ◌∙◌}
use Rattle.mage_steps.specs.Frames.{spot_of_wire, received_form}
use Rattle.mage_bank.proofs.Banking.{inside, lengths_written}
use Rattle.mage_bank.proofs.Packing.{stored, wrote_one}
use Rattle.mage_bank.proofs.links.receive.Goals as goal

pub returns-clause-bank : goal.returns-clause-bank
returns-clause-bank g c =
    let rules = g.D.Driver.rules in
    let frames = c.args.frames.now in
    let was = c.deref_mut.result.now in
    let place = c.from.result + c.from-2.result in
    let size : c.WIRE_BYTES.result ≡ g.D.Driver.rules.wire_bytes = cc (c.WIRE_BYTES.ensures, g.met.D.Driver.bytes) in
    let wire = received_form rules c.args.bytes.now in
    let came : c.unpack-came.result ≡ received_form g.D.Driver.rules c.args.bytes.now = c.unpack-came.ensures ∙ ap (λ n. rules.unpack (take n c.args.bytes.now)) size in
    stored rules frames (spot_of_wire c.args.spot c.args.wire) (wire ∷ []) c.from-3.result place c.index-frames-from.result was c.pack_at.new.frame
    c.from-3.ensures (ap₂ (λ a b. a + b) c.from.ensures c.from-2.ensures)
    (inside g.D.Driver.WIRE_BYTES (c.args.wire + 1) frames c.args.spot c.from-3.result c.requires.lies c.from-3.ensures) c.index-frames-from.is
    c.deref_mut.ensures.value c.pack_at.auto.frame
    (wrote_one rules was c.pack_at.new.frame (place * rules.wire_bytes) c.unpack-came.result wire came c.pack_at.ensures.bytes)

pub returns-clause-lengths : goal.returns-clause-lengths
returns-clause-lengths g c =
    lengths_written c.args.frames.now c.from-3.result c.index-frames-from.result c.deref_mut.result.now c.pack_at.new.frame c.index-frames-from.is c.deref_mut.ensures.value c.pack_at.auto.frame
