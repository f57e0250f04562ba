use Rattle.std.proofs.Common.{◌≡◌, ◌≤◌, ◌+◌, ◌*◌, length, sym, ap, arith}
use Rattle.std.proofs.lemmas.Nat.{mul-le}
use Rattle.mage_steps.proofs.Written.{piece_none}
use Rattle.mage_bank.proofs.Packing.{long_turn, pack_turn, pack_end}
use Rattle.mage_bank.proofs.wires.pack_each.Goals as goal

pub loop-i-init : goal.loop-i-init
loop-i-init g c = record {
  long = omega arith;
  bytes = sym (piece_none c.args.frame.now (c.args.place * g.D.Driver.rules.wire_bytes));
}

pub loop-i-preserved : goal.loop-i-preserved
loop-i-preserved g c =
    let l = c.loop-i in
    let rules = g.D.Driver.rules in
    let wires = c.args.wires.now in
    let m : c.args.place * g.D.Driver.WIRE_BYTES ≤ (c.args.place + length wires) * g.D.Driver.WIRE_BYTES = mul-le c.args.place g.D.Driver.WIRE_BYTES (c.args.place + length wires) g.D.Driver.WIRE_BYTES (omega arith) (omega arith) in
    let size : c.args.place * g.D.Driver.rules.wire_bytes ≡ c.args.place * g.D.Driver.WIRE_BYTES = ap (λ n. c.args.place * n) g.met.D.Driver.bytes in
    record {
      long = long_turn rules wires l.i c.index-wires-i.result (omega arith) c.index-wires-i.is l.invariant.long c.pack_at.ensures.packed;
      bytes = pack_turn rules c.args.frame.now l.frame c.pack_at.new.frame c.args.place wires l.i c.index-wires-i.result l.invariant.long l.invariant.bytes (omega arith) (omega arith) c.index-wires-i.is c.pack_at.ensures.bytes;
    }

pub returns : goal.returns
returns g c =
    let l = c.loop-i in
    pack_end g.D.Driver.rules c.args.frame.now l.frame c.args.place c.args.wires.now l.i l.invariant.bytes (omega arith)
