use Rattle.std.proofs.Common.{◌+◌, length, arith}
use Rattle.mage_bank.specs.Bank.{wire_in}
use Rattle.mage_bank.proofs.Packing.{read_turn, read_end}
use Rattle.mage_bank.proofs.wires.unpack_each.Goals as goal

pub loop-i-preserved : goal.loop-i-preserved
loop-i-preserved g c =
    let l = c.loop-i in
    read_turn (λ k. wire_in g.D.Driver.rules c.args.frame.now (c.args.place + k)) l.into l.i c.unpack_at.result l.invariant c.unpack_at.ensures (omega arith)

pub returns : goal.returns
returns g c =
    let l = c.loop-i in
    read_end (λ k. wire_in g.D.Driver.rules c.args.frame.now (c.args.place + k)) l.into l.i (length c.args.into.now) l.invariant (omega arith) (omega arith) (omega arith)
