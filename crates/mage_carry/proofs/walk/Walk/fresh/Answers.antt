use Rattle.std.proofs.Common.{arith}
use Rattle.mage_carry.specs.Views.{pages_in, state_of}
use Rattle.mage_carry.proofs.Tables.{fresh_goes}
use Rattle.mage_carry.proofs.walk.Walk.fresh.Goals as goal

pub returns : goal.returns
unfolding state_of
returns c =
    let s = c.args.self.now in
    fresh_goes s.frames.items s.slots.items (pages_in s) s.next c.args.frame c.from-2.result c.none.result c.from-2.ensures (omega (arith, s.frames.ok.0, c.from.ensures, c.len.ensures, c.if-from-len.false)) c.none.ensures
