use Rattle.std.proofs.Common.{sym}
use Rattle.mage_unroll.specs.Unroller.{state_of}
use Rattle.mage_unroll.proofs.Assigning.{assigned-there, assigned-absent}
use Rattle.mage_unroll.proofs.unroller.Unroller.assign.Goals as goal

pub returns-in-Some : goal.returns-in-Some
unfolding state_of
returns-in-Some c =
    assigned-there (state_of c.args.self.now) c.args.name.now _ c.args.position c.args.index c.in-Some.old _ c.rebound.result _ _ c.bytes_of-name.ensures (sym c.in-Some.ensures.was) c.replace.ensures.now c.rebound.ensures c.replace-in-Some.ensures.now

pub returns-in_default : goal.returns-in_default
unfolding state_of
returns-in_default c =
    assigned-absent (state_of c.args.self.now) c.args.name.now _ c.args.position c.args.index _ _ c.bytes_of-name.ensures (sym c.in_default.ensures.was) c.replace.ensures.now
