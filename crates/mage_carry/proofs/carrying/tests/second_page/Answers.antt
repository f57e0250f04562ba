use Rattle.std.proofs.Common.{lit≤, refl}
use Rattle.mage_instr.proofs.SoundLiterals.{IsSound-from_test}
use Rattle.mage_carry.proofs.carrying.tests.second_page.Goals as goal

pub answers-requires-clause-sound : goal.answers-requires-clause-sound
answers-requires-clause-sound c = rw (c.instr.ensures, c.instr-2.ensures, c.instr-3.ensures, c.instr-4.ensures, c.instr-5.ensures) (IsSound-from_test _ (lit≤ tt) refl)
