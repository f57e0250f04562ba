use Rattle.std.proofs.Common.{lit≤, refl}
use Rattle.mage_instr.proofs.SoundLiterals.{IsSound-from_test}
use Rattle.mage_place.proofs.placing.tests.a_value_never_used.Goals as goal

pub place-requires-clause-sound : goal.place-requires-clause-sound
place-requires-clause-sound g c = IsSound-from_test _ (lit≤ tt) refl

pub place-requires-clause-page : goal.place-requires-clause-page
place-requires-clause-page g c = (6, lit≤ tt, lit≤ tt, refl)

pub place-requires-clause-fits : goal.place-requires-clause-fits
place-requires-clause-fits g c = refl
