use Rattle.std.proofs.Common.{lit≤, refl}
use Rattle.mage_instr.proofs.SoundLiterals.{IsSound-from_test}
use Rattle.mage_place.proofs.placing.tests.a_value_wider_than_a_page.Goals as goal

pub page_tight-requires : goal.page_tight-requires
page_tight-requires g c = IsSound-from_test _ (lit≤ tt) refl

pub page_tight-requires-2 : goal.page_tight-requires-2
page_tight-requires-2 g c = IsSound-from_test _ (lit≤ tt) refl
