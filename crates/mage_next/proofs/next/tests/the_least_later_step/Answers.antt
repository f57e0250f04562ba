use Rattle.std.proofs.Common.{lit≤, refl}
use Rattle.mage_next.proofs.TraceLiterals.{IsTrace-from_test}
use Rattle.mage_next.proofs.next.tests.the_least_later_step.Goals as goal

pub next_uses-requires : goal.next_uses-requires
next_uses-requires g c = IsTrace-from_test _ (lit≤ tt) refl
