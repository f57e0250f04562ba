use Rattle.std.proofs.Common.{lit≤, refl}
use Rattle.mage_next.proofs.TraceLiterals.{IsTrace-from_test}
use Rattle.mage_belady.proofs.costs.tests.three_pages_in_two_frames.Goals as goal

pub cost-requires : goal.cost-requires
cost-requires g c = IsTrace-from_test _ (lit≤ tt) refl

pub cost-requires-2 : goal.cost-requires-2
cost-requires-2 g c = IsTrace-from_test _ (lit≤ tt) refl

pub cost-requires-3 : goal.cost-requires-3
cost-requires-3 g c = IsTrace-from_test _ (lit≤ tt) refl

pub cost-requires-4 : goal.cost-requires-4
cost-requires-4 g c = IsTrace-from_test _ (lit≤ tt) refl

pub cost-requires-5 : goal.cost-requires-5
cost-requires-5 g c = IsTrace-from_test _ (lit≤ tt) refl
