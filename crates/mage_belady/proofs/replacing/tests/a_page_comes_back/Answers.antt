use Rattle.std.proofs.Common.{lit≤, refl}
use Rattle.mage_next.proofs.TraceLiterals.{IsTrace-from_test}
use Rattle.mage_belady.proofs.FitsLiterals.{FitsTrace-from_test}
use Rattle.mage_belady.proofs.replacing.tests.a_page_comes_back.Goals as goal

pub replaced-requires-clause-trace : goal.replaced-requires-clause-trace
replaced-requires-clause-trace g c = IsTrace-from_test _ (lit≤ tt) refl

pub replaced-requires-clause-places : goal.replaced-requires-clause-places
replaced-requires-clause-places g c = FitsTrace-from_test _ _ _ refl

pub replaced-requires-2-clause-trace : goal.replaced-requires-2-clause-trace
replaced-requires-2-clause-trace g c = IsTrace-from_test _ (lit≤ tt) refl

pub replaced-requires-2-clause-places : goal.replaced-requires-2-clause-places
replaced-requires-2-clause-places g c = FitsTrace-from_test _ _ _ refl
