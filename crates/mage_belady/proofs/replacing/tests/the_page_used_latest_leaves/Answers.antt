use Rattle.std.proofs.Common.{lit≤, refl}
use Rattle.mage_next.proofs.TraceLiterals.{IsTrace-from_test}
use Rattle.mage_belady.proofs.FitsLiterals.{FitsTrace-from_test}
use Rattle.mage_belady.proofs.replacing.tests.the_page_used_latest_leaves.Goals as goal

pub counted-requires-clause-trace : goal.counted-requires-clause-trace
counted-requires-clause-trace g c = IsTrace-from_test _ (lit≤ tt) refl

pub counted-requires-clause-places : goal.counted-requires-clause-places
counted-requires-clause-places g c = FitsTrace-from_test _ _ _ refl

pub replaced-requires-clause-trace : goal.replaced-requires-clause-trace
replaced-requires-clause-trace g c = IsTrace-from_test _ (lit≤ tt) refl

pub replaced-requires-clause-places : goal.replaced-requires-clause-places
replaced-requires-clause-places g c = FitsTrace-from_test _ _ _ refl
