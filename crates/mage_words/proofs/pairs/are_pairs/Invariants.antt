-- The rest is of pairs where all the words are.
use Rattle.std.proofs.Common.{◌≡◌, length, is_some}
use Rattle.mage_words.specs.Words.{bytes_of_words, pairs_of}
use Rattle.mage_words.proofs.pairs.are_pairs.Given as goal

abbrev pub invariant-loop-others : goal.invariant-loop-others
invariant-loop-others l = is_some (pairs_of (bytes_of_words l.rest)) ≡ is_some (pairs_of (bytes_of_words l.words))

abbrev pub decreases-loop-others : goal.decreases-loop-others
decreases-loop-others l = length l.rest
