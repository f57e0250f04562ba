-- The place has come as far as the bytes that were read.
use Rattle.std.proofs.Common.{◌≡◌, ◌+◌}
use Rattle.mage_lex.specs.Places.{place_at}
use Rattle.mage_lex.proofs.place.moved.Given as goal

abbrev pub invariant-loop-byte : goal.invariant-loop-byte
invariant-loop-byte l = l.place ≡ place_at l.text (l.fn.from.start + l.byte-index)
