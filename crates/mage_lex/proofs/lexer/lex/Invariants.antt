-- The tokens so far in front of those of the rest are those of the text.
use Rattle.std.proofs.Common.{◌≡◌, ◌-◌, ◌≤◌, length}
use Rattle.mage_lex.specs.Places.{place_at}
use Rattle.mage_lex.specs.Tokens.{in_front, tokens_from}
use Rattle.mage_lex.proofs.lexer.lex.Given as goal

abbrev pub invariant-loop-place : goal.invariant-loop-place
invariant-loop-place l = record {
  place : l.place ≡ place_at l.text l.place.start;
  within : l.place.start ≤ length l.text;
  tokens : in_front l.tokens.items (tokens_from l.text l.place.start) ≡ tokens_from l.text 0;
}

abbrev pub decreases-loop-place : goal.decreases-loop-place
decreases-loop-place l = length l.text - l.place.start
