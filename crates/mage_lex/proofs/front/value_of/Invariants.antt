-- The value is that of the digits so far, and below the limit.
use Rattle.std.proofs.Common.{◌≡◌, ◌<◌, take}
use Rattle.std.specs.Str.Parse.{digits_value}
use Rattle.mage_lex.specs.Limits.{NUMBER_LIMIT}
use Rattle.mage_lex.proofs.front.value_of.Given as goal

abbrev pub invariant-loop-digit : goal.invariant-loop-digit
invariant-loop-digit l = (l.value ≡ digits_value 10 (take l.digit-index l.digits)) × (l.value < NUMBER_LIMIT)
