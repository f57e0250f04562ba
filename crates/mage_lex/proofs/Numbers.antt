-- The number that digits write, digit after digit.
use Rattle.std.proofs.Common.{◌≡◌, ℕ, ◌+◌, ◌*◌, ◌<◌, List, length, take, get_or, arith}
use Rattle.std.specs.Char.{digit_value}
use Rattle.std.specs.Str.Parse.{digits_value}
use Rattle.std.proofs.lemmas.Int.Digits.{digits_value_more}
use Rattle.std.proofs.lemmas.Str.Parse.{digits_value-take-le}

-- one digit more
pub value_next : (digits : List ℕ) (i value next : ℕ) → i < length digits → value ≡ digits_value 10 (take i digits) → next ≡ value * 10 + digit_value (get_or digits i 0) → next ≡ digits_value 10 (take (i + 1) digits)
value_next digits i value next h e n = omega (arith, digits_value_more 10 digits i h)

-- what is too large for a limit at one digit is too large at the end
pub value_over : (digits : List ℕ) (limit i value : ℕ) → i < length digits → value ≡ digits_value 10 (take i digits) → (value * 10 + digit_value (get_or digits i 0) < limit → ⊥) → digits_value 10 digits < limit → ⊥
value_over digits limit i value h e over below = over (omega (arith, digits_value_more 10 digits i h, digits_value-take-le 10 digits (i + 1) (omega arith)))
