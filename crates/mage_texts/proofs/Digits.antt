-- Numbers that digits write.
use Rattle.std.proofs.Common.{◌≡◌, ℕ, suc, ◌+◌, ◌*◌, ◌^◌, ◌<◌, ◌≤◌, List, [], ◌∷◌, ◌&&◌, nat_lt, Bool, true, false, cond, Some, None, length, drop, get_or, refl, arith}
use Rattle.std.proofs.Math.Seq.{drop-cons}
use Rattle.std.specs.Char.{digit_value}
use Rattle.std.proofs.Math.Pow.{pow_mono}
use borrow.Author.Tests.{ltb-true}
use Rattle.std.specs.Str.Parse.{digits_value, digits_value_after}
use Rattle.mage_texts.specs.InputText.{is_number, number_of_line}

-- more digits make no number less
digits_value_after-ge : (n : ℕ) (digits : List ℕ) → n ≤ digits_value_after 10 n digits
digits_value_after-ge n [] = omega arith
digits_value_after-ge n (digit ∷ digits) = omega (arith, digits_value_after-ge (n * 10 + digit_value digit) digits)

-- the number is no less than what stands after the digit at a place
pub digits_value_after-at : (n i : ℕ) (digits : List ℕ) (d : ℕ) → i < length digits → n * 10 + digit_value (get_or digits i d) ≤ digits_value_after 10 n (drop i digits)
digits_value_after-at n i digits d inside =
    rw (drop-cons digits i d inside) (digits_value_after-ge (n * 10 + digit_value (get_or digits i d)) (drop (suc i) digits))

-- a number that doesn't fit 128 bits fits no width
pub number_of_line-wide : (width : ℕ) (line : List ℕ) → width ≤ 128 → (digits_value 10 line < 2 ^ 128 → ⊥) → number_of_line width line ≡ None
number_of_line-wide width line narrow wide =
    let power : 2 ^ width ≤ 2 ^ 128 = pow_mono {i = width} {j = 128} narrow in
    by_test (is_number line) (nat_lt (digits_value 10 line) (2 ^ width)) (λ less. wide (omega (arith, power, ltb-true (digits_value 10 line) (2 ^ width) less)))
  where
    by_test : (number less : Bool) → (less ≡ true → ⊥) → cond (number && less) (Some (digits_value 10 line)) None ≡ None
    by_test false less no_less = refl
    by_test true false no_less = refl
    by_test true true no_less = absurd (no_less refl)
