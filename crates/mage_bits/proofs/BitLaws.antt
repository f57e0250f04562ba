-- Laws of bits and numbers. Other crates may cite them.
use Rattle.std.proofs.Common.{◌≡◌, ℕ, zero, suc, ◌+◌, ◌-◌, ◌*◌, ◌/◌, ◌%◌, ◌^◌, ◌<◌, ◌==◌, Bool, true, false, cond, List, [], ◌∷◌, length, get_or, Some, refl, ap, sym, ◌∙◌, arith}
use Rattle.std.specs.List.{slice_get}
use Rattle.std.specs.Int.{bit_at}
use Rattle.std.proofs.lemmas.Bool.Decides.{nat_tests}
use Rattle.std.proofs.lemmas.Nat.{pow_pos}
use Rattle.std.proofs.lemmas.Nat.Bits.{bit_at_lowest, bit_at-suc}
use Rattle.std.proofs.Math.Nat.{pow-suc, mod-one, mod-lt}
use Rattle.std.proofs.Math.Arith.{mod-mul}
use Rattle.mage_bits.specs.Bits.{bits, number, number_from}

-- 1 or 0
abbrev pub weight : Bool → ℕ
weight bit = cond bit 1 0

-- digits one place up are worth twice as much
pub number_from-suc : (place : ℕ) (digits : List Bool) → number_from (suc place) digits ≡ 2 * number_from place digits
number_from-suc place [] = refl
number_from-suc place (true ∷ digits) = omega (arith, pow-suc 2 place, number_from-suc (suc place) digits)
number_from-suc place (false ∷ digits) = omega (arith, number_from-suc (suc place) digits)

pub number-cons : (bit : Bool) (digits : List Bool) → number (bit ∷ digits) ≡ weight bit + 2 * number digits
number-cons true digits = omega (arith, number_from-suc 0 digits)
number-cons false digits = omega (arith, number_from-suc 0 digits)

-- the number is below 2 to the count of its digits
pub number-lt : (digits : List Bool) → number digits < 2 ^ length digits
number-lt [] = omega arith
number-lt (true ∷ digits) = omega (arith, number-cons true digits, number-lt digits, pow-suc 2 (length digits))
number-lt (false ∷ digits) = omega (arith, number-cons false digits, number-lt digits, pow-suc 2 (length digits))

weight-mod : (v : ℕ) → weight (v % 2 == 1) ≡ v % 2
weight-mod v = let small : v % 2 < 2 = mod-lt v (omega arith) in grind (arith, nat_tests)

-- the number of the n lowest digits of v is v modulo 2 to n
pub number-bits : (v n : ℕ) → number (bits v n) ≡ v % 2 ^ n
number-bits v zero = sym (mod-one v)
number-bits v (suc n) =
    let here = number-cons (v % 2 == 1) (bits (v / 2) n) in
    let split : v % (2 ^ n * 2) ≡ v / 2 % 2 ^ n * 2 + v % 2 = mod-mul v (pow_pos n) (omega arith) in
    rw (pow-suc 2 n) (omega (arith, here, split, weight-mod v, number-bits (v / 2) n))

pub length-bits : (v n : ℕ) → length (bits v n) ≡ n
length-bits v zero = refl
length-bits v (suc n) = ap suc (length-bits (v / 2) n)

-- the digits of a number that digits write are those digits
pub bits-number : (digits : List Bool) → bits (number digits) (length digits) ≡ digits
bits-number [] = refl
bits-number (bit ∷ digits) =
    rw number-cons (cons_parts bit (number digits) digits (bits-number digits))
  where
    cons_parts : (bit : Bool) (rest : ℕ) (digits : List Bool) → bits rest (length digits) ≡ digits → bits (weight bit + 2 * rest) (suc (length digits)) ≡ bit ∷ digits
    cons_parts true rest digits same =
        let last : (1 + 2 * rest) % 2 ≡ 1 = omega arith in
        let front : (1 + 2 * rest) / 2 ≡ rest = omega arith in
        rw (last, front, same)
    cons_parts false rest digits same =
        let last : (0 + 2 * rest) % 2 ≡ 0 = omega arith in
        let front : (0 + 2 * rest) / 2 ≡ rest = omega arith in
        rw (last, front, same)

-- the i-th of the digits of v is the i-th binary digit of v
pub get_or-bits : (v n i : ℕ) (d : Bool) → i < n → get_or (bits v n) i d ≡ (bit_at v i == 1)
get_or-bits v zero i d inside = absurd (omega arith)
get_or-bits v (suc n) zero d inside = ap (λ x. x == 1) (sym (bit_at_lowest v))
get_or-bits v (suc n) (suc i) d inside = get_or-bits (v / 2) n i d (omega arith) ∙ ap (λ x. x == 1) (sym (bit_at-suc v i))

pub slice_get-bits : (v n i : ℕ) → i < n → slice_get (bits v n) i ≡ Some (bit_at v i == 1)
slice_get-bits v zero i inside = absurd (omega arith)
slice_get-bits v (suc n) zero inside = ap (λ x. Some (x == 1)) (sym (bit_at_lowest v))
slice_get-bits v (suc n) (suc i) inside = slice_get-bits (v / 2) n i (omega arith) ∙ ap (λ x. Some (x == 1)) (sym (bit_at-suc v i))

-- one digit more
pub bits-step : (v n : ℕ) → 0 < n → bits v n ≡ (v % 2 == 1) ∷ bits (v / 2) (n - 1)
bits-step v zero some = absurd (omega arith)
bits-step v (suc n) some = ap (λ k. (v % 2 == 1) ∷ bits (v / 2) k) (omega arith)
