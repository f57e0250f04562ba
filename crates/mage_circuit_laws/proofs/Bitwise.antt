-- What circuits that take pairs of bits come to on plain wires.
use Rattle.std.proofs.Common.{◌≡◌, ◌<◌, ℕ, zero, suc, ◌+◌, ◌*◌, ◌/◌, ◌%◌, ◌^◌, ◌==◌, List, [], ◌∷◌, Bool, true, false, not, ◌&&◌, min, max, length, map, refl, sym, ap, ◌∙◌, arith, inl, inr}
use Rattle.std.specs.List.{zip}
use Rattle.std.specs.Int.{bit_at}
use Rattle.std.specs.Int.Bits.{bit_and, bit_or, bit_xor}
use Rattle.std.proofs.lemmas.Bool.Decides.{eqb_tells}
use Rattle.std.proofs.lemmas.Nat.{and_shr, or_shr, xor_shr}
use Rattle.std.proofs.lemmas.Nat.Bits.{bit_at_and, bit_at_or, bit_at_xor, bit_at_lowest}
use Rattle.std.proofs.Math.Nat.{mod-lt, pow-suc}
use Rattle.mage_bits.specs.Bits.{bits, number}
use Rattle.mage_bits.proofs.BitLaws.{weight, number-cons}
use Rattle.mage_driver.specs.Circuits.{folded}
use Rattle.mage_driver.specs.Operations.{same_bit, equal}
use Rattle.mage_plain.specs.Plain.{Plain, plain_rules, differ}

-- an operation on numbers that goes bit by bit
pub zipped_bits : (f : ℕ → ℕ → ℕ) (g : Bool → Bool → Bool) → ((x y : ℕ) → f x y / 2 ≡ f (x / 2) (y / 2)) →
    ((x y : ℕ) → (f x y % 2 == 1) ≡ g (x % 2 == 1) (y % 2 == 1)) →
    (x y n : ℕ) → map (λ (pair : Bool × Bool). g pair.0 pair.1) (zip (bits x n) (bits y n)) ≡ bits (f x y) n
zipped_bits f g half low x y zero = refl
zipped_bits f g half low x y (suc n) =
    ap (λ d. d ∷ map (λ (pair : Bool × Bool). g pair.0 pair.1) (zip (bits (x / 2) n) (bits (y / 2) n))) (sym (low x y))
    ∙ ap (λ ds. (f x y % 2 == 1) ∷ ds) (zipped_bits f g half low (x / 2) (y / 2) n ∙ ap (λ v. bits v n) (sym (half x y)))

-- a fact about two digits
two_digits : (P : ℕ → ℕ → Type 0) → P 0 0 → P 0 1 → P 1 0 → P 1 1 → (p q : ℕ) → p < 2 → q < 2 → P p q
two_digits P a b c d zero zero small small' = a
two_digits P a b c d zero (suc zero) small small' = b
two_digits P a b c d (suc zero) zero small small' = c
two_digits P a b c d (suc zero) (suc zero) small small' = d
two_digits P a b c d (suc (suc p)) q small small' = absurd (omega arith)
two_digits P a b c d zero (suc (suc q)) small small' = absurd (omega arith)
two_digits P a b c d (suc zero) (suc (suc q)) small small' = absurd (omega arith)

-- the lowest digit of a number of two
lowest_of : (f : ℕ → ℕ → ℕ) (d : ℕ → ℕ → ℕ) (g : Bool → Bool → Bool) → ((x y : ℕ) → bit_at (f x y) 0 ≡ d (bit_at x 0) (bit_at y 0)) →
    ((p q : ℕ) → p < 2 → q < 2 → (d p q == 1) ≡ g (p == 1) (q == 1)) →
    (x y : ℕ) → (f x y % 2 == 1) ≡ g (x % 2 == 1) (y % 2 == 1)
lowest_of f d g at digits x y =
    let here : f x y % 2 ≡ d (x % 2) (y % 2) =
    sym (bit_at_lowest (f x y)) ∙ at x y ∙ ap (λ v. d v (bit_at y 0)) (bit_at_lowest x) ∙ ap (λ v. d (x % 2) v) (bit_at_lowest y) in
    ap (λ v. v == 1) here ∙ digits (x % 2) (y % 2) (mod-lt x (omega arith)) (mod-lt y (omega arith))

-- a ^ b ^ (a . b)
abbrev pub or_of : Bool → Bool → Bool
or_of a b = differ (differ a b) (a && b)

pub and_bits : (x y n : ℕ) → map (λ (pair : Bool × Bool). pair.0 && pair.1) (zip (bits x n) (bits y n)) ≡ bits (bit_and x y) n
and_bits = zipped_bits bit_and (λ a b. a && b) (λ x y. and_shr x y 1)
    (lowest_of bit_and min (λ a b. a && b) (λ x y. bit_at_and x y 0) (two_digits (λ p q. (min p q == 1) ≡ ((p == 1) && (q == 1))) refl refl refl refl))

pub or_bits : (x y n : ℕ) → map (λ (pair : Bool × Bool). or_of pair.0 pair.1) (zip (bits x n) (bits y n)) ≡ bits (bit_or x y) n
or_bits = zipped_bits bit_or or_of (λ x y. or_shr x y 1)
    (lowest_of bit_or max or_of (λ x y. bit_at_or x y 0) (two_digits (λ p q. (max p q == 1) ≡ or_of (p == 1) (q == 1)) refl refl refl refl))

pub xor_bits : (x y n : ℕ) → map (λ (pair : Bool × Bool). differ pair.0 pair.1) (zip (bits x n) (bits y n)) ≡ bits (bit_xor x y) n
xor_bits = zipped_bits bit_xor differ (λ x y. xor_shr x y 1)
    (lowest_of bit_xor (λ p q. (p + q) % 2) differ (λ x y. bit_at_xor x y 0) (two_digits (λ p q. ((p + q) % 2 == 1) ≡ differ (p == 1) (q == 1)) refl refl refl refl))

-- the number with each bit turned
pub number-not : (a : List Bool) → number (map not a) + number a + 1 ≡ 2 ^ length a
number-not [] = refl
number-not (true ∷ a) = omega (arith, number-cons false (map not a), number-cons true a, number-not a, pow-suc 2 (length a))
number-not (false ∷ a) = omega (arith, number-cons true (map not a), number-cons false a, number-not a, pow-suc 2 (length a))

-- whether all pairs are of the same bits
abbrev pub all_same : List (Bool × Bool) → Bool
all_same [] = true
all_same (pair ∷ pairs) = not (differ pair.0 pair.1) && all_same pairs

folded_same : (same : Bool) (pairs : List (Bool × Bool)) (s : Plain) → (folded plain_rules (same_bit plain_rules) same pairs s).wires ≡ (same && all_same pairs)
folded_same true [] s = refl
folded_same false [] s = refl
folded_same true (pair ∷ pairs) s =
    folded_same (not (differ pair.0 pair.1)) pairs ((same_bit plain_rules true pair s).state)
folded_same false (pair ∷ pairs) s =
    folded_same false pairs ((same_bit plain_rules false pair s).state)

pub equal_same : (pairs : List (Bool × Bool)) (s : Plain) → (equal plain_rules pairs s).wires ≡ all_same pairs
equal_same [] s = refl
equal_same (pair ∷ pairs) s = folded_same (not (differ pair.0 pair.1)) pairs s

-- two tests that hold together
tests_alike : (a b c d : ℕ) → (a ≡ b → c ≡ d) → (c ≡ d → a ≡ b) → (a == b) ≡ (c == d)
tests_alike a b c d there back =
    elim (eqb_tells a b) [
      | inl alike ↦ elim (eqb_tells c d) [ inl also ↦ alike.0 ∙ sym also.0 | inr other ↦ absurd (other.1 (there alike.1)) ]
      | inr apart ↦ elim (eqb_tells c d) [ inl other ↦ absurd (apart.1 (back other.1)) | inr also ↦ apart.0 ∙ sym also.0 ]
    ]

tests_differ : (a b : ℕ) → (a ≡ b → ⊥) → (a == b) ≡ false
tests_differ a b apart = elim (eqb_tells a b) [ inl alike ↦ absurd (apart alike.1) | inr other ↦ other.0 ]

first_pair : (x y : Bool) (n m : ℕ) → (weight x + 2 * n == weight y + 2 * m) ≡ (not (differ x y) && (n == m))
first_pair true true n m = tests_alike (1 + 2 * n) (1 + 2 * m) n m (λ same. omega arith) (λ same. omega arith)
first_pair false false n m = tests_alike (0 + 2 * n) (0 + 2 * m) n m (λ same. omega arith) (λ same. omega arith)
first_pair true false n m = tests_differ (1 + 2 * n) (0 + 2 * m) (λ same. omega arith)
first_pair false true n m = tests_differ (0 + 2 * n) (1 + 2 * m) (λ same. omega arith)

-- two numbers are equal where their bits are
pub all_same-zip : (a b : List Bool) → length b ≡ length a → all_same (zip a b) ≡ (number a == number b)
all_same-zip [] [] same = refl
all_same-zip [] (y ∷ ys) same = absurd (omega arith)
all_same-zip (x ∷ xs) [] same = absurd (omega arith)
all_same-zip (x ∷ xs) (y ∷ ys) same =
    ap (λ t. not (differ x y) && t) (all_same-zip xs ys (omega arith)) ∙ sym (first_pair x y (number xs) (number ys))
    ∙ ap (λ n. n == weight y + 2 * number ys) (sym (number-cons x xs)) ∙ ap (λ n. number (x ∷ xs) == n) (sym (number-cons y ys))
