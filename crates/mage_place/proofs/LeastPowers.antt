-- The least power of two not below a width.
use Rattle.std.proofs.Common.{◌≡◌, ◌<◌, ◌≤◌, ◌^◌, ◌/◌, ◌+◌, max, ℕ, cond, leb, refl, sym, ◌∙◌, arith, ⊎_elim}
use Rattle.std.proofs.Math.Pow.{pow_mono}
use Rattle.std.proofs.lemmas.Bool.{cases_lt, le-leb, lt-leb, cond-true, cond-false}
use Rattle.std.proofs.lemmas.Grind.{pow_more}
use Rattle.std.proofs.lemmas.Nat.{le-div}
use Rattle.mage_instr.specs.Opcodes.{greatest_width}
use Rattle.mage_place.specs.Classes.{IsLeastPower, class_of_width}

-- a power of two above another is at least its double
double_below : (j k : ℕ) → 2 ^ k < 2 ^ j → 2 ^ (k + 1) ≤ 2 ^ j
double_below j k h = ⊎_elim (λ l. pow_mono (omega arith)) (λ l. let more : 2 ^ j ≤ 2 ^ k = pow_mono l in absurd (omega arith)) (cases_lt k j)

half_below : (w r j k : ℕ) → r ≡ 2 ^ j → 2 ^ k < r → w ≤ 2 ^ k → w ≤ r / 2
half_below w r j k is less h =
    let double : 2 ^ (k + 1) ≤ r = rw is (double_below j k (rw is at less)) in
    let half : 2 ^ k ≤ r / 2 = le-div (2 ^ k) r 2 (omega arith) (omega (arith, pow_more 2 k)) in
    omega arith

pub IsLeastPower-from_next : (w r j : ℕ) → 1 ≤ w → r ≡ 2 ^ j → w ≤ r → r / 2 < max 1 w → IsLeastPower w r
IsLeastPower-from_next w r j above is wide half = record {
  power = (j, is);
  wide = wide;
  least = λ k h. ⊎_elim (λ less. let low : w ≤ r / 2 = half_below w r j k is less h in absurd (omega arith)) (λ l. l) (cases_lt (2 ^ k) r);
}

step : (w m x y r : ℕ) → (w ≤ m → r ≡ x) → (m < w → r ≡ y) → r ≡ cond (leb w m) x y
step w m x y r low high = ⊎_elim (λ h. high h ∙ sym (cond-false (leb w m) x y (lt-leb w m h))) (λ h. low h ∙ sym (cond-true (leb w m) x y (le-leb w m h))) (cases_lt m w)

-- a width above a power of two and not above the next has the next as its class
between : (w r k m : ℕ) → m ≡ 2 ^ (k + 1) → IsLeastPower w r → 2 ^ k < w → w ≤ m → r ≡ m
between w r k m is ok above below =
    let high : r ≤ m = rw is (ok.least (k + 1) (rw is at below)) in
    let less : 2 ^ k < 2 ^ ok.power.0 = omega (arith, ok.wide, ok.power.1) in
    let low : m ≤ r = rw (is, ok.power.1) (double_below ok.power.0 k less) in
    omega arith

pub class_of_width-from_least : (w r : ℕ) → 1 ≤ w → w ≤ greatest_width → IsLeastPower w r → r ≡ class_of_width w
class_of_width-from_least w r above below ok =
    step w 1 1 _ r (λ h. omega (arith, ok.wide, ok.least 0 h)) (λ a.
    step w 2 2 _ r (between w r 0 2 refl ok a) (λ b.
    step w 4 4 _ r (between w r 1 4 refl ok b) (λ c.
    step w 8 8 _ r (between w r 2 8 refl ok c) (λ d.
    step w 16 16 _ r (between w r 3 16 refl ok d) (λ e.
    step w 32 32 _ r (between w r 4 32 refl ok e) (λ f.
    step w 64 64 128 r (between w r 5 64 refl ok f) (λ g. between w r 6 128 refl ok g below)))))))
