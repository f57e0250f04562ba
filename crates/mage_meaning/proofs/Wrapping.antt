-- Arithmetic that wraps at 2^128, seen in a smaller width; and shifts by more than the width, which
-- leave no bit.
use Rattle.std.proofs.Common.{◌≡◌, ℕ, ◌+◌, ◌-◌, ◌*◌, ◌/◌, ◌%◌, ◌<◌, ◌≤◌, sym, ap, ◌∙◌, arith}
use Rattle.std.specs.Prelude.{◌^◌}
use Rattle.std.proofs.Math.Nat.{add-mod_right, div-eq_of_lt, mod-eq_of_lt, mul-mod_left, mul_assoc}
use Rattle.std.proofs.Math.Pow.{pow_mono, mod-mod-pow}
use Rattle.std.proofs.lemmas.Nat.{pow-add}

-- what wraps at 2^128 is the same modulo a width
pub wraps : (n width : ℕ) → width ≤ 128 → n % 2 ^ 128 % 2 ^ width ≡ n % 2 ^ width
wraps n width h =
    let split : (128 - width) + width ≡ 128 = omega arith in
    ap (λ k. n % 2 ^ k % 2 ^ width) (sym split) ∙ mod-mod-pow n (128 - width) width

pub right_beyond : (a amount : ℕ) → a < 2 ^ 128 → 128 ≤ amount → a / 2 ^ amount ≡ 0
right_beyond a amount h k = div-eq_of_lt (omega (arith, pow_mono {i = 128} {j = amount} k))

pub left_beyond : (a width amount : ℕ) → width ≤ amount → a * 2 ^ amount % 2 ^ width ≡ 0
left_beyond a width amount h =
    let split : amount ≡ (amount - width) + width = omega arith in
    let power = ap (λ n. 2 ^ n) split ∙ pow-add 2 (amount - width) width in
    ap (λ p. a * p % 2 ^ width) power ∙ ap (λ n. n % 2 ^ width) (sym (mul_assoc a (2 ^ (amount - width)) (2 ^ width))) ∙ mul-mod_left (a * 2 ^ (amount - width)) (2 ^ width)

-- a difference modulo m, of the greater and of the less
pub less_greater : (a b m : ℕ) → b ≤ a → (a - b) % m ≡ (a + m - b) % m
less_greater a b m h =
    let whole : a + m - b ≡ (a - b) + m = omega arith in
    sym (ap (λ n. n % m) whole ∙ add-mod_right (a - b) m)

pub less_lesser : (a b m : ℕ) → a < b → 0 < m → (m - 1) - (b - a - 1) ≡ (a + m - b) % m
less_lesser a b m h some =
    let small : a + m - b < m = omega arith in
    let same : (m - 1) - (b - a - 1) ≡ a + m - b = omega arith in
    same ∙ sym (mod-eq_of_lt small)
