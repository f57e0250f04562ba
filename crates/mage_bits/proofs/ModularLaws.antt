-- Laws of arithmetic modulo a power of two. Other crates may cite them.
use Rattle.std.proofs.Common.{◌≡◌, ℕ, ◌+◌, ◌-◌, ◌*◌, ◌/◌, ◌%◌, ◌^◌, ◌<◌, ◌==◌, nat_lt, Bool, true, false, cond, ap, ◌∙◌, arith}
use Rattle.std.specs.Int.Bits.{and_lt}
use Rattle.std.proofs.lemmas.Nat.{pow_pos, or_lt, xor_lt, ones_le_self}
use Rattle.std.proofs.Math.Nat.{mod-lt, mod-eq_of_lt, div-le_self, mod-le, add-mod_right, mod-add-mod}
use Rattle.mage_bits.specs.Modular.{bit_of, add_mod, sub_mod, mul_mod, and_mod, or_mod, xor_mod, not_mod, eq_mod, lt_mod, shl_mod, shr_mod, div_mod, rem_mod, count_mod, min_mod, max_mod}

-- what is left modulo 2 to the width is below it
pub mod_pow-lt : (width a : ℕ) → a % 2 ^ width < 2 ^ width
mod_pow-lt width a = mod-lt a (pow_pos width)

pub arithmetic-lt : (width a b : ℕ) → (add_mod width a b < 2 ^ width) × (sub_mod width a b < 2 ^ width) × (mul_mod width a b < 2 ^ width)
arithmetic-lt width a b = (mod_pow-lt width (a + b), mod_pow-lt width (a + 2 ^ width - b), mod_pow-lt width (a * b))

pub bitwise-lt : (width a b : ℕ) → a < 2 ^ width → b < 2 ^ width → (and_mod width a b < 2 ^ width) × (or_mod width a b < 2 ^ width) × (xor_mod width a b < 2 ^ width) × (not_mod width a < 2 ^ width)
bitwise-lt width a b small small' = (and_lt width a b small small', or_lt width a b small small', xor_lt width a b small small', omega arith)

bit_of-lt : (test : Bool) → bit_of test < 2
bit_of-lt true = omega arith
bit_of-lt false = omega arith

pub tests-lt : (width a b : ℕ) → (eq_mod width a b < 2) × (lt_mod width a b < 2)
tests-lt width a b = (bit_of-lt (a == b), bit_of-lt (nat_lt a b))

pub shifts-lt : (width a amount : ℕ) → a < 2 ^ width → (shl_mod width a amount < 2 ^ width) × (shr_mod width a amount < 2 ^ width)
shifts-lt width a amount small =
    let less = div-le_self a (2 ^ amount) in
    (mod_pow-lt width (a * 2 ^ amount), omega arith)

-- a difference and what was taken away give the number back
pub add_mod-sub_mod : (width a b : ℕ) → a < 2 ^ width → b < 2 ^ width → add_mod width (sub_mod width a b) b ≡ a
add_mod-sub_mod width a b small small' =
    let whole : a + 2 ^ width - b + b ≡ a + 2 ^ width = omega arith in
    mod-add-mod (a + 2 ^ width - b) (2 ^ width) b ∙ ap (λ n. n % 2 ^ width) whole ∙ add-mod_right a (2 ^ width) ∙ mod-eq_of_lt small

-- a choice of two numbers that are below a third is below it
chosen-lt : (test : Bool) (a b n : ℕ) → a < n → b < n → cond test a b < n
chosen-lt true a b n small small' = small
chosen-lt false a b n small small' = small'

pub division-lt : (width a b : ℕ) → a < 2 ^ width → (div_mod width a b < 2 ^ width) × (rem_mod width a b < 2 ^ width)
division-lt width a b small =
    let some = pow_pos width in (
      chosen-lt (b == 0) (2 ^ width - 1) (a / b) (2 ^ width) (omega arith) (omega (arith, div-le_self a b)),
      chosen-lt (b == 0) a (a % b) (2 ^ width) small (omega (arith, mod-le a b)),
    )

pub counts-lt : (width a b : ℕ) → a < 2 ^ width → b < 2 ^ width → (count_mod width a < 2 ^ width) × (min_mod width a b < 2 ^ width) × (max_mod width a b < 2 ^ width)
counts-lt width a b small small' = (omega (arith, ones_le_self a), omega arith, omega arith)
