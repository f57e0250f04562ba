-- What circuits that move bits come to on plain wires.
use Rattle.std.proofs.Common.{◌≡◌, ◌≤◌, ℕ, zero, suc, ◌+◌, ◌*◌, ◌/◌, ◌^◌, List, [], ◌∷◌, ◌++◌, Bool, false, length, take, drop, replicate, refl, sym, ap, ◌∙◌, arith}
use Rattle.std.proofs.lemmas.Nat.{shr-shr}
use Rattle.std.proofs.Math.Nat.{pow-suc, div-one, zero-div}
use Rattle.mage_bits.specs.Bits.{bits, number}
use Rattle.mage_bits.proofs.BitLaws.{number-cons, bits-number}
use Rattle.mage_circuit_laws.proofs.Sums.{bits-double, half-double}
use Rattle.mage_circuit_laws.proofs.Products.{take-bits}

-- the lowest bits
pub taken_bits : (a : List Bool) (w : ℕ) → w ≤ length a → take w a ≡ bits (number a) w
taken_bits a w within = ap (λ ds. take w ds) (sym (bits-number a)) ∙ take-bits (number a) w (length a) within

-- bits moved up, with zeros below
pub moved_up_bits : (k : ℕ) (a : List Bool) (w : ℕ) → w ≤ length a + k → take w (replicate k false ++ a) ≡ bits (number a * 2 ^ k) w
moved_up_bits zero a w within =
    let one : number a ≡ number a * 2 ^ 0 = omega arith in
    taken_bits a w (omega arith) ∙ ap (λ v. bits v w) one
moved_up_bits (suc k) a zero within = refl
moved_up_bits (suc k) a (suc w) within =
    let spread : number a * (2 ^ k * 2) ≡ 0 + 2 * (number a * 2 ^ k) = omega arith in
    let twice : number a * 2 ^ suc k ≡ 0 + 2 * (number a * 2 ^ k) = ap (λ p. number a * p) (pow-suc 2 k) ∙ spread in
    ap (λ ds. false ∷ ds) (moved_up_bits k a w (omega arith)) ∙ sym (bits-double false (number a * 2 ^ k) w) ∙ ap (λ v. bits v (suc w)) (sym twice)

-- the number without its lowest bits
pub number-drop : (k : ℕ) (a : List Bool) → number (drop k a) ≡ number a / 2 ^ k
number-drop zero a = sym (div-one (number a))
number-drop (suc k) [] = sym (zero-div (2 ^ suc k))
number-drop (suc k) (x ∷ a) =
    let half : number (x ∷ a) / 2 ≡ number a = ap (λ v. v / 2) (number-cons x a) ∙ half-double x (number a) in
    let more : 1 + k ≡ suc k = omega arith in
    number-drop k a ∙ ap (λ v. v / 2 ^ k) (sym half) ∙ shr-shr (number (x ∷ a)) 1 k ∙ ap (λ j. number (x ∷ a) / 2 ^ j) more
