-- The circuits of instructions are right on plain wires.
use Rattle.std.proofs.Common.{◌≡◌, ◌≤◌, ◌<◌, ℕ, zero, suc, ◌+◌, ◌-◌, ◌*◌, ◌/◌, ◌%◌, ◌^◌, ◌==◌, nat_lt, List, [], ◌∷◌, Bool, true, false, cond, not, ◌&&◌, min, max, length, drop, map, replicate, get_or, refl, sym, ap, ◌∙◌, arith}
use Rattle.std.specs.List.{zip}
use Rattle.std.proofs.lemmas.List.{map-id, length-map}
use Rattle.std.specs.Prelude.{IsTrue}
use Rattle.std.proofs.lemmas.Bool.{eqb-true, false≢true}
use Rattle.std.proofs.lemmas.Nat.{div-mul-add, mod-mul-add, pow_pos}
use Rattle.std.proofs.lemmas.Bool.Decides.{nat_tests}
use Rattle.std.proofs.lemmas.Slice.Zip.{length-zip}
use Rattle.std.proofs.Math.Nat.{pow-suc}
use Rattle.mage_bits.specs.Bits.{bits, number}
use Rattle.mage_bits.specs.Modular.{bit_of}
use Rattle.mage_bits.proofs.BitLaws.{bits-number}
use Rattle.mage_instr.specs.declared.op.Op.{Op}
use Rattle.mage_instr.specs.declared.op.Op.TheVariants as op
use Rattle.mage_driver.specs.Operations.{less, and_bit, or_bit, divided, counted}
use Rattle.mage_plain.specs.Plain.{Plain, plain_rules, differ}
use Rattle.mage_circuit_laws.specs.Right.{IsRight, computes}
use Rattle.mage_circuit_laws.proofs.Sums.{seconds, firsts-zip, seconds-zip, turned, total, total-turned, bits-double, bits-mod, added_bits}
use Rattle.mage_circuit_laws.proofs.Choices.{each_bits, chosen_bits, replaced_bits, resized_bits}
use Rattle.mage_circuit_laws.proofs.Differences.{subtracted_bits, less_bits}
use Rattle.mage_circuit_laws.proofs.Products.{multiplied_bits}
use Rattle.mage_circuit_laws.proofs.Quotients.{divided_numbers, divided_nothing}
use Rattle.mage_circuit_laws.proofs.Bitwise.{or_of, and_bits, or_bits, xor_bits, number-not, equal_same, all_same-zip}
use Rattle.mage_circuit_laws.proofs.Shifts.{moved_up_bits, number-drop}
use Rattle.mage_circuit_laws.proofs.Counting.{counted_number, ones-number}

pairs_long : (a b : List Bool) (w : ℕ) → length a ≡ w → length b ≡ w → length (zip a b) ≡ w
pairs_long a b w same same' = omega (arith, length-zip a b)

-- the bits of a number that was read from so many bits
bits-back : (a : List Bool) (w : ℕ) → length a ≡ w → bits (number a) w ≡ a
bits-back a w same = ap (λ n. bits (number a) n) (sym same) ∙ bits-number a

pub const_right : IsRight op.Const
const_right width imm a b c s ok la lb lc = map-id (bits imm width)

pub add_right : IsRight op.Add
add_right width imm a b c s ok la lb lc =
    added_bits (zip a b) s
    ∙ ap (λ ds. bits (number ds + number (seconds (zip a b))) (length (zip a b))) (firsts-zip a b (lb ∙ sym la))
    ∙ ap (λ ds. bits (number a + number ds) (length (zip a b))) (seconds-zip a b (lb ∙ sym la))
    ∙ ap (λ n. bits (number a + number b) n) (pairs_long a b width la lb)
    ∙ sym (bits-mod (number a + number b) width)

difference : (a b : List Bool) (w : ℕ) → length a ≡ w → length b ≡ w → total true (turned (zip a b)) ≡ number a + 2 ^ w - number b
difference a b w la lb =
    let whole : total true (turned (zip a b)) + number b ≡ number a + 2 ^ w =
    ap (λ ds. total true (turned (zip a b)) + number ds) (sym (seconds-zip a b (lb ∙ sym la))) ∙ total-turned (zip a b)
    ∙ ap (λ ds. number ds + 2 ^ length (zip a b)) (firsts-zip a b (lb ∙ sym la)) ∙ ap (λ n. number a + 2 ^ n) (pairs_long a b w la lb) in
    omega arith

pub sub_right : IsRight op.Sub
sub_right width imm a b c s ok la lb lc =
    subtracted_bits (zip a b) s
    ∙ ap (λ n. bits (total true (turned (zip a b))) n) (pairs_long a b width la lb)
    ∙ ap (λ v. bits v width) (difference a b width la lb)
    ∙ sym (bits-mod (number a + 2 ^ width - number b) width)

pub mul_right : IsRight op.Mul
mul_right width imm a b c s ok la lb lc =
    multiplied_bits a b s (la ∙ sym lb) ∙ ap (λ n. bits (number a * number b) n) lb ∙ sym (bits-mod (number a * number b) width)

less_is : (a b : List Bool) (s : Plain) → length b ≡ length a → (less plain_rules (zip a b) s).wires ≡ nat_lt (number a) (number b)
less_is a b s same =
    less_bits (zip a b) s ∙ ap (λ ds. nat_lt (number ds) (number (seconds (zip a b)))) (firsts-zip a b same) ∙ ap (λ ds. nat_lt (number a) (number ds)) (seconds-zip a b same)

test_bits : (t : Bool) → t ∷ [] ≡ bits (bit_of t) 1
test_bits true = refl
test_bits false = refl

pub lt_right : IsRight op.Lt
lt_right width imm a b c s ok la lb lc =
    ap (λ (t : Bool). t ∷ []) (less_is a b s (lb ∙ sym la)) ∙ test_bits (nat_lt (number a) (number b))

chosen_min : (t : Bool) (a b w : ℕ) → nat_lt a b ≡ t → cond t (bits a w) (bits b w) ≡ bits (min a b) w
chosen_min true a b w test = let same : a ≡ min a b = grind (arith, nat_tests) in ap (λ v. bits v w) same
chosen_min false a b w test = let same : b ≡ min a b = grind (arith, nat_tests) in ap (λ v. bits v w) same

chosen_max : (t : Bool) (a b w : ℕ) → nat_lt a b ≡ t → cond t (bits b w) (bits a w) ≡ bits (max a b) w
chosen_max true a b w test = let same : b ≡ max a b = grind (arith, nat_tests) in ap (λ v. bits v w) same
chosen_max false a b w test = let same : a ≡ max a b = grind (arith, nat_tests) in ap (λ v. bits v w) same

pub min_right : IsRight op.Min
min_right width imm a b c s ok la lb lc =
    let test = less plain_rules (zip a b) s in
    chosen_bits test.wires (zip a b) test.state
    ∙ ap (λ ds. cond test.wires ds (seconds (zip a b))) (firsts-zip a b (lb ∙ sym la) ∙ sym (bits-back a width la))
    ∙ ap (λ ds. cond test.wires (bits (number a) width) ds) (seconds-zip a b (lb ∙ sym la) ∙ sym (bits-back b width lb))
    ∙ chosen_min test.wires (number a) (number b) width (sym (less_is a b s (lb ∙ sym la)))

pub max_right : IsRight op.Max
max_right width imm a b c s ok la lb lc =
    let test = less plain_rules (zip a b) s in
    replaced_bits test.wires (zip a b) test.state
    ∙ ap (λ ds. cond test.wires (seconds (zip a b)) ds) (firsts-zip a b (lb ∙ sym la) ∙ sym (bits-back a width la))
    ∙ ap (λ ds. cond test.wires ds (bits (number a) width)) (seconds-zip a b (lb ∙ sym la) ∙ sym (bits-back b width lb))
    ∙ chosen_max test.wires (number a) (number b) width (sym (less_is a b s (lb ∙ sym la)))

pub resize_right : IsRight op.Resize
resize_right width imm a b c s ok la lb lc =
    resized_bits a width width (omega arith) ∙ sym (bits-mod (number a) width)

-- the condition of a choice is one bit
one_bit : (a : List Bool) (x y : ℕ) (w : ℕ) → length a ≡ 1 → cond (get_or a 0 false) (bits x w) (bits y w) ≡ bits (cond (number a == 1) x y) w
one_bit [] x y w same = absurd (omega arith)
one_bit (true ∷ []) x y w same = refl
one_bit (false ∷ []) x y w same = refl
one_bit (_ ∷ _ ∷ rest) x y w same = absurd (omega arith)

pub mux_right : IsRight op.Mux
mux_right width imm a b c s ok la lb lc =
    chosen_bits (get_or a 0 false) (zip b c) s
    ∙ ap (λ ds. cond (get_or a 0 false) ds (seconds (zip b c))) (firsts-zip b c (lc ∙ sym lb) ∙ sym (bits-back b width lb))
    ∙ ap (λ ds. cond (get_or a 0 false) (bits (number b) width) ds) (seconds-zip b c (lc ∙ sym lb) ∙ sym (bits-back c width lc))
    ∙ one_bit a (number b) (number c) width la

-- pairs of bits that were read from so many bits
pairs_back : (f : Bool × Bool → Bool) (a b : List Bool) (w : ℕ) → length a ≡ w → length b ≡ w →
    map f (zip a b) ≡ map f (zip (bits (number a) w) (bits (number b) w))
pairs_back f a b w la lb =
    ap (λ ds. map f (zip ds b)) (sym (bits-back a w la)) ∙ ap (λ ds. map f (zip (bits (number a) w) ds)) (sym (bits-back b w lb))

pub and_right : IsRight op.And
and_right width imm a b c s ok la lb lc =
    each_bits (and_bit plain_rules) (λ pair. pair.0 && pair.1) (λ pair t. refl) (zip a b) s
    ∙ pairs_back (λ pair. pair.0 && pair.1) a b width la lb ∙ and_bits (number a) (number b) width

pub or_right : IsRight op.Or
or_right width imm a b c s ok la lb lc =
    each_bits (or_bit plain_rules) (λ pair. or_of pair.0 pair.1) (λ pair t. refl) (zip a b) s
    ∙ pairs_back (λ pair. or_of pair.0 pair.1) a b width la lb ∙ or_bits (number a) (number b) width

pub xor_right : IsRight op.Xor
xor_right width imm a b c s ok la lb lc =
    pairs_back (λ pair. differ pair.0 pair.1) a b width la lb ∙ xor_bits (number a) (number b) width

pub not_right : IsRight op.Not
not_right width imm a b c s ok la lb lc =
    let turned_long : length (map not a) ≡ width = length-map a not ∙ la in
    let whole = number-not a in
    let power : 2 ^ length a ≡ 2 ^ width = ap (λ n. 2 ^ n) la in
    let value : number (map not a) ≡ 2 ^ width - 1 - number a = omega arith in
    sym (bits-back (map not a) width turned_long) ∙ ap (λ v. bits v width) value

pub eq_right : IsRight op.Eq
eq_right width imm a b c s ok la lb lc =
    ap (λ (t : Bool). t ∷ []) (equal_same (zip a b) s ∙ all_same-zip a b (lb ∙ sym la)) ∙ test_bits (number a == number b)

pub shl_right : IsRight op.Shl
shl_right width imm a b c s ok la lb lc =
    moved_up_bits imm a width (omega arith) ∙ sym (bits-mod (number a * 2 ^ imm) width)

pub shr_right : IsRight op.Shr
shr_right width imm a b c s ok la lb lc =
    resized_bits (drop imm a) width width (omega arith) ∙ ap (λ v. bits v width) (number-drop imm a)

pub count_right : IsRight op.Count
count_right width imm a b c s ok la lb lc =
    let all = counted plain_rules a s in
    resized_bits all.wires.bits width width (omega arith) ∙ ap (λ v. bits v width) (counted_number a s ∙ sym (ones-number a))

-- each bit 1
bits-ones : (n : ℕ) → bits (2 ^ n - 1) n ≡ replicate n true
bits-ones zero = refl
bits-ones (suc n) =
    let some : 1 ≤ 2 ^ n = pow_pos n in
    let odd : 2 ^ suc n - 1 ≡ 1 + 2 * (2 ^ n - 1) = omega (arith, pow-suc 2 n) in
    ap (λ v. bits v (suc n)) odd ∙ bits-double true (2 ^ n - 1) n ∙ ap (λ ds. true ∷ ds) (bits-ones n)

quotient_is : (t : Bool) (a b : List Bool) (w : ℕ) (s : Plain) → (number b == 0) ≡ t → length a ≡ w → length b ≡ w →
    ((divided plain_rules a b s).wires.quotient ≡ bits (cond t (2 ^ w - 1) (number a / number b)) w)
    × ((divided plain_rules a b s).wires.rest ≡ bits (cond t (number a) (number a % number b)) w)
quotient_is true a b w s test la lb =
    let nothing = divided_nothing a b s (lb ∙ sym la) (eqb-true (number b) 0 test) in
    (nothing.0 ∙ ap (λ n. replicate n true) la ∙ sym (bits-ones w), nothing.1 ∙ sym (bits-back a w la))
quotient_is false a b w s test la lb =
    let some : 0 < number b = grind (arith, nat_tests) in
    let all = divided_numbers a b s (lb ∙ sym la) some in
    let q = (divided plain_rules a b s).wires.quotient in
    let r = (divided plain_rules a b s).wires.rest in (
      sym (bits-back q w (all.quotient_long ∙ la))
          ∙ ap (λ v. bits v w) (sym (div-mul-add (number q) (number b) (number r) all.less) ∙ ap (λ v. v / number b) all.whole),
      sym (bits-back r w (all.rest_long ∙ lb))
          ∙ ap (λ v. bits v w) (sym (mod-mul-add (number q) (number b) (number r) all.less) ∙ ap (λ v. v % number b) all.whole),
    )

pub div_right : IsRight op.Div
div_right width imm a b c s ok la lb lc = (quotient_is (number b == 0) a b width s refl la lb).0

pub rem_right : IsRight op.Rem
rem_right width imm a b c s ok la lb lc = (quotient_is (number b == 0) a b width s refl la lb).1

-- every instruction that computes is right
pub all_right : (o : Op) → IsTrue (computes o) → IsRight o
all_right op.Input = λ none. absurd (false≢true none)
all_right op.Const = λ is. const_right
all_right op.Output = λ none. absurd (false≢true none)
all_right op.Add = λ is. add_right
all_right op.Sub = λ is. sub_right
all_right op.Mul = λ is. mul_right
all_right op.And = λ is. and_right
all_right op.Or = λ is. or_right
all_right op.Xor = λ is. xor_right
all_right op.Not = λ is. not_right
all_right op.Eq = λ is. eq_right
all_right op.Lt = λ is. lt_right
all_right op.Mux = λ is. mux_right
all_right op.Shl = λ is. shl_right
all_right op.Shr = λ is. shr_right
all_right op.Resize = λ is. resize_right
all_right op.Send = λ none. absurd (false≢true none)
all_right op.Recv = λ none. absurd (false≢true none)
all_right op.Div = λ is. div_right
all_right op.Rem = λ is. rem_right
all_right op.Count = λ is. count_right
all_right op.Min = λ is. min_right
all_right op.Max = λ is. max_right
