-- What circuits of quotients come to on plain wires.
use Rattle.std.proofs.Common.{◌≡◌, ◌≤◌, ◌<◌, ℕ, zero, suc, ◌+◌, ◌-◌, ◌*◌, ◌/◌, ◌%◌, ◌^◌, List, [], ◌∷◌, ◌++◌, Bool, true, false, cond, ◌&&◌, length, take, get_or, replicate, reverse, refl, sym, ap, subst, ◌∙◌, arith, inl, inr}
use Rattle.std.specs.List.{zip}
use Rattle.std.proofs.lemmas.List.{length-take, reverse-append, length-replicate, length-reverse}
use Rattle.std.proofs.lemmas.Slice.Zip.{length-zip}
use Rattle.std.proofs.lemmas.Bool.{cases_lt}
use Rattle.std.proofs.Math.Nat.{pow-suc, mod-eq_of_lt, mod-lt}
use Rattle.std.proofs.lemmas.Nat.{div-add-mod', div-mul-add, mod-mul-add}
use Rattle.mage_bits.specs.Bits.{bits, number}
use Rattle.mage_bits.proofs.BitLaws.{weight, number-cons, number-bits, number-lt, bits-number, length-bits}
use Rattle.mage_driver.specs.Circuits.{folded}
use Rattle.mage_driver.specs.Operations.{Carried, Divided, moved_in, highest_of, compared, taken_away, divide_bit, divided}
use Rattle.mage_plain.specs.Plain.{Plain, plain_rules, differ}
use Rattle.mage_circuit_laws.proofs.Sums.{firsts, firsts-zip, seconds-zip, turned, total, total-turned, compared_bits, compared_carry, bits-mod}
use Rattle.mage_circuit_laws.proofs.Choices.{replaced_bits}

-- the bits without the highest, and the highest
number-split : (bit : Bool) (rest : List Bool) → 1 ≤ length rest →
    weight bit + 2 * number rest ≡ number (moved_in plain_rules bit rest) + 2 ^ length rest * weight (highest_of plain_rules bit rest)
number-split bit [] some = absurd (omega arith)
number-split bit (x ∷ []) some = omega (arith, number-cons bit [], number-cons x [])
number-split bit (x ∷ y ∷ rest) some =
    let more : length (x ∷ y ∷ rest) - 1 ≡ suc (length (y ∷ rest) - 1) = omega arith in
    let lower = number-split x (y ∷ rest) (omega arith) in
    let move : moved_in plain_rules bit (x ∷ y ∷ rest) ≡ bit ∷ moved_in plain_rules x (y ∷ rest) = ap (λ k. bit ∷ take k (x ∷ y ∷ rest)) more in
    let high : highest_of plain_rules bit (x ∷ y ∷ rest) ≡ highest_of plain_rules x (y ∷ rest) =
    ap (λ k. get_or (x ∷ y ∷ rest) k bit) more ∙ default (y ∷ rest) (length (y ∷ rest) - 1) bit x (omega arith) in
    let n = length (y ∷ rest) in
    let h = weight (highest_of plain_rules x (y ∷ rest)) in
    let twice : 2 ^ n * 2 * h ≡ 2 * (2 ^ n * h) = omega arith in
    let wide : 2 ^ suc n * h ≡ 2 * (2 ^ n * h) = ap (λ p. p * h) (pow-suc 2 n) ∙ twice in
    let whole : weight bit + 2 * number (x ∷ y ∷ rest) ≡ number (bit ∷ moved_in plain_rules x (y ∷ rest)) + 2 ^ suc n * h =
    omega (arith, number-cons bit (moved_in plain_rules x (y ∷ rest)), number-cons x (y ∷ rest), lower, wide) in
    whole ∙ ap (λ ds. number ds + 2 ^ suc n * h) (sym move) ∙ ap (λ d. number (moved_in plain_rules bit (x ∷ y ∷ rest)) + 2 ^ suc n * weight d) (sym high)
  where
    default : (xs : List Bool) (i : ℕ) (d e : Bool) → i < length xs → get_or xs i d ≡ get_or xs i e
    default [] i d e inside = absurd (omega arith)
    default (z ∷ zs) zero d e inside = refl
    default (z ∷ zs) (suc i) d e inside = default zs i d e (omega arith)

-- One step on numbers: h left at the top, X is what else is there, D is what is left of it with P added, and c is the carry.
step_numbers : (h c : Bool) (x d b v p : ℕ) → v ≡ x + p * weight h → d + b ≡ x + p → weight c ≡ d / p → x < p → b < p → v < 2 * b →
    (weight (differ (differ h c) (h && c)) * b + cond (differ (differ h c) (h && c)) (d % p) x ≡ v) × (cond (differ (differ h c) (h && c)) (d % p) x < b)
step_numbers true true x d b v p whole part carry small small' most =
    let same : d % p ≡ d = mod-eq_of_lt (omega arith) in rw same (omega arith, omega arith)
step_numbers true false x d b v p whole part carry small small' most =
    let same : d % p ≡ d = mod-eq_of_lt (omega arith) in rw same (omega arith, omega arith)
step_numbers false true x d b v p whole part carry small small' most =
    let split : d / p * p + d % p ≡ d = div-add-mod' d p in
    let over : 1 * p + d % p ≡ d = rw (← carry) at split in
    (omega arith, omega arith)
step_numbers false false x d b v p whole part carry small small' most =
    let split : d / p * p + d % p ≡ d = div-add-mod' d p in
    let over : 0 * p + d % p ≡ d = rw (← carry) at split in
    let below : d % p < p = mod-lt d (omega arith) in
    (omega arith, omega arith)

-- the bits that a step leaves
taken_bits : (b : List Bool) (bit : Bool) (rest : List Bool) (s : Plain) → length rest ≡ length b → 1 ≤ length b →
    (taken_away plain_rules b bit rest s).wires.bits
    ≡ cond ((taken_away plain_rules b bit rest s).wires.carry) ((compared plain_rules (zip (moved_in plain_rules bit rest) b) s).wires.bits) (moved_in plain_rules bit rest)
taken_bits b bit rest s same some =
    let x = moved_in plain_rules bit rest in
    let difference = compared plain_rules (zip x b) s in
    let goes = (taken_away plain_rules b bit rest s).wires.carry in
    let x_long : length x ≡ length b = omega (arith, length-take (length rest - 1) rest) in
    let zip_long : length (zip x b) ≡ length x = omega (arith, length-zip x b) in
    let bits_long : length difference.wires.bits ≡ length x = ap length (compared_bits (zip x b) s) ∙ length-bits (total true (turned (zip x b))) (length (zip x b)) ∙ zip_long in
    replaced_bits goes (zip x difference.wires.bits) _
    ∙ ap (λ ds. cond goes ds (firsts (zip x difference.wires.bits))) (seconds-zip x difference.wires.bits bits_long)
    ∙ ap (λ ds. cond goes difference.wires.bits ds) (firsts-zip x difference.wires.bits bits_long)

number-cond : (c : Bool) (xs ys : List Bool) → number (cond c xs ys) ≡ cond c (number xs) (number ys)
number-cond true xs ys = refl
number-cond false xs ys = refl

length-cond : (c : Bool) (xs ys : List Bool) (n : ℕ) → length xs ≡ n → length ys ≡ n → length (cond c xs ys) ≡ n
length-cond true xs ys n same same' = same
length-cond false xs ys n same same' = same'

-- what a step leaves, and takes away where the bit of the quotient is 1, is what was there with the bit
pub record Takes (b : List Bool) (bit : Bool) (rest : List Bool) (one : Carried Bool) : Type 0 where
  pub whole : weight one.carry * number b + number one.bits ≡ weight bit + 2 * number rest
  pub less : number one.bits < number b
  pub long : length one.bits ≡ length b

pub taken_numbers : (b : List Bool) (bit : Bool) (rest : List Bool) (s : Plain) → length rest ≡ length b → 1 ≤ length b → number rest < number b →
    Takes b bit rest (taken_away plain_rules b bit rest s).wires
taken_numbers b bit rest s same some less =
    let x = moved_in plain_rules bit rest in
    let h = highest_of plain_rules bit rest in
    let pairs = zip x b in
    let difference = compared plain_rules pairs s in
    let c = difference.wires.carry in
    let d = total true (turned pairs) in
    let p = 2 ^ length b in
    let x_long : length x ≡ length b = omega (arith, length-take (length rest - 1) rest) in
    let pairs_long : length pairs ≡ length b = omega (arith, length-zip x b) in
    let digits : difference.wires.bits ≡ bits d (length b) = compared_bits pairs s ∙ ap (λ n. bits d n) pairs_long in
    let part : d + number b ≡ number x + p =
    ap (λ ds. d + number ds) (sym (seconds-zip x b (sym x_long))) ∙ total-turned pairs
    ∙ ap (λ ds. number ds + 2 ^ length pairs) (firsts-zip x b (sym x_long)) ∙ ap (λ n. number x + 2 ^ n) pairs_long in
    let carry : weight c ≡ d / p = compared_carry pairs s ∙ ap (λ n. d / 2 ^ n) pairs_long in
    let small : number x < p = rw (← x_long) (number-lt x) in
    let whole : weight bit + 2 * number rest ≡ number x + p * weight h = number-split bit rest (omega arith) ∙ ap (λ n. number x + 2 ^ n * weight h) same in
    let bit_small : weight bit ≤ 1 = weight-le bit in
    let both = step_numbers h c (number x) d (number b) (weight bit + 2 * number rest) p whole part carry small (number-lt b) (omega arith) in
    let goes = (taken_away plain_rules b bit rest s).wires.carry in
    let left : number (taken_away plain_rules b bit rest s).wires.bits ≡ cond goes (d % p) (number x) =
    ap number (taken_bits b bit rest s same some) ∙ number-cond goes difference.wires.bits x ∙ ap (λ n. cond goes n (number x)) (ap number digits ∙ number-bits d (length b)) in
    record {
      whole = ap (λ n. weight goes * number b + n) left ∙ both.0;
      less = rw left both.1;
      long = ap length (taken_bits b bit rest s same some) ∙ length-cond goes difference.wires.bits x (length b) (ap length digits ∙ length-bits d (length b)) x_long;
    }
  where
    weight-le : (v : Bool) → weight v ≤ 1
    weight-le true = omega arith
    weight-le false = omega arith

-- the number of some bits, the highest first, behind a number
abbrev pub with_bits : ℕ → List Bool → ℕ
with_bits v [] = v
with_bits v (bit ∷ bits) = with_bits (2 * v + weight bit) bits

with_bits-append : (v : ℕ) (xs ys : List Bool) → with_bits v (xs ++ ys) ≡ with_bits (with_bits v xs) ys
with_bits-append v [] ys = refl
with_bits-append v (x ∷ xs) ys = with_bits-append (2 * v + weight x) xs ys

pub with_bits-reverse : (a : List Bool) → with_bits 0 (reverse a) ≡ number a
with_bits-reverse [] = refl
with_bits-reverse (x ∷ xs) =
    let last : 2 * number xs + weight x ≡ number (x ∷ xs) = omega (arith, number-cons x xs) in
    ap (λ ys. with_bits 0 ys) (reverse-append (x ∷ []) xs) ∙ with_bits-append 0 (reverse xs) (x ∷ [])
    ∙ ap (λ v. 2 * v + weight x) (with_bits-reverse xs) ∙ last

-- quotient and rest make up the bits that were taken
pub record Divides (b : List Bool) (v n : ℕ) (all : Divided Bool) : Type 0 where
  pub whole : number all.quotient * number b + number all.rest ≡ v
  pub less : number all.rest < number b
  pub quotient_long : length all.quotient ≡ n
  pub rest_long : length all.rest ≡ length b

pub divide_numbers : (b quotient rest bits : List Bool) (s : Plain) → length rest ≡ length b → 1 ≤ length b → number rest < number b →
    Divides b (with_bits (number quotient * number b + number rest) bits) (length quotient + length bits)
    (folded plain_rules (divide_bit plain_rules b) (record { quotient = quotient; rest = rest }) bits s).wires
divide_numbers b quotient rest [] s same some less = record { whole = refl; less = less; quotient_long = omega arith; rest_long = same }
divide_numbers b quotient rest (bit ∷ bits) s same some less =
    let one = taken_away plain_rules b bit rest s in
    let takes = taken_numbers b bit rest s same some less in
    let after = divide_numbers b (one.wires.carry ∷ quotient) one.wires.bits bits one.state takes.long some takes.less in
    let more : length (one.wires.carry ∷ quotient) + length bits ≡ length quotient + length (bit ∷ bits) = omega arith in
    let spread : (weight one.wires.carry + 2 * number quotient) * number b + number one.wires.bits ≡ 2 * (number quotient * number b + number rest) + weight bit = omega (arith, takes.whole) in
    let value : number (one.wires.carry ∷ quotient) * number b + number one.wires.bits ≡ 2 * (number quotient * number b + number rest) + weight bit =
    ap (λ n. n * number b + number one.wires.bits) (number-cons one.wires.carry quotient) ∙ spread in
    record {
      whole = after.whole ∙ ap (λ v. with_bits v bits) value;
      less = after.less;
      quotient_long = after.quotient_long ∙ more;
      rest_long = after.rest_long;
    }

-- what is left of nothing
number-zeros : (n : ℕ) → number (replicate n false) ≡ 0
number-zeros zero = refl
number-zeros (suc n) = omega (arith, number-cons false (replicate n false), number-zeros n)

-- quotient and rest, where the divisor isn't 0
pub divided_numbers : (a b : List Bool) (s : Plain) → length b ≡ length a → 0 < number b →
    Divides b (number a) (length a) (divided plain_rules a b s).wires
divided_numbers a b s same some =
    let zeros = replicate (length a) false in
    let none = number-zeros (length a) in
    let long : length zeros ≡ length b = length-replicate (length a) false ∙ sym same in
    let one : 1 ≤ length b = elim (cases_lt 0 (length b)) [ inl more ↦ more | inr empty ↦ absurd (omega (arith, number-lt b, ap (λ n. 2 ^ n) (is_zero (length b) empty))) ] in
    let all = divide_numbers b [] zeros (reverse a) s long one (omega arith) in
    let start : number [] * number b + number zeros ≡ 0 = omega arith in
    let value : with_bits (number [] * number b + number zeros) (reverse a) ≡ number a = ap (λ v. with_bits v (reverse a)) start ∙ with_bits-reverse a in
    record {
      whole = all.whole ∙ value;
      less = all.less;
      quotient_long = omega (arith, all.quotient_long, length-reverse a);
      rest_long = all.rest_long;
    }
  where
    is_zero : (n : ℕ) → n ≤ 0 → n ≡ 0
    is_zero n less = omega arith

-- A divisor of 0 always goes in, and takes nothing away.
ones_only : (h : Bool) → differ (differ h true) (h && true) ≡ true
ones_only true = refl
ones_only false = refl

weight-one : (c : Bool) → weight c ≡ 1 → c ≡ true
weight-one true one = refl
weight-one false one = absurd (omega arith)

taken_nothing : (b : List Bool) (bit : Bool) (rest : List Bool) (s : Plain) → length rest ≡ length b → 1 ≤ length b → number b ≡ 0 →
    ((taken_away plain_rules b bit rest s).wires.carry ≡ true) × ((taken_away plain_rules b bit rest s).wires.bits ≡ moved_in plain_rules bit rest)
taken_nothing b bit rest s same some nothing =
    let x = moved_in plain_rules bit rest in
    let h = highest_of plain_rules bit rest in
    let pairs = zip x b in
    let difference = compared plain_rules pairs s in
    let c = difference.wires.carry in
    let d = total true (turned pairs) in
    let p = 2 ^ length b in
    let x_long : length x ≡ length b = omega (arith, length-take (length rest - 1) rest) in
    let pairs_long : length pairs ≡ length b = omega (arith, length-zip x b) in
    let digits : difference.wires.bits ≡ bits d (length b) = compared_bits pairs s ∙ ap (λ n. bits d n) pairs_long in
    let part : d + number b ≡ number x + p =
    ap (λ ds. d + number ds) (sym (seconds-zip x b (sym x_long))) ∙ total-turned pairs
    ∙ ap (λ ds. number ds + 2 ^ length pairs) (firsts-zip x b (sym x_long)) ∙ ap (λ n. number x + 2 ^ n) pairs_long in
    let small : number x < p = rw (← x_long) (number-lt x) in
    let over : d ≡ 1 * p + number x = omega arith in
    let carry : weight c ≡ 1 = compared_carry pairs s ∙ ap (λ n. d / 2 ^ n) pairs_long ∙ ap (λ v. v / p) over ∙ div-mul-add 1 p (number x) small in
    let goes : (taken_away plain_rules b bit rest s).wires.carry ≡ true = ap (λ e. differ (differ h e) (h && e)) (weight-one c carry) ∙ ones_only h in
    let left : difference.wires.bits ≡ x =
    digits ∙ sym (bits-mod d (length b)) ∙ ap (λ v. bits (v % p) (length b)) over ∙ ap (λ v. bits v (length b)) (mod-mul-add 1 p (number x) small)
    ∙ ap (λ n. bits (number x) n) (sym x_long) ∙ bits-number x in
    (goes, taken_bits b bit rest s same some ∙ ap (λ e. cond e difference.wires.bits x) goes ∙ left)

-- quotient and rest, where the divisor is 0, after some bits whose number is this
record DividesNothing (v w n : ℕ) (all : Divided Bool) : Type 0 where
  over : ℕ
  whole : v ≡ number all.rest + 2 ^ w * over
  quotient : all.quotient ≡ replicate n true
  long : length all.rest ≡ w

abbrev after_bit : Bool → ℕ → List Bool → Divided Bool
after_bit bit n rest = record { quotient = bit ∷ replicate n true; rest = rest }

divide_nothing : (b : List Bool) (n : ℕ) (rest more : List Bool) (v over : ℕ) (s : Plain) → length rest ≡ length b → 1 ≤ length b → number b ≡ 0 →
    v ≡ number rest + 2 ^ length b * over →
    DividesNothing (with_bits v more) (length b) (n + length more)
    (folded plain_rules (divide_bit plain_rules b) (record { quotient = replicate n true; rest = rest }) more s).wires
divide_nothing b n rest [] v over s same some nothing whole =
    let none : n ≡ n + 0 = omega arith in
    record { over = over; whole = whole; quotient = ap (λ m. replicate m true) none; long = same }
divide_nothing b n rest (bit ∷ more) v over s same some nothing whole =
    let one = taken_away plain_rules b bit rest s in
    let x = moved_in plain_rules bit rest in
    let h = highest_of plain_rules bit rest in
    let takes = taken_nothing b bit rest s same some nothing in
    let x_long : length x ≡ length b = omega (arith, length-take (length rest - 1) rest) in
    let split : weight bit + 2 * number rest ≡ number x + 2 ^ length b * weight h = number-split bit rest (omega arith) ∙ ap (λ m. number x + 2 ^ m * weight h) same in
    let value : 2 * v + weight bit ≡ number x + 2 ^ length b * (weight h + 2 * over) = omega arith in
    let count : suc n + length more ≡ n + suc (length more) = omega arith in
    let after : Divided Bool = record { quotient = true ∷ replicate n true; rest = x } in
    let found : Divided Bool = record { quotient = one.wires.carry ∷ replicate n true; rest = one.wires.bits } in
    let step : found ≡ after = ap (λ c. after_bit c n one.wires.bits) takes.0 ∙ ap (λ ds. after_bit true n ds) takes.1 in
    let rest' = divide_nothing b (suc n) x more (2 * v + weight bit) (weight h + 2 * over) one.state x_long some nothing value in
    subst (λ m. DividesNothing (with_bits (2 * v + weight bit) more) (length b) m
    (folded plain_rules (divide_bit plain_rules b) (record { quotient = one.wires.carry ∷ replicate n true; rest = one.wires.bits }) more one.state).wires) count
    (subst (λ (d : Divided Bool). DividesNothing (with_bits (2 * v + weight bit) more) (length b) (suc n + length more)
    (folded plain_rules (divide_bit plain_rules b) d more one.state).wires) (sym step) rest')

-- where the divisor is 0 each bit of the quotient is 1, and the dividend is left
pub divided_nothing : (a b : List Bool) (s : Plain) → length b ≡ length a → number b ≡ 0 →
    ((divided plain_rules a b s).wires.quotient ≡ replicate (length a) true) × ((divided plain_rules a b s).wires.rest ≡ a)
divided_nothing [] b s same nothing = (refl, refl)
divided_nothing (first ∷ others) b s same nothing =
    let a = first ∷ others in
    let zeros = replicate (length a) false in
    let long : length zeros ≡ length b = length-replicate (length a) false ∙ sym same in
    let start : 0 ≡ number zeros + 2 ^ length b * 0 = omega (arith, number-zeros (length a)) in
    let all = divide_nothing b 0 zeros (reverse a) 0 0 s long (omega arith) nothing start in
    let rest = (divided plain_rules a b s).wires.rest in
    let whole : number a ≡ number rest + 2 ^ length b * all.over = sym (with_bits-reverse a) ∙ all.whole in
    let small : number a < 2 ^ length b = rw same (number-lt a) in
    let rest_long : length rest ≡ length a = all.long ∙ same in
    let back : number rest ≡ number a = only_part (number a) (number rest) (2 ^ length b) all.over whole small in
    let count : 0 + length (reverse a) ≡ length a = omega (arith, length-reverse a) in (
      all.quotient ∙ ap (λ m. replicate m true) count,
      sym (bits-number rest) ∙ ap (λ v. bits v (length rest)) back ∙ ap (λ m. bits (number a) m) rest_long ∙ bits-number a,
    )
  where
    only_part : (n r p k : ℕ) → n ≡ r + p * k → n < p → r ≡ n
    only_part n r p zero whole small = omega arith
    only_part n r p (suc k) whole small = absurd (omega arith)
