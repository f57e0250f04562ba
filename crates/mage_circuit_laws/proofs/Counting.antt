-- What the circuit that counts bits comes to on plain wires.
use Rattle.std.proofs.Common.{◌≡◌, ◌≤◌, ◌<◌, ℕ, suc, ◌+◌, ◌*◌, ◌/◌, ◌%◌, ◌^◌, ◌==◌, List, [], ◌∷◌, ◌++◌, Bool, true, false, ◌&&◌, length, refl, sym, ap, ◌∙◌, arith, append_assoc}
use Rattle.std.specs.Prelude.{count_ones}
use Rattle.std.specs.Int.Count.{ones_step}
use Rattle.std.proofs.lemmas.Bool.{eqb-true}
use Rattle.std.proofs.lemmas.Bool.Decides.{nat_tests}
use Rattle.std.proofs.lemmas.List.{append-nil, length_push}
use Rattle.std.proofs.lemmas.Nat.{shr-shr, div-add-mod', ones_le_self}
use Rattle.std.proofs.Math.Nat.{pow-suc, div-one, mod-eq_of_lt}
use Rattle.mage_bits.specs.Bits.{bits, number}
use Rattle.mage_bits.proofs.BitLaws.{weight, number-cons, number-bits, length-bits}
use Rattle.mage_driver.specs.Circuits.{folded, closed}
use Rattle.mage_driver.specs.Operations.{Carried, Counted, starting, count_up, count_last, count_bit, counted}
use Rattle.mage_plain.specs.Plain.{Plain, plain_rules, differ}
use Rattle.mage_circuit_laws.proofs.Sums.{bits-double, half-double, half_adder, closed_more}

-- how many bits are 1
abbrev pub ones_of : List Bool → ℕ
ones_of [] = 0
ones_of (bit ∷ bits) = weight bit + ones_of bits

lowest-double : (d : Bool) (v : ℕ) → (weight d + 2 * v) % 2 ≡ weight d
lowest-double true v = omega arith
lowest-double false v = omega arith

pub ones-number : (a : List Bool) → count_ones (number a) ≡ ones_of a
ones-number [] = omega (arith, ones_le_self 0)
ones-number (x ∷ a) =
    ones_step (number (x ∷ a))
    ∙ ap (λ v. v % 2 + count_ones (v / 2)) (number-cons x a)
    ∙ ap (λ v. v + count_ones ((weight x + 2 * number a) / 2)) (lowest-double x (number a))
    ∙ ap (λ v. weight x + count_ones v) (half-double x (number a))
    ∙ ap (λ v. weight x + v) (ones-number a)

number-append : (xs ys : List Bool) → number (xs ++ ys) ≡ number xs + 2 ^ length xs * number ys
number-append [] ys = omega arith
number-append (x ∷ xs) ys =
    let p = 2 ^ length xs in
    let twice : p * 2 * number ys ≡ 2 * (p * number ys) = omega arith in
    let wide : 2 ^ suc (length xs) * number ys ≡ 2 * (p * number ys) = ap (λ n. n * number ys) (pow-suc 2 (length xs)) ∙ twice in
    omega (arith, number-cons x (xs ++ ys), number-cons x xs, number-append xs ys)

-- a carry and a number, with their lowest bit apart
add_carry : (d c : Bool) (ds : List Bool) → weight c + number (d ∷ ds) ≡ weight (differ d c) + 2 * (weight (d && c) + number ds)
add_carry d c ds = omega (arith, number-cons d ds, half_adder d c)

-- a number with a bit added to it, and its carry
up_bits : (x : Carried Bool) (ds : List Bool) (s : Plain) →
    (folded plain_rules (count_up plain_rules) x ds s).wires.bits ≡ x.bits ++ bits (weight x.carry + number ds) (length ds)
up_bits x [] s = sym (append-nil x.bits)
up_bits x (d ∷ ds) s =
    let e = differ d x.carry in
    let next : Carried Bool = record { carry = d && x.carry; bits = x.bits ++ e ∷ [] } in
    let rest = up_bits next ds ((count_up plain_rules x d s).state) in
    let digits : bits (weight x.carry + number (d ∷ ds)) (suc (length ds)) ≡ e ∷ bits (weight next.carry + number ds) (length ds) =
    ap (λ v. bits v (suc (length ds))) (add_carry d x.carry ds) ∙ bits-double e (weight next.carry + number ds) (length ds) in
    rest ∙ append_assoc x.bits (e ∷ []) (bits (weight next.carry + number ds) (length ds)) ∙ ap (λ es. x.bits ++ es) (sym digits)

up_carry : (x : Carried Bool) (ds : List Bool) (s : Plain) →
    weight ((folded plain_rules (count_up plain_rules) x ds s).wires.carry) ≡ (weight x.carry + number ds) / 2 ^ length ds
up_carry x [] s = omega (arith, div-one (weight x.carry + 0))
up_carry x (d ∷ ds) s =
    let e = differ d x.carry in
    let next : Carried Bool = record { carry = d && x.carry; bits = x.bits ++ e ∷ [] } in
    let rest = up_carry next ds ((count_up plain_rules x d s).state) in
    let whole = weight x.carry + number (d ∷ ds) in
    let half : whole / 2 ≡ weight next.carry + number ds = ap (λ v. v / 2) (add_carry d x.carry ds) ∙ half-double e (weight next.carry + number ds) in
    let more : 1 + length ds ≡ suc (length ds) = omega arith in
    rest ∙ ap (λ v. v / 2 ^ length ds) (sym half) ∙ shr-shr whole 1 (length ds) ∙ ap (λ k. whole / 2 ^ k) more

-- the same without the last carry
last_bits : (x : Carried Bool) (ds : List Bool) (s : Plain) →
    (closed plain_rules (count_up plain_rules) (count_last plain_rules) x ds s).wires.bits ≡ x.bits ++ bits (weight x.carry + number ds) (length ds)
last_bits x [] s = sym (append-nil x.bits)
last_bits x (d ∷ []) s =
    let e = differ d x.carry in
    let digits : bits (weight x.carry + number (d ∷ [])) 1 ≡ e ∷ [] =
    ap (λ v. bits v 1) (add_carry d x.carry []) ∙ bits-double e (weight (d && x.carry) + 0) 0 in
    ap (λ es. x.bits ++ es) (sym digits)
last_bits x (d ∷ next ∷ ds) s =
    let e = differ d x.carry in
    let so_far : Carried Bool = record { carry = d && x.carry; bits = x.bits ++ e ∷ [] } in
    let rest = last_bits so_far (next ∷ ds) ((count_up plain_rules x d s).state) in
    let step = ap (λ (c : Carried Bool). c.bits) (closed_more (count_up plain_rules) (count_last plain_rules) x d next ds s) in
    let digits : bits (weight x.carry + number (d ∷ next ∷ ds)) (suc (suc (length ds))) ≡ e ∷ bits (weight so_far.carry + number (next ∷ ds)) (suc (length ds)) =
    ap (λ v. bits v (suc (suc (length ds)))) (add_carry d x.carry (next ∷ ds)) ∙ bits-double e (weight so_far.carry + number (next ∷ ds)) (suc (length ds)) in
    step ∙ rest ∙ append_assoc x.bits (e ∷ []) (bits (weight so_far.carry + number (next ∷ ds)) (suc (length ds))) ∙ ap (λ es. x.bits ++ es) (sym digits)

-- the bits that were seen are counted, in as few bits as there may have to be
record Counts (n m : ℕ) (so_far : Counted Bool) : Type 0 where
  log : ℕ
  value : number so_far.bits ≡ n
  seen : so_far.seen ≡ m
  long : length so_far.bits ≡ suc log
  few : n ≤ m
  most : m < 2 ^ suc log

one_bit : (t : Bool) (n seen : ℕ) (so_far : Counted Bool) (bit : Bool) (s : Plain) → (so_far.seen + 1 == 2 ^ length so_far.bits) ≡ t →
    Counts n seen so_far → Counts (n + weight bit) (seen + 1) (count_bit plain_rules so_far bit s).wires
one_bit true n seen so_far bit s test counts =
    let up = (folded plain_rules (count_up plain_rules) (starting plain_rules bit) so_far.bits s).wires in
    let v = weight bit + number so_far.bits in
    let k = length so_far.bits in
    let digits : up.bits ≡ bits v k = up_bits (starting plain_rules bit) so_far.bits s in
    let low : number up.bits ≡ v % 2 ^ k = ap number digits ∙ number-bits v k in
    let size : length up.bits ≡ k = ap length digits ∙ length-bits v k in
    let high : weight up.carry ≡ v / 2 ^ k = up_carry (starting plain_rules bit) so_far.bits s in
    let one : number (up.carry ∷ []) ≡ weight up.carry = omega (arith, number-cons up.carry []) in
    let split : v / 2 ^ k * 2 ^ k + v % 2 ^ k ≡ v = div-add-mod' v (2 ^ k) in
    let swapped : 2 ^ k * (v / 2 ^ k) ≡ v / 2 ^ k * 2 ^ k = omega arith in
    let whole : number (up.bits ++ up.carry ∷ []) ≡ v =
    number-append up.bits (up.carry ∷ []) ∙ ap (λ m. m + 2 ^ length up.bits * number (up.carry ∷ [])) low
    ∙ ap (λ j. v % 2 ^ k + 2 ^ j * number (up.carry ∷ [])) size ∙ ap (λ m. v % 2 ^ k + 2 ^ k * m) (one ∙ high) ∙ (omega arith) in
    let full : so_far.seen + 1 ≡ 2 ^ suc counts.log = eqb-true (so_far.seen + 1) (2 ^ length so_far.bits) test ∙ ap (λ j. 2 ^ j) counts.long in
    let twice = pow-suc 2 (suc counts.log) in
    let pushed = length_push up.bits up.carry in
    let bit_small : weight bit ≤ 1 = weight-le bit in
    let value = counts.value in
    rw test (record {
      log = suc counts.log;
      value = whole ∙ (omega arith);
      seen = ap (λ j. j + 1) counts.seen;
      long = pushed ∙ ap (λ j. j + 1) (size ∙ counts.long) ∙ (omega arith);
      few = omega (arith, counts.few);
      most = omega (arith, counts.seen);
    })
  where
    weight-le : (v : Bool) → weight v ≤ 1
    weight-le true = omega arith
    weight-le false = omega arith
one_bit false n seen so_far bit s test counts =
    let up = (closed plain_rules (count_up plain_rules) (count_last plain_rules) (starting plain_rules bit) so_far.bits s).wires in
    let v = weight bit + number so_far.bits in
    let k = length so_far.bits in
    let digits : up.bits ≡ bits v k = last_bits (starting plain_rules bit) so_far.bits s in
    let size : length up.bits ≡ k = ap length digits ∙ length-bits v k in
    let not_full : (so_far.seen + 1 == 2 ^ suc counts.log) ≡ false = rw (← counts.long) test in
    let most = counts.most in
    let same = counts.seen in
    let less : so_far.seen + 1 < 2 ^ suc counts.log = grind (arith, nat_tests) in
    let bit_small : weight bit ≤ 1 = weight-le bit in
    let small : v < 2 ^ k = rw counts.long (omega (arith, counts.value, counts.few)) in
    let whole : number up.bits ≡ v = ap number digits ∙ number-bits v k ∙ mod-eq_of_lt small in
    rw test (record {
      log = counts.log;
      value = whole ∙ (omega (arith, counts.value));
      seen = ap (λ j. j + 1) counts.seen;
      long = size ∙ counts.long;
      few = omega (arith, counts.few);
      most = omega arith;
    })
  where
    weight-le : (v : Bool) → weight v ≤ 1
    weight-le true = omega arith
    weight-le false = omega arith

counting : (n seen : ℕ) (so_far : Counted Bool) (more : List Bool) (s : Plain) → Counts n seen so_far →
    Counts (n + ones_of more) (seen + length more) (folded plain_rules (count_bit plain_rules) so_far more s).wires
counting n seen so_far [] s counts =
    let none : n + 0 ≡ n = omega arith in
    let none' : seen + 0 ≡ seen = omega arith in
    rw (none, none') counts
counting n seen so_far (bit ∷ more) s counts =
    let one = count_bit plain_rules so_far bit s in
    let here = one_bit (so_far.seen + 1 == 2 ^ length so_far.bits) n seen so_far bit s refl counts in
    let rest = counting (n + weight bit) (seen + 1) one.wires more one.state here in
    let sum : n + (weight bit + ones_of more) ≡ n + weight bit + ones_of more = omega arith in
    let sum' : seen + suc (length more) ≡ seen + 1 + length more = omega arith in
    rw (sum, sum') rest

pub counted_number : (a : List Bool) (s : Plain) → number ((counted plain_rules a s).wires.bits) ≡ ones_of a
counted_number [] s = refl
counted_number (bit ∷ more) s =
    (counting (weight bit) 1 (record { seen = 1; bits = bit ∷ [] }) more s (first bit)).value
  where
    first : (bit : Bool) → Counts (weight bit) 1 (record { seen = 1; bits = bit ∷ [] })
    first true = record { log = 0; value = refl; seen = refl; long = refl; few = omega arith; most = omega arith }
    first false = record { log = 0; value = refl; seen = refl; long = refl; few = omega arith; most = omega arith }
