-- What circuits of sums come to on plain wires.
use Rattle.std.proofs.Common.{◌≡◌, ℕ, suc, ◌+◌, ◌-◌, ◌*◌, ◌/◌, ◌%◌, ◌^◌, List, [], ◌∷◌, ◌++◌, Bool, true, false, not, ◌&&◌, length, refl, sym, ap, ◌∙◌, arith, append_assoc}
use Rattle.std.specs.List.{zip}
use Rattle.std.proofs.lemmas.List.{append-nil}
use Rattle.std.proofs.lemmas.Nat.{shr-shr}
use Rattle.std.proofs.Math.Nat.{pow-suc, div-one}
use Rattle.mage_bits.specs.Bits.{bits, number}
use Rattle.mage_bits.proofs.BitLaws.{weight, number-cons, number-bits, bits-number, length-bits}
use Rattle.mage_driver.specs.Circuits.{Made, Circuit, folded, closed}
use Rattle.mage_driver.specs.Operations.{Carried, starting, add_bit, add_last, added, subtract_bit, first_carry, compared}
use Rattle.mage_plain.specs.Plain.{Plain, plain_rules, differ}

-- the first bits of some pairs, and the second ones
abbrev pub firsts : List (Bool × Bool) → List Bool
firsts [] = []
firsts (pair ∷ pairs) = pair.0 ∷ firsts pairs

abbrev pub seconds : List (Bool × Bool) → List Bool
seconds [] = []
seconds (pair ∷ pairs) = pair.1 ∷ seconds pairs

pub firsts-zip : (a b : List Bool) → length b ≡ length a → firsts (zip a b) ≡ a
firsts-zip [] [] same = refl
firsts-zip [] (y ∷ ys) same = refl
firsts-zip (x ∷ xs) [] same = absurd (omega arith)
firsts-zip (x ∷ xs) (y ∷ ys) same = ap (λ zs. x ∷ zs) (firsts-zip xs ys (omega arith))

pub seconds-zip : (a b : List Bool) → length b ≡ length a → seconds (zip a b) ≡ b
seconds-zip [] [] same = refl
seconds-zip [] (y ∷ ys) same = absurd (omega arith)
seconds-zip (x ∷ xs) [] same = refl
seconds-zip (x ∷ xs) (y ∷ ys) same = ap (λ zs. y ∷ zs) (seconds-zip xs ys (omega arith))

-- the carry and both numbers together
abbrev pub total : Bool → List (Bool × Bool) → ℕ
total c pairs = weight c + number (firsts pairs) + number (seconds pairs)

-- the digits of a number whose lowest digit is known
pub bits-double : (d : Bool) (v n : ℕ) → bits (weight d + 2 * v) (suc n) ≡ d ∷ bits v n
bits-double true v n =
    let last : (1 + 2 * v) % 2 ≡ 1 = omega arith in
    let front : (1 + 2 * v) / 2 ≡ v = omega arith in
    rw (last, front) refl
bits-double false v n =
    let last : (0 + 2 * v) % 2 ≡ 0 = omega arith in
    let front : (0 + 2 * v) / 2 ≡ v = omega arith in
    rw (last, front) refl

pub half-double : (d : Bool) (v : ℕ) → (weight d + 2 * v) / 2 ≡ v
half-double true v = omega arith
half-double false v = omega arith

-- one bit of a sum, and its carry
abbrev pub sum_of : Bool → Bool → Bool → Bool
sum_of a b c = differ (differ a b) c

abbrev pub carry_of : Bool → Bool → Bool → Bool
carry_of a b c = differ c (differ a c && differ b c)

pub full_adder : (a b c : Bool) → weight c + weight a + weight b ≡ weight (sum_of a b c) + 2 * weight (carry_of a b c)
full_adder true true true = refl
full_adder true true false = refl
full_adder true false true = refl
full_adder true false false = refl
full_adder false true true = refl
full_adder false true false = refl
full_adder false false true = refl
full_adder false false false = refl

pub half_adder : (a b : Bool) → weight a + weight b ≡ weight (differ a b) + 2 * weight (a && b)
half_adder true true = refl
half_adder true false = refl
half_adder false true = refl
half_adder false false = refl

pub total-cons : (c : Bool) (pair : Bool × Bool) (pairs : List (Bool × Bool)) →
    total c (pair ∷ pairs) ≡ weight (sum_of pair.0 pair.1 c) + 2 * total (carry_of pair.0 pair.1 c) pairs
total-cons c pair pairs =
    omega (arith, number-cons pair.0 (firsts pairs), number-cons pair.1 (seconds pairs), full_adder pair.0 pair.1 c)

-- the bits of a sum and its carry, over all bits
pub sum_bits : (x : Carried Bool) (pairs : List (Bool × Bool)) (s : Plain) →
    (folded plain_rules (add_bit plain_rules) x pairs s).wires.bits ≡ x.bits ++ bits (total x.carry pairs) (length pairs)
sum_bits x [] s = sym (append-nil x.bits)
sum_bits x (pair ∷ pairs) s =
    let d = sum_of pair.0 pair.1 x.carry in
    let next : Carried Bool = record { carry = carry_of pair.0 pair.1 x.carry; bits = x.bits ++ d ∷ [] } in
    let rest = sum_bits next pairs ((add_bit plain_rules x pair s).state) in
    let digits : bits (total x.carry (pair ∷ pairs)) (suc (length pairs)) ≡ d ∷ bits (total next.carry pairs) (length pairs) =
    ap (λ v. bits v (suc (length pairs))) (total-cons x.carry pair pairs) ∙ bits-double d (total next.carry pairs) (length pairs) in
    rest ∙ append_assoc x.bits (d ∷ []) (bits (total next.carry pairs) (length pairs)) ∙ ap (λ ds. x.bits ++ ds) (sym digits)

pub sum_carry : (x : Carried Bool) (pairs : List (Bool × Bool)) (s : Plain) →
    weight ((folded plain_rules (add_bit plain_rules) x pairs s).wires.carry) ≡ total x.carry pairs / 2 ^ length pairs
sum_carry x [] s = omega (arith, div-one (total x.carry []))
sum_carry x (pair ∷ pairs) s =
    let d = sum_of pair.0 pair.1 x.carry in
    let next : Carried Bool = record { carry = carry_of pair.0 pair.1 x.carry; bits = x.bits ++ d ∷ [] } in
    let rest = sum_carry next pairs ((add_bit plain_rules x pair s).state) in
    let half : total x.carry (pair ∷ pairs) / 2 ≡ total next.carry pairs =
    ap (λ v. v / 2) (total-cons x.carry pair pairs) ∙ half-double d (total next.carry pairs) in
    let more : 1 + length pairs ≡ suc (length pairs) = omega arith in
    rest ∙ ap (λ v. v / 2 ^ length pairs) (sym half) ∙ shr-shr (total x.carry (pair ∷ pairs)) 1 (length pairs) ∙ ap (λ k. total x.carry (pair ∷ pairs) / 2 ^ k) more

-- a closed fold, one item on
pub closed_more : {X I : Type 0} (step last : X → I → Circuit plain_rules X) (x : X) (i j : I) (items : List I) (s : Plain) →
    (closed plain_rules step last x (i ∷ j ∷ items) s).wires ≡ (closed plain_rules step last (step x i s).wires (j ∷ items) ((step x i s).state)).wires
closed_more step last x i j items s =
    let more : length (i ∷ j ∷ items) - 1 ≡ suc (length (j ∷ items) - 1) = omega arith in
    rw more refl

-- the bits of a sum without the last carry
pub closed_bits : (x : Carried Bool) (pairs : List (Bool × Bool)) (s : Plain) →
    (closed plain_rules (add_bit plain_rules) (add_last plain_rules) x pairs s).wires.bits ≡ x.bits ++ bits (total x.carry pairs) (length pairs)
closed_bits x [] s = sym (append-nil x.bits)
closed_bits x (pair ∷ []) s =
    let d = sum_of pair.0 pair.1 x.carry in
    let digits : bits (total x.carry (pair ∷ [])) 1 ≡ d ∷ [] =
    ap (λ v. bits v 1) (total-cons x.carry pair []) ∙ bits-double d (total (carry_of pair.0 pair.1 x.carry) []) 0 in
    ap (λ ds. x.bits ++ ds) (sym digits)
closed_bits x (pair ∷ next ∷ pairs) s =
    let d = sum_of pair.0 pair.1 x.carry in
    let so_far : Carried Bool = record { carry = carry_of pair.0 pair.1 x.carry; bits = x.bits ++ d ∷ [] } in
    let rest = closed_bits so_far (next ∷ pairs) ((add_bit plain_rules x pair s).state) in
    let step = ap (λ (c : Carried Bool). c.bits) (closed_more (add_bit plain_rules) (add_last plain_rules) x pair next pairs s) in
    let digits : bits (total x.carry (pair ∷ next ∷ pairs)) (suc (suc (length pairs))) ≡ d ∷ bits (total so_far.carry (next ∷ pairs)) (suc (length pairs)) =
    ap (λ v. bits v (suc (suc (length pairs)))) (total-cons x.carry pair (next ∷ pairs)) ∙ bits-double d (total so_far.carry (next ∷ pairs)) (suc (length pairs)) in
    step ∙ rest ∙ append_assoc x.bits (d ∷ []) (bits (total so_far.carry (next ∷ pairs)) (suc (length pairs))) ∙ ap (λ ds. x.bits ++ ds) (sym digits)

-- the digits of a remainder are those of the number
pub bits-mod : (v n : ℕ) → bits (v % 2 ^ n) n ≡ bits v n
bits-mod v n = ap (λ k. bits k n) (sym (number-bits v n)) ∙ ap (λ k. bits (number (bits v n)) k) (sym (length-bits v n)) ∙ bits-number (bits v n)

-- a sum
pub added_bits : (pairs : List (Bool × Bool)) (s : Plain) →
    (added plain_rules pairs s).wires ≡ bits (number (firsts pairs) + number (seconds pairs)) (length pairs)
added_bits [] s = refl
added_bits (pair ∷ []) s =
    let d = differ pair.0 pair.1 in
    let v : number (pair.0 ∷ []) + number (pair.1 ∷ []) ≡ weight d + 2 * weight (pair.0 && pair.1) =
    omega (arith, number-cons pair.0 [], number-cons pair.1 [], half_adder pair.0 pair.1) in
    sym (ap (λ n. bits n 1) v ∙ bits-double d (weight (pair.0 && pair.1)) 0)
added_bits (pair ∷ next ∷ pairs) s =
    let d = differ pair.0 pair.1 in
    let both = pair.0 && pair.1 in
    let rest = closed_bits (starting plain_rules both) (next ∷ pairs) ((plain_rules.and s pair.0 pair.1).0) in
    let v : number (firsts (pair ∷ next ∷ pairs)) + number (seconds (pair ∷ next ∷ pairs)) ≡ weight d + 2 * total both (next ∷ pairs) =
    omega (arith, number-cons pair.0 (firsts (next ∷ pairs)), number-cons pair.1 (seconds (next ∷ pairs)), half_adder pair.0 pair.1) in
    ap (λ ds. d ∷ ds) rest ∙ sym (ap (λ n. bits n (suc (suc (length pairs)))) v ∙ bits-double d (total both (next ∷ pairs)) (suc (length pairs)))

-- the second bits turned
abbrev pub turned : List (Bool × Bool) → List (Bool × Bool)
turned [] = []
turned (pair ∷ pairs) = (pair.0, not pair.1) ∷ turned pairs

pub length-turned : (pairs : List (Bool × Bool)) → length (turned pairs) ≡ length pairs
length-turned [] = refl
length-turned (pair ∷ pairs) = ap suc (length-turned pairs)

pub firsts-turned : (pairs : List (Bool × Bool)) → firsts (turned pairs) ≡ firsts pairs
firsts-turned [] = refl
firsts-turned (pair ∷ pairs) = ap (λ xs. pair.0 ∷ xs) (firsts-turned pairs)

weight-not : (b : Bool) → weight (not b) + weight b ≡ 1
weight-not true = refl
weight-not false = refl

pub length-seconds : (pairs : List (Bool × Bool)) → length (seconds pairs) ≡ length pairs
length-seconds [] = refl
length-seconds (pair ∷ pairs) = ap suc (length-seconds pairs)

-- a number and its opposite
pub number-turned : (pairs : List (Bool × Bool)) → number (seconds (turned pairs)) + number (seconds pairs) + 1 ≡ 2 ^ length pairs
number-turned [] = refl
number-turned (pair ∷ pairs) =
    omega (arith, number-cons (not pair.1) (seconds (turned pairs)), number-cons pair.1 (seconds pairs), number-turned pairs, weight-not pair.1, pow-suc 2 (length pairs))

-- a difference is a sum with the second number turned
pub subtracted_as : (x : Carried Bool) (pairs : List (Bool × Bool)) (s : Plain) →
    folded plain_rules (subtract_bit plain_rules) x pairs s ≡ folded plain_rules (add_bit plain_rules) x (turned pairs) s
subtracted_as x [] s = refl
subtracted_as x (pair ∷ pairs) s =
    let one = subtract_bit plain_rules x pair s in
    ap (λ (m : Made Plain Bool (Carried Bool)). record { calls = one.calls ++ m.calls; state = m.state; wires = m.wires }) (subtracted_as one.wires pairs one.state)

pub first_sum : (a b : Bool) → differ a b ≡ sum_of a (not b) true
first_sum true true = refl
first_sum true false = refl
first_sum false true = refl
first_sum false false = refl

pub first_of : (a b : Bool) → not (not a && b) ≡ carry_of a (not b) true
first_of true true = refl
first_of true false = refl
first_of false true = refl
first_of false false = refl

-- the digits of a difference and the carry of its last bit
pub compared_bits : (pairs : List (Bool × Bool)) (s : Plain) →
    (compared plain_rules pairs s).wires.bits ≡ bits (total true (turned pairs)) (length pairs)
compared_bits [] s = refl
compared_bits (pair ∷ pairs) s =
    let first = first_carry plain_rules pair s in
    let c = not (not pair.0 && pair.1) in
    let rest = ap (λ (m : Made Plain Bool (Carried Bool)). m.wires.bits) (subtracted_as (starting plain_rules c) pairs first.state) ∙ sum_bits (starting plain_rules c) (turned pairs) first.state in
    let v : total true (turned (pair ∷ pairs)) ≡ weight (differ pair.0 pair.1) + 2 * total c (turned pairs) =
    total-cons true (pair.0, not pair.1) (turned pairs) ∙ ap (λ d. weight d + 2 * total (carry_of pair.0 (not pair.1) true) (turned pairs)) (sym (first_sum pair.0 pair.1))
    ∙ ap (λ d. weight (differ pair.0 pair.1) + 2 * total d (turned pairs)) (sym (first_of pair.0 pair.1)) in
    ap (λ ds. differ pair.0 pair.1 ∷ ds) (rest ∙ ap (λ n. bits (total c (turned pairs)) n) (length-turned pairs))
    ∙ sym (ap (λ n. bits n (suc (length pairs))) v ∙ bits-double (differ pair.0 pair.1) (total c (turned pairs)) (length pairs))

pub compared_carry : (pairs : List (Bool × Bool)) (s : Plain) →
    weight ((compared plain_rules pairs s).wires.carry) ≡ total true (turned pairs) / 2 ^ length pairs
compared_carry [] s = refl
compared_carry (pair ∷ pairs) s =
    let first = first_carry plain_rules pair s in
    let c = not (not pair.0 && pair.1) in
    let rest = ap (λ (m : Made Plain Bool (Carried Bool)). weight m.wires.carry) (subtracted_as (starting plain_rules c) pairs first.state) ∙ sum_carry (starting plain_rules c) (turned pairs) first.state in
    let v : total true (turned (pair ∷ pairs)) ≡ weight (differ pair.0 pair.1) + 2 * total c (turned pairs) =
    total-cons true (pair.0, not pair.1) (turned pairs) ∙ ap (λ d. weight d + 2 * total (carry_of pair.0 (not pair.1) true) (turned pairs)) (sym (first_sum pair.0 pair.1))
    ∙ ap (λ d. weight (differ pair.0 pair.1) + 2 * total d (turned pairs)) (sym (first_of pair.0 pair.1)) in
    let half : total true (turned (pair ∷ pairs)) / 2 ≡ total c (turned pairs) = ap (λ n. n / 2) v ∙ half-double (differ pair.0 pair.1) (total c (turned pairs)) in
    let more : 1 + length pairs ≡ suc (length pairs) = omega arith in
    rest ∙ ap (λ k. total c (turned pairs) / 2 ^ k) (length-turned pairs) ∙ ap (λ n. n / 2 ^ length pairs) (sym half)
    ∙ shr-shr (total true (turned (pair ∷ pairs))) 1 (length pairs) ∙ ap (λ k. total true (turned (pair ∷ pairs)) / 2 ^ k) more

-- what is subtracted from: the first number and 2 to the width, without the second
pub total-turned : (pairs : List (Bool × Bool)) → total true (turned pairs) + number (seconds pairs) ≡ number (firsts pairs) + 2 ^ length pairs
total-turned pairs = omega (arith, number-turned pairs, ap number (firsts-turned pairs))
