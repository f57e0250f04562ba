-- What circuits of differences and comparisons come to on plain wires.
use Rattle.std.proofs.Common.{◌≡◌, ◌<◌, ℕ, zero, suc, ◌+◌, ◌-◌, ◌*◌, ◌/◌, ◌^◌, nat_lt, List, [], ◌∷◌, ◌++◌, Bool, true, false, not, ◌&&◌, length, take, drop, refl, sym, ap, ◌∙◌, arith, inl, inr}
use Rattle.std.proofs.lemmas.Bool.{cases_lt}
use Rattle.std.proofs.lemmas.Bool.Decides.{nat_tests}
use Rattle.std.proofs.Math.Nat.{div-eq_of_lt, div-eq_of_lt-le}
use Rattle.mage_bits.specs.Bits.{bits, number}
use Rattle.mage_bits.proofs.BitLaws.{weight, number-lt}
use Rattle.mage_driver.specs.Circuits.{Made, folded, closed}
use Rattle.mage_driver.specs.Operations.{Carried, starting, add_bit, add_last, subtract_bit, subtract_last, subtracted, first_carry, compared, less}
use Rattle.mage_plain.specs.Plain.{Plain, plain_rules, differ}
use Rattle.mage_circuit_laws.proofs.Sums.{firsts, seconds, turned, total, carry_of, length-turned, length-seconds, subtracted_as, closed_bits, compared_carry, total-turned, total-cons, bits-double, first_sum, first_of}

turned-take : (n : ℕ) (pairs : List (Bool × Bool)) → turned (take n pairs) ≡ take n (turned pairs)
turned-take zero pairs = refl
turned-take (suc n) [] = refl
turned-take (suc n) (pair ∷ pairs) = ap (λ ps. (pair.0, not pair.1) ∷ ps) (turned-take n pairs)

turned-drop : (n : ℕ) (pairs : List (Bool × Bool)) → turned (drop n pairs) ≡ drop n (turned pairs)
turned-drop zero pairs = refl
turned-drop (suc n) [] = refl
turned-drop (suc n) (pair ∷ pairs) = turned-drop n pairs

last_as : (x : Carried Bool) (pairs : List (Bool × Bool)) (s : Plain) →
    folded plain_rules (subtract_last plain_rules) x pairs s ≡ folded plain_rules (add_last plain_rules) x (turned pairs) s
last_as x [] s = refl
last_as x (pair ∷ pairs) s =
    let one = subtract_last plain_rules x pair s in
    ap (λ (m : Made Plain Bool (Carried Bool)). record { calls = one.calls ++ m.calls; state = m.state; wires = m.wires }) (last_as one.wires pairs one.state)

closed_as : (x : Carried Bool) (pairs : List (Bool × Bool)) (s : Plain) →
    (closed plain_rules (subtract_bit plain_rules) (subtract_last plain_rules) x pairs s).wires ≡ (closed plain_rules (add_bit plain_rules) (add_last plain_rules) x (turned pairs) s).wires
closed_as x pairs s =
    let n = length pairs - 1 in
    let front = folded plain_rules (subtract_bit plain_rules) x (take n pairs) s in
    let same_front : front ≡ folded plain_rules (add_bit plain_rules) x (take n (turned pairs)) s =
    subtracted_as x (take n pairs) s ∙ ap (λ ps. folded plain_rules (add_bit plain_rules) x ps s) (turned-take n pairs) in
    let same_end : (folded plain_rules (subtract_last plain_rules) front.wires (drop n pairs) front.state).wires ≡ (folded plain_rules (add_last plain_rules) front.wires (drop n (turned pairs)) front.state).wires =
    ap (λ (m : Made Plain Bool (Carried Bool)). m.wires) (last_as front.wires (drop n pairs) front.state ∙ ap (λ ps. folded plain_rules (add_last plain_rules) front.wires ps front.state) (turned-drop n pairs)) in
    same_end
    ∙ ap (λ (m : Made Plain Bool (Carried Bool)). (folded plain_rules (add_last plain_rules) m.wires (drop n (turned pairs)) m.state).wires) same_front
    ∙ ap (λ k. (folded plain_rules (add_last plain_rules) (folded plain_rules (add_bit plain_rules) x (take k (turned pairs)) s).wires (drop k (turned pairs)) ((folded plain_rules (add_bit plain_rules) x (take k (turned pairs)) s).state)).wires)
    (ap (λ (k : ℕ). k - 1) (sym (length-turned pairs)))

-- a difference
pub subtracted_bits : (pairs : List (Bool × Bool)) (s : Plain) →
    (subtracted plain_rules pairs s).wires ≡ bits (total true (turned pairs)) (length pairs)
subtracted_bits [] s = refl
subtracted_bits (pair ∷ []) s =
    let d = differ pair.0 pair.1 in
    let c = carry_of pair.0 (not pair.1) true in
    let v : total true (turned (pair ∷ [])) ≡ weight d + 2 * total c [] =
    total-cons true (pair.0, not pair.1) [] ∙ ap (λ e. weight e + 2 * total c []) (sym (first_sum pair.0 pair.1)) in
    sym (ap (λ n. bits n 1) v ∙ bits-double d (total c []) 0)
subtracted_bits (pair ∷ next ∷ pairs) s =
    let first = first_carry plain_rules pair s in
    let d = differ pair.0 pair.1 in
    let c = not (not pair.0 && pair.1) in
    let rest = ap (λ (x : Carried Bool). x.bits) (closed_as (starting plain_rules c) (next ∷ pairs) first.state) ∙ closed_bits (starting plain_rules c) (turned (next ∷ pairs)) first.state in
    let v : total true (turned (pair ∷ next ∷ pairs)) ≡ weight d + 2 * total c (turned (next ∷ pairs)) =
    total-cons true (pair.0, not pair.1) (turned (next ∷ pairs)) ∙ ap (λ e. weight e + 2 * total (carry_of pair.0 (not pair.1) true) (turned (next ∷ pairs))) (sym (first_sum pair.0 pair.1))
    ∙ ap (λ e. weight d + 2 * total e (turned (next ∷ pairs))) (sym (first_of pair.0 pair.1)) in
    ap (λ ds. d ∷ ds) (rest ∙ ap (λ n. bits (total c (turned (next ∷ pairs))) (suc n)) (length-turned pairs))
    ∙ sym (ap (λ n. bits n (suc (suc (length pairs)))) v ∙ bits-double d (total c (turned (next ∷ pairs))) (suc (length pairs)))

weight-test : (c : Bool) (t : Bool) → weight c ≡ weight t → c ≡ t
weight-test true true same = refl
weight-test false false same = refl
weight-test true false same = absurd (omega arith)
weight-test false true same = absurd (omega arith)

length-firsts : (pairs : List (Bool × Bool)) → length (firsts pairs) ≡ length pairs
length-firsts [] = refl
length-firsts (pair ∷ pairs) = ap suc (length-firsts pairs)

-- whether one number is less
pub less_bits : (pairs : List (Bool × Bool)) (s : Plain) → (less plain_rules pairs s).wires ≡ nat_lt (number (firsts pairs)) (number (seconds pairs))
less_bits pairs s =
    let a = number (firsts pairs) in
    let b = number (seconds pairs) in
    let n = length pairs in
    let c = (compared plain_rules pairs s).wires.carry in
    let whole = total-turned pairs in
    let small : a < 2 ^ n = rw (← length-firsts pairs) (number-lt (firsts pairs)) in
    let small' : b < 2 ^ n = rw (← length-seconds pairs) (number-lt (seconds pairs)) in
    let carry = compared_carry pairs s in
    elim (cases_lt a b) [
      | inl less ↦
          (let below : total true (turned pairs) / 2 ^ n ≡ 0 = div-eq_of_lt (omega arith) in
          let none : c ≡ false = weight-test c false (carry ∙ below) in
          let test : nat_lt a b ≡ true = grind (arith, nat_tests) in
          ap not none ∙ sym test)
      | inr more ↦
          (let part : total true (turned pairs) ≡ (a - b) + 2 ^ n = omega arith in
          let over : total true (turned pairs) / 2 ^ n ≡ 1 = div-eq_of_lt-le {k = 1} (2 ^ n) (omega arith) (omega arith) in
          let one : c ≡ true = weight-test c true (carry ∙ over) in
          let test : nat_lt a b ≡ false = grind (arith, nat_tests) in
          ap not one ∙ sym test)
    ]
