-- What circuits that go bit by bit come to on plain wires.
use Rattle.std.proofs.Common.{◌≡◌, ◌≤◌, ℕ, zero, suc, List, [], ◌∷◌, ◌++◌, Bool, true, false, cond, ◌&&◌, take, map, replicate, refl, sym, ap, ◌∙◌, arith, append_assoc}
use Rattle.std.proofs.lemmas.List.{append-nil}
use Rattle.mage_bits.specs.Bits.{bits, number}
use Rattle.mage_bits.proofs.BitLaws.{number-cons}
use Rattle.mage_driver.specs.Circuits.{Circuit, folded}
use Rattle.mage_driver.specs.Operations.{one_more, each, choose_bit, replace_bit}
use Rattle.mage_plain.specs.Plain.{Plain, plain_rules, differ}
use Rattle.mage_circuit_laws.proofs.Sums.{firsts, seconds, bits-double}

-- one bit for each item
folded_bits : {I : Type 0} (bit : I → Circuit plain_rules Bool) (f : I → Bool) → ((i : I) (s : Plain) → (bit i s).wires ≡ f i) →
    (so_far : List Bool) (items : List I) (s : Plain) → (folded plain_rules (one_more plain_rules bit) so_far items s).wires ≡ so_far ++ map f items
folded_bits bit f gives so_far [] s = sym (append-nil so_far)
folded_bits bit f gives so_far (i ∷ is) s =
    folded_bits bit f gives (so_far ++ (bit i s).wires ∷ []) is ((bit i s).state)
    ∙ append_assoc so_far ((bit i s).wires ∷ []) (map f is)
    ∙ ap (λ b. so_far ++ b ∷ map f is) (gives i s)

pub each_bits : {I : Type 0} (bit : I → Circuit plain_rules Bool) (f : I → Bool) → ((i : I) (s : Plain) → (bit i s).wires ≡ f i) →
    (items : List I) (s : Plain) → (each plain_rules bit items s).wires ≡ map f items
each_bits bit f gives items s = folded_bits bit f gives [] items s

choose_is : (c a b : Bool) → differ b (c && differ a b) ≡ cond c a b
choose_is true true true = refl
choose_is true true false = refl
choose_is true false true = refl
choose_is true false false = refl
choose_is false true true = refl
choose_is false true false = refl
choose_is false false true = refl
choose_is false false false = refl

replace_is : (c a b : Bool) → differ a (c && differ a b) ≡ cond c b a
replace_is true true true = refl
replace_is true true false = refl
replace_is true false true = refl
replace_is true false false = refl
replace_is false true true = refl
replace_is false true false = refl
replace_is false false true = refl
replace_is false false false = refl

chosen : (c : Bool) (pairs : List (Bool × Bool)) → map (λ pair. cond c pair.0 pair.1) pairs ≡ cond c (firsts pairs) (seconds pairs)
chosen true [] = refl
chosen false [] = refl
chosen true (pair ∷ pairs) = ap (λ xs. pair.0 ∷ xs) (chosen true pairs)
chosen false (pair ∷ pairs) = ap (λ xs. pair.1 ∷ xs) (chosen false pairs)

replaced : (c : Bool) (pairs : List (Bool × Bool)) → map (λ pair. cond c pair.1 pair.0) pairs ≡ cond c (seconds pairs) (firsts pairs)
replaced true [] = refl
replaced false [] = refl
replaced true (pair ∷ pairs) = ap (λ xs. pair.1 ∷ xs) (replaced true pairs)
replaced false (pair ∷ pairs) = ap (λ xs. pair.0 ∷ xs) (replaced false pairs)

-- a choice of two numbers
pub chosen_bits : (c : Bool) (pairs : List (Bool × Bool)) (s : Plain) → (each plain_rules (choose_bit plain_rules c) pairs s).wires ≡ cond c (firsts pairs) (seconds pairs)
chosen_bits c pairs s = each_bits (choose_bit plain_rules c) (λ pair. cond c pair.0 pair.1) (λ pair t. choose_is c pair.0 pair.1) pairs s ∙ chosen c pairs

pub replaced_bits : (c : Bool) (pairs : List (Bool × Bool)) (s : Plain) → (each plain_rules (replace_bit plain_rules c) pairs s).wires ≡ cond c (seconds pairs) (firsts pairs)
replaced_bits c pairs s = each_bits (replace_bit plain_rules c) (λ pair. cond c pair.1 pair.0) (λ pair t. replace_is c pair.0 pair.1) pairs s ∙ replaced c pairs

-- zeros
pub bits-zero : (n : ℕ) → bits 0 n ≡ replicate n false
bits-zero zero = refl
bits-zero (suc n) = ap (λ ds. false ∷ ds) (bits-zero n)

-- zeros past the front that is taken make no difference
take_zeros : (k m : ℕ) → k ≤ m → take k (replicate m false) ≡ replicate k false
take_zeros zero m less = refl
take_zeros (suc k) zero less = absurd (omega arith)
take_zeros (suc k) (suc m) less = ap (λ ds. false ∷ ds) (take_zeros k m (omega arith))

-- the lowest digits of a number, with zeros above it
pub resized_bits : (a : List Bool) (n m : ℕ) → n ≤ m → take n (a ++ replicate m false) ≡ bits (number a) n
resized_bits a zero m less = refl
resized_bits [] (suc n) m less = take_zeros (suc n) m less ∙ sym (bits-zero (suc n))
resized_bits (x ∷ xs) (suc n) m less =
    ap (λ ds. x ∷ ds) (resized_bits xs n m (omega arith)) ∙ sym (ap (λ v. bits v (suc n)) (number-cons x xs) ∙ bits-double x (number xs) n)
