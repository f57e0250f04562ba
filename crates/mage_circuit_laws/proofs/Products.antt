-- What circuits of products come to on plain wires.
use Rattle.std.proofs.Common.{◌≡◌, ◌≤◌, ℕ, zero, suc, ◌+◌, ◌-◌, ◌*◌, ◌/◌, ◌%◌, ◌^◌, ◌==◌, List, [], ◌∷◌, ◌++◌, Bool, true, false, ◌&&◌, length, take, map, refl, sym, ap, ◌∙◌, arith, append_assoc}
use Rattle.std.specs.List.{zip}
use Rattle.std.proofs.lemmas.List.{length-map, length-take}
use Rattle.std.proofs.lemmas.Slice.Zip.{length-zip}
use Rattle.std.proofs.Math.Nat.{mod-add-mod}
use Rattle.mage_bits.specs.Bits.{bits, number}
use Rattle.mage_bits.proofs.BitLaws.{weight, number-cons, number-bits, bits-number, length-bits}
use Rattle.mage_driver.specs.Circuits.{folded, anded}
use Rattle.mage_driver.specs.Operations.{Summed, row, added, multiply_bit, multiplied}
use Rattle.mage_plain.specs.Plain.{Plain, plain_rules}
use Rattle.mage_circuit_laws.proofs.Sums.{seconds, firsts-zip, seconds-zip, bits-double, bits-mod, added_bits}
use Rattle.mage_circuit_laws.proofs.Choices.{each_bits}

-- two numbers that leave the same have the same digits
pub bits-same : (u v n : ℕ) → u % 2 ^ n ≡ v % 2 ^ n → bits u n ≡ bits v n
bits-same u v n same = sym (bits-mod u n) ∙ ap (λ k. bits k n) same ∙ bits-mod v n

-- the lowest digits of digits
pub take-bits : (v n m : ℕ) → n ≤ m → take n (bits v m) ≡ bits v n
take-bits v zero m less = refl
take-bits v (suc n) zero less = absurd (omega arith)
take-bits v (suc n) (suc m) less = ap (λ ds. (v % 2 == 1) ∷ ds) (take-bits (v / 2) n m (omega arith))

-- the number of the lowest bits
pub number-take : (a : List Bool) (n : ℕ) → n ≤ length a → number (take n a) ≡ number a % 2 ^ n
number-take a n less =
    ap (λ ds. number (take n ds)) (sym (bits-number a)) ∙ ap number (take-bits (number a) n (length a) less) ∙ number-bits (number a) n

and-false : (xs : List Bool) → number (map (λ x. x && false) xs) ≡ 0
and-false [] = refl
and-false (true ∷ xs) = omega (arith, number-cons false (map (λ x. x && false) xs), and-false xs)
and-false (false ∷ xs) = omega (arith, number-cons false (map (λ x. x && false) xs), and-false xs)

and-true : (xs : List Bool) → map (λ x. x && true) xs ≡ xs
and-true [] = refl
and-true (true ∷ xs) = ap (λ ys. true ∷ ys) (and-true xs)
and-true (false ∷ xs) = ap (λ ys. false ∷ ys) (and-true xs)

pub number-row : (xs : List Bool) (b : Bool) → number (map (λ x. x && b) xs) ≡ weight b * number xs
number-row xs true = let one : number xs ≡ 1 * number xs = omega arith in ap number (and-true xs) ∙ one
number-row xs false = let none : 0 ≡ 0 * number xs = omega arith in and-false xs ∙ none

-- what a row adds, beside anything else, to the digits that are kept
row-adds : (a : ℕ) (b : Bool) (r n : ℕ) → (weight b * (a % 2 ^ n) + r) % 2 ^ n ≡ (weight b * a + r) % 2 ^ n
row-adds a true r n =
    let here : 1 * (a % 2 ^ n) + r ≡ a % 2 ^ n + r = omega arith in
    let there : 1 * a + r ≡ a + r = omega arith in
    ap (λ v. v % 2 ^ n) here ∙ mod-add-mod a (2 ^ n) r ∙ ap (λ v. v % 2 ^ n) (sym there)
row-adds a false r n =
    let same : 0 * (a % 2 ^ n) + r ≡ 0 * a + r = omega arith in
    ap (λ v. v % 2 ^ n) same

-- the bits of a product as far as it is made, from the bits that are done and the sum of the others
abbrev pub rows_from : List Bool → List Bool → List Bool → List Bool → Plain → Summed Bool
rows_from a done sum bs s = (folded plain_rules (multiply_bit plain_rules a) (record { done = done; sum = sum }) bs s).wires

-- the rows from one bit of the second number on
pub rows_bits : (a done sum bs : List Bool) (s : Plain) → length sum ≡ suc (length bs) → length bs ≤ length a →
    (rows_from a done sum bs s).done ++ (rows_from a done sum bs s).sum
    ≡ done ++ bits (number sum + 2 * (number a * number bs)) (suc (length bs))
rows_bits a done sum [] s long within =
    let v : number sum + 2 * (number a * 0) ≡ number sum = omega arith in
    ap (λ ds. done ++ ds) (sym (bits-number sum) ∙ ap (λ n. bits (number sum) n) long ∙ ap (λ u. bits u 1) (sym v))
rows_bits a done [] (b ∷ bs) s long within = absurd (omega arith)
rows_bits a done (x ∷ xs) (b ∷ bs) s long within =
    let n = suc (length bs) in
    let part = take (length (x ∷ xs) - 1) a in
    let line = row plain_rules part b s in
    let line_is : line.wires ≡ map (λ y. y && b) part = each_bits (λ y. anded plain_rules y b) (λ y. y && b) (λ y t. refl) part s in
    let part_long : length part ≡ n = omega (arith, length-take (length (x ∷ xs) - 1) a) in
    let line_long : length line.wires ≡ n = ap length line_is ∙ length-map part (λ y. y && b) ∙ part_long in
    let xs_long : length xs ≡ n = omega arith in
    let pairs = zip xs line.wires in
    let pairs_long : length pairs ≡ n = omega (arith, length-zip xs line.wires) in
    let sum' = added plain_rules pairs line.state in
    let front : length (x ∷ xs) - 1 ≡ n = omega arith in
    let line_number : number line.wires ≡ weight b * (number a % 2 ^ n) =
    ap number line_is ∙ number-row part b ∙ ap (λ k. weight b * number (take k a)) front ∙ ap (λ v. weight b * v) (number-take a n within) in
    let sum_is : sum'.wires ≡ bits (number xs + weight b * (number a % 2 ^ n)) n =
    added_bits pairs line.state
    ∙ ap (λ ds. bits (number ds + number (seconds pairs)) (length pairs)) (firsts-zip xs line.wires (line_long ∙ sym xs_long))
    ∙ ap (λ ds. bits (number xs + number ds) (length pairs)) (seconds-zip xs line.wires (line_long ∙ sym xs_long))
    ∙ ap (λ v. bits (number xs + v) (length pairs)) line_number
    ∙ ap (λ k. bits (number xs + weight b * (number a % 2 ^ n)) k) pairs_long in
    let u = number xs + weight b * (number a % 2 ^ n) in
    let more = 2 * (number a * number bs) in
    let sum_number : number sum'.wires ≡ u % 2 ^ n = ap number sum_is ∙ number-bits u n in
    let sum_long : length sum'.wires ≡ suc (length bs) = ap length sum_is ∙ length-bits u n in
    let rest = rows_bits a (done ++ x ∷ []) sum'.wires bs sum'.state sum_long (omega arith) in
    let all = number xs + weight b * number a + more in
    let left : u + more ≡ weight b * (number a % 2 ^ n) + (number xs + more) = omega arith in
    let right : weight b * number a + (number xs + more) ≡ all = omega arith in
    let digits : bits (number sum'.wires + more) n ≡ bits all n =
    bits-same (number sum'.wires + more) all n
    (ap (λ v. (v + more) % 2 ^ n) sum_number ∙ mod-add-mod u (2 ^ n) more ∙ ap (λ v. v % 2 ^ n) left ∙ row-adds (number a) b (number xs + more) n ∙ ap (λ v. v % 2 ^ n) right) in
    let spread : number (x ∷ xs) + 2 * (number a * (weight b + 2 * number bs)) ≡ weight x + 2 * all = omega (arith, number-cons x xs) in
    let whole : number (x ∷ xs) + 2 * (number a * number (b ∷ bs)) ≡ weight x + 2 * all =
    ap (λ v. number (x ∷ xs) + 2 * (number a * v)) (number-cons b bs) ∙ spread in
    rest ∙ append_assoc done (x ∷ []) (bits (number sum'.wires + more) n)
    ∙ ap (λ ds. done ++ x ∷ ds) digits
    ∙ ap (λ ds. done ++ ds) (sym (ap (λ v. bits v (suc n)) whole ∙ bits-double x all n))

-- a product
pub multiplied_bits : (a b : List Bool) (s : Plain) → length a ≡ length b →
    (multiplied plain_rules a b s).wires ≡ bits (number a * number b) (length b)
multiplied_bits a [] s same = refl
multiplied_bits a (b ∷ bs) s same =
    let line = row plain_rules a b s in
    let line_is : line.wires ≡ map (λ y. y && b) a = each_bits (λ y. anded plain_rules y b) (λ y. y && b) (λ y t. refl) a s in
    let line_long : length line.wires ≡ suc (length bs) = ap length line_is ∙ length-map a (λ y. y && b) ∙ same in
    let line_number : number line.wires ≡ weight b * number a = ap number line_is ∙ number-row a b in
    let rest = rows_bits a [] line.wires bs line.state line_long (omega arith) in
    let spread : weight b * number a + 2 * (number a * number bs) ≡ number a * (weight b + 2 * number bs) = omega arith in
    let whole : number line.wires + 2 * (number a * number bs) ≡ number a * number (b ∷ bs) =
    ap (λ v. v + 2 * (number a * number bs)) line_number ∙ spread ∙ ap (λ v. number a * v) (sym (number-cons b bs)) in
    rest ∙ ap (λ v. bits v (suc (length bs))) whole
