-- Laws of the numbers of inputs, and of how long their lines are.
use Rattle.std.proofs.Common.{◌≡◌, ℕ, zero, suc, ◌+◌, ◌*◌, ◌^◌, ◌<◌, ◌≤◌, List, [], ◌∷◌, ◌++◌, length, map, replicate, refl, ap, ◌∙◌, sym, append_assoc, arith}
use Rattle.std.specs.List.{concat}
use Rattle.std.specs.Fmt.{decimal}
use Rattle.std.proofs.Math.Nat.{mod-lt}
use Rattle.std.proofs.lemmas.List.{length-append, length-replicate, replicate-append-replicate}
use Rattle.std.proofs.lemmas.Fmt.{length-decimal-le}
use Rattle.mage_gen.specs.Generator.{next_number, numbers_from, last_from, lists_from, input_lines}

-- numbers below 2 to 32
abbrev pub AreSmall : List ℕ → Type 0
AreSmall [] = Unit {0}
AreSmall (n ∷ ns) = (n < 2 ^ 32) × AreSmall ns

pub numbers_are_small : (value count : ℕ) → AreSmall (numbers_from value count)
numbers_are_small value zero = tt
numbers_are_small value (suc count) =
    (mod-lt (1664525 * value + 1013904223) (omega arith), numbers_are_small (next_number value) count)

pub length-numbers_from : (value count : ℕ) → length (numbers_from value count) ≡ count
length-numbers_from value zero = refl
length-numbers_from value (suc count) = ap suc (length-numbers_from (next_number value) count)

-- the numbers of two runs, one after the other
pub numbers_from-add : (value first more : ℕ) → numbers_from value (first + more) ≡ numbers_from value first ++ numbers_from (last_from value first) more
numbers_from-add value zero more = let e : zero + more ≡ more = omega arith in ap (numbers_from value) e
numbers_from-add value (suc first) more =
    let e : suc first + more ≡ suc (first + more) = omega arith in
    ap (numbers_from value) e ∙ ap (λ ns. next_number value ∷ ns) (numbers_from-add (next_number value) first more)

one_worker_more : (workers each : ℕ) → suc workers * each ≡ each + workers * each
one_worker_more workers each = omega arith

-- the workers' lists, joined
pub concat-lists_from : (value workers each : ℕ) → concat (lists_from value workers each) ≡ numbers_from value (workers * each)
concat-lists_from value zero each = let e : zero * each ≡ zero = omega arith in sym (ap (numbers_from value) e)
concat-lists_from value (suc workers) each =
    ap (λ ns. numbers_from value each ++ ns) (concat-lists_from (last_from value each) workers each)
    ∙ sym (ap (numbers_from value) (one_worker_more workers each) ∙ numbers_from-add value each (workers * each))

-- and their widths, joined
pub concat-widths : (workers each : ℕ) → concat (replicate workers (replicate each 32)) ≡ replicate (workers * each) 32
concat-widths zero each = let e : zero * each ≡ zero = omega arith in sym (ap (λ n. replicate n 32) e)
concat-widths (suc workers) each =
    ap (λ ws. replicate each 32 ++ ws) (concat-widths workers each)
    ∙ replicate-append-replicate each (workers * each) 32
    ∙ sym (ap (λ n. replicate n 32) (one_worker_more workers each))

-- one line more
pub one_line_more : (old new whole : List ℕ) (value next left less : ℕ) → left ≡ suc less → next ≡ next_number value → new ≡ old ++ (decimal next ++ 10 ∷ []) →
    old ++ input_lines (numbers_from value left) ≡ whole → new ++ input_lines (numbers_from next less) ≡ whole
one_line_more old new whole value next left less turn number line before =
    ap (λ bytes. bytes ++ input_lines (numbers_from next less)) line
    ∙ append_assoc old (decimal next ++ 10 ∷ []) (input_lines (numbers_from next less))
    ∙ sym (ap (λ n. old ++ input_lines (numbers_from value n)) turn ∙ ap (λ n. old ++ ((decimal n ++ 10 ∷ []) ++ input_lines (numbers_from n less))) (sym number))
    ∙ before

-- the last number, one number later
pub last_one_later : (value next left less whole : ℕ) → left ≡ suc less → next ≡ next_number value → last_from value left ≡ whole → last_from next less ≡ whole
last_one_later value next left less whole turn number before =
    sym (ap (last_from value) turn ∙ ap (λ n. last_from n less) (sym number)) ∙ before

-- as many numbers as widths
pub same_lengths : (value workers each : ℕ) → map (length {A = ℕ}) (lists_from value workers each) ≡ map (length {A = ℕ}) (replicate workers (replicate each 32))
same_lengths value zero each = refl
same_lengths value (suc workers) each =
    let own : length (numbers_from value each) ≡ length {A = ℕ} (replicate each 32) = length-numbers_from value each ∙ sym (length-replicate {A = ℕ} each 32) in
    ap (λ n. n ∷ map (length {A = ℕ}) (lists_from (last_from value each) workers each)) own
    ∙ ap (λ ns. length {A = ℕ} (replicate each 32) ∷ ns) (same_lengths (last_from value each) workers each)

-- a line of a number below 2 to 32 has at most eleven bytes
pub lines_are_short : (ns : List ℕ) → AreSmall ns → length (input_lines ns) ≤ 11 * length ns
lines_are_short [] small = omega arith
lines_are_short (n ∷ ns) small =
    let digits : length (decimal n) ≤ 10 = length-decimal-le 10 n (omega arith) (omega (arith, small.0)) (omega (arith, small.0)) in
    let line : length (decimal n ++ 10 ∷ []) ≡ length (decimal n) + 1 = length-append (decimal n) (10 ∷ []) in
    let all : length (input_lines (n ∷ ns)) ≡ length (decimal n ++ 10 ∷ []) + length (input_lines ns) = length-append (decimal n ++ 10 ∷ []) (input_lines ns) in
    omega (arith, digits, line, all, lines_are_short ns small.1)

-- how long lists are when they are joined
abbrev pub total : List (List ℕ) → ℕ
total [] = 0
total (xs ∷ xss) = length xs + total xss

pub length-concat : (xss : List (List ℕ)) → length (concat xss) ≡ total xss
length-concat [] = refl
length-concat (xs ∷ xss) = length-append xs (concat xss) ∙ ap (λ n. length xs + n) (length-concat xss)
