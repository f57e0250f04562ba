-- The numbers of an input text fit their widths.
use Rattle.std.proofs.Common.{◌≡◌, ℕ, ◌+◌, ◌<◌, ◌^◌, List, [], ◌∷◌, ◌++◌, length, take, drop, Option, Some, None, Result, Ok, Err, refl, arith}
use Rattle.std.specs.List.{concat, AllZip}
use Rattle.std.proofs.lemmas.Bool.Decides.{nat_tests}
use Rattle.mage_texts.specs.InputText.{lines_of, number_of_line, numbers_of, with_first, cut_by_worker, by_worker, inputs_of, FitWidths}

-- a number is below 2 to its width
abbrev Fits : ℕ → ℕ → Type 0
Fits width number = number < 2 ^ width

number_of_line-fits : (width number : ℕ) (line : List ℕ) → number_of_line width line ≡ Some number → number < 2 ^ width
number_of_line-fits width number line e = grind (arith, nat_tests)

with_first-Ok : (line : ℕ) (number : Option ℕ) (others : Result (List ℕ) ℕ) (all : List ℕ) → with_first line number others ≡ Ok all → (n : ℕ) × (ns : List ℕ) × (number ≡ Some n) × (others ≡ Ok ns) × (n ∷ ns ≡ all)
with_first-Ok line None others all e = absurd (cc)
with_first-Ok line (Some n) (Ok ns) all e = (n, ns, refl, refl, cc)
with_first-Ok line (Some n) (Err fault) all e = absurd (cc)

numbers_of-fit : (first : ℕ) (lines : List (List ℕ)) (widths numbers : List ℕ) → numbers_of first lines widths ≡ Ok numbers → AllZip Fits widths numbers
numbers_of-fit first [] [] [] e = tt
numbers_of-fit first [] [] (n ∷ ns) e = absurd (cc)
numbers_of-fit first [] (width ∷ widths) numbers e = absurd (cc)
numbers_of-fit first (line ∷ lines) [] numbers e = absurd (cc)
numbers_of-fit first (line ∷ lines) (width ∷ widths) numbers e =
    let k = with_first-Ok first (number_of_line width line) (numbers_of (first + 1) lines widths) numbers e in
    rw (← k.4) (number_of_line-fits width k.0 line k.2, numbers_of-fit (first + 1) lines widths k.1 k.3)

AllZip-cut : (xs ys numbers : List ℕ) → AllZip Fits (xs ++ ys) numbers → AllZip Fits xs (take (length xs) numbers) × AllZip Fits ys (drop (length xs) numbers)
AllZip-cut [] ys numbers fit = (tt, fit)
AllZip-cut (x ∷ xs) ys [] fit = absurd fit
AllZip-cut (x ∷ xs) ys (n ∷ numbers) fit =
    let rest = AllZip-cut xs ys numbers fit.1 in
    ((fit.0, rest.0), rest.1)

by_worker-fit : (widths : List (List ℕ)) (numbers : List ℕ) → AllZip Fits (concat widths) numbers → FitWidths widths (by_worker widths numbers)
by_worker-fit [] numbers fit = tt
by_worker-fit (own ∷ others) numbers fit =
    let cut = AllZip-cut own (concat others) numbers fit in
    (cut.0, by_worker-fit others (drop (length own) numbers) cut.1)

cut-Ok : (widths : List (List ℕ)) (r : Result (List ℕ) ℕ) (all : List (List ℕ)) → cut_by_worker widths r ≡ Ok all → (ns : List ℕ) × (r ≡ Ok ns) × (by_worker widths ns ≡ all)
cut-Ok widths (Ok ns) all e = (ns, refl, cc)
cut-Ok widths (Err line) all e = absurd (cc)

pub FitWidths-from_inputs : (text : List ℕ) (widths numbers : List (List ℕ)) → inputs_of text widths ≡ Ok numbers → FitWidths widths numbers
FitWidths-from_inputs text widths numbers e =
    let k = cut-Ok widths (numbers_of 1 (lines_of text) (concat widths)) numbers e in
    rw (← k.2) (by_worker-fit widths k.0 (numbers_of-fit 1 (lines_of text) (concat widths) k.0 k.1))
