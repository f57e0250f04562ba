-- Turns of the loops that move wires.
use Rattle.std.proofs.Common.{◌≡◌, ◌<◌, ◌≤◌, ◌+◌, ◌-◌, ℕ, zero, suc, List, [], ◌∷◌, ◌++◌, length, get_or, set, take, replicate, refl, sym, ap, ◌∙◌, arith, append_assoc}
use Rattle.std.proofs.lemmas.List.{append-nil, take_all, take_more, take_more_set}

-- one more was written, of what is still to come
pub write_turn : {W : Type 0} (out whole rest : List W) (i : ℕ) (w : W) (rest' : List W) → take i out ++ rest ≡ whole → rest ≡ w ∷ rest' → i < length out → take (i + 1) (set out i w) ++ rest' ≡ whole
write_turn out whole rest i w rest' so_far split inside =
    ap (λ ys. ys ++ rest') (take_more_set out i w inside) ∙ append_assoc (take i out) (w ∷ []) rest' ∙ ap (λ ys. take i out ++ ys) (sym split) ∙ so_far

pub write_end : {W : Type 0} (out whole rest : List W) (i : ℕ) → take i out ++ rest ≡ whole → rest ≡ [] → length out ≤ i → out ≡ whole
write_end out whole rest i so_far none past =
    sym (take_all i out past) ∙ sym (append-nil (take i out)) ∙ ap (λ ys. take i out ++ ys) (sym none) ∙ so_far

-- one more was written, of a list that is known
pub copy_turn : {W : Type 0} (out whole : List W) (i : ℕ) (w : W) → take i out ≡ take i whole → i < length out → i < length whole → w ≡ get_or whole i w → take (i + 1) (set out i w) ≡ take (i + 1) whole
copy_turn out whole i w so_far inside inside' same =
    take_more_set out i w inside ∙ ap (λ ys. ys ++ w ∷ []) so_far ∙ ap (λ v. take i whole ++ v ∷ []) same ∙ sym (take_more whole i w inside')

pub copy_end : {W : Type 0} (out whole : List W) (i n : ℕ) → take i out ≡ take i whole → length out ≤ i → i ≡ n → out ≡ take n whole
copy_end out whole i n so_far past same = sym (take_all i out past) ∙ so_far ∙ ap (λ k. take k whole) same

-- the wires of lists with zeros
pub default : {W : Type 0} (xs : List W) (i : ℕ) (d e : W) → i < length xs → get_or xs i d ≡ get_or xs i e
default [] i d e inside = absurd (omega arith)
default (x ∷ xs) zero d e inside = refl
default (x ∷ xs) (suc i) d e inside = default xs i d e (omega arith)

zeros : {W : Type 0} (n i : ℕ) (z d : W) → i < n → get_or (replicate n z) i d ≡ z
zeros zero i z d inside = absurd (omega arith)
zeros (suc n) zero z d inside = refl
zeros (suc n) (suc i) z d inside = zeros n i z d (omega arith)

pub padded : {W : Type 0} (xs : List W) (n i : ℕ) (z d : W) → i < n → get_or xs i z ≡ get_or (xs ++ replicate n z) i d
padded [] n i z d inside = sym (zeros n i z d inside)
padded (x ∷ xs) n zero z d inside = refl
padded (x ∷ xs) n (suc i) z d inside = padded xs n i z d (omega arith)

pub raised_low : {W : Type 0} (k : ℕ) (xs : List W) (i : ℕ) (z d : W) → i < k → z ≡ get_or (replicate k z ++ xs) i d
raised_low zero xs i z d inside = absurd (omega arith)
raised_low (suc k) xs zero z d inside = refl
raised_low (suc k) xs (suc i) z d inside = raised_low k xs i z d (omega arith)

pub raised_high : {W : Type 0} (k : ℕ) (xs : List W) (i : ℕ) (z d : W) → k ≤ i → get_or xs (i - k) d ≡ get_or (replicate k z ++ xs) i d
raised_high zero xs i z d past = let same : i - 0 ≡ i = omega arith in ap (λ j. get_or xs j d) same
raised_high (suc k) xs zero z d past = absurd (omega arith)
raised_high (suc k) xs (suc i) z d past =
    let same : suc i - suc k ≡ i - k = omega arith in
    ap (λ j. get_or xs j d) same ∙ raised_high k xs i z d (omega arith)
