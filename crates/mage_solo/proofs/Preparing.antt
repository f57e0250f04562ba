-- The drivers of parts, made one after the other.
use Rattle.std.proofs.Common.{◌≡◌, ◌<◌, ◌+◌, ◌++◌, ℕ, zero, suc, List, [], ◌∷◌, length, drop, set, get_or, refl, sym, ap, ap₂, ◌∙◌, arith, append_assoc}
use Rattle.std.specs.Prelude.{Vec}
use Rattle.std.specs.Global.{Global}
use Rattle.mage_verify.specs.Parts.{WorkerPart}
use Rattle.mage_plain.specs.Plain.{PlainMoment}
use Rattle.mage_solo.specs.Plain.{lists_of, opening, openings}

drop_suc : {A : Type 0} (xs : List A) (k : ℕ) (r : A) → k < length xs → drop k xs ≡ get_or xs k r ∷ drop (suc k) xs
drop_suc [] k r h = absurd (omega arith)
drop_suc (x ∷ xs) zero r h = refl
drop_suc (x ∷ xs) (suc k) r h = drop_suc xs k r (omega arith)

pub drop_more : {A : Type 0} (xs : List A) (k : ℕ) (r : A) → k < length xs → drop k xs ≡ get_or xs k r ∷ drop (k + 1) xs
drop_more xs k r h = drop_suc xs k r h ∙ ap (λ n. get_or xs k r ∷ drop n xs) (let one : suc k ≡ k + 1 = omega arith in one)

-- what changes at place k is behind it
behind_suc : (xs : List (Vec ℕ Global)) (k : ℕ) (y : Vec ℕ Global) → drop (suc k) (lists_of (set xs k y)) ≡ drop (suc k) (lists_of xs)
behind_suc [] zero y = refl
behind_suc [] (suc k) y = refl
behind_suc (x ∷ xs) zero y = refl
behind_suc (x ∷ xs) (suc k) y = behind_suc xs k y

behind : (xs : List (Vec ℕ Global)) (k : ℕ) (y : Vec ℕ Global) → drop (k + 1) (lists_of (set xs k y)) ≡ drop (k + 1) (lists_of xs)
behind xs k y = let one : k + 1 ≡ suc k = omega arith in
    ap (λ n. drop n (lists_of (set xs k y))) one ∙ behind_suc xs k y ∙ ap (λ n. drop n (lists_of xs)) (sym one)

-- the lists from place k on
lists_more : (xs : List (Vec ℕ Global)) (k : ℕ) (r : Vec ℕ Global) → k < length xs → drop k (lists_of xs) ≡ (get_or xs k r).items ∷ drop (k + 1) (lists_of xs)
lists_more xs k r h = go xs k h ∙ ap (λ n. (get_or xs k r).items ∷ drop n (lists_of xs)) (let one : suc k ≡ k + 1 = omega arith in one)
  where
    go : (ys : List (Vec ℕ Global)) (j : ℕ) → j < length ys → drop j (lists_of ys) ≡ (get_or ys j r).items ∷ drop (suc j) (lists_of ys)
    go [] j below = absurd (omega arith)
    go (y ∷ ys) zero below = refl
    go (y ∷ ys) (suc j) below = go ys j (omega arith)

-- one driver more
pub one_more : (parts : List WorkerPart) (garbler evaluator : List (Vec ℕ Global)) (k : ℕ) (drivers drivers' : List PlainMoment) (driver : PlainMoment)
    (part : WorkerPart) (own other own' other' : Vec ℕ Global) → k < length parts → length garbler ≡ length parts → length evaluator ≡ length parts →
    part ≡ get_or parts k part → own ≡ get_or garbler k own → other ≡ get_or evaluator k other → driver ≡ opening part own.items other.items →
    drivers' ≡ drivers ++ driver ∷ [] →
    drivers' ++ openings (drop (k + 1) parts) (drop (k + 1) (lists_of (set garbler k own'))) (drop (k + 1) (lists_of (set evaluator k other')))
    ≡ drivers ++ openings (drop k parts) (drop k (lists_of garbler)) (drop k (lists_of evaluator))
one_more parts garbler evaluator k drivers drivers' driver part own other own' other' within long also part_is own_is other_is made more =
    let rest : List PlainMoment = openings (drop (k + 1) parts) (drop (k + 1) (lists_of garbler)) (drop (k + 1) (lists_of evaluator)) in
    ap₂ (λ (g e : List (List ℕ)). drivers' ++ openings (drop (k + 1) parts) g e) (behind garbler k own') (behind evaluator k other')
    ∙ ap (λ (l : List PlainMoment). l ++ rest) more
    ∙ append_assoc drivers (driver ∷ []) rest
    ∙ ap (λ (d : PlainMoment). drivers ++ d ∷ rest) made
    ∙ ap (λ (l : List PlainMoment). drivers ++ l)
    (sym (ap (λ (ps : List WorkerPart). openings ps (drop k (lists_of garbler)) (drop k (lists_of evaluator)))
    (drop_more parts k part within ∙ ap (λ (p : WorkerPart). p ∷ drop (k + 1) parts) (sym part_is))
    ∙ ap₂ (λ (g e : List (List ℕ)). openings (part ∷ drop (k + 1) parts) g e)
    (lists_more garbler k own (omega (arith, within, long)) ∙ ap (λ (v : Vec ℕ Global). v.items ∷ drop (k + 1) (lists_of garbler)) (sym own_is))
    (lists_more evaluator k other (omega (arith, within, also)) ∙ ap (λ (v : Vec ℕ Global). v.items ∷ drop (k + 1) (lists_of evaluator)) (sym other_is))))
