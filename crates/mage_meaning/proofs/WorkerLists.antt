-- Lists with one entry for each worker, and functions of the worker.
use Rattle.std.proofs.Common.{◌≡◌, ℕ, zero, suc, ◌+◌, ◌<◌, ◌≤◌, List, [], ◌∷◌, ◌++◌, map, drop, set, length, refl, sym, ap, ◌∙◌, subst, ⊎_elim, arith}
use Rattle.std.proofs.Math.Path.{fun_ext}
use Rattle.std.proofs.lemmas.Bool.{cases_lt, cases_eq}
use Rattle.std.proofs.lemmas.List.{map-append, set-set, set-append_left, set_at}
use Rattle.mage_linked.specs.Workers.{below}
use Rattle.mage_linked.specs.Workers.{list_at, with_at}
use Rattle.mage_meaning.specs.Value.{without_first}
use Rattle.mage_linked.proofs.WorkerLemmas.{with_at-same, with_at-other, length-map_below}

-- an entry of a list of all workers is set
map-beyond : (f : ℕ → List ℕ) (w : ℕ) (x : List ℕ) (n : ℕ) → n ≤ w → map (with_at f w x) (below n) ≡ map f (below n)
map-beyond f w x zero h = refl
map-beyond f w x (suc n) h =
    map-append (with_at f w x) (below n) (n ∷ []) ∙ ap (λ l. l ++ with_at f w x n ∷ []) (map-beyond f w x n (omega arith))
    ∙ ap (λ y. map f (below n) ++ y ∷ []) (with_at-other f w x n (λ e. omega arith)) ∙ sym (map-append f (below n) (n ∷ []))

pub map-with_at : (f : ℕ → List ℕ) (w : ℕ) (x : List ℕ) (n : ℕ) → w < n → map (with_at f w x) (below n) ≡ set (map f (below n)) w x
map-with_at f w x zero h = absurd (omega arith)
map-with_at f w x (suc n) h = map-append (with_at f w x) (below n) (n ∷ []) ∙ ⊎_elim (λ k. before (map-with_at f w x n k) k) last (cases_lt w n) ∙ ap (λ l. set l w x) (sym (map-append f (below n) (n ∷ [])))
  where
    size : length (map f (below n)) ≡ n
    size = length-map_below f n

    before : map (with_at f w x) (below n) ≡ set (map f (below n)) w x → w < n → map (with_at f w x) (below n) ++ with_at f w x n ∷ [] ≡ set (map f (below n) ++ f n ∷ []) w x
    before e k =
        ap (λ l. l ++ with_at f w x n ∷ []) e ∙ ap (λ y. set (map f (below n)) w x ++ y ∷ []) (with_at-other f w x n (λ q. omega arith))
        ∙ sym (set-append_left (map f (below n)) (f n ∷ []) w x (omega (arith, size)))

    last : n ≤ w → map (with_at f w x) (below n) ++ with_at f w x n ∷ [] ≡ set (map f (below n) ++ f n ∷ []) w x
    last k =
        let e : w ≡ n = omega arith in
        let here = ap (λ l. l ++ with_at f w x n ∷ []) (map-beyond f w x n k) ∙ ap (λ i. map f (below n) ++ with_at f w x i ∷ []) (sym e) ∙ ap (λ y. map f (below n) ++ y ∷ []) (with_at-same f w x) in
        here ∙ sym (set_at (map f (below n)) (f n) [] x w (size ∙ sym e))

-- ---- a list of which values are taken

drop_nothing : (n : ℕ) → drop {A = ℕ} n [] ≡ []
drop_nothing zero = refl
drop_nothing (suc n) = refl

drop_one : (n : ℕ) (l : List ℕ) → drop n (drop 1 l) ≡ drop (suc n) l
drop_one n [] = drop_nothing n
drop_one n (x ∷ l) = refl

pub at-without_first : (n w : ℕ) (lists : List (List ℕ)) → list_at (without_first n w lists) w ≡ drop n (list_at lists w)
at-without_first n w [] = sym (drop_nothing n)
at-without_first n zero (x ∷ lists) = refl
at-without_first n (suc w) (x ∷ lists) = at-without_first n w lists

at-set_other : (lists : List (List ℕ)) (w v : ℕ) (x : List ℕ) → (v ≡ w → ⊥) → list_at (set lists w x) v ≡ list_at lists v
at-set_other [] w v x h = refl
at-set_other (y ∷ lists) zero zero x h = absurd (h refl)
at-set_other (y ∷ lists) zero (suc v) x h = refl
at-set_other (y ∷ lists) (suc w) zero x h = refl
at-set_other (y ∷ lists) (suc w) (suc v) x h = at-set_other lists w v x (λ e. h (ap suc e))

pub list_at-without_first : (n w : ℕ) (lists : List (List ℕ)) → list_at (without_first n w lists) ≡ with_at (list_at lists) w (drop n (list_at lists w))
list_at-without_first n w lists = fun_ext (λ v. ⊎_elim (same v) (other v) (cases_eq v w))
  where
    same : (v : ℕ) → v ≡ w → list_at (without_first n w lists) v ≡ with_at (list_at lists) w (drop n (list_at lists w)) v
    same v e =
        subst (λ u. list_at (without_first n w lists) u ≡ with_at (list_at lists) w (drop n (list_at lists w)) u) (sym e)
        (at-without_first n w lists ∙ sym (with_at-same (list_at lists) w (drop n (list_at lists w))))

    other : (v : ℕ) → (v ≡ w → ⊥) → list_at (without_first n w lists) v ≡ with_at (list_at lists) w (drop n (list_at lists w)) v
    other v h = at-set_other lists w v (drop n (list_at lists w)) h ∙ sym (with_at-other (list_at lists) w (drop n (list_at lists w)) v h)

pub without_none : (w : ℕ) (lists : List (List ℕ)) → without_first 0 w lists ≡ lists
without_none w [] = refl
without_none zero (x ∷ lists) = refl
without_none (suc w) (x ∷ lists) = ap (λ l. x ∷ l) (without_none w lists)

pub without_again : (n w : ℕ) (lists : List (List ℕ)) → without_first n w (without_first 1 w lists) ≡ without_first (suc n) w lists
without_again n w lists =
    set-set lists w (drop 1 (list_at lists w)) (drop n (list_at (without_first 1 w lists) w))
    ∙ ap (λ l. set lists w (drop n l)) (at-without_first 1 w lists) ∙ ap (λ l. set lists w l) (drop_one n (list_at lists w))
