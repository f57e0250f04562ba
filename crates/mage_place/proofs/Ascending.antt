-- Numbers that ascend: a filter's members, how many there are, and that the members are enough to know the list.
use Rattle.std.proofs.Common.{◌≡◌, ◌≢◌, ◌<◌, ◌≤◌, ◌+◌, ◌∷◌, ◌⊎◌, [], zero, suc, ℕ, List, map, Bool, true, cond, inl, inr, length, get_or, Contains, AllPairs, refl, sym, ap, ◌∙◌, arith, ⊎_elim, subst}
use Rattle.std.specs.List.{filter}
use Rattle.std.specs.List.Sorted.{IsStrictlyIncreasing}
use Rattle.std.proofs.lemmas.Bool.{cases_Bool, cond-true, cond-false}
use Rattle.std.proofs.lemmas.Bool.Decides.{Decides-eqb}
use Rattle.std.proofs.lemmas.Cmp.{nat_eq_equiv}
use Rattle.std.proofs.lemmas.List.{get_or-map, length-map}
use Rattle.std.proofs.lemmas.List.Elements.{filter_passes, All-filter, All-contains_itself}
use Rattle.std.proofs.lemmas.List.FromFn.{length-range_with_len, get_or-range_with_len}
use Rattle.std.proofs.lemmas.List.Kept.{AllPairs-from_increasing}
use Rattle.std.proofs.lemmas.Map.Made.{IsDistinct-from_AllPairs, length-le_from_is_member, is_member-Decides}
use Rattle.mage_place.specs.Placing.{below}

-- ---- members
pub cons_cases : (x : ℕ) (xs : List ℕ) (q : ℕ) → Contains (x ∷ xs) q → (x ≡ q) ⊎ Contains xs q
cons_cases x xs q c = at c.0 c.1 c.2 where
  at : (k : ℕ) → k < suc (length xs) → get_or (x ∷ xs) k q ≡ q → (x ≡ q) ⊎ Contains xs q
  at zero l e = inl e
  at (suc k) l e = inr (k, omega arith, e)

pub in_rest : (x : ℕ) (xs : List ℕ) (q : ℕ) → Contains xs q → Contains (x ∷ xs) q
in_rest x xs q c = (suc c.0, omega (arith, c.1), c.2)

pub in_first : (x : ℕ) (xs : List ℕ) → Contains (x ∷ xs) x
in_first x xs = (0, omega arith, refl)

pub in_map : (f : ℕ → ℕ) (xs : List ℕ) (x : ℕ) → Contains xs x → Contains (map f xs) (f x)
in_map f xs x c = (c.0, omega (arith, c.1, length-map xs f), get_or-map f xs c.0 x (f x) c.1 ∙ ap f c.2)

pub in_filter : (f : ℕ → Bool) (xs : List ℕ) (q : ℕ) → Contains xs q → f q ≡ true → Contains (filter f xs) q
in_filter f [] q c e = absurd (omega (arith, c.1))
in_filter f (x ∷ xs) q c e = by_case (cons_cases x xs q c) (λ w. in_filter f xs q w e) where
  by_case : (x ≡ q) ⊎ Contains xs q → (Contains xs q → Contains (filter f xs) q) → Contains (cond (f x) (x ∷ filter f xs) (filter f xs)) q
  by_case (inl is) rest = let passes : f x ≡ true = rw is e in rw (cond-true (f x) (x ∷ filter f xs) (filter f xs) passes, is) (in_first q (filter f xs))
  by_case (inr w) rest = ⊎_elim (λ h. rw (cond-true (f x) (x ∷ filter f xs) (filter f xs) h) (in_rest x (filter f xs) q (rest w))) (λ h. rw (cond-false (f x) (x ∷ filter f xs) (filter f xs) h) (rest w)) (cases_Bool (f x))

pub from_filter : (f : ℕ → Bool) (xs : List ℕ) (q : ℕ) → Contains (filter f xs) q → Contains xs q × (f q ≡ true)
from_filter f xs q c =
    let member = All-filter f (Contains xs) xs (All-contains_itself xs) c.0 q c.1 in
    let passes = filter_passes f xs c.0 q c.1 in
    (subst (Contains xs) c.2 member, subst (λ x. f x ≡ true) c.2 passes)

-- ---- order
pub below_ascends : (n : ℕ) → IsStrictlyIncreasing (below n)
below_ascends n k h =
    let inside : k + 1 < n = omega (arith, h, length-range_with_len 0 n) in
    omega (arith, get_or-range_with_len 0 n k 0 (omega arith), get_or-range_with_len 0 n (k + 1) 0 inside)

above_first : (x : ℕ) (xs : List ℕ) (q : ℕ) → AllPairs (λ a b. a < b) (x ∷ xs) → Contains xs q → x < q
above_first x xs q up c = subst (λ b. x < b) c.2 (up 0 (suc c.0) q (omega arith) (omega (arith, c.1)))

rest_ascends : (x : ℕ) (xs : List ℕ) → AllPairs (λ a b. a < b) (x ∷ xs) → AllPairs (λ a b. a < b) xs
rest_ascends x xs up i j d l m = up (suc i) (suc j) d (omega arith) (omega arith)

-- two ascending lists with the same members are one
same_ascending : (xs ys : List ℕ) → AllPairs (λ a b. a < b) xs → AllPairs (λ a b. a < b) ys → ((q : ℕ) → Contains xs q → Contains ys q) → ((q : ℕ) → Contains ys q → Contains xs q) → xs ≡ ys
same_ascending [] [] up down to from = refl
same_ascending [] (y ∷ ys) up down to from = absurd (omega (arith, (from y (in_first y ys)).1))
same_ascending (x ∷ xs) [] up down to from = absurd (omega (arith, (to x (in_first x xs)).1))
same_ascending (x ∷ xs) (y ∷ ys) up down to from = ap (λ a. a ∷ xs) same ∙ ap (λ rest. y ∷ rest) (same_ascending xs ys (rest_ascends x xs up) (rest_ascends y ys down) to_rest from_rest) where
  same : x ≡ y
  same = ⊎_elim (λ e. sym e) (λ c. ⊎_elim (λ e. e) (λ d. let less = above_first y ys x down c in let more = above_first x xs y up d in absurd (omega (arith, less, more))) (cons_cases x xs y (from y (in_first y ys)))) (cons_cases y ys x (to x (in_first x xs)))

  to_rest : (q : ℕ) → Contains xs q → Contains ys q
  to_rest q c = let more = above_first x xs q up c in ⊎_elim (λ e. absurd (omega (arith, more, same, e))) (λ d. d) (cons_cases y ys q (to q (in_rest x xs q c)))

  from_rest : (q : ℕ) → Contains ys q → Contains xs q
  from_rest q c = let more = above_first y ys q down c in ⊎_elim (λ e. absurd (omega (arith, more, same, e))) (λ d. d) (cons_cases x xs q (from q (in_rest y ys q c)))

pub one_ascending : (xs ys : List ℕ) → IsStrictlyIncreasing xs → IsStrictlyIncreasing ys → ((q : ℕ) → Contains xs q → Contains ys q) → ((q : ℕ) → Contains ys q → Contains xs q) → xs ≡ ys
one_ascending xs ys up down to from = same_ascending xs ys (AllPairs-from_increasing xs up) (AllPairs-from_increasing ys down) to from

-- ---- number: ascending numbers that are all among others are no more than those
pub no_more : (xs ys : List ℕ) → IsStrictlyIncreasing xs → ((q : ℕ) → Contains xs q → Contains ys q) → length xs ≤ length ys
no_more xs ys up among = length-le_from_is_member nat_eq_equiv xs ys (IsDistinct-from_AllPairs Decides-eqb xs differ) (λ q h. (is_member-Decides Decides-eqb ys q).1 (among q ((is_member-Decides Decides-eqb xs q).0 h))) where
  differ : AllPairs (λ a b. a ≢ b) xs
  differ i j d l m = let less = AllPairs-from_increasing xs up i j d l m in λ e. omega (arith, less, e)
