-- What tests on the numbers below a bound find.
use Rattle.std.proofs.Common.{◌≡◌, ◌<◌, ◌≤◌, ◌+◌, ◌⊎◌, zero, suc, ℕ, Bool, true, false, None, Some, inl, inr, Contains, refl, ◌∙◌, arith, ⊎_elim}
use Rattle.std.specs.List.{list_any, find, range_with_len}
use Rattle.std.proofs.lemmas.Bool.{cases_Bool, cases_eq, cond-true, cond-false}
use Rattle.std.proofs.lemmas.List.FromFn.{length-range_with_len, get_or-range_with_len}
use Rattle.mage_place.specs.Placing.{below, greatest_below}
use Rattle.mage_place.proofs.Members.{any_found, any_finds}

pub below_has : (n v : ℕ) → v < n → Contains (below n) v
below_has n v h = (v, omega (arith, length-range_with_len 0 n), omega (arith, get_or-range_with_len 0 n v v h))

pub below_is : (n v : ℕ) → Contains (below n) v → v < n
below_is n v c =
    let k : c.0 < n = omega (arith, c.1, length-range_with_len 0 n) in
    omega (arith, k, c.2, get_or-range_with_len 0 n c.0 v k)

pub any_below : (f : ℕ → Bool) (n : ℕ) → list_any f (below n) ≡ true → (v : ℕ) × (v < n) × (f v ≡ true)
any_below f n h = let w = any_found f (below n) h in (w.0, below_is n w.0 w.1, w.2)

pub any_below-from : (f : ℕ → Bool) (n v : ℕ) → v < n → f v ≡ true → list_any f (below n) ≡ true
any_below-from f n v h e = any_finds f (below n) v (below_has n v h) e

-- the search from a number on finds the first that passes, or none passes
pub record IsFirst (f : ℕ → Bool) (a n k : ℕ) : Type 0 where
  pub found : find f (range_with_len a n) ≡ Some k
  pub from : a ≤ k
  pub within : k < a + n
  pub passes : f k ≡ true
  pub none_before : (j : ℕ) → a ≤ j → j < k → f j ≡ false

pub first_or_none : (f : ℕ → Bool) (a n : ℕ) → ((k : ℕ) × IsFirst f a n k) ⊎ ((j : ℕ) → a ≤ j → j < a + n → f j ≡ false)
first_or_none f a zero = inr (λ j l m. absurd (omega arith))
first_or_none f a (suc n) = by_rest (first_or_none f (a + 1) n) where
  by_rest : ((k : ℕ) × IsFirst f (a + 1) n k) ⊎ ((j : ℕ) → a + 1 ≤ j → j < a + 1 + n → f j ≡ false) → ((k : ℕ) × IsFirst f a (suc n) k) ⊎ ((j : ℕ) → a ≤ j → j < a + suc n → f j ≡ false)
  by_rest rest = ⊎_elim here (λ fails. ⊎_elim (later fails) (none fails) rest) (cases_Bool (f a)) where
    here : f a ≡ true → ((k : ℕ) × IsFirst f a (suc n) k) ⊎ ((j : ℕ) → a ≤ j → j < a + suc n → f j ≡ false)
    here h = inl (a, record { found = cond-true (f a) (Some a) (find f (range_with_len (a + 1) n)) h; from = omega arith; within = omega arith; passes = h; none_before = λ j l m. absurd (omega arith) })

    at : f a ≡ false → (j : ℕ) → (a + 1 ≤ j → f j ≡ false) → a ≤ j → f j ≡ false
    at fails j above l = ⊎_elim (λ e. rw e fails) (λ ne. above (omega (arith, ne, l))) (cases_eq j a)

    later : f a ≡ false → (k : ℕ) × IsFirst f (a + 1) n k → ((k : ℕ) × IsFirst f a (suc n) k) ⊎ ((j : ℕ) → a ≤ j → j < a + suc n → f j ≡ false)
    later fails w = inl (
      w.0,
      record {
        found = cond-false (f a) (Some a) (find f (range_with_len (a + 1) n)) fails ∙ w.1.found;
        from = omega (arith, w.1.from);
        within = omega (arith, w.1.within);
        passes = w.1.passes;
        none_before = λ j l m. at fails j (λ up. w.1.none_before j up m) l;
      },
    )

    none : f a ≡ false → ((j : ℕ) → a + 1 ≤ j → j < a + 1 + n → f j ≡ false) → ((k : ℕ) × IsFirst f a (suc n) k) ⊎ ((j : ℕ) → a ≤ j → j < a + suc n → f j ≡ false)
    none fails all = inr (λ j l m. at fails j (λ up. all j up (omega (arith, m))) l)

-- the greatest number below a bound that passes, or none passes
pub record IsGreatest (f : ℕ → Bool) (n q : ℕ) : Type 0 where
  pub found : greatest_below f n ≡ Some q
  pub within : q < n
  pub passes : f q ≡ true
  pub none_after : (r : ℕ) → q < r → r < n → f r ≡ false

pub record IsNone (f : ℕ → Bool) (n : ℕ) : Type 0 where
  pub nothing : greatest_below f n ≡ None
  pub none : (r : ℕ) → r < n → f r ≡ false

pub greatest_or_none : (f : ℕ → Bool) (n : ℕ) → ((q : ℕ) × IsGreatest f n q) ⊎ IsNone f n
greatest_or_none f zero = inr (record { nothing = refl; none = λ r h. absurd (omega arith) })
greatest_or_none f (suc n) = by_rest (greatest_or_none f n) where
  at : f n ≡ false → (r : ℕ) → (r < n → f r ≡ false) → r < suc n → f r ≡ false
  at fails r lower h = ⊎_elim (λ e. rw e fails) (λ ne. lower (omega (arith, ne, h))) (cases_eq r n)

  by_rest : ((q : ℕ) × IsGreatest f n q) ⊎ IsNone f n → ((q : ℕ) × IsGreatest f (suc n) q) ⊎ IsNone f (suc n)
  by_rest rest = ⊎_elim here (λ fails. ⊎_elim (lower fails) (none fails) rest) (cases_Bool (f n)) where
    here : f n ≡ true → ((q : ℕ) × IsGreatest f (suc n) q) ⊎ IsNone f (suc n)
    here h = inl (n, record { found = cond-true (f n) (Some n) (greatest_below f n) h; within = omega arith; passes = h; none_after = λ r l m. absurd (omega arith) })

    lower : f n ≡ false → (q : ℕ) × IsGreatest f n q → ((q : ℕ) × IsGreatest f (suc n) q) ⊎ IsNone f (suc n)
    lower fails w = inl (
      w.0,
      record {
        found = cond-false (f n) (Some n) (greatest_below f n) fails ∙ w.1.found;
        within = omega (arith, w.1.within);
        passes = w.1.passes;
        none_after = λ r l m. at fails r (λ h. w.1.none_after r l h) m;
      },
    )

    none : f n ≡ false → IsNone f n → ((q : ℕ) × IsGreatest f (suc n) q) ⊎ IsNone f (suc n)
    none fails w = inr (record { nothing = cond-false (f n) (Some n) (greatest_below f n) fails ∙ w.nothing; none = λ r m. at fails r (w.none r) m })
