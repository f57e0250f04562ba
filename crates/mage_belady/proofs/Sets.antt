-- What a list of pages has once a page is put in or taken out.
use Rattle.std.proofs.Common.{◌≡◌, ◌≢◌, ◌<◌, ◌≤◌, ◌+◌, ◌⊎◌, ℕ, zero, suc, min, List, [], ◌∷◌, ◌++◌, Bool, true, false, cond, length, get_or, set, nat_eq, nat_lt, inl, inr, refl, sym, ◌∙◌, ap, arith, ⊎_elim}
use Rattle.std.specs.List.{filter}
use Rattle.std.proofs.lemmas.Bool.{false≢true, eqb-true, ne_eqb, ltb-true, ltb-false}
use Rattle.mage_belady.specs.Plan.{is_in, AreDistinct, how_many}
use Rattle.mage_belady.specs.Rule.{later_of, victim_of, frame_of}
use Rattle.mage_belady.proofs.Counts.{one, is_in-head, is_in-here, is_in-cons, is_in-tail}

pub not-in-tail : (x y : ℕ) (ys : List ℕ) → is_in x (y ∷ ys) ≡ false → is_in x ys ≡ false
not-in-tail x y ys h = go (is_in x ys) refl where
  go : (b : Bool) → is_in x ys ≡ b → is_in x ys ≡ false
  go true e = absurd (false≢true (sym h ∙ is_in-tail x y ys e))
  go false e = e

pub not-in-head : (x y : ℕ) (ys : List ℕ) → is_in x (y ∷ ys) ≡ false → x ≢ y
not-in-head x y ys h e = false≢true (sym h ∙ is_in-here x y ys e)

pub not-in-cons : (x y : ℕ) (ys : List ℕ) → x ≢ y → is_in x ys ≡ false → is_in x (y ∷ ys) ≡ false
not-in-cons x y ys n h = rw (ne_eqb x y n) h

-- a page put in place of another
pub how_many-set : (p : ℕ → Bool) (xs : List ℕ) (f x : ℕ) → f < length xs
    → how_many p (set xs f x) + one (p (get_or xs f 0)) ≡ how_many p xs + one (p x)
how_many-set p [] f x h = absurd (omega arith)
how_many-set p (y ∷ ys) zero x h = omega arith
how_many-set p (y ∷ ys) (suc f) x h = let rest = how_many-set p ys f x (omega arith) in
    omega (arith, rest)

pub is_in-set : (q : ℕ) (xs : List ℕ) (f x : ℕ) → is_in q (set xs f x) ≡ true
    → (q ≡ x) ⊎ (is_in q xs ≡ true)
is_in-set q [] f x h = inr h
is_in-set q (y ∷ ys) zero x h = ⊎_elim inl (λ m. inr (is_in-tail q y ys m)) (is_in-cons q x ys h)
is_in-set q (y ∷ ys) (suc f) x h =
    ⊎_elim (λ e. inr (is_in-here q y ys e))
    (λ m. ⊎_elim inl (λ k. inr (is_in-tail q y ys k)) (is_in-set q ys f x m))
    (is_in-cons q y (set ys f x) h)

pub is_in-set_other : (q : ℕ) (xs : List ℕ) (f x : ℕ) → is_in q xs ≡ true → q ≢ get_or xs f 0
    → is_in q (set xs f x) ≡ true
is_in-set_other q [] f x h n = h
is_in-set_other q (y ∷ ys) zero x h n =
    ⊎_elim (λ e. absurd (n e)) (λ m. is_in-tail q x ys m) (is_in-cons q y ys h)
is_in-set_other q (y ∷ ys) (suc f) x h n =
    ⊎_elim (λ e. is_in-here q y (set ys f x) e)
    (λ m. is_in-tail q y (set ys f x) (is_in-set_other q ys f x m n)) (is_in-cons q y ys h)

pub is_in-set_same : (xs : List ℕ) (f x : ℕ) → f < length xs → is_in x (set xs f x) ≡ true
is_in-set_same [] f x h = absurd (omega arith)
is_in-set_same (y ∷ ys) zero x h = is_in-head x ys
is_in-set_same (y ∷ ys) (suc f) x h =
    is_in-tail x y (set ys f x) (is_in-set_same ys f x (omega arith))

not-in-set : (q : ℕ) (xs : List ℕ) (f x : ℕ) → is_in q xs ≡ false → q ≢ x
    → is_in q (set xs f x) ≡ false
not-in-set q xs f x h n = go (is_in q (set xs f x)) refl where
  go : (b : Bool) → is_in q (set xs f x) ≡ b → is_in q (set xs f x) ≡ false
  go true e = ⊎_elim (λ s. absurd (n s)) (λ m. absurd (false≢true (sym h ∙ m)))
      (is_in-set q xs f x e)
  go false e = e

pub AreDistinct-set : (xs : List ℕ) (f x : ℕ) → AreDistinct xs → is_in x xs ≡ false
    → AreDistinct (set xs f x)
AreDistinct-set [] f x d h = d
AreDistinct-set (y ∷ ys) zero x d h = (not-in-tail x y ys h, d.1)
AreDistinct-set (y ∷ ys) (suc f) x d h = (
  not-in-set y ys f x d.0 (λ e. not-in-head x y ys h (sym e)),
  AreDistinct-set ys f x d.1
      (not-in-tail x y ys h),
)

-- a page put behind
pub how_many-push : (p : ℕ → Bool) (xs : List ℕ) (x : ℕ)
    → how_many p (xs ++ x ∷ []) ≡ how_many p xs + one (p x)
how_many-push p [] x = omega arith
how_many-push p (y ∷ ys) x = let rest = how_many-push p ys x in omega (arith, rest)

pub is_in-push : (q : ℕ) (xs : List ℕ) (x : ℕ) → is_in q (xs ++ x ∷ []) ≡ true
    → (q ≡ x) ⊎ (is_in q xs ≡ true)
is_in-push q [] x h = is_in-cons q x [] h
is_in-push q (y ∷ ys) x h =
    ⊎_elim (λ e. inr (is_in-here q y ys e))
    (λ m. ⊎_elim inl (λ k. inr (is_in-tail q y ys k)) (is_in-push q ys x m))
    (is_in-cons q y (ys ++ x ∷ []) h)

pub is_in-push_old : (q : ℕ) (xs : List ℕ) (x : ℕ) → is_in q xs ≡ true
    → is_in q (xs ++ x ∷ []) ≡ true
is_in-push_old q [] x h = absurd (false≢true h)
is_in-push_old q (y ∷ ys) x h =
    ⊎_elim (λ e. is_in-here q y (ys ++ x ∷ []) e)
    (λ m. is_in-tail q y (ys ++ x ∷ []) (is_in-push_old q ys x m)) (is_in-cons q y ys h)

pub is_in-push_new : (xs : List ℕ) (x : ℕ) → is_in x (xs ++ x ∷ []) ≡ true
is_in-push_new [] x = is_in-head x []
is_in-push_new (y ∷ ys) x = is_in-tail x y (ys ++ x ∷ []) (is_in-push_new ys x)

not-in-push : (q : ℕ) (xs : List ℕ) (x : ℕ) → is_in q xs ≡ false → q ≢ x
    → is_in q (xs ++ x ∷ []) ≡ false
not-in-push q xs x h n = go (is_in q (xs ++ x ∷ [])) refl where
  go : (b : Bool) → is_in q (xs ++ x ∷ []) ≡ b → is_in q (xs ++ x ∷ []) ≡ false
  go true e = ⊎_elim (λ s. absurd (n s)) (λ m. absurd (false≢true (sym h ∙ m)))
      (is_in-push q xs x e)
  go false e = e

pub AreDistinct-push : (xs : List ℕ) (x : ℕ) → AreDistinct xs → is_in x xs ≡ false
    → AreDistinct (xs ++ x ∷ [])
AreDistinct-push [] x d h = (refl, tt)
AreDistinct-push (y ∷ ys) x d h = (
  not-in-push y ys x d.0 (λ e. not-in-head x y ys h (sym e)),
  AreDistinct-push ys x d.1
      (not-in-tail x y ys h),
)

-- the frame of a page that is in memory
pub frame_of-within : (v : ℕ) (xs : List ℕ) → is_in v xs ≡ true → frame_of v xs < length xs
frame_of-within v [] h = absurd (false≢true h)
frame_of-within v (x ∷ xs) h = go (nat_eq v x) refl (frame_of-within v xs) where
  go : (b : Bool) → nat_eq v x ≡ b → (is_in v xs ≡ true → frame_of v xs < length xs)
      → cond b 0 (frame_of v xs + 1) < length (x ∷ xs)
  go true e rest = omega arith
  go false e rest = let below = rest (rw e at h) in omega (arith, below)

pub frame_of-has : (v : ℕ) (xs : List ℕ) → is_in v xs ≡ true → get_or xs (frame_of v xs) 0 ≡ v
frame_of-has v [] h = absurd (false≢true h)
frame_of-has v (x ∷ xs) h = go (nat_eq v x) refl (frame_of-has v xs) where
  more : (n : ℕ) → get_or (x ∷ xs) (n + 1) 0 ≡ get_or xs n 0
  more n = (let e : n + 1 ≡ suc n = omega arith in ap (λ m. get_or (x ∷ xs) m 0) e)

  go : (b : Bool) → nat_eq v x ≡ b → (is_in v xs ≡ true → get_or xs (frame_of v xs) 0 ≡ v)
      → get_or (x ∷ xs) (cond b 0 (frame_of v xs + 1)) 0 ≡ v
  go true e rest = sym (eqb-true v x e)
  go false e rest = more (frame_of v xs) ∙ rest (rw e at h)

-- what passes a test
pub is_in-filter : (test : ℕ → Bool) (q : ℕ) (xs : List ℕ) → is_in q (filter test xs) ≡ true
    → (is_in q xs ≡ true) × (test q ≡ true)
is_in-filter test q [] h = absurd (false≢true h)
is_in-filter test q (x ∷ xs) h = go (test x) refl (is_in-filter test q xs) h where
  go : (b : Bool) → test x ≡ b
      → (is_in q (filter test xs) ≡ true → (is_in q xs ≡ true) × (test q ≡ true))
      → is_in q (cond b (x ∷ filter test xs) (filter test xs)) ≡ true
      → (is_in q (x ∷ xs) ≡ true) × (test q ≡ true)
  go true e rest m =
      ⊎_elim (λ s. (is_in-here q x xs s, ap test s ∙ e))
      (λ k. (is_in-tail q x xs (rest k).0, (rest k).1)) (is_in-cons q x (filter test xs) m)
  go false e rest m = (is_in-tail q x xs (rest m).0, (rest m).1)

pub filter-is_in : (test : ℕ → Bool) (q : ℕ) (xs : List ℕ) → is_in q xs ≡ true → test q ≡ true
    → is_in q (filter test xs) ≡ true
filter-is_in test q [] h t = h
filter-is_in test q (x ∷ xs) h t = go (test x) refl (λ m. filter-is_in test q xs m t) where
  go : (b : Bool) → test x ≡ b → (is_in q xs ≡ true → is_in q (filter test xs) ≡ true)
      → is_in q (cond b (x ∷ filter test xs) (filter test xs)) ≡ true
  go true e rest =
      ⊎_elim (λ s. is_in-here q x (filter test xs) s)
      (λ k. is_in-tail q x (filter test xs) (rest k)) (is_in-cons q x xs h)
  go false e rest =
      ⊎_elim (λ s. absurd (false≢true (sym e ∙ ap test (sym s) ∙ t))) rest (is_in-cons q x xs h)

least-first : (p q : ℕ) → (min p q ≡ p) ⊎ (min p q ≡ q)
least-first p q = grind arith

-- of two pages the second leaves no later: it is used later, or alike and isn't higher
abbrev pub IsBefore : (next : ℕ → ℕ) (p q : ℕ) → Type 0
IsBefore next p q = (next p < next q) ⊎ ((next p ≡ next q) × (q ≤ p))

-- the page that leaves is one of those that may, and none leaves before it
module _ (next : ℕ → ℕ) where
  IsBefore-trans : (p q r : ℕ) → IsBefore next p q → IsBefore next q r → IsBefore next p r
  IsBefore-trans p q r (inl a) (inl b) = inl (omega (arith, a, b))
  IsBefore-trans p q r (inl a) (inr b) = inl (omega (arith, a, b.0))
  IsBefore-trans p q r (inr a) (inl b) = inl (omega (arith, a.0, b))
  IsBefore-trans p q r (inr a) (inr b) = inr (omega (arith, a.0, b.0), omega (arith, a.1, b.1))

  IsBefore-same : (p q : ℕ) → IsBefore next p q → IsBefore next q p → p ≡ q
  IsBefore-same p q (inl a) (inl b) = absurd (omega (arith, a, b))
  IsBefore-same p q (inl a) (inr b) = absurd (omega (arith, a, b.0))
  IsBefore-same p q (inr a) (inl b) = absurd (omega (arith, a.0, b))
  IsBefore-same p q (inr a) (inr b) = omega (arith, a.1, b.1)

  IsBefore-le : (p q : ℕ) → IsBefore next p q → next p ≤ next q
  IsBefore-le p q (inl a) = omega (arith, a)
  IsBefore-le p q (inr a) = omega (arith, a.0)

  later_of-cases : (p q : ℕ)
      → ((later_of next p q ≡ p) × IsBefore next q p)
      ⊎ ((later_of next p q ≡ q) × IsBefore next p q)
  later_of-cases p q = go (nat_lt (next p) (next q)) (nat_lt (next q) (next p)) refl refl where
    same : next p ≡ next q
        → ((min p q ≡ p) × IsBefore next q p) ⊎ ((min p q ≡ q) × IsBefore next p q)
    same e = ⊎_elim (λ h. inl (h, inr (sym e, below p q h))) (λ h. inr (h, inr (e, above p q h)))
        (least-first p q) where
          below : (a b : ℕ) → min a b ≡ a → a ≤ b
          below a b h = grind (arith, h)

          above : (a b : ℕ) → min a b ≡ b → b ≤ a
          above a b h = grind (arith, h)

    go : (b c : Bool) → nat_lt (next p) (next q) ≡ b → nat_lt (next q) (next p) ≡ c
        → ((cond b q (cond c p (min p q)) ≡ p) × IsBefore next q p)
        ⊎ ((cond b q (cond c p (min p q)) ≡ q) × IsBefore next p q)
    go true c e f = inr (refl, inl (ltb-true (next p) (next q) e))
    go false true e f = inl (refl, inl (ltb-true (next q) (next p) f))
    go false false e f = let l = ltb-false (next p) (next q) e in let m =
        ltb-false (next q) (next p) f in same (omega (arith, l, m))

  pub victim_of-in : (p : ℕ) (ps : List ℕ) → is_in (victim_of next (p ∷ ps)) (p ∷ ps) ≡ true
  victim_of-in p [] = is_in-head p []
  victim_of-in p (q ∷ ps) =
      ⊎_elim (λ c. is_in-here _ p (q ∷ ps) c.0)
      (λ c. is_in-tail _ p (q ∷ ps) (ap (λ v. is_in v (q ∷ ps)) c.0 ∙ victim_of-in q ps))
      (later_of-cases p (victim_of next (q ∷ ps)))

  victim_of-first : (x p : ℕ) (ps : List ℕ) → is_in x (p ∷ ps) ≡ true
      → IsBefore next x (victim_of next (p ∷ ps))
  victim_of-first x p [] h =
      ⊎_elim (λ e. inr (ap next e, omega (arith, e))) (λ m. absurd (false≢true m))
      (is_in-cons x p [] h)
  victim_of-first x p (q ∷ ps) h =
      go (victim_of-first x q ps) (later_of-cases p v) (is_in-cons x p (q ∷ ps) h) where
        v : ℕ
        v = victim_of next (q ∷ ps)

        go : (is_in x (q ∷ ps) ≡ true → IsBefore next x v)
            → (((later_of next p v ≡ p) × IsBefore next v p)
            ⊎ ((later_of next p v ≡ v) × IsBefore next p v)) → (x ≡ p) ⊎ (is_in x (q ∷ ps) ≡ true)
            → IsBefore next x (later_of next p v)
        go rest (inl c) (inl e) = rw (c.0, e) (inr (refl, omega arith))
        go rest (inl c) (inr m) = rw (c.0) (IsBefore-trans x v p (rest m) c.1)
        go rest (inr c) (inl e) = rw (c.0, e) (c.1)
        go rest (inr c) (inr m) = rw (c.0) (rest m)

  pub victim_of-latest : (x p : ℕ) (ps : List ℕ) → is_in x (p ∷ ps) ≡ true
      → next x ≤ next (victim_of next (p ∷ ps))
  victim_of-latest x p ps h = IsBefore-le x (victim_of next (p ∷ ps)) (victim_of-first x p ps h)

  -- no other page leaves first
  pub victim_of-unique : (v : ℕ) (ps : List ℕ) → is_in v ps ≡ true
      → ((x : ℕ) → is_in x ps ≡ true → IsBefore next x v) → v ≡ victim_of next ps
  victim_of-unique v [] m first = absurd (false≢true m)
  victim_of-unique v (p ∷ ps) m first =
      IsBefore-same v (victim_of next (p ∷ ps)) (victim_of-first v p ps m)
      (first (victim_of next (p ∷ ps)) (victim_of-in p ps))
