-- How many pages of a list pass a test.
use Rattle.std.proofs.Common.{◌≡◌, ◌≢◌, ◌≤◌, ◌+◌, ◌||◌, ◌⊎◌, ℕ, List, [], ◌∷◌, Bool, true, false, cond, length, nat_eq, inl, inr, refl, sym, ◌∙◌, arith, ⊎_elim}
use Rattle.std.proofs.lemmas.Bool.{false≢true, eq-eqb, eqb-true}
use Rattle.mage_belady.specs.Plan.{is_in, AreDistinct, how_many}

abbrev pub one : Bool → ℕ
one b = cond b 1 0

pub is_in-head : (x : ℕ) (xs : List ℕ) → is_in x (x ∷ xs) ≡ true
is_in-head x xs = rw (eq-eqb x x refl) refl

pub is_in-here : (x y : ℕ) (ys : List ℕ) → x ≡ y → is_in x (y ∷ ys) ≡ true
is_in-here x y ys e = rw (eq-eqb x y e) refl

-- a member of a list that begins with y
pub is_in-cons : (x y : ℕ) (ys : List ℕ) → is_in x (y ∷ ys) ≡ true → (x ≡ y) ⊎ (is_in x ys ≡ true)
is_in-cons x y ys h = go (nat_eq x y) refl h where
  go : (b : Bool) → nat_eq x y ≡ b → (b || is_in x ys) ≡ true → (x ≡ y) ⊎ (is_in x ys ≡ true)
  go true e h = inl (eqb-true x y e)
  go false e h = inr h

pub is_in-tail : (x y : ℕ) (ys : List ℕ) → is_in x ys ≡ true → is_in x (y ∷ ys) ≡ true
is_in-tail x y ys h = go (nat_eq x y) where
  go : (b : Bool) → (b || is_in x ys) ≡ true
  go true = refl
  go false = h

-- without one of its members
pub without : ℕ → List ℕ → List ℕ
without x [] = []
without x (y ∷ ys) = cond (nat_eq x y) ys (y ∷ without x ys)

-- a test that passes x: the others that pass are one fewer
pub how_many-without : (q : ℕ → Bool) (x : ℕ) (ys : List ℕ) → is_in x ys ≡ true → q x ≡ true → how_many q ys ≡ 1 + how_many q (without x ys)
unfolding without
how_many-without q x [] h p = absurd (false≢true h)
how_many-without q x (y ∷ ys) h p = go (nat_eq x y) refl (λ m. how_many-without q x ys m p) where
  go : (b : Bool) → nat_eq x y ≡ b → (is_in x ys ≡ true → how_many q ys ≡ 1 + how_many q (without x ys)) → how_many q (y ∷ ys) ≡ 1 + how_many q (cond b ys (y ∷ without x ys))
  go true e rest = rw (← eqb-true x y e, p) refl
  go false e rest =
      let less = rest (rw e at h) in omega (arith, less)

pub is_in-without : (z x : ℕ) (ys : List ℕ) → is_in z ys ≡ true → z ≢ x → is_in z (without x ys) ≡ true
unfolding without
is_in-without z x [] h n = h
is_in-without z x (y ∷ ys) h n = go (nat_eq x y) refl (λ r. is_in-without z x ys r n) where
  go : (b : Bool) → nat_eq x y ≡ b → (is_in z ys ≡ true → is_in z (without x ys) ≡ true) → is_in z (cond b ys (y ∷ without x ys)) ≡ true
  go true e rest = ⊎_elim (λ zy. absurd (n (zy ∙ sym (eqb-true x y e)))) (λ r. r) (is_in-cons z y ys h)
  go false e rest = ⊎_elim (is_in-here z y (without x ys)) (λ r. is_in-tail z y (without x ys) (rest r)) (is_in-cons z y ys h)

-- a list of distinct pages has at most as many that pass p as another that has each of them, and passes q there
pub how_many-le : (p q : ℕ → Bool) (xs ys : List ℕ) → AreDistinct xs → ((x : ℕ) → is_in x xs ≡ true → p x ≡ true → (is_in x ys ≡ true) × (q x ≡ true)) → how_many p xs ≤ how_many q ys
how_many-le p q [] ys d h = omega arith
how_many-le p q (x ∷ xs) ys d h = go (p x) refl (λ zs. how_many-le p q xs zs d.1) where
  go : (b : Bool) → p x ≡ b → ((zs : List ℕ) → ((z : ℕ) → is_in z xs ≡ true → p z ≡ true → (is_in z zs ≡ true) × (q z ≡ true)) → how_many p xs ≤ how_many q zs) → cond b 1 0 + how_many p xs ≤ how_many q ys
  go false e tail = let rest = tail ys (λ z m. h z (is_in-tail z x xs m)) in omega (arith, rest)
  go true e tail =
      let here = h x (is_in-head x xs) e in
      let rest = tail (without x ys) (λ z m pz.
      let there = h z (is_in-tail z x xs m) pz in
      (is_in-without z x ys there.0 (λ zx. false≢true (sym d.0 ∙ rw zx at m)), there.1)) in
      let less = how_many-without q x ys here.0 here.1 in
      omega (arith, rest, less)

-- sums of counts, from what each page adds
pub how_many-sum : (p a b : ℕ → Bool) (xs : List ℕ) → ((x : ℕ) → one (p x) ≤ one (a x) + one (b x)) → how_many p xs ≤ how_many a xs + how_many b xs
how_many-sum p a b [] h = omega arith
how_many-sum p a b (x ∷ xs) h = let here = h x in let rest = how_many-sum p a b xs h in omega (arith, here, rest)

pub how_many-parts : (p a b : ℕ → Bool) (xs : List ℕ) → ((x : ℕ) → one (a x) + one (b x) ≤ one (p x)) → how_many a xs + how_many b xs ≤ how_many p xs
how_many-parts p a b [] h = omega arith
how_many-parts p a b (x ∷ xs) h = let here = h x in let rest = how_many-parts p a b xs h in omega (arith, here, rest)

pub how_many-more : (p q : ℕ → Bool) (xs : List ℕ) → ((x : ℕ) → one (p x) ≤ one (q x)) → how_many p xs ≤ how_many q xs
how_many-more p q [] h = omega arith
how_many-more p q (x ∷ xs) h = let here = h x in let rest = how_many-more p q xs h in omega (arith, here, rest)

pub how_many-all : (xs : List ℕ) → how_many (λ _. true) xs ≡ length xs
how_many-all [] = refl
how_many-all (x ∷ xs) = let rest = how_many-all xs in omega (arith, rest)

pub how_many-none : (p : ℕ → Bool) (xs : List ℕ) → ((x : ℕ) → p x ≡ false) → how_many p xs ≡ 0
how_many-none p [] h = refl
how_many-none p (x ∷ xs) h = let rest = how_many-none p xs h in rw (h x) (omega (arith, rest))
