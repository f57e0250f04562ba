-- What is in memory once a page took a frame.
use Rattle.std.proofs.Common.{◌≡◌, ◌≢◌, ◌+◌, ◌||◌, suc, ℕ, Bool, true, false, cond, List, [], ◌∷◌, ◌++◌, get_or, set, nat_eq, refl, sym, ◌∙◌, ap, arith, ⊎_elim}
use Rattle.std.proofs.lemmas.Bool.{eqb-true, eqb-false, ne_eqb, false≢true, false_from_ne_true}
use Rattle.std.proofs.lemmas.List.Folds.{list_any-append}
use Rattle.mage_belady.specs.Plan.{is_in, AreDistinct}
use Rattle.mage_belady.specs.Rule.{frame_of}
use Rattle.mage_belady.proofs.Sets.{not-in-cons, is_in-set, is_in-set_other}

or_false : (b : Bool) → (b || false) ≡ b
or_false true = refl
or_false false = refl

-- another page, where one came behind
pub push_other : (q p : ℕ) (xs : List ℕ) → q ≢ p → is_in q (xs ++ p ∷ []) ≡ is_in q xs
push_other q p xs ne = list_any-append (nat_eq q) xs (p ∷ []) ∙ rw (ne_eqb q p ne) (or_false (is_in q xs))

-- the page whose frame was taken
pub gone : (xs : List ℕ) (v p : ℕ) → AreDistinct xs → is_in v xs ≡ true → v ≢ p → is_in v (set xs (frame_of v xs) p) ≡ false
gone [] v p distinct here ne = absurd (false≢true here)
gone (x ∷ xs) v p distinct here ne = go (nat_eq v x) refl (gone xs v p distinct.1) where
  more : (n : ℕ) → set (x ∷ xs) (n + 1) p ≡ x ∷ set xs n p
  more n = (let e : n + 1 ≡ suc n = omega arith in ap (λ m. set (x ∷ xs) m p) e)

  go : (b : Bool) → nat_eq v x ≡ b → (is_in v xs ≡ true → v ≢ p → is_in v (set xs (frame_of v xs) p) ≡ false) → is_in v (set (x ∷ xs) (cond b 0 (frame_of v xs + 1)) p) ≡ false
  go true e rest = not-in-cons v p xs ne (ap (λ y. is_in y xs) (eqb-true v x e) ∙ distinct.0)
  go false e rest = ap (is_in v) (more (frame_of v xs)) ∙ not-in-cons v x (set xs (frame_of v xs) p) (eqb-false v x e) (rest (rw e at here) ne)

-- another page, where one took a third one's frame
pub set_other : (q : ℕ) (xs : List ℕ) (f p : ℕ) → q ≢ p → q ≢ get_or xs f 0 → is_in q (set xs f p) ≡ is_in q xs
set_other q xs f p ne differs = go (is_in q xs) refl where
  go : (b : Bool) → is_in q xs ≡ b → is_in q (set xs f p) ≡ b
  go true e = is_in-set_other q xs f p e differs
  go false e = false_from_ne_true (is_in q (set xs f p)) (λ m. ⊎_elim ne (λ k. false≢true (sym e ∙ k)) (is_in-set q xs f p m))

pub absent_set : (q : ℕ) (xs : List ℕ) (f p : ℕ) → q ≢ p → is_in q xs ≡ false → is_in q (set xs f p) ≡ false
absent_set q xs f p ne e = false_from_ne_true (is_in q (set xs f p)) (λ m. ⊎_elim ne (λ k. false≢true (sym e ∙ k)) (is_in-set q xs f p m))
