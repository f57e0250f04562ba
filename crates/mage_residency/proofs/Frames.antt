-- Frames that have different pages.
use Rattle.std.proofs.Common.{◌≡◌, ◌≢◌, ◌<◌, zero, suc, ℕ, true, List, [], ◌∷◌, length, get_or, refl, sym, ◌∙◌, ap, arith}
use Rattle.std.proofs.lemmas.Bool.{eq-eqb, ne_eqb, false≢true}
use Rattle.mage_belady.specs.Plan.{is_in, AreDistinct}
use Rattle.mage_belady.specs.Rule.{frame_of}
use Rattle.mage_belady.proofs.Counts.{is_in-here, is_in-tail}

pub is_in-at : (xs : List ℕ) (g : ℕ) → g < length xs → is_in (get_or xs g 0) xs ≡ true
is_in-at [] g less = absurd (omega (arith, less))
is_in-at (x ∷ xs) zero less = is_in-here x x xs refl
is_in-at (x ∷ xs) (suc g) less = is_in-tail (get_or xs g 0) x xs (is_in-at xs g (omega (arith, less)))

-- a page stands in one frame
pub frame_of-at : (xs : List ℕ) (g : ℕ) → AreDistinct xs → g < length xs → frame_of (get_or xs g 0) xs ≡ g
frame_of-at [] g distinct less = absurd (omega (arith, less))
frame_of-at (x ∷ xs) zero distinct less = rw (eq-eqb x x refl) refl
frame_of-at (x ∷ xs) (suc g) distinct less =
    let inside : g < length xs = omega (arith, less) in
    let rest = frame_of-at xs g distinct.1 inside in
    let other : get_or xs g 0 ≢ x = λ e. false≢true (sym distinct.0 ∙ ap (λ y. is_in y xs) (sym e) ∙ is_in-at xs g inside) in
    rw (ne_eqb (get_or xs g 0) x other) (omega (arith, rest))
