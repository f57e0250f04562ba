-- Where no value is too wide.
use Rattle.std.proofs.Common.{◌≡◌, ◌<◌, ◌+◌, ℕ, zero, suc, Bool, true, false, cond, List, [], ◌∷◌, Option, Some, None, slice_get, get_or, length, drop, refl, sym, ◌∙◌}
use Rattle.mage_instr.specs.declared.instr.Instr.{Instr}
use Rattle.std.proofs.lemmas.List.{at_drop_more}
use Rattle.mage_instr.specs.declared.replaced.Tight.{Tight}
use Rattle.mage_instr.specs.declared.replaced.Tight.TheVariants as tight
use Rattle.mage_place.specs.Live.{class_of_result}
use Rattle.mage_place.specs.TooWide.{is_too_wide, too_wide_from, page_tight}

-- the first isn't too wide, nor is one of the others
first_fits : (test : Bool) (found : Tight) (others : Option Tight) → cond test (Some found) others ≡ None → (test ≡ false) × (others ≡ None)
first_fits true found others none = absurd (cc)
first_fits false found others none = (refl, none)

fits_from : (n page : ℕ) (instrs : List Instr) (t : ℕ) (i : Instr) → too_wide_from n page instrs ≡ None → slice_get instrs t ≡ Some i → is_too_wide page i ≡ false
fits_from n page [] t i none at = absurd (cc)
fits_from n page (first ∷ others) zero i none at =
    let same : first ≡ i = cc in
    rw (← same) (first_fits (is_too_wide page first) _ _ none).0
fits_from n page (first ∷ others) (suc t) i none at =
    fits_from (n + 1) page others t i (first_fits (is_too_wide page first) _ _ none).1 at

-- no instruction's value is too wide
pub fits_at : (page : ℕ) (instrs : List Instr) (t : ℕ) (i : Instr) → page_tight page instrs ≡ None → slice_get instrs t ≡ Some i → is_too_wide page i ≡ false
fits_at page instrs t i none at = fits_from 0 page instrs t i none at

-- the instruction at hand is the first that is too wide
pub found_here : (t page : ℕ) (instrs : List Instr) (d : Instr) (class : ℕ) (whole : Option Tight) → t < length instrs → Some class ≡ cond (is_too_wide page (get_or instrs t d)) (Some (class_of_result (get_or instrs t d))) None → too_wide_from t page (drop t instrs) ≡ whole → Some (tight.Page t class) ≡ whole
found_here t page instrs d class whole inside above rest =
    by_test (is_too_wide page (get_or instrs t d)) (class_of_result (get_or instrs t d)) _ above (sym (at_drop_more (too_wide_from t page) instrs t d inside) ∙ rest)
  where
    by_test : (test : Bool) (c : ℕ) (others : Option Tight) → Some class ≡ cond test (Some c) None → cond test (Some (tight.Page t c)) others ≡ whole → Some (tight.Page t class) ≡ whole
    by_test true c others above here = let same : class ≡ c = cc in rw same here
    by_test false c others above here = absurd (cc)
