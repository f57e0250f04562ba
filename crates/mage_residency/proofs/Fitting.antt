-- Where no value is too wide for a page, each class has at most as many wires.
use Rattle.std.proofs.Common.{◌≡◌, ◌≤◌, ◌+◌, zero, suc, ℕ, Bool, true, false, cond, List, [], ◌∷◌, Option, Some, None, ltb, refl}
use Rattle.std.specs.Prelude.{slice_get}
use Rattle.std.proofs.lemmas.Bool.{ltb-false}
use Rattle.mage_instr.specs.declared.instr.Instr.{Instr}
use Rattle.mage_instr.specs.declared.replaced.Tight.{Tight}
use Rattle.mage_instr.specs.Opcodes.{has_result}
use Rattle.mage_place.specs.Live.{class_of_result}
use Rattle.mage_place.specs.TooWide.{is_too_wide, too_wide_from, page_tight}

first_fits : (test : Bool) (found : Tight) (others : Option Tight) → cond test (Some found) others ≡ None → (test ≡ false) × (others ≡ None)
first_fits true found others none = absurd (cc)
first_fits false found others none = (refl, none)

none_too_wide : (n page : ℕ) (instrs : List Instr) (t : ℕ) (i : Instr) → too_wide_from n page instrs ≡ None → slice_get instrs t ≡ Some i → is_too_wide page i ≡ false
none_too_wide n page [] t i none at = absurd (cc)
none_too_wide n page (first ∷ others) zero i none at =
    let same : first ≡ i = cc in
    rw (← same) (first_fits (is_too_wide page first) _ _ none).0
none_too_wide n page (first ∷ others) (suc t) i none at =
    none_too_wide (n + 1) page others t i (first_fits (is_too_wide page first) _ _ none).1 at

pub fits_at : (page : ℕ) (instrs : List Instr) (t : ℕ) (i : Instr) → page_tight page instrs ≡ None → slice_get instrs t ≡ Some i → has_result i.op ≡ true → class_of_result i ≤ page
fits_at page instrs t i none at has =
    let fits = none_too_wide 0 page instrs t i none at in
    let below : ltb page (class_of_result i) ≡ false = rw has at fits in
    ltb-false page (class_of_result i) below
