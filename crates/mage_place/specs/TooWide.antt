-- Values whose class is greater than a page.
use Rattle.std.specs.Prelude.{◌+◌, ◌&&◌, ℕ, nat_lt, Bool, List, [], ◌∷◌, Option, Some, None, if◌then◌else◌}
use Rattle.mage_instr.specs.declared.instr.Instr.{Instr}
use Rattle.mage_instr.specs.declared.replaced.Tight.{Tight}
use Rattle.mage_instr.specs.declared.replaced.Tight.TheVariants as tight
use Rattle.mage_instr.specs.Opcodes.{has_result}
use Rattle.mage_place.specs.Live.{class_of_result}

-- an instruction defines a value whose class is greater than a page of so many wires
abbrev pub is_too_wide : (page : ℕ) → Instr → Bool
is_too_wide page i = has_result i.op && nat_lt page (class_of_result i)

-- the first such instruction, where they are numbered from t
abbrev pub too_wide_from : (t page : ℕ) → List Instr → Option Tight
too_wide_from t page [] = None
too_wide_from t page (i ∷ is) =
    if is_too_wide page i then Some (tight.Page t (class_of_result i)) else too_wide_from (t + 1) page is

-- the first of some instructions whose value doesn't fit a page, if there is one
abbrev pub page_tight : (page : ℕ) → List Instr → Option Tight
page_tight page instrs = too_wide_from 0 page instrs
