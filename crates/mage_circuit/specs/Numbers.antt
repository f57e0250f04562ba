-- A number to which a bit is added.
use Rattle.std.specs.Prelude.{List, [], ◌∷◌, ◌++◌}
use Rattle.mage_driver.specs.Rules.{Rules}
use Rattle.mage_driver.specs.Circuits.{Circuit, formed, folded, closed}
use Rattle.mage_driver.specs.Operations.{Carried, Counted, starting, count_up, count_last}

-- the bits, and the carry above them
abbrev pub with_top : {W : Type 0} → Carried W → List W
with_top up = up.bits ++ up.carry ∷ []

abbrev pub without_top : {W : Type 0} → Carried W → List W
without_top up = up.bits

-- the bits of what was counted
abbrev pub bits_of : {W : Type 0} → Counted W → List W
bits_of all = all.bits

module _ {W : Type 0} (rules : Rules W) where
  abbrev pub grown : W → List W → Circuit rules (List W)
  grown bit number = formed rules with_top
      (folded rules (count_up rules) (starting rules bit) number)

  abbrev pub increased : W → List W → Circuit rules (List W)
  increased bit number = formed rules without_top
      (closed rules (count_up rules) (count_last rules) (starting rules bit) number)
