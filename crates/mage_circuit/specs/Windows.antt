-- The window in which a division is made.
use Rattle.std.specs.Prelude.{ℕ, List, [], take, drop, reverse}
use Rattle.mage_driver.specs.Rules.{Rules}
use Rattle.mage_driver.specs.Circuits.{Circuit, folded}
use Rattle.mage_driver.specs.Operations.{Carried, Divided, divide_bit}

-- what is left stands lowest, and the quotient above it
abbrev pub in_window : {W : Type 0} → ℕ → List W → Divided W
in_window width window = record { quotient = drop width window; rest = take width window }

-- before the first turn what is left stands highest, and there is no quotient
abbrev pub started : {W : Type 0} → ℕ → List W → Divided W
started width window = record { quotient = []; rest = drop width window }

-- a bit of a quotient, and what is left below it
abbrev pub left_in : {W : Type 0} → ℕ → List W → W → Carried W
left_in width window goes = record { carry = goes; bits = take width window }

-- the dividend in the lower half is divided
abbrev pub divided_window : {W : Type 0} (rules : Rules W) → List W → ℕ → List W →
    Circuit rules (Divided W)
divided_window rules b width window =
    folded rules (divide_bit rules b) (started width window) (reverse (take width window))
