-- What is known of the workers as they were handed in.
use Rattle.std.proofs.Common.{◌≡◌, ℕ, List, map, Some, slice_get, sym, ap, ◌∙◌}
use Rattle.std.specs.Prelude.{IsTrue}
use Rattle.mage_instr.specs.declared.directive.MemProgram.{MemProgram}
use Rattle.mage_driver.specs.Rules.{Rules}
use Rattle.mage_verify.specs.Parts.{WorkerPart, parts_of}
use Rattle.mage_core.specs.Going.{Start}
use Rattle.mage_core.specs.Answered.{AreStates, AreTold}
use Rattle.mage_core.proofs.Starting.{if_found, map_get}

module _ {W : Type 0} (rules : Rules W) (starts : List (Start rules.State)) where
  pub part_so : (plan : MemProgram) → map (λ (start : Start rules.State). start.part) starts ≡ parts_of plan → (w : ℕ) (start : Start rules.State) →
      slice_get starts w ≡ Some start → slice_get (parts_of plan) w ≡ Some start.part
  part_so plan parts w start is =
      ap (λ (ps : List WorkerPart). slice_get ps w) (sym parts) ∙ map_get (λ (s : Start rules.State). s.part) starts w start is

  pub told_so : AreTold starts → (w : ℕ) (start : Start rules.State) → slice_get starts w ≡ Some start → IsTrue start.driver.told
  told_so told w start is = if_found (λ (s : Start rules.State). IsTrue s.driver.told) (slice_get starts w) start is (told w)

  pub state_so : (states : ℕ → rules.State) → AreStates starts states → (w : ℕ) (start : Start rules.State) → slice_get starts w ≡ Some start → states w ≡ start.driver.state
  state_so states are w start is = if_found (λ (s : Start rules.State). states w ≡ s.driver.state) (slice_get starts w) start is (are w)
