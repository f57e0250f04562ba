-- What a call says and warns, where the desk tells it.
use Rattle.std.specs.Prelude.{◌≡◌, ◌≤◌, ◌+◌, ◌++◌, ◌⊎◌, ℕ, List, length, take, IsTrue, Option, IfSome, IsSomeAnd}
use Rattle.mage_base.specs.Desk.{DeskTold}
use Rattle.mage_base.specs.Faults.{Rose}
use Rattle.mage_planner.specs.declared.refusal.Refusal.{Refusal}
use Rattle.mage_planner.specs.declared.refusal.Refusal.TheVariants as refusal

-- what is said, or warned, grows so, where it is told
abbrev pub Grows : Option (List ℕ) → Option (List ℕ) → (List ℕ → List ℕ → Type 0) → Type 0
Grows before after P = IfSome before (λ old. IsSomeAnd after (λ new. P old new))

-- a line is warned whole and no fault is counted, or warning failed and some front of the line is warned
abbrev pub Warned : List ℕ → (before now : ℕ) → (old new : List ℕ) → Type 0
Warned line before now old new =
    ((now ≡ before) × (new ≡ old ++ line))
    ⊎ (Rose before now × (n : ℕ) × (new ≡ old ++ take n line))

-- A line is warned, or a front of it where warning failed. A steady desk that has the room doesn't fail, and
-- has that much less of it then. All else that the desk tells stays.
pub record WarnsLine (line : List ℕ) (before after : DeskTold) : Type 0 where
  pub warned : Grows before.warned after.warned (Warned line before.faults after.faults)
  pub rises : before.faults ≤ after.faults
  pub steady : IsTrue before.steady → length line ≤ before.warn_room
      → (after.faults ≡ before.faults) × (after.warn_room + length line ≡ before.warn_room)
  pub rest : after ≡ record before {
    warned = after.warned;
    faults = after.faults;
    warn_room = after.warn_room;
  }

-- the refusal, or want of memory in place of any but the desk's fault
abbrev pub IsOrMemory : Refusal → Refusal → Type 0
IsOrMemory own warned = (warned ≡ own) ⊎ ((warned ≡ refusal.Memory) × (own ≡ refusal.Desk → ⊥))
