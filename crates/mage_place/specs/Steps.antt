-- The trace: the pages that each instruction needs.
use Rattle.std.specs.Prelude.{◌≡◌, ◌≤◌, ◌<◌, ◌↔◌, ℕ, List, length, slice_get, slice_index, IfSome, Contains}
use Rattle.mage_instr.specs.declared.instr.Instr.{Instr}
use Rattle.mage_instr.specs.declared.instr.Place.{Place}
use Rattle.mage_instr.specs.declared.instr.Step.{Step}
use Rattle.mage_instr.specs.Trace.{pages_of, IsStep}
use Rattle.mage_place.specs.Live.{values_touched_by}
use Rattle.mage_place.specs.Places.{place_of}

-- instruction t needs page q: a value that it takes, or the one that it defines, stands there
abbrev pub Needs : List Place → (t : ℕ) → Instr → (q : ℕ) → Type 0
Needs places t i q = (v : ℕ) × Contains (values_touched_by i t) v × ((place_of places v).page ≡ q)

-- behind its pages a step has 0
abbrev pub IsPadded : Step → Type 0
IsPadded step = (k : ℕ) → step.count ≤ k → k < 4 → slice_index step.pages k ≡ 0

-- the step of instruction t: the pages that it needs, ascending, and 0 behind them
pub record IsStepOf (places : List Place) (t : ℕ) (i : Instr) (step : Step) : Type 0 where
  pub ok : IsStep step
  pub pages : (q : ℕ) → Contains (pages_of step) q ↔ Needs places t i q
  pub padded : IsPadded step

-- each instruction has its step
pub record AreSteps (instrs : List Instr) (places : List Place) (trace : List Step) : Type 0 where
  pub count : length trace ≡ length instrs
  pub each : (t : ℕ) → IfSome (slice_get instrs t) (λ i. IfSome (slice_get trace t) (IsStepOf places t i))
