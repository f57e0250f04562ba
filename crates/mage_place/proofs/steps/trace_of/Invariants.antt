-- Each instruction before t has its step, and the steps so far are those that the definition computes.
use Rattle.std.proofs.Common.{◌≡◌, ◌<◌, ℕ, Some, length, take}
use Rattle.std.specs.List.{slice_get}
use Rattle.mage_instr.specs.declared.instr.Instr.{Instr}
use Rattle.mage_instr.specs.declared.instr.Step.{Step}
use Rattle.mage_place.specs.Placing.{trace_of}
use Rattle.mage_place.specs.Steps.{IsStepOf}
use Rattle.mage_place.proofs.steps.trace_of.Given as goal

abbrev pub invariant-loop-t : goal.invariant-loop-t
invariant-loop-t l = record {
  count : length l.trace.items ≡ l.t;
  each : (s : ℕ) (i : Instr) (step : Step) → s < l.t → slice_get l.instrs s ≡ Some i → slice_get l.trace.items s ≡ Some step → IsStepOf l.places s i step;
  traced : l.trace.items ≡ take l.t (trace_of l.instrs l.places);
}
