-- The first k pages of the step came in as in the rule.
use Rattle.std.proofs.Common.{◌≡◌, ◌≤◌, ◌+◌, length}
use Rattle.mage_instr.specs.Trace.{pages_of}
use Rattle.mage_belady.specs.Rule.{resident}
use Rattle.mage_belady.specs.Kept.{Moment, Keeps, AreFound, outside}
use Rattle.mage_belady.proofs.Walking.{Under}
use Rattle.mage_belady.proofs.paging.Paging.bring_missing.Given as goal

abbrev pub invariant-loop-k : goal.invariant-loop-k
invariant-loop-k g l = record {
  counted : l.steps ≤ l.initial.steps + l.k;
  four : length l.at ≡ 4;
  under : (m : Moment) → Keeps l.frames m (outside (pages_of l.step)) l.initial.self
      → AreFound l.step l.found (resident m.held)
      → Under l.frames l.step l.k m l.initial.self l.self l.found l.at;
}
