-- The step has the pages of the values so far.
use Rattle.std.proofs.Common.{◌≡◌, ◌≤◌, ◌↔◌, ℕ, length, take, Contains}
use Rattle.mage_instr.specs.Trace.{IsStep, pages_of}
use Rattle.mage_place.specs.Places.{place_of}
use Rattle.mage_place.specs.Steps.{IsPadded}
use Rattle.mage_place.proofs.steps.step_of.Given as goal

abbrev pub invariant-loop-k : goal.invariant-loop-k
invariant-loop-k l = record {
  four : length l.step.pages ≡ 4;
  ok : IsStep l.step;
  padded : IsPadded l.step;
  count : l.step.count ≤ l.k;
  pages : (q : ℕ) → Contains (pages_of l.step) q ↔ ((v : ℕ) × Contains (take l.k l.touched.values) v × ((place_of l.places v).page ≡ q));
}
