-- The pages from k on have moved by one.
use Rattle.std.proofs.Common.{◌≡◌, ◌≤◌, ◌<◌, ◌+◌, ℕ, length, slice_index}
use Rattle.mage_place.proofs.steps.inserted.Given as goal

abbrev pub invariant-loop-k : goal.invariant-loop-k
invariant-loop-k l = record {
  four : length l.pages ≡ 4;
  low : l.at ≤ l.k;
  before : (j : ℕ) → j ≤ l.k → slice_index l.pages j ≡ slice_index l.fn.step.pages j;
  behind : (j : ℕ) → l.k ≤ j → j < l.fn.step.count → slice_index l.pages (j + 1) ≡ slice_index l.fn.step.pages j;
  rest : (j : ℕ) → l.fn.step.count < j → j < 4 → slice_index l.pages j ≡ slice_index l.fn.step.pages j;
}
