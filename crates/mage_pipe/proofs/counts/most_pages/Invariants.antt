-- The most pages of the steps so far and of the rest are those of all.
use Rattle.std.proofs.Common.{◌≡◌, max, drop}
use Rattle.mage_pipe.specs.Summary.{most_pages}
use Rattle.mage_pipe.proofs.counts.most_pages.Given as goal

abbrev pub invariant-loop-step : goal.invariant-loop-step
invariant-loop-step l = max l.most (most_pages (drop l.step-index l.trace)) ≡ most_pages l.trace
