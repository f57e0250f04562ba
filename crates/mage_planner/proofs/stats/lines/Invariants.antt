use Rattle.std.proofs.Common.{◌≡◌, ◌++◌, drop, string_bytes}
use Rattle.mage_planner.specs.SummaryText.{lines_from}
use Rattle.mage_planner.proofs.stats.lines.Given as goal

-- the lines so far, in front of those of the others, are all
abbrev pub invariant-loop-worker : goal.invariant-loop-worker
invariant-loop-worker l = string_bytes l.text ++ lines_from l.worker (drop l.worker l.workers) ≡ lines_from 0 l.workers
