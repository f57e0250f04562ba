-- The costs so far in front of those of the rest are those of all.
use Rattle.std.proofs.Common.{◌≡◌, drop}
use Rattle.mage_pipe.specs.Fronts.{in_front}
use Rattle.mage_pipe.specs.Summary.{stats_from}
use Rattle.mage_pipe.proofs.planning.stats_of.Given as goal

abbrev pub invariant-loop-worker : goal.invariant-loop-worker
invariant-loop-worker l = in_front l.all.items (stats_from l.limits l.worker (drop l.worker l.workers)) ≡ stats_from l.limits 0 l.workers
