-- The reads so far and those of the rest are the reads of all.
use Rattle.std.proofs.Common.{◌≡◌, ◌≤◌, ◌+◌, drop}
use Rattle.mage_belady.specs.Rule.{loads_of}
use Rattle.mage_pipe.proofs.counts.loads.Given as goal

abbrev pub invariant-loop-entry : goal.invariant-loop-entry
invariant-loop-entry l = record { counted : l.count + loads_of (drop l.entry-index l.list) ≡ loads_of l.list; few : l.count ≤ l.entry-index }
