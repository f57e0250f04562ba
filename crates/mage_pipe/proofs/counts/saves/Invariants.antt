-- The writes so far and those of the rest are the writes of all.
use Rattle.std.proofs.Common.{◌≡◌, ◌≤◌, ◌+◌, drop}
use Rattle.mage_pipe.specs.Summary.{saves_of}
use Rattle.mage_pipe.proofs.counts.saves.Given as goal

abbrev pub invariant-loop-entry : goal.invariant-loop-entry
invariant-loop-entry l = record { counted : l.count + saves_of (drop l.entry-index l.list) ≡ saves_of l.list; few : l.count ≤ l.entry-index }
