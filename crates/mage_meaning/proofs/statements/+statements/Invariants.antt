use Rattle.std.proofs.Common.{◌≡◌, map, drop}
use Rattle.mage_constants.specs.Ranges.{distance}
use Rattle.mage_meaning.specs.Run.{moment_of}
use Rattle.mage_meaning.specs.Value.{all_changes, turns, change_of}
use Rattle.mage_meaning.proofs.statements.+statements.Given as goal

abbrev pub invariant-execute_all-loop-statement : goal.invariant-execute_all-loop-statement
invariant-execute_all-loop-statement l =
    all_changes (map change_of (drop l.statement-index l.body)) (moment_of l.run)
    ≡ all_changes (map change_of l.body) (moment_of l.initial.run)

abbrev pub invariant-turns-loop-number : goal.invariant-turns-loop-number
invariant-turns-loop-number l =
    turns (distance l.number l.end) l.number l.name (all_changes (map change_of l.body)) (moment_of l.run)
    ≡ turns (distance l.first l.end) l.first l.name (all_changes (map change_of l.body)) (moment_of l.initial.run)

abbrev pub decreases-turns-loop-number : goal.decreases-turns-loop-number
decreases-turns-loop-number l = distance l.number l.end
