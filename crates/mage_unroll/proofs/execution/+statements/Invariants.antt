use Rattle.std.proofs.Common.{◌≡◌, map, drop}
use Rattle.mage_constants.specs.Ranges.{distance}
use Rattle.mage_unroll.specs.Statements.{all_acts, turns, executed}
use Rattle.mage_unroll.specs.Unroller.{state_of}
use Rattle.mage_unroll.proofs.execution.+statements.Given as goal

abbrev pub invariant-all-loop-statement : goal.invariant-all-loop-statement
invariant-all-loop-statement l =
    all_acts (map executed (drop l.statement-index l.body)) (state_of l.unroller)
    ≡ all_acts (map executed l.body) (state_of l.initial.unroller)

abbrev pub invariant-turns-loop-number : goal.invariant-turns-loop-number
invariant-turns-loop-number l =
    turns (distance l.number l.end) l.number l.word l.name (all_acts (map executed l.body)) (state_of l.unroller)
    ≡ turns (distance l.first l.end) l.first l.word l.name (all_acts (map executed l.body)) (state_of l.initial.unroller)

abbrev pub decreases-turns-loop-number : goal.decreases-turns-loop-number
decreases-turns-loop-number l = distance l.number l.end
