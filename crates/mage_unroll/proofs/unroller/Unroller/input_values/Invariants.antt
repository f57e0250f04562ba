use Rattle.std.proofs.Common.{◌≡◌, ◌-◌, []}
use Rattle.mage_unroll.specs.Statements.{inputs}
use Rattle.mage_unroll.specs.Unroller.{state_of}
use Rattle.mage_unroll.proofs.unroller.Unroller.input_values.Given as goal

abbrev pub invariant-loop : goal.invariant-loop
invariant-loop l =
    inputs (l.count - l.counter) l.word l.party l.width l.items (state_of l.self)
    ≡ inputs l.count l.word l.party l.width [] (state_of l.initial.self)
