use Rattle.std.proofs.Common.{rules, FitsSigned, to_z, of_z, ◌+ℤ◌, pos, map}
use Rattle.std.specs.Int.{w128}
use Rattle.std.proofs.lemmas.Int.{to_z-of_z}
use Rattle.mage_meaning.specs.Run.{moment_of}
use Rattle.mage_meaning.specs.Value.{all_changes, change_of}
use Rattle.mage_meaning.proofs.TurnLemmas.{turns-more}
use Rattle.mage_meaning.proofs.statements.+statements.Goals as goal

pub turns-loop-number-preserved : goal.turns-loop-number-preserved
turns-loop-number-preserved t c =
    let number = to_z w128 c.loop-number.number-bits in
    let end = to_z w128 (of_z w128 c.args.end) in
    let next : FitsSigned w128 (number +ℤ pos 1) = search rules in
    let body = all_changes (map change_of c.args.body.now) in
    rw (to_z-of_z w128 (number +ℤ pos 1) next)
    (turns-more number end c.args.name.now body (moment_of c.loop-number.run) (moment_of c.turn.new.run) _ c.loop-number-test.true c.in_ok-turn.ensures c.loop-number.invariant)
