use Rattle.std.proofs.Common.{◌≤◌, length, All}
use Rattle.std.specs.Option.{option_copied}
use Rattle.mage_instr.specs.Sound.{IsSound}
use Rattle.mage_instr.specs.declared.instr.Program.{Program}
use Rattle.mage_linked.specs.Linked.{IsLinked}
use Rattle.mage_unroll.specs.Limits.{MOST_INSTRS}
use Rattle.mage_unroll.proofs.KindStatements.{kinds-answer}
use Rattle.mage_unroll.proofs.SoundPrograms.{answer-has, unrolled_is_sound, unrolled_is_linked, unrolled_is_short}
use Rattle.mage_unroll.proofs.unrolled.unroll.Goals as goal

pub returns-clause-kinds : goal.returns-clause-kinds
returns-clause-kinds c =
    kinds-answer (option_copied c.workers.result) c.body.result.now c.assembled.result c.assembled.ensures

pub returns-clause-sound : goal.returns-clause-sound
returns-clause-sound c =
    let count = option_copied c.workers.result in
    let body = c.body.result.now in
    answer-has (λ (p : Program). All IsSound p.workers) count body c.assembled.result (unrolled_is_sound count body) c.assembled.ensures

pub returns-clause-linked : goal.returns-clause-linked
returns-clause-linked c =
    let count = option_copied c.workers.result in
    let body = c.body.result.now in
    answer-has IsLinked count body c.assembled.result (unrolled_is_linked count body) c.assembled.ensures

pub returns-clause-few : goal.returns-clause-few
returns-clause-few c =
    let count = option_copied c.workers.result in
    let body = c.body.result.now in
    answer-has (λ (p : Program). length p.order ≤ MOST_INSTRS) count body c.assembled.result (unrolled_is_short count body) c.assembled.ensures
