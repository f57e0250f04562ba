use Rattle.std.proofs.Common.{arith}
use Rattle.std.proofs.lemmas.Result.{err_from_is_err_and}
use Rattle.mage_texts.proofs.Reading.{IsFaultIn-after}
use Rattle.mage_texts.proofs.input_text.read_worker.Goals as goal

pub returns-in_err-number-clause-fault : goal.returns-in_err-number-clause-fault
returns-in_err-number-clause-fault c =
    let p = err_from_is_err_and c.from_residual.result c.from_residual.ensures.1 in
    let l = c.loop-width in
    rw (p.1, p.2) (IsFaultIn-after c.args.lines.number c.args.lines.rest.now c.args.widths.now l.numbers.items l.width-index l.left.number l.left.rest.now _ _ (omega arith) l.invariant.2 c.in_err-number.ensures.fault)
