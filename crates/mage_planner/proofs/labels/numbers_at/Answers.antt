use Rattle.std.proofs.Common.{refl, ◌∙◌, sym, length, arith}
use Rattle.std.proofs.lemmas.Option.{slice_get_read}
use Rattle.mage_planner.proofs.WritingLemmas.{numbers_found, numbers_missing}
use Rattle.mage_planner.proofs.labels.numbers_at.Goals as goal

pub returns-in-Some : goal.returns-in-Some
returns-in-Some c =
    let numbers = c.args.numbers.now in
    let item = c.in-Some.ensures.lookup in
    let found = slice_get_read numbers (length numbers) c.from.result c.in-Some.own.now refl item.3.0 item.1 in
    c.as_slice.ensures.value ∙ sym (numbers_found numbers c.args.worker c.in-Some.own.now (rw c.from.ensures at found))

pub returns-in-None : goal.returns-in-None
returns-in-None c = sym (numbers_missing c.args.numbers.now c.args.worker (omega (arith, c.in-None.ensures.lookup, c.from.ensures)))
