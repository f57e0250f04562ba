use Rattle.std.proofs.Common.{refl, ◌∙◌, sym, length, arith}
use Rattle.std.proofs.lemmas.Option.{slice_get_read}
use Rattle.mage_linked.proofs.WorkerLemmas.{list_at-none}
use Rattle.mage_deal.proofs.Dealt.{list_at-found}
use Rattle.mage_deal.proofs.instrs.list_at.Goals as goal

pub returns-in-Some : goal.returns-in-Some
returns-in-Some c =
    let workers = c.args.workers.now in
    let item = c.in-Some.ensures.lookup in
    let found = slice_get_read workers (length workers) c.from.result c.in-Some.instrs.now refl item.3.0 item.1 in
    c.as_slice.ensures ∙ sym (list_at-found workers c.args.worker c.in-Some.instrs.now (rw c.from.ensures at found))

pub returns-in-None : goal.returns-in-None
returns-in-None c = sym (list_at-none c.args.workers.now c.args.worker (omega (arith, c.in-None.ensures.lookup, c.from.ensures)))
