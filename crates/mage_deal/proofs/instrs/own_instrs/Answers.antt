use Rattle.std.proofs.Common.{List, take, sym, ap, ◌∙◌}
use Rattle.mage_instr.specs.declared.instr.Instr.{Instr}
use Rattle.mage_linked.specs.Workers.{list_at}
use Rattle.mage_deal.specs.Dealing.{turns_of}
use Rattle.mage_deal.proofs.Dealt.{own_taken}
use Rattle.mage_deal.proofs.instrs.own_instrs.Goals as goal

pub returns : goal.returns
returns c =
    let program = c.args.program.now in
    c.first_of.ensures
    ∙ ap (λ n. take n c.list_at.result.now)
    (c.turns_of-turns.ensures ∙ ap (turns_of c.args.worker) c.as_slice.ensures)
    ∙ ap (take (turns_of c.args.worker program.order))
    (c.list_at.ensures ∙ ap (λ (workers : List (List Instr)). list_at workers c.args.worker) c.as_slice-2.ensures)
    ∙ sym (own_taken (list_at program.workers) program.order c.args.worker)
