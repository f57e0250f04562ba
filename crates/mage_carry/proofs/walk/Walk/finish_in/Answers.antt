use Rattle.std.proofs.Common.{List, map, sym, ◌∙◌, ap, arith}
use Rattle.mage_carry.specs.declared.transfer.Transfer.{Transfer}
use Rattle.mage_carry.specs.Steps.{page_read}
use Rattle.mage_carry.specs.Views.{slot_of, pages_in, state_of}
use Rattle.mage_carry.proofs.Tables.{finish_in_goes}
use Rattle.mage_carry.proofs.walk.Walk.finish_in.Goals as goal

pub returns : goal.returns
unfolding state_of
returns c =
    let s = c.args.self.now in
    let reads = c.page_read.ensures.value ∙ ap (λ (xs : List Transfer). page_read c.args.slot (map slot_of xs)) c.as_slice.ensures.value in
    finish_in_goes s.frames.items s.slots.items (pages_in s) s.next c.args.slot c.args.frame c.in-Some.page c.from-3.result c.from-2.result c.in_ok-held.held c.from-3.ensures c.from-2.ensures
    (sym reads ∙ c.in-Some.is)
    (omega (arith, s.frames.ok.0, c.from.ensures, c.len.ensures, c.if-from-len.false))
    c.in_ok-held.ensures
