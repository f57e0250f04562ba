use Rattle.std.proofs.Common.{◌≡◌, List, length, Some, true, map, refl, sym, ◌∙◌, ap}
use Rattle.std.specs.Prelude.{slice_get}
use Rattle.std.proofs.lemmas.Option.{slice_get_read}
use Rattle.mage_carry.specs.declared.transfer.Transfer.{Transfer}
use Rattle.mage_carry.specs.State.{may_issue}
use Rattle.mage_carry.specs.Views.{slot_of, pages_in, state_of}
use Rattle.mage_carry.proofs.Tables.{issue_out_goes}
use Rattle.mage_carry.proofs.walk.Walk.issue_out.Goals as goal

pub returns : goal.returns
unfolding state_of
returns c =
    let s = c.args.self.now in
    let may = c.may_issue.ensures.value ∙ ap (λ (xs : List Transfer). may_issue c.args.store c.args.slot c.args.page (map slot_of xs)) c.as_slice.ensures.value in
    let may_true : c.may_issue.result ≡ true = c.if-not-may_issue.false in
    let l = c.in-Some.ensures.lookup in
    let found : slice_get c.deref.result.now c.from.result ≡ Some c.in-Some.held.now = slice_get_read c.deref.result.now (length c.deref.result.now) c.from.result c.in-Some.held.now refl l.3.0 l.1 in
    let is : slice_get s.frames.items c.args.frame ≡ Some c.in-Some.held.now = rw (c.deref.ensures.value, c.from.ensures) at found in
    issue_out_goes s.frames.items s.slots.items (pages_in s) s.next c.args.store c.args.slot c.args.frame c.args.page c.from-2.result c.in-Some.held.now c.in_ok-held.held c.from-2.ensures is c.in_ok-held.ensures (sym may ∙ may_true)
