use Rattle.std.proofs.Common.{◌≡◌, List, true, map, sym, ◌∙◌, ap}
use Rattle.std.specs.Ordering.{nat_cmp}
use Rattle.std.specs.BTreeMap.{get}
use Rattle.mage_carry.specs.declared.transfer.Transfer.{Transfer}
use Rattle.mage_carry.specs.State.{may_issue}
use Rattle.mage_carry.specs.Views.{content_of, slot_of, pages_in, state_of}
use Rattle.mage_carry.proofs.Tables.{is_some-map, issue_in_goes}
use Rattle.mage_carry.proofs.walk.Walk.issue_in.Goals as goal

pub returns : goal.returns
unfolding state_of
returns c =
    let s = c.args.self.now in
    let may = c.may_issue.ensures.value ∙ ap (λ (xs : List Transfer). may_issue c.args.store c.args.slot c.args.page (map slot_of xs)) c.as_slice.ensures.value in
    let written = is_some-map content_of (get nat_cmp s.pages c.args.page) ∙ sym c.contains_key.ensures in
    let may_true : c.may_issue.result ≡ true = c.if-not-may_issue.false in
    let written_true : c.contains_key.result ≡ true = c.if-not-contains_key.false in
    issue_in_goes s.frames.items s.slots.items (pages_in s) s.next c.args.store c.args.slot c.from.result c.args.page c.from.ensures (sym may ∙ may_true) (written ∙ written_true)
