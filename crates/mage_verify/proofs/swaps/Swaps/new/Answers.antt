use Rattle.std.proofs.Common.{rules, ◌≡◌, ap, nat_eq, replicate}
use Rattle.mage_verify.specs.declared.slot.Slot.TheVariants as does
use Rattle.std.specs.HashSet.{contains}
use Rattle.std.specs.List.{list_any}
use Rattle.mage_verify.proofs.Tabled.{opened_state, opened_kept}
use Rattle.mage_verify.proofs.swaps.Swaps.new.Goals as goal

pub returns-clause-kept : goal.returns-clause-kept
returns-clause-kept c =
    let slots : c.in_ok-slots.slots.items ≡ replicate c.args.buffer does.Idle = search rules in
    opened_kept _ c.args.buffer slots (λ page. ap (list_any (nat_eq page)) c.new.ensures.empty)

pub returns-clause-state : goal.returns-clause-state
returns-clause-state c =
    let slots : c.in_ok-slots.slots.items ≡ replicate c.args.buffer does.Idle = search rules in
    opened_state c.in_ok-slots.slots.items (contains nat_eq c.new-2.result) c.args.buffer slots (λ page. ap (list_any (nat_eq page)) c.new-2.ensures.empty)
