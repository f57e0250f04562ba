use Rattle.std.proofs.Common.{◌≡◌, ℕ, List, length, refl, sym, ap, ◌∙◌, arith}
use Rattle.mage_instr.specs.declared.directive.Directive.TheVariants as entry
use Rattle.mage_bank.specs.Bank.{contents}
use Rattle.mage_engine.proofs.Views.{seen_of}
use Rattle.mage_engine.proofs.Pages.{back_again}
use Rattle.mage_engine.proofs.Advancing.{ready, few}
use Rattle.mage_engine.proofs.Finishing.{asked_write, saved, underway_out, finished_out, stands_out, waiting, stands_waiting}
use Rattle.mage_engine.proofs.course.Course.finish_out.Goals as goal

pub try_finish-requires-clause-asked : goal.try_finish-requires-clause-asked
try_finish-requires-clause-asked g c =
    let inside = c.self.inside in
    let at = rw (← c.self.view_is) at c.requires in
    let rules = g.D.Driver.rules in
    let wb = g.D.Driver.rules.wire_bytes in
    let old = seen_of inside.part (g.D.Driver.tells inside.driver) (g.P.SwapPort.tells inside.port) inside.place inside.wire (contents inside.room.frames.items) inside.fault in
    let x = entry.FinishOut c.args.slot in
    let stands = c.self.invariant.0 in
    asked_write rules wb inside.finished old c.args.slot at stands

pub try_finish-requires-clause-whole : goal.try_finish-requires-clause-whole
try_finish-requires-clause-whole g c =
    let inside = c.self.inside in
    let at = rw (← c.self.view_is) at c.requires in
    let rules = g.D.Driver.rules in
    let wb = g.D.Driver.rules.wire_bytes in
    let old = seen_of inside.part (g.D.Driver.tells inside.driver) (g.P.SwapPort.tells inside.port) inside.place inside.wire (contents inside.room.frames.items) inside.fault in
    let x = entry.FinishOut c.args.slot in
    let stands = c.self.invariant.0 in
    let value : c.as_mut_slice.result.now ≡ inside.room.spare.items = c.as_mut_slice.ensures.value in
    let r = ready wb inside.finished old x at stands in
    ap (λ (l : List ℕ). length l) value ∙ c.self.invariant.1 ∙ sym r.bytes

pub overflow_add-self : goal.overflow_add-self
overflow_add-self g c =
    let inside = c.self.inside in
    let at = rw (← c.self.view_is) at c.requires in
    let rules = g.D.Driver.rules in
    let wb = g.D.Driver.rules.wire_bytes in
    let old = seen_of inside.part (g.D.Driver.tells inside.driver) (g.P.SwapPort.tells inside.port) inside.place inside.wire (contents inside.room.frames.items) inside.fault in
    let x = entry.FinishOut c.args.slot in
    let stands = c.self.invariant.0 in
    let f = few wb inside.finished old x at stands in omega (arith, f)

pub invariant_of-self : goal.invariant_of-self
invariant_of-self g c =
    let inside = c.self.inside in
    let at = rw (← c.self.view_is) at c.requires in
    let rules = g.D.Driver.rules in
    let wb = g.D.Driver.rules.wire_bytes in
    let old = seen_of inside.part (g.D.Driver.tells inside.driver) (g.P.SwapPort.tells inside.port) inside.place inside.wire (contents inside.room.frames.items) inside.fault in
    let x = entry.FinishOut c.args.slot in
    let stands = c.self.invariant.0 in
    let value : c.as_mut_slice.result.now ≡ inside.room.spare.items = c.as_mut_slice.ensures.value in
    let same : length c.try_finish.new.into ≡ length inside.room.spare.items = c.try_finish.auto.into ∙ ap (λ (l : List ℕ). length l) value in
    let spare = ap (λ (l : List ℕ). length l) (back_again inside.room.spare c.try_finish.new.into same) ∙ same ∙ c.self.invariant.1 in
    let after = g.P.SwapPort.tells c.try_finish.new.self in
    let saves = saved rules wb inside.finished old c.args.slot at stands c.in-Ok.field-0 after _ _ c.in-Ok.ensures.answer in
    (stands_out rules wb inside.finished old c.args.slot at stands after saves _ refl, spare)

pub returns-in-Ok : goal.returns-in-Ok
returns-in-Ok g c =
    let inside = c.self.inside in
    let at = rw (← c.self.view_is) at c.requires in
    let rules = g.D.Driver.rules in
    let wb = g.D.Driver.rules.wire_bytes in
    let old = seen_of inside.part (g.D.Driver.tells inside.driver) (g.P.SwapPort.tells inside.port) inside.place inside.wire (contents inside.room.frames.items) inside.fault in
    let x = entry.FinishOut c.args.slot in
    let stands = c.self.invariant.0 in
    let after = g.P.SwapPort.tells c.try_finish.new.self in
    let saves = saved rules wb inside.finished old c.args.slot at stands c.in-Ok.field-0 after _ _ c.in-Ok.ensures.answer in
    λ link. rw (← c.self.view_is)
    (finished_out rules wb inside.finished old c.args.slot at stands after saves _ refl link)

pub invariant_of-self-in-Err-Pending : goal.invariant_of-self-in-Err-Pending
invariant_of-self-in-Err-Pending g c =
    let inside = c.self.inside in
    let at = rw (← c.self.view_is) at c.requires in
    let rules = g.D.Driver.rules in
    let wb = g.D.Driver.rules.wire_bytes in
    let old = seen_of inside.part (g.D.Driver.tells inside.driver) (g.P.SwapPort.tells inside.port) inside.place inside.wire (contents inside.room.frames.items) inside.fault in
    let x = entry.FinishOut c.args.slot in
    let stands = c.self.invariant.0 in
    let value : c.as_mut_slice.result.now ≡ inside.room.spare.items = c.as_mut_slice.ensures.value in
    let same : length c.try_finish.new.into ≡ length inside.room.spare.items = c.try_finish.auto.into ∙ ap (λ (l : List ℕ). length l) value in
    let spare = ap (λ (l : List ℕ). length l) (back_again inside.room.spare c.try_finish.new.into same) ∙ same ∙ c.self.invariant.1 in
    let after = g.P.SwapPort.tells c.try_finish.new.self in
    let waits = rw c.in-Err-Pending.field-0-is at c.in-Err-Pending.ensures.answer in
    let under = underway_out rules wb inside.finished old c.args.slot at stands after waits.1 in
    (stands_waiting rules wb inside.finished old x at stands _ after refl under, spare)

pub returns-in-Err-Pending : goal.returns-in-Err-Pending
returns-in-Err-Pending g c =
    let inside = c.self.inside in
    let at = rw (← c.self.view_is) at c.requires in
    let rules = g.D.Driver.rules in
    let wb = g.D.Driver.rules.wire_bytes in
    let old = seen_of inside.part (g.D.Driver.tells inside.driver) (g.P.SwapPort.tells inside.port) inside.place inside.wire (contents inside.room.frames.items) inside.fault in
    let x = entry.FinishOut c.args.slot in
    let stands = c.self.invariant.0 in
    let after = g.P.SwapPort.tells c.try_finish.new.self in
    let waits = rw c.in-Err-Pending.field-0-is at c.in-Err-Pending.ensures.answer in
    let under = underway_out rules wb inside.finished old c.args.slot at stands after waits.1 in
    λ link. rw (← c.self.view_is)
    (waiting rules wb inside.finished old x at c.args.slot _ refl refl under link)
