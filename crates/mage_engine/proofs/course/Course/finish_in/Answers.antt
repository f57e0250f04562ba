use Rattle.std.proofs.Common.{◌≡◌, ◌+◌, ℕ, List, length, refl, ap, ◌∙◌, arith}
use Rattle.std.specs.Prelude.{Vec}
use Rattle.std.specs.Global.{Global}
use Rattle.mage_instr.specs.declared.directive.Directive.TheVariants as entry
use Rattle.mage_network.specs.Network.{put}
use Rattle.mage_bank.specs.Bank.{contents, bank_of, lengths_of}
use Rattle.mage_bank.proofs.Banking.{count_of}
use Rattle.mage_engine.proofs.Views.{seen_of, changed}
use Rattle.mage_engine.proofs.Pages.{back_again}
use Rattle.mage_engine.proofs.Advancing.{ready, meets, few, as_many, frame_whole}
use Rattle.mage_engine.proofs.Finishing.{asked_read, brought, underway, finished_in, stands_in, waiting, stands_waiting, put_same}
use Rattle.mage_engine.proofs.course.Course.finish_in.Goals as goal

pub take-requires-clause-asked : goal.take-requires-clause-asked
take-requires-clause-asked g c =
    let inside = c.self.inside in
    let at = rw (← c.self.view_is) at c.requires in
    let rules = g.D.Driver.rules in
    let wb = g.D.Driver.rules.wire_bytes in
    let old = seen_of inside.part (g.D.Driver.tells inside.driver) (g.P.SwapPort.tells inside.port) inside.place inside.wire (contents inside.room.frames.items) inside.fault in
    let x = entry.FinishIn c.args.slot c.args.frame in
    let stands = c.self.invariant.0 in
    asked_read rules wb inside.finished old c.args.slot c.args.frame at stands

pub take-requires-clause-inside : goal.take-requires-clause-inside
take-requires-clause-inside g c =
    let inside = c.self.inside in
    let at = rw (← c.self.view_is) at c.requires in
    let rules = g.D.Driver.rules in
    let wb = g.D.Driver.rules.wire_bytes in
    let old = seen_of inside.part (g.D.Driver.tells inside.driver) (g.P.SwapPort.tells inside.port) inside.place inside.wire (contents inside.room.frames.items) inside.fault in
    let x = entry.FinishIn c.args.slot c.args.frame in
    let stands = c.self.invariant.0 in
    let value : c.as_mut_slice.result.now ≡ inside.room.frames.items = c.as_mut_slice.ensures.value in
    let r = ready wb inside.finished old x at stands in
    let m = meets wb inside.finished old x at stands in
    let many = as_many wb inside.finished old r (contents inside.room.frames.items) refl in
    let count = count_of inside.room.frames.items in
    let within = m.1 in
    let n = ap (λ (l : List (Vec ℕ Global)). length l) value in
    omega (arith, many, count, within, n)

pub take-requires-clause-whole : goal.take-requires-clause-whole
take-requires-clause-whole g c =
    let inside = c.self.inside in
    let at = rw (← c.self.view_is) at c.requires in
    let rules = g.D.Driver.rules in
    let wb = g.D.Driver.rules.wire_bytes in
    let old = seen_of inside.part (g.D.Driver.tells inside.driver) (g.P.SwapPort.tells inside.port) inside.place inside.wire (contents inside.room.frames.items) inside.fault in
    let x = entry.FinishIn c.args.slot c.args.frame in
    let stands = c.self.invariant.0 in
    let value : c.as_mut_slice.result.now ≡ inside.room.frames.items = c.as_mut_slice.ensures.value in
    let r = ready wb inside.finished old x at stands in
    let m = meets wb inside.finished old x at stands in
    ap (λ (l : List (Vec ℕ Global)). length (bank_of (contents l) c.args.frame)) value
    ∙ frame_whole wb inside.finished old r (contents inside.room.frames.items) refl c.args.frame m.1

pub overflow_add-self : goal.overflow_add-self
overflow_add-self g c =
    let inside = c.self.inside in
    let at = rw (← c.self.view_is) at c.requires in
    let rules = g.D.Driver.rules in
    let wb = g.D.Driver.rules.wire_bytes in
    let old = seen_of inside.part (g.D.Driver.tells inside.driver) (g.P.SwapPort.tells inside.port) inside.place inside.wire (contents inside.room.frames.items) inside.fault in
    let x = entry.FinishIn c.args.slot c.args.frame in
    let stands = c.self.invariant.0 in
    let f = few wb inside.finished old x at stands in omega (arith, f)

pub invariant_of-self : goal.invariant_of-self
invariant_of-self g c =
    let inside = c.self.inside in
    let at = rw (← c.self.view_is) at c.requires in
    let rules = g.D.Driver.rules in
    let wb = g.D.Driver.rules.wire_bytes in
    let old = seen_of inside.part (g.D.Driver.tells inside.driver) (g.P.SwapPort.tells inside.port) inside.place inside.wire (contents inside.room.frames.items) inside.fault in
    let x = entry.FinishIn c.args.slot c.args.frame in
    let stands = c.self.invariant.0 in
    let value : c.as_mut_slice.result.now ≡ inside.room.frames.items = c.as_mut_slice.ensures.value in
    let same : length c.take.new.frames ≡ length inside.room.frames.items = c.take.auto.frames ∙ ap (λ (l : List (Vec ℕ Global)). length l) value in
    let back = back_again inside.room.frames c.take.new.frames same in
    let bytes : List ℕ = bank_of (contents c.take.new.frames) c.args.frame in
    let filled = ap (λ (l : List (Vec ℕ Global)). bank_of (contents l)) back ∙ c.take.ensures.bank ∙ ap (λ (l : List (Vec ℕ Global)). put (bank_of (contents l)) c.args.frame bytes) value in
    let lengths = ap (λ (l : List (Vec ℕ Global)). lengths_of (contents l)) back ∙ c.take.ensures.lengths ∙ ap (λ (l : List (Vec ℕ Global)). lengths_of (contents l)) value in
    let is = changed old (inside.place + 1) inside.wire old.driver old.driver (g.P.SwapPort.tells c.take.new.port) _ _ _ _ refl refl filled lengths in
    let brings = brought rules wb inside.finished old c.args.slot c.args.frame at stands c.in-Ok.field-0 (g.P.SwapPort.tells c.take.new.port) _ bytes c.in-Ok.ensures.answer in
    (stands_in rules wb inside.finished old c.args.slot c.args.frame at stands (g.P.SwapPort.tells c.take.new.port) bytes brings _ is, c.self.invariant.1)

pub returns-in-Ok : goal.returns-in-Ok
returns-in-Ok g c =
    let inside = c.self.inside in
    let at = rw (← c.self.view_is) at c.requires in
    let rules = g.D.Driver.rules in
    let wb = g.D.Driver.rules.wire_bytes in
    let old = seen_of inside.part (g.D.Driver.tells inside.driver) (g.P.SwapPort.tells inside.port) inside.place inside.wire (contents inside.room.frames.items) inside.fault in
    let x = entry.FinishIn c.args.slot c.args.frame in
    let stands = c.self.invariant.0 in
    let value : c.as_mut_slice.result.now ≡ inside.room.frames.items = c.as_mut_slice.ensures.value in
    let same : length c.take.new.frames ≡ length inside.room.frames.items = c.take.auto.frames ∙ ap (λ (l : List (Vec ℕ Global)). length l) value in
    let back = back_again inside.room.frames c.take.new.frames same in
    let bytes : List ℕ = bank_of (contents c.take.new.frames) c.args.frame in
    let filled = ap (λ (l : List (Vec ℕ Global)). bank_of (contents l)) back ∙ c.take.ensures.bank ∙ ap (λ (l : List (Vec ℕ Global)). put (bank_of (contents l)) c.args.frame bytes) value in
    let lengths = ap (λ (l : List (Vec ℕ Global)). lengths_of (contents l)) back ∙ c.take.ensures.lengths ∙ ap (λ (l : List (Vec ℕ Global)). lengths_of (contents l)) value in
    let is = changed old (inside.place + 1) inside.wire old.driver old.driver (g.P.SwapPort.tells c.take.new.port) _ _ _ _ refl refl filled lengths in
    let brings = brought rules wb inside.finished old c.args.slot c.args.frame at stands c.in-Ok.field-0 (g.P.SwapPort.tells c.take.new.port) _ bytes c.in-Ok.ensures.answer in
    λ link. rw (← c.self.view_is)
    (finished_in rules wb inside.finished old c.args.slot c.args.frame at stands (g.P.SwapPort.tells c.take.new.port) bytes brings _ is link)

pub invariant_of-self-in-Err-Pending : goal.invariant_of-self-in-Err-Pending
invariant_of-self-in-Err-Pending g c =
    let inside = c.self.inside in
    let at = rw (← c.self.view_is) at c.requires in
    let rules = g.D.Driver.rules in
    let wb = g.D.Driver.rules.wire_bytes in
    let old = seen_of inside.part (g.D.Driver.tells inside.driver) (g.P.SwapPort.tells inside.port) inside.place inside.wire (contents inside.room.frames.items) inside.fault in
    let x = entry.FinishIn c.args.slot c.args.frame in
    let stands = c.self.invariant.0 in
    let value : c.as_mut_slice.result.now ≡ inside.room.frames.items = c.as_mut_slice.ensures.value in
    let same : length c.take.new.frames ≡ length inside.room.frames.items = c.take.auto.frames ∙ ap (λ (l : List (Vec ℕ Global)). length l) value in
    let back = back_again inside.room.frames c.take.new.frames same in
    let bytes : List ℕ = bank_of (contents c.take.new.frames) c.args.frame in
    let filled = ap (λ (l : List (Vec ℕ Global)). bank_of (contents l)) back ∙ c.take.ensures.bank ∙ ap (λ (l : List (Vec ℕ Global)). put (bank_of (contents l)) c.args.frame bytes) value in
    let lengths = ap (λ (l : List (Vec ℕ Global)). lengths_of (contents l)) back ∙ c.take.ensures.lengths ∙ ap (λ (l : List (Vec ℕ Global)). lengths_of (contents l)) value in
    let waits = rw c.in-Err-Pending.field-0-is at c.in-Err-Pending.ensures.answer in
    let kept : bytes ≡ old.bank c.args.frame = waits.0 ∙ ap (λ (l : List (Vec ℕ Global)). bank_of (contents l) c.args.frame) value in
    let still = filled ∙ ap (put old.bank c.args.frame) kept ∙ put_same old.bank c.args.frame in
    let is = changed old inside.place inside.wire old.driver old.driver (g.P.SwapPort.tells c.take.new.port) _ _ _ _ refl refl still lengths in
    let under = underway rules wb inside.finished old c.args.slot c.args.frame at stands (g.P.SwapPort.tells c.take.new.port) waits.1 in
    (stands_waiting rules wb inside.finished old x at stands _ (g.P.SwapPort.tells c.take.new.port) is under, c.self.invariant.1)

pub returns-in-Err-Pending : goal.returns-in-Err-Pending
returns-in-Err-Pending g c =
    let inside = c.self.inside in
    let at = rw (← c.self.view_is) at c.requires in
    let rules = g.D.Driver.rules in
    let wb = g.D.Driver.rules.wire_bytes in
    let old = seen_of inside.part (g.D.Driver.tells inside.driver) (g.P.SwapPort.tells inside.port) inside.place inside.wire (contents inside.room.frames.items) inside.fault in
    let x = entry.FinishIn c.args.slot c.args.frame in
    let stands = c.self.invariant.0 in
    let value : c.as_mut_slice.result.now ≡ inside.room.frames.items = c.as_mut_slice.ensures.value in
    let same : length c.take.new.frames ≡ length inside.room.frames.items = c.take.auto.frames ∙ ap (λ (l : List (Vec ℕ Global)). length l) value in
    let back = back_again inside.room.frames c.take.new.frames same in
    let bytes : List ℕ = bank_of (contents c.take.new.frames) c.args.frame in
    let filled = ap (λ (l : List (Vec ℕ Global)). bank_of (contents l)) back ∙ c.take.ensures.bank ∙ ap (λ (l : List (Vec ℕ Global)). put (bank_of (contents l)) c.args.frame bytes) value in
    let lengths = ap (λ (l : List (Vec ℕ Global)). lengths_of (contents l)) back ∙ c.take.ensures.lengths ∙ ap (λ (l : List (Vec ℕ Global)). lengths_of (contents l)) value in
    let waits = rw c.in-Err-Pending.field-0-is at c.in-Err-Pending.ensures.answer in
    let kept : bytes ≡ old.bank c.args.frame = waits.0 ∙ ap (λ (l : List (Vec ℕ Global)). bank_of (contents l) c.args.frame) value in
    let still = filled ∙ ap (put old.bank c.args.frame) kept ∙ put_same old.bank c.args.frame in
    let is = changed old inside.place inside.wire old.driver old.driver (g.P.SwapPort.tells c.take.new.port) _ _ _ _ refl refl still lengths in
    let under = underway rules wb inside.finished old c.args.slot c.args.frame at stands (g.P.SwapPort.tells c.take.new.port) waits.1 in
    λ link. rw (← c.self.view_is)
    (waiting rules wb inside.finished old x at c.args.slot _ refl is under link)
