use Rattle.std.proofs.Common.{◌≡◌, ◌+◌, ℕ, List, length, refl, sym, ap, ◌∙◌, subst, arith}
use Rattle.std.specs.Prelude.{Vec}
use Rattle.std.specs.Global.{Global}
use Rattle.mage_instr.specs.declared.directive.Directive.TheVariants as entry
use Rattle.mage_network.specs.Network.{put}
use Rattle.mage_bank.specs.Bank.{contents, bank_of, lengths_of}
use Rattle.mage_bank.proofs.Banking.{count_of}
use Rattle.mage_port.specs.Port.{AskedWrite, CanWrite, with_state}
use Rattle.mage_engine.proofs.Views.{seen_of, changed}
use Rattle.mage_engine.proofs.Pages.{back_again}
use Rattle.mage_engine.proofs.Advancing.{ready, meets, few, as_many, frame_whole}
use Rattle.mage_engine.proofs.Issuing.{can_write, issued_out, stands_out, left_others}
use Rattle.mage_engine.proofs.course.Course.issue_out.Goals as goal

pub give-requires-clause-inside : goal.give-requires-clause-inside
give-requires-clause-inside g c =
    let inside = c.self.inside in
    let at = rw (← c.self.view_is) at c.requires in
    let rules = g.D.Driver.rules in
    let wb = g.D.Driver.rules.wire_bytes in
    let old = seen_of inside.part (g.D.Driver.tells inside.driver) (g.P.SwapPort.tells inside.port) inside.place inside.wire (contents inside.room.frames.items) inside.fault in
    let x = entry.IssueOut c.args.slot c.args.frame c.args.page in
    let r = ready wb inside.finished old x at c.self.invariant.0 in
    let m = meets wb inside.finished old x at c.self.invariant.0 in
    let whole = frame_whole wb inside.finished old r (contents inside.room.frames.items) refl c.args.frame m.1 in
    let value : c.as_mut_slice.result.now ≡ inside.room.frames.items = c.as_mut_slice.ensures.value in
    let many = as_many wb inside.finished old r (contents inside.room.frames.items) refl in
    let count = count_of inside.room.frames.items in
    let within = m.1 in
    let n = ap (λ (l : List (Vec ℕ Global)). length l) value in
    omega (arith, many, count, within, n)

pub give-requires-clause-can : goal.give-requires-clause-can
give-requires-clause-can g c =
    let inside = c.self.inside in
    let at = rw (← c.self.view_is) at c.requires in
    let rules = g.D.Driver.rules in
    let wb = g.D.Driver.rules.wire_bytes in
    let old = seen_of inside.part (g.D.Driver.tells inside.driver) (g.P.SwapPort.tells inside.port) inside.place inside.wire (contents inside.room.frames.items) inside.fault in
    let x = entry.IssueOut c.args.slot c.args.frame c.args.page in
    let r = ready wb inside.finished old x at c.self.invariant.0 in
    let m = meets wb inside.finished old x at c.self.invariant.0 in
    let whole = frame_whole wb inside.finished old r (contents inside.room.frames.items) refl c.args.frame m.1 in
    let value : c.as_mut_slice.result.now ≡ inside.room.frames.items = c.as_mut_slice.ensures.value in
    subst (λ (l : List (Vec ℕ Global)). CanWrite (g.P.SwapPort.tells inside.port) c.args.slot c.args.page (bank_of (contents l) c.args.frame)) (sym value)
    (can_write rules wb inside.finished old c.args.slot c.args.frame c.args.page at c.self.invariant.0 whole)

pub overflow_add-self : goal.overflow_add-self
overflow_add-self g c =
    let inside = c.self.inside in
    let at = rw (← c.self.view_is) at c.requires in
    let rules = g.D.Driver.rules in
    let wb = g.D.Driver.rules.wire_bytes in
    let old = seen_of inside.part (g.D.Driver.tells inside.driver) (g.P.SwapPort.tells inside.port) inside.place inside.wire (contents inside.room.frames.items) inside.fault in
    let x = entry.IssueOut c.args.slot c.args.frame c.args.page in
    let r = ready wb inside.finished old x at c.self.invariant.0 in
    let m = meets wb inside.finished old x at c.self.invariant.0 in
    let whole = frame_whole wb inside.finished old r (contents inside.room.frames.items) refl c.args.frame m.1 in
    let f = few wb inside.finished old x at c.self.invariant.0 in omega (arith, f)

pub invariant_of-self : goal.invariant_of-self
invariant_of-self g c =
    let inside = c.self.inside in
    let at = rw (← c.self.view_is) at c.requires in
    let rules = g.D.Driver.rules in
    let wb = g.D.Driver.rules.wire_bytes in
    let old = seen_of inside.part (g.D.Driver.tells inside.driver) (g.P.SwapPort.tells inside.port) inside.place inside.wire (contents inside.room.frames.items) inside.fault in
    let x = entry.IssueOut c.args.slot c.args.frame c.args.page in
    let r = ready wb inside.finished old x at c.self.invariant.0 in
    let m = meets wb inside.finished old x at c.self.invariant.0 in
    let whole = frame_whole wb inside.finished old r (contents inside.room.frames.items) refl c.args.frame m.1 in
    let value : c.as_mut_slice.result.now ≡ inside.room.frames.items = c.as_mut_slice.ensures.value in
    let same : length c.give.new.frames ≡ length inside.room.frames.items = c.give.auto.frames ∙ ap (λ (l : List (Vec ℕ Global)). length l) value in
    let back = back_again inside.room.frames c.give.new.frames same in
    let bytes : List ℕ = bank_of (contents c.give.new.frames) c.args.frame in
    let asked = c.give.ensures.asked ∙ ap (λ (l : List (Vec ℕ Global)). with_state (g.P.SwapPort.tells inside.port) c.args.slot (AskedWrite c.args.page (bank_of (contents l) c.args.frame))) value in
    let filled = ap (λ (l : List (Vec ℕ Global)). bank_of (contents l)) back ∙ c.give.ensures.bank ∙ ap (λ (l : List (Vec ℕ Global)). put (bank_of (contents l)) c.args.frame bytes) value in
    let lengths = ap (λ (l : List (Vec ℕ Global)). lengths_of (contents l)) back ∙ c.give.ensures.lengths ∙ ap (λ (l : List (Vec ℕ Global)). lengths_of (contents l)) value in
    let is = changed old (inside.place + 1) inside.wire old.driver old.driver _ _ _ _ _ refl asked filled lengths in
    (stands_out rules wb inside.finished old c.args.slot c.args.frame c.args.page at c.self.invariant.0 _ (put old.bank c.args.frame bytes) is, c.self.invariant.1)

pub returns-then-leaves : goal.returns-then-leaves
returns-then-leaves g c =
    let inside = c.self.inside in
    let at = rw (← c.self.view_is) at c.requires in
    let rules = g.D.Driver.rules in
    let wb = g.D.Driver.rules.wire_bytes in
    let old = seen_of inside.part (g.D.Driver.tells inside.driver) (g.P.SwapPort.tells inside.port) inside.place inside.wire (contents inside.room.frames.items) inside.fault in
    let x = entry.IssueOut c.args.slot c.args.frame c.args.page in
    let r = ready wb inside.finished old x at c.self.invariant.0 in
    let m = meets wb inside.finished old x at c.self.invariant.0 in
    let whole = frame_whole wb inside.finished old r (contents inside.room.frames.items) refl c.args.frame m.1 in
    let value : c.as_mut_slice.result.now ≡ inside.room.frames.items = c.as_mut_slice.ensures.value in
    let same : length c.give.new.frames ≡ length inside.room.frames.items = c.give.auto.frames ∙ ap (λ (l : List (Vec ℕ Global)). length l) value in
    let back = back_again inside.room.frames c.give.new.frames same in
    let bytes : List ℕ = bank_of (contents c.give.new.frames) c.args.frame in
    let asked = c.give.ensures.asked ∙ ap (λ (l : List (Vec ℕ Global)). with_state (g.P.SwapPort.tells inside.port) c.args.slot (AskedWrite c.args.page (bank_of (contents l) c.args.frame))) value in
    let filled = ap (λ (l : List (Vec ℕ Global)). bank_of (contents l)) back ∙ c.give.ensures.bank ∙ ap (λ (l : List (Vec ℕ Global)). put (bank_of (contents l)) c.args.frame bytes) value in
    let lengths = ap (λ (l : List (Vec ℕ Global)). lengths_of (contents l)) back ∙ c.give.ensures.lengths ∙ ap (λ (l : List (Vec ℕ Global)). lengths_of (contents l)) value in
    let is = changed old (inside.place + 1) inside.wire old.driver old.driver _ _ _ _ _ refl asked filled lengths in
    λ link. rw (← c.self.view_is)
    (issued_out rules wb inside.finished old c.args.slot c.args.frame c.args.page at c.self.invariant.0 _ (put old.bank c.args.frame bytes)
    (left_others rules wb inside.finished old c.args.slot c.args.frame c.args.page at c.self.invariant.0 bytes (sym c.leaves.ensures ∙ c.if-leaves.true)) is link)

pub copy-requires-clause-inside : goal.copy-requires-clause-inside
copy-requires-clause-inside g c =
    let inside = c.self.inside in
    let at = rw (← c.self.view_is) at c.requires in
    let rules = g.D.Driver.rules in
    let wb = g.D.Driver.rules.wire_bytes in
    let old = seen_of inside.part (g.D.Driver.tells inside.driver) (g.P.SwapPort.tells inside.port) inside.place inside.wire (contents inside.room.frames.items) inside.fault in
    let x = entry.IssueOut c.args.slot c.args.frame c.args.page in
    let r = ready wb inside.finished old x at c.self.invariant.0 in
    let m = meets wb inside.finished old x at c.self.invariant.0 in
    let whole = frame_whole wb inside.finished old r (contents inside.room.frames.items) refl c.args.frame m.1 in
    let value : c.as_slice.result.now ≡ inside.room.frames.items = c.as_slice.ensures.value in
    let many = as_many wb inside.finished old r (contents inside.room.frames.items) refl in
    let count = count_of inside.room.frames.items in
    let within = m.1 in
    let n = ap (λ (l : List (Vec ℕ Global)). length l) value in
    omega (arith, many, count, within, n)

pub copy-requires-clause-can : goal.copy-requires-clause-can
copy-requires-clause-can g c =
    let inside = c.self.inside in
    let at = rw (← c.self.view_is) at c.requires in
    let rules = g.D.Driver.rules in
    let wb = g.D.Driver.rules.wire_bytes in
    let old = seen_of inside.part (g.D.Driver.tells inside.driver) (g.P.SwapPort.tells inside.port) inside.place inside.wire (contents inside.room.frames.items) inside.fault in
    let x = entry.IssueOut c.args.slot c.args.frame c.args.page in
    let r = ready wb inside.finished old x at c.self.invariant.0 in
    let m = meets wb inside.finished old x at c.self.invariant.0 in
    let whole = frame_whole wb inside.finished old r (contents inside.room.frames.items) refl c.args.frame m.1 in
    let value : c.as_slice.result.now ≡ inside.room.frames.items = c.as_slice.ensures.value in
    subst (λ (l : List (Vec ℕ Global)). CanWrite (g.P.SwapPort.tells inside.port) c.args.slot c.args.page (bank_of (contents l) c.args.frame)) (sym value)
    (can_write rules wb inside.finished old c.args.slot c.args.frame c.args.page at c.self.invariant.0 whole)

pub overflow_add-self-2 : goal.overflow_add-self-2
overflow_add-self-2 g c =
    let inside = c.self.inside in
    let at = rw (← c.self.view_is) at c.requires in
    let rules = g.D.Driver.rules in
    let wb = g.D.Driver.rules.wire_bytes in
    let old = seen_of inside.part (g.D.Driver.tells inside.driver) (g.P.SwapPort.tells inside.port) inside.place inside.wire (contents inside.room.frames.items) inside.fault in
    let x = entry.IssueOut c.args.slot c.args.frame c.args.page in
    let r = ready wb inside.finished old x at c.self.invariant.0 in
    let m = meets wb inside.finished old x at c.self.invariant.0 in
    let whole = frame_whole wb inside.finished old r (contents inside.room.frames.items) refl c.args.frame m.1 in
    let f = few wb inside.finished old x at c.self.invariant.0 in omega (arith, f)

pub invariant_of-self-2 : goal.invariant_of-self-2
invariant_of-self-2 g c =
    let inside = c.self.inside in
    let at = rw (← c.self.view_is) at c.requires in
    let rules = g.D.Driver.rules in
    let wb = g.D.Driver.rules.wire_bytes in
    let old = seen_of inside.part (g.D.Driver.tells inside.driver) (g.P.SwapPort.tells inside.port) inside.place inside.wire (contents inside.room.frames.items) inside.fault in
    let x = entry.IssueOut c.args.slot c.args.frame c.args.page in
    let r = ready wb inside.finished old x at c.self.invariant.0 in
    let m = meets wb inside.finished old x at c.self.invariant.0 in
    let whole = frame_whole wb inside.finished old r (contents inside.room.frames.items) refl c.args.frame m.1 in
    let value : c.as_slice.result.now ≡ inside.room.frames.items = c.as_slice.ensures.value in
    let asked = c.copy.ensures.asked ∙ ap (λ (l : List (Vec ℕ Global)). with_state (g.P.SwapPort.tells inside.port) c.args.slot (AskedWrite c.args.page (bank_of (contents l) c.args.frame))) value in
    let is = changed old (inside.place + 1) inside.wire old.driver old.driver _ _ _ _ _ refl asked refl refl in
    (stands_out rules wb inside.finished old c.args.slot c.args.frame c.args.page at c.self.invariant.0 _ old.bank is, c.self.invariant.1)

pub returns : goal.returns
returns g c =
    let inside = c.self.inside in
    let at = rw (← c.self.view_is) at c.requires in
    let rules = g.D.Driver.rules in
    let wb = g.D.Driver.rules.wire_bytes in
    let old = seen_of inside.part (g.D.Driver.tells inside.driver) (g.P.SwapPort.tells inside.port) inside.place inside.wire (contents inside.room.frames.items) inside.fault in
    let x = entry.IssueOut c.args.slot c.args.frame c.args.page in
    let r = ready wb inside.finished old x at c.self.invariant.0 in
    let m = meets wb inside.finished old x at c.self.invariant.0 in
    let whole = frame_whole wb inside.finished old r (contents inside.room.frames.items) refl c.args.frame m.1 in
    let value : c.as_slice.result.now ≡ inside.room.frames.items = c.as_slice.ensures.value in
    let asked = c.copy.ensures.asked ∙ ap (λ (l : List (Vec ℕ Global)). with_state (g.P.SwapPort.tells inside.port) c.args.slot (AskedWrite c.args.page (bank_of (contents l) c.args.frame))) value in
    let is = changed old (inside.place + 1) inside.wire old.driver old.driver _ _ _ _ _ refl asked refl refl in
    λ link. rw (← c.self.view_is)
    (issued_out rules wb inside.finished old c.args.slot c.args.frame c.args.page at c.self.invariant.0 _ old.bank (λ f left. refl) is link)
