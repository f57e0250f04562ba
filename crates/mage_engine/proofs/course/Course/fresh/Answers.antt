use Rattle.std.proofs.Common.{◌≡◌, ◌+◌, ℕ, List, length, replicate, refl, ap, ◌∙◌, arith}
use Rattle.std.specs.Prelude.{Vec}
use Rattle.std.specs.Global.{Global}
use Rattle.mage_instr.specs.declared.directive.Directive.TheVariants as entry
use Rattle.mage_network.specs.Network.{put}
use Rattle.mage_bank.specs.Bank.{contents, bank_of, lengths_of}
use Rattle.mage_bank.proofs.Banking.{count_of}
use Rattle.mage_engine.proofs.Views.{seen_of, changed}
use Rattle.mage_engine.proofs.Pages.{back_again}
use Rattle.mage_engine.proofs.Advancing.{ready, meets, few, as_many, frame_whole}
use Rattle.mage_engine.proofs.Doing.{freshened, stands_fresh}
use Rattle.mage_engine.proofs.course.Course.fresh.Goals as goal

pub clear-requires : goal.clear-requires
clear-requires g c =
    let inside = c.self.inside in
    let at = rw (← c.self.view_is) at c.requires in
    let rules = g.D.Driver.rules in
    let wb = g.D.Driver.rules.wire_bytes in
    let old = seen_of inside.part (g.D.Driver.tells inside.driver) (g.P.SwapPort.tells inside.port) inside.place inside.wire (contents inside.room.frames.items) inside.fault in
    let x = entry.Fresh c.args.frame c.args._page in
    let stands = c.self.invariant.0 in
    let value : c.as_mut_slice.result.now ≡ inside.room.frames.items = c.as_mut_slice.ensures.value in
    let r = ready wb inside.finished old x at stands in
    let m = meets wb inside.finished old x at stands in
    let many = as_many wb inside.finished old r (contents inside.room.frames.items) refl in
    let count = count_of inside.room.frames.items in
    let n = ap (λ (l : List (Vec ℕ Global)). length l) value in
    omega (arith, many, count, m, n)

pub overflow_add-self : goal.overflow_add-self
overflow_add-self g c =
    let inside = c.self.inside in
    let at = rw (← c.self.view_is) at c.requires in
    let rules = g.D.Driver.rules in
    let wb = g.D.Driver.rules.wire_bytes in
    let old = seen_of inside.part (g.D.Driver.tells inside.driver) (g.P.SwapPort.tells inside.port) inside.place inside.wire (contents inside.room.frames.items) inside.fault in
    let x = entry.Fresh c.args.frame c.args._page in
    let stands = c.self.invariant.0 in
    let f = few wb inside.finished old x at stands in omega (arith, f)

pub invariant_of-self : goal.invariant_of-self
invariant_of-self g c =
    let inside = c.self.inside in
    let at = rw (← c.self.view_is) at c.requires in
    let rules = g.D.Driver.rules in
    let wb = g.D.Driver.rules.wire_bytes in
    let old = seen_of inside.part (g.D.Driver.tells inside.driver) (g.P.SwapPort.tells inside.port) inside.place inside.wire (contents inside.room.frames.items) inside.fault in
    let x = entry.Fresh c.args.frame c.args._page in
    let stands = c.self.invariant.0 in
    let value : c.as_mut_slice.result.now ≡ inside.room.frames.items = c.as_mut_slice.ensures.value in
    let r = ready wb inside.finished old x at stands in
    let m = meets wb inside.finished old x at stands in
    let same : length c.clear.new.frames ≡ length inside.room.frames.items = c.clear.auto.frames ∙ ap (λ (l : List (Vec ℕ Global)). length l) value in
    let back = back_again inside.room.frames c.clear.new.frames same in
    let long = frame_whole wb inside.finished old r (contents inside.room.frames.items) refl c.args.frame m ∙ r.bytes in
    let filled = ap (λ (l : List (Vec ℕ Global)). bank_of (contents l)) back ∙ c.clear.ensures.bank
    ∙ ap (λ (l : List (Vec ℕ Global)). put (bank_of (contents l)) c.args.frame (replicate (length (bank_of (contents l) c.args.frame)) 0)) value
    ∙ ap (λ (n : ℕ). put old.bank c.args.frame (replicate n 0)) long in
    let lengths = ap (λ (l : List (Vec ℕ Global)). lengths_of (contents l)) back ∙ c.clear.ensures.lengths ∙ ap (λ (l : List (Vec ℕ Global)). lengths_of (contents l)) value in
    let is = changed old (inside.place + 1) inside.wire old.driver old.driver old.port _ _ _ _ refl refl filled lengths in
    (stands_fresh rules wb inside.finished old c.args.frame c.args._page at stands _ is, c.self.invariant.1)

pub returns : goal.returns
returns g c =
    let inside = c.self.inside in
    let at = rw (← c.self.view_is) at c.requires in
    let rules = g.D.Driver.rules in
    let wb = g.D.Driver.rules.wire_bytes in
    let old = seen_of inside.part (g.D.Driver.tells inside.driver) (g.P.SwapPort.tells inside.port) inside.place inside.wire (contents inside.room.frames.items) inside.fault in
    let x = entry.Fresh c.args.frame c.args._page in
    let stands = c.self.invariant.0 in
    let value : c.as_mut_slice.result.now ≡ inside.room.frames.items = c.as_mut_slice.ensures.value in
    let r = ready wb inside.finished old x at stands in
    let m = meets wb inside.finished old x at stands in
    let same : length c.clear.new.frames ≡ length inside.room.frames.items = c.clear.auto.frames ∙ ap (λ (l : List (Vec ℕ Global)). length l) value in
    let back = back_again inside.room.frames c.clear.new.frames same in
    let long = frame_whole wb inside.finished old r (contents inside.room.frames.items) refl c.args.frame m ∙ r.bytes in
    let filled = ap (λ (l : List (Vec ℕ Global)). bank_of (contents l)) back ∙ c.clear.ensures.bank
    ∙ ap (λ (l : List (Vec ℕ Global)). put (bank_of (contents l)) c.args.frame (replicate (length (bank_of (contents l) c.args.frame)) 0)) value
    ∙ ap (λ (n : ℕ). put old.bank c.args.frame (replicate n 0)) long in
    let lengths = ap (λ (l : List (Vec ℕ Global)). lengths_of (contents l)) back ∙ c.clear.ensures.lengths ∙ ap (λ (l : List (Vec ℕ Global)). lengths_of (contents l)) value in
    let is = changed old (inside.place + 1) inside.wire old.driver old.driver old.port _ _ _ _ refl refl filled lengths in
    λ link. rw (← c.self.view_is)
    (freshened rules wb inside.finished old c.args.frame c.args._page at stands _ is link)
