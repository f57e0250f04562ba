use Rattle.std.proofs.Common.{◌≡◌, ◌+◌, ◌∷◌, [], ℕ, List, length, refl, sym, ap, ◌∙◌, subst, arith}
use Rattle.std.specs.Prelude.{Vec}
use Rattle.std.specs.Global.{Global}
use Rattle.mage_instr.specs.declared.directive.Directive.TheVariants as entry
use Rattle.mage_bank.specs.Bank.{contents, bank_of, lengths_of, Lies}
use Rattle.mage_link.specs.Links.{after_receive}
use Rattle.mage_steps.specs.Frames.{received_form, spot_of_wire, with_wires}
use Rattle.mage_engine.proofs.Views.{seen_of, changed}
use Rattle.mage_engine.proofs.Pages.{back_again}
use Rattle.mage_engine.proofs.Advancing.{ready, few, value_in}
use Rattle.mage_engine.proofs.Passing.{less, after_is, stands_wire, many_received, few_sources, received_fits, popped}
use Rattle.mage_engine.proofs.course.Course.pop.Goals as goal

pub overflow_cast-from : goal.overflow_cast-from
overflow_cast-from g c =
    let inside = c.self.inside in
    let at = rw (← c.self.view_is) at c.requires.here in
    let rules = g.D.Driver.rules in
    let wb = g.D.Driver.rules.wire_bytes in
    let old = seen_of inside.part (g.D.Driver.tells inside.driver) (g.P.SwapPort.tells inside.port) inside.place inside.wire (contents inside.room.frames.items) inside.fault in
    let job = c.args.job in
    let x = entry.Do c.args.job in
    let stands = c.self.invariant.0 in
    let f = few_sources rules wb inside.finished old job at stands c.requires.receives in omega (arith, f)

pub receive-requires-clause-lies : goal.receive-requires-clause-lies
receive-requires-clause-lies g c κs outlives =
    let inside = c.self.inside in
    let at = rw (← c.self.view_is) at c.requires.here in
    let rules = g.D.Driver.rules in
    let wb = g.D.Driver.rules.wire_bytes in
    let old = seen_of inside.part (g.D.Driver.tells inside.driver) (g.P.SwapPort.tells inside.port) inside.place inside.wire (contents inside.room.frames.items) inside.fault in
    let job = c.args.job in
    let x = entry.Do c.args.job in
    let stands = c.self.invariant.0 in
    let value : c.as_mut_slice.result.now ≡ inside.room.frames.items = c.as_mut_slice.ensures.value in
    let r = ready wb inside.finished old x at stands in
    subst (λ (l : List (Vec ℕ Global)). Lies g.D.Driver.WIRE_BYTES (contents l) job.out (inside.wire + 1)) (sym value)
    (subst (λ (n : ℕ). Lies n (contents inside.room.frames.items) job.out (inside.wire + 1)) g.met.D.Driver.bytes
    (value_in wb inside.finished old r (contents inside.room.frames.items) refl (inside.wire + 1) job.out
    (received_fits rules wb inside.finished old job at stands c.requires.receives)))

pub past_wire-requires-clause-place : goal.past_wire-requires-clause-place
past_wire-requires-clause-place g c =
    let inside = c.self.inside in
    let at = rw (← c.self.view_is) at c.requires.here in
    let rules = g.D.Driver.rules in
    let wb = g.D.Driver.rules.wire_bytes in
    let old = seen_of inside.part (g.D.Driver.tells inside.driver) (g.P.SwapPort.tells inside.port) inside.place inside.wire (contents inside.room.frames.items) inside.fault in
    let job = c.args.job in
    let x = entry.Do c.args.job in
    let stands = c.self.invariant.0 in
    few wb inside.finished old x at stands

pub past_wire-requires-clause-wire : goal.past_wire-requires-clause-wire
past_wire-requires-clause-wire g c =
    let inside = c.self.inside in
    let at = rw (← c.self.view_is) at c.requires.here in
    let rules = g.D.Driver.rules in
    let wb = g.D.Driver.rules.wire_bytes in
    let old = seen_of inside.part (g.D.Driver.tells inside.driver) (g.P.SwapPort.tells inside.port) inside.place inside.wire (contents inside.room.frames.items) inside.fault in
    let job = c.args.job in
    let x = entry.Do c.args.job in
    let stands = c.self.invariant.0 in
    less rules wb inside.finished old job at stands (many_received rules wb inside.finished old job at stands c.requires.receives)

pub invariant_of-self : goal.invariant_of-self
invariant_of-self g c =
    let inside = c.self.inside in
    let at = rw (← c.self.view_is) at c.requires.here in
    let rules = g.D.Driver.rules in
    let wb = g.D.Driver.rules.wire_bytes in
    let old = seen_of inside.part (g.D.Driver.tells inside.driver) (g.P.SwapPort.tells inside.port) inside.place inside.wire (contents inside.room.frames.items) inside.fault in
    let job = c.args.job in
    let x = entry.Do c.args.job in
    let stands = c.self.invariant.0 in
    let value : c.as_mut_slice.result.now ≡ inside.room.frames.items = c.as_mut_slice.ensures.value in
    let same : length c.receive.new.frames ≡ length inside.room.frames.items = c.receive.auto.frames ∙ ap (λ (l : List (Vec ℕ Global)). length l) value in
    let back = back_again inside.room.frames c.receive.new.frames same in
    let bytes = c.in-Some.wire.bytes in
    let filled = ap (λ (l : List (Vec ℕ Global)). bank_of (contents l)) back ∙ c.receive.ensures.bank
    ∙ ap (λ (l : List (Vec ℕ Global)). with_wires rules (bank_of (contents l)) (spot_of_wire job.out inside.wire) (received_form rules bytes ∷ [])) value in
    let lengths = ap (λ (l : List (Vec ℕ Global)). lengths_of (contents l)) back ∙ c.receive.ensures.lengths ∙ ap (λ (l : List (Vec ℕ Global)). lengths_of (contents l)) value in
    let put = with_wires rules old.bank (spot_of_wire job.out inside.wire) (received_form rules bytes ∷ []) in
    let many = many_received rules wb inside.finished old job at stands c.requires.receives in
    let is = changed old c.past_wire.result.0 c.past_wire.result.1 old.driver old.driver old.port _ _ _ _ refl refl filled lengths
    ∙ after_is rules wb inside.finished old job at stands many c.past_wire.result.0 c.past_wire.result.1 put c.past_wire.ensures.place c.past_wire.ensures.wire in
    (stands_wire rules wb inside.finished old job at stands many _ put is, c.self.invariant.1)

pub returns-in-Some : goal.returns-in-Some
returns-in-Some g c =
    let inside = c.self.inside in
    let at = rw (← c.self.view_is) at c.requires.here in
    let rules = g.D.Driver.rules in
    let wb = g.D.Driver.rules.wire_bytes in
    let old = seen_of inside.part (g.D.Driver.tells inside.driver) (g.P.SwapPort.tells inside.port) inside.place inside.wire (contents inside.room.frames.items) inside.fault in
    let job = c.args.job in
    let x = entry.Do c.args.job in
    let stands = c.self.invariant.0 in
    let value : c.as_mut_slice.result.now ≡ inside.room.frames.items = c.as_mut_slice.ensures.value in
    let same : length c.receive.new.frames ≡ length inside.room.frames.items = c.receive.auto.frames ∙ ap (λ (l : List (Vec ℕ Global)). length l) value in
    let back = back_again inside.room.frames c.receive.new.frames same in
    let bytes = c.in-Some.wire.bytes in
    let filled = ap (λ (l : List (Vec ℕ Global)). bank_of (contents l)) back ∙ c.receive.ensures.bank
    ∙ ap (λ (l : List (Vec ℕ Global)). with_wires rules (bank_of (contents l)) (spot_of_wire job.out inside.wire) (received_form rules bytes ∷ [])) value in
    let lengths = ap (λ (l : List (Vec ℕ Global)). lengths_of (contents l)) back ∙ c.receive.ensures.lengths ∙ ap (λ (l : List (Vec ℕ Global)). lengths_of (contents l)) value in
    let put = with_wires rules old.bank (spot_of_wire job.out inside.wire) (received_form rules bytes ∷ []) in
    let many = many_received rules wb inside.finished old job at stands c.requires.receives in
    let is = changed old c.past_wire.result.0 c.past_wire.result.1 old.driver old.driver old.port _ _ _ _ refl refl filled lengths
    ∙ after_is rules wb inside.finished old job at stands many c.past_wire.result.0 c.past_wire.result.1 put c.past_wire.ensures.place c.past_wire.ensures.wire in
    let came = c.in-Some.ensures ∙ ap (λ (me : ℕ). after_receive (g.L.LinkPort.tells c.args.link.now) me job.imm bytes) c.worker-me.ensures in
    rw (← c.self.view_is)
    (popped rules wb inside.finished old job at stands c.requires.receives _ bytes is (g.L.LinkPort.tells c.args.link.now) (g.L.LinkPort.tells c.try_recv.new.self) came)
