use Rattle.std.proofs.Common.{◌≡◌, ◌+◌, ℕ, List, refl, sym, ap, ap₂, ◌∙◌, subst, arith}
use Rattle.std.specs.Prelude.{Vec, slice_index_or}
use Rattle.std.specs.Global.{Global}
use Rattle.mage_instr.specs.declared.directive.Directive.TheVariants as entry
use Rattle.mage_bank.specs.Bank.{contents, bank_of, Lies}
use Rattle.mage_link.specs.Links.{after_send}
use Rattle.mage_steps.specs.Engines.{no_spot}
use Rattle.mage_steps.specs.Frames.{sent_form, spot_of_wire, wire_at}
use Rattle.mage_engine.proofs.Views.{seen_of}
use Rattle.mage_engine.proofs.Advancing.{ready, few, value_in}
use Rattle.mage_engine.proofs.Passing.{less, after_is, stands_wire, many_sent, few_targets, sent_fits, pushed}
use Rattle.mage_engine.proofs.course.Course.push.Goals as goal

pub overflow_cast-to : goal.overflow_cast-to
overflow_cast-to g c =
    let inside = c.self.inside in
    let at = rw (← c.self.view_is) at c.requires.here in
    let rules = g.D.Driver.rules in
    let wb = g.D.Driver.rules.wire_bytes in
    let old = seen_of inside.part (g.D.Driver.tells inside.driver) (g.P.SwapPort.tells inside.port) inside.place inside.wire (contents inside.room.frames.items) inside.fault in
    let job = c.args.job in
    let x = entry.Do c.args.job in
    let stands = c.self.invariant.0 in
    let f = few_targets rules wb inside.finished old job at stands c.requires.sends in omega (arith, f)

pub send-bytes-requires-clause-lies : goal.send-bytes-requires-clause-lies
send-bytes-requires-clause-lies g c κs outlives =
    let inside = c.self.inside in
    let at = rw (← c.self.view_is) at c.requires.here in
    let rules = g.D.Driver.rules in
    let wb = g.D.Driver.rules.wire_bytes in
    let old = seen_of inside.part (g.D.Driver.tells inside.driver) (g.P.SwapPort.tells inside.port) inside.place inside.wire (contents inside.room.frames.items) inside.fault in
    let job = c.args.job in
    let x = entry.Do c.args.job in
    let stands = c.self.invariant.0 in
    let value : c.as_slice.result.now ≡ inside.room.frames.items = c.as_slice.ensures.value in
    let r = ready wb inside.finished old x at stands in
    subst (λ (l : List (Vec ℕ Global)). Lies g.D.Driver.WIRE_BYTES (contents l) (slice_index_or job.args 0 no_spot) (inside.wire + 1)) (sym value)
    (subst (λ (n : ℕ). Lies n (contents inside.room.frames.items) (slice_index_or job.args 0 no_spot) (inside.wire + 1)) g.met.D.Driver.bytes
    (value_in wb inside.finished old r (contents inside.room.frames.items) refl (inside.wire + 1) (slice_index_or job.args 0 no_spot)
    (sent_fits rules wb inside.finished old job at stands c.requires.sends)))

pub past_wire-requires-clause-place : goal.past_wire-requires-clause-place
past_wire-requires-clause-place g c =
    let inside = c.self.inside in
    let at = rw (← c.self.view_is) at c.requires.here in
    let rules = g.D.Driver.rules in
    let wb = g.D.Driver.rules.wire_bytes in
    let old = seen_of inside.part (g.D.Driver.tells inside.driver) (g.P.SwapPort.tells inside.port) inside.place inside.wire (contents inside.room.frames.items) inside.fault in
    let job = c.args.job in
    let x = entry.Do c.args.job in
    let stands = c.self.invariant.0 in
    few wb inside.finished old x at stands

pub past_wire-requires-clause-wire : goal.past_wire-requires-clause-wire
past_wire-requires-clause-wire g c =
    let inside = c.self.inside in
    let at = rw (← c.self.view_is) at c.requires.here in
    let rules = g.D.Driver.rules in
    let wb = g.D.Driver.rules.wire_bytes in
    let old = seen_of inside.part (g.D.Driver.tells inside.driver) (g.P.SwapPort.tells inside.port) inside.place inside.wire (contents inside.room.frames.items) inside.fault in
    let job = c.args.job in
    let x = entry.Do c.args.job in
    let stands = c.self.invariant.0 in
    less rules wb inside.finished old job at stands (many_sent rules wb inside.finished old job at stands c.requires.sends)

pub invariant_of-self : goal.invariant_of-self
invariant_of-self g c =
    let inside = c.self.inside in
    let at = rw (← c.self.view_is) at c.requires.here in
    let rules = g.D.Driver.rules in
    let wb = g.D.Driver.rules.wire_bytes in
    let old = seen_of inside.part (g.D.Driver.tells inside.driver) (g.P.SwapPort.tells inside.port) inside.place inside.wire (contents inside.room.frames.items) inside.fault in
    let job = c.args.job in
    let x = entry.Do c.args.job in
    let stands = c.self.invariant.0 in
    let many = many_sent rules wb inside.finished old job at stands c.requires.sends in
    let is = after_is rules wb inside.finished old job at stands many c.past_wire.result.0 c.past_wire.result.1 old.bank c.past_wire.ensures.place c.past_wire.ensures.wire in
    (stands_wire rules wb inside.finished old job at stands many _ old.bank is, c.self.invariant.1)

pub returns-in-Ok : goal.returns-in-Ok
returns-in-Ok g c =
    let inside = c.self.inside in
    let at = rw (← c.self.view_is) at c.requires.here in
    let rules = g.D.Driver.rules in
    let wb = g.D.Driver.rules.wire_bytes in
    let old = seen_of inside.part (g.D.Driver.tells inside.driver) (g.P.SwapPort.tells inside.port) inside.place inside.wire (contents inside.room.frames.items) inside.fault in
    let job = c.args.job in
    let x = entry.Do c.args.job in
    let stands = c.self.invariant.0 in
    let many = many_sent rules wb inside.finished old job at stands c.requires.sends in
    let is = after_is rules wb inside.finished old job at stands many c.past_wire.result.0 c.past_wire.result.1 old.bank c.past_wire.ensures.place c.past_wire.ensures.wire in
    let value : c.as_slice.result.now ≡ inside.room.frames.items = c.as_slice.ensures.value in
    let bytes = c.send-bytes.ensures ∙ ap (λ (l : List (Vec ℕ Global)). sent_form rules (wire_at rules (bank_of (contents l)) (spot_of_wire (slice_index_or job.args 0 no_spot) inside.wire))) value in
    let sent = c.in-Ok.ensures ∙ ap₂ (λ (me : ℕ) (wire : List ℕ). after_send (g.L.LinkPort.tells c.args.link.now) me job.imm wire) c.worker.ensures bytes in
    rw (← c.self.view_is)
    (pushed rules wb inside.finished old job at stands c.requires.sends _ is (g.L.LinkPort.tells c.args.link.now) (g.L.LinkPort.tells c.try_send.new.self) sent)
