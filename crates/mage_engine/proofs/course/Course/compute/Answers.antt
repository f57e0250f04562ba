use Rattle.std.proofs.Common.{◌≡◌, ◌+◌, ℕ, List, length, refl, sym, ap, ◌∙◌, subst, arith}
use Rattle.std.specs.Prelude.{Vec}
use Rattle.std.specs.Global.{Global}
use Rattle.mage_instr.specs.declared.directive.Directive.TheVariants as entry
use Rattle.mage_bank.specs.Bank.{contents, bank_of, lengths_of}
use Rattle.mage_driver.specs.Calls.{NoneIsDue}
use Rattle.mage_bank.specs.Jobs.{JobLies, circuit_on}
use Rattle.mage_steps.specs.Engines.{with_result}
use Rattle.mage_engine.proofs.Views.{seen_of, changed}
use Rattle.mage_engine.proofs.Pages.{back_again}
use Rattle.mage_engine.proofs.Advancing.{ready, meets, few, values_lie}
use Rattle.mage_engine.proofs.Doing.{did, stands_did}
use Rattle.mage_engine.proofs.course.Course.compute.Goals as goal

pub compute-requires-clause-lies : goal.compute-requires-clause-lies
compute-requires-clause-lies g c κs outlives =
    let inside = c.self.inside in
    let at = rw (← c.self.view_is) at c.requires.here in
    let rules = g.D.Driver.rules in
    let wb = g.D.Driver.rules.wire_bytes in
    let old = seen_of inside.part (g.D.Driver.tells inside.driver) (g.P.SwapPort.tells inside.port) inside.place inside.wire (contents inside.room.frames.items) inside.fault in
    let x = entry.Do c.args.job in
    let stands = c.self.invariant.0 in
    let value : c.as_mut_slice.result.now ≡ inside.room.frames.items = c.as_mut_slice.ensures.value in
    let bytes = g.met.D.Driver.bytes in
    let r = ready wb inside.finished old x at stands in
    subst (λ (l : List (Vec ℕ Global)). JobLies g.D.Driver.WIRE_BYTES (contents l) c.args.job) (sym value)
    (subst (λ (n : ℕ). JobLies n (contents inside.room.frames.items) c.args.job) bytes
    (values_lie wb inside.finished old r (contents inside.room.frames.items) refl c.args.job (meets wb inside.finished old x at stands)))

pub overflow_add-self : goal.overflow_add-self
overflow_add-self g c =
    let inside = c.self.inside in
    let at = rw (← c.self.view_is) at c.requires.here in
    let rules = g.D.Driver.rules in
    let wb = g.D.Driver.rules.wire_bytes in
    let old = seen_of inside.part (g.D.Driver.tells inside.driver) (g.P.SwapPort.tells inside.port) inside.place inside.wire (contents inside.room.frames.items) inside.fault in
    let x = entry.Do c.args.job in
    let stands = c.self.invariant.0 in
    let f = few wb inside.finished old x at stands in omega (arith, f)

pub invariant_of-self : goal.invariant_of-self
invariant_of-self g c =
    let inside = c.self.inside in
    let at = rw (← c.self.view_is) at c.requires.here in
    let rules = g.D.Driver.rules in
    let wb = g.D.Driver.rules.wire_bytes in
    let old = seen_of inside.part (g.D.Driver.tells inside.driver) (g.P.SwapPort.tells inside.port) inside.place inside.wire (contents inside.room.frames.items) inside.fault in
    let x = entry.Do c.args.job in
    let stands = c.self.invariant.0 in
    let value : c.as_mut_slice.result.now ≡ inside.room.frames.items = c.as_mut_slice.ensures.value in
    let same : length c.compute.new.frames ≡ length inside.room.frames.items = c.compute.auto.frames ∙ ap (λ (l : List (Vec ℕ Global)). length l) value in
    let back = back_again inside.room.frames c.compute.new.frames same in
    let driver = g.D.Driver.tells c.compute.new.driver in
    let lengths = ap (λ (l : List (Vec ℕ Global)). lengths_of (contents l)) back ∙ c.compute.ensures.lengths ∙ ap (λ (l : List (Vec ℕ Global)). lengths_of (contents l)) value in
    let is = changed old (inside.place + 1) inside.wire driver driver old.port _ _ _ _ refl refl (ap (λ (l : List (Vec ℕ Global)). bank_of (contents l)) back) lengths in
    let went = c.in-Ok.ensures.circuit in
    (stands_did rules wb inside.finished old c.args.job at c.requires.made stands driver (bank_of (contents c.compute.new.frames)) went.rest _ is, c.self.invariant.1)

pub returns-in-Ok : goal.returns-in-Ok
returns-in-Ok g c =
    let inside = c.self.inside in
    let at = rw (← c.self.view_is) at c.requires.here in
    let rules = g.D.Driver.rules in
    let wb = g.D.Driver.rules.wire_bytes in
    let old = seen_of inside.part (g.D.Driver.tells inside.driver) (g.P.SwapPort.tells inside.port) inside.place inside.wire (contents inside.room.frames.items) inside.fault in
    let x = entry.Do c.args.job in
    let stands = c.self.invariant.0 in
    let value : c.as_mut_slice.result.now ≡ inside.room.frames.items = c.as_mut_slice.ensures.value in
    let same : length c.compute.new.frames ≡ length inside.room.frames.items = c.compute.auto.frames ∙ ap (λ (l : List (Vec ℕ Global)). length l) value in
    let back = back_again inside.room.frames c.compute.new.frames same in
    let driver = g.D.Driver.tells c.compute.new.driver in
    let lengths = ap (λ (l : List (Vec ℕ Global)). lengths_of (contents l)) back ∙ c.compute.ensures.lengths ∙ ap (λ (l : List (Vec ℕ Global)). lengths_of (contents l)) value in
    let is = changed old (inside.place + 1) inside.wire driver driver old.port _ _ _ _ refl refl (ap (λ (l : List (Vec ℕ Global)). bank_of (contents l)) back) lengths in
    let went = c.in-Ok.ensures.circuit in
    λ link. rw (← c.self.view_is)
    (did rules wb inside.finished old c.args.job at c.requires.made stands driver (bank_of (contents c.compute.new.frames)) went.rest _ is
    (λ told. went.state told ∙ ap (λ (l : List (Vec ℕ Global)). (circuit_on rules c.args.job (bank_of (contents l)) (g.D.Driver.tells inside.driver).state).state) value)
    (λ told. c.in-Ok.ensures.told told ∙ ap (λ (l : List (Vec ℕ Global)). with_result rules c.args.job (bank_of (contents l)) (circuit_on rules c.args.job (bank_of (contents l)) (g.D.Driver.tells inside.driver).state).wires) value)
    (λ told. subst (λ (l : List (Vec ℕ Global)). NoneIsDue rules (circuit_on rules c.args.job (bank_of (contents l)) (g.D.Driver.tells inside.driver).state).calls) value (went.passed told))
    link)
