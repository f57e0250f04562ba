use Rattle.std.proofs.Common.{ℕ, List, refl, sym, ap, ◌∙◌, drop, length}
use Rattle.mage_instr.specs.declared.party.Party.TheVariants as party
use Rattle.mage_driver.specs.Calls.{Input}
use Rattle.mage_streams.specs.Numbers.{next_value}
use Rattle.mage_streams.specs.Garbling.{Garbler}
use Rattle.mage_streams.proofs.Reading.{length-given}
use Rattle.mage_garble.specs.Sending.{Sending, with_room}
use Rattle.mage_garble.proofs.Adding.{said_input}
use Rattle.mage_garble.proofs.Failing.{fell}
use Rattle.mage_garble.proofs.driver.GarbleDriver.garbler_input.Goals as goal

pub returns-in-Err-clause-call : goal.returns-in-Err-clause-call
returns-in-Err-clause-call g c =
    let d = c.self.inside in
    let long = length-given d.seed d.worker d.wires (length c.args.into.now) (next_value c.args.self.now.state.garbler.values) in
    rw (← c.self.view_is)
    (fell (Input party.Garbler (length c.args.into.now)) _ _ c.begin.new.self c.in-Err.fault c.in-Err.ensures.sink c.in-Err.ensures.broke
    (ap (λ (n : ℕ). (with_room d.out.sending n).stream) (rw (← c.self.view_is) at long) ∙ ap (λ (s : Sending). s.stream) c.in-Err.ensures.puts) refl refl refl refl)

pub returns-clause-call : goal.returns-clause-call
returns-clause-call g c =
    let d = c.self.inside in
    let n = length c.args.into.now in
    let garbler : Garbler = record { seed = d.seed; worker = d.worker; values = drop d.taken d.values.items; wires = d.wires; gates = d.gates } in
    let runs = rw (← c.self.view_is) at c.requires.running in
    let value = c.next_of-value.ensures.value ∙ ap (λ (xs : List ℕ). next_value (drop d.taken xs)) c.as_slice.ensures.value in
    let place = ap (λ (xs : List ℕ). drop c.next_of-value.result.1 xs) (sym c.as_slice.ensures.value) ∙ c.next_of-value.ensures.place ∙ ap (λ (xs : List ℕ). drop 1 (drop d.taken xs)) c.as_slice.ensures.value in
    rw (← c.self.view_is)
    (said_input garbler d.out c.begin.new.self c.say_active.new.out c.label_inputs.new.into d.offset n c.next_of-value.result.0 (drop c.next_of-value.result.1 d.values.items) d.standing
    c.self.invariant.0 c.label_inputs.ensures c.label_inputs.auto.into value place runs c.in_default.ensures.room c.in_default.ensures.stream c.say_active.ensures)
