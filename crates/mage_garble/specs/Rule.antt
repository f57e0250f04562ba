-- The rules of the driver that garbles: what Rattle.mage_streams.specs.Garbling says is said to a sink.
use Rattle.std.specs.Prelude.{◌≡◌, ℕ, zero, suc, ◌%◌, ◌^◌, List, [], ◌++◌, None}
use Rattle.mage_base.specs.Sink.{SinkTold}
use Rattle.mage_instr.specs.declared.fault.DriverFault.{DriverFault}
use Rattle.mage_instr.specs.declared.fault.DriverFault.TheVariants as fault
use Rattle.mage_instr.specs.declared.party.Party.{Party}
use Rattle.mage_instr.specs.declared.party.Party.TheVariants as party
use Rattle.mage_label.specs.declared.labels.Label.{Label}
use Rattle.mage_label.specs.Labels.{IsWhole, xor}
use Rattle.mage_halfgates.specs.HalfGates.{constant_zero}
use Rattle.mage_driver.specs.declared.standing.Standing.{Standing}
use Rattle.mage_driver.specs.declared.standing.Standing.TheVariants as standing
use Rattle.mage_driver.specs.Rules.{Rules}
use Rattle.mage_driver.specs.Calls.{And, Input, Output}
use Rattle.mage_streams.specs.Garbling.{Garbler, offset_in, inputs_of, next_and, after_and, after_input, said_for}
use Rattle.mage_garble.specs.Sending.{Sending, sending_to, flushed, saying, HasFailed}

-- a garbler, and what it says on its way to its sink
pub record Garbling : Type 0 where
  pub garbler : Garbler
  pub sending : Sending

-- before the first call: the garbler's values, and how many input wires and ANDs there were before
abbrev pub garbling_from : (seed : List ℕ) → (worker : ℕ) → (values : List ℕ) → (wires gates : ℕ) → SinkTold → Garbling
garbling_from seed worker values wires gates sink = record {
  garbler = record {
    seed = seed;
    worker = worker;
    values = values;
    wires = wires % 2 ^ 63;
    gates = gates % 2 ^ 63;
  };
  sending = sending_to sink;
}

-- at an input of the evaluator nothing is said
abbrev pub sending_at_input : Garbling → Party → (count : ℕ) → Sending
sending_at_input s party.Garbler count = saying s.sending (said_for s.garbler (Input party.Garbler count))
sending_at_input s party.Evaluator count = s.sending

-- the garbler's stream is stream 0
abbrev pub stream_of : Garbling → ℕ → List ℕ
stream_of s zero = s.sending.stream
stream_of s (suc k) = []

-- a call stops where the sink fails on what waits, which it would have put
pub record StopsAt (from to : Garbling) (f : DriverFault) (after : Garbling) : Type 0 where
  pub sink : f ≡ fault.Sink
  pub puts : to.sending.stream ≡ from.sending.stream ++ from.sending.waiting
  pub failed : HasFailed from.sending after.sending

-- a driver that has failed did so at its sink, also where nothing is told
abbrev pub FailsAtItsSink : Standing → Type 0
FailsAtItsSink standing.Running = Unit {0}
FailsAtItsSink standing.Finished = Unit {0}
FailsAtItsSink (standing.Failed f) = f ≡ fault.Sink

abbrev pub garble_rules : Rules Label
garble_rules = record {
  State = Garbling;
  constant = λ s bit. constant_zero (offset_in s.garbler) bit;
  xor = xor;
  not = λ s a. xor a (offset_in s.garbler);
  and = λ s a b. (
    record {
      garbler = after_and s.garbler;
      sending = saying s.sending (said_for s.garbler (And a b));
    },
    next_and s.garbler a b,
  );
  input = λ s whose count. (
    record {
      garbler = after_input s.garbler whose count;
      sending = sending_at_input s whose count;
    },
    inputs_of s.garbler count,
  );
  output = λ s wires. record s { sending = saying s.sending (said_for s.garbler (Output wires)) };
  finish = λ s. record s { sending = flushed s.sending };
  due = λ from to. None;
  Stops = StopsAt;
  outputs = λ s. [];
  stream = stream_of;
  IsWire = IsWhole;
  wire_bytes = 16;
  pack = λ label. label.bytes;
  unpack = λ bytes. record { bytes = bytes };
}
