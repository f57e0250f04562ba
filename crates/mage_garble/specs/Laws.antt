-- What the driver says over a whole program.
use Rattle.std.specs.Prelude.{◌≡◌, ◌≤◌, ℕ, List, [], ◌∷◌, ◌++◌, length, IsTrue}
use Rattle.mage_base.specs.Sink.{SinkTold}
use Rattle.mage_instr.specs.declared.fault.DriverFault.{DriverFault}
use Rattle.mage_instr.specs.declared.instr.Program.{Program}
use Rattle.mage_linked.specs.Emission.{emission_of}
use Rattle.mage_label.specs.declared.labels.Label.{Label}
use Rattle.mage_driver.specs.Calls.{Call, Finish, SomeStops, call_of}
use Rattle.mage_relations.specs.Unplaced.{Unplaced, starting_in, run_of, calls_of}
use Rattle.mage_streams.specs.Streams.{garbled_stream}
use Rattle.mage_garble.specs.Rule.{Garbling, garbling_from, garble_rules}

-- each worker's driver before the first instruction
abbrev pub before_program : (seed : List ℕ) → (garbler : ℕ → List ℕ) → (sinks : ℕ → SinkTold) → Unplaced Garbling Label
before_program seed garbler sinks = starting_in (λ w. garbling_from seed w (garbler w) 0 0 (sinks w))

-- a worker's driver after its part of a program and `finish`
abbrev pub after_program : Program → (seed : List ℕ) → (garbler : ℕ → List ℕ) → (sinks : ℕ → SinkTold) → (worker : ℕ) → Garbling
after_program program seed garbler sinks worker =
    garble_rules.finish ((run_of garble_rules
    (before_program seed garbler sinks) (emission_of program)).states worker)

-- What each worker's sink has taken then is what it had at first and the worker's garbled stream.
abbrev pub SaysTheStream : Type 0
SaysTheStream = (program : Program) (seed : List ℕ) (garbler : ℕ → List ℕ) (sinks : ℕ → SinkTold) (worker : ℕ) →
    (after_program program seed garbler sinks worker).sending.stream
    ≡ (garbling_from seed worker (garbler worker) 0 0 (sinks worker)).sending.stream
    ++ garbled_stream program seed garbler worker

-- a worker's calls of its driver over its part of a program, and `finish`
abbrev pub program_calls : Program → (seed : List ℕ) → (garbler : ℕ → List ℕ) → (sinks : ℕ → SinkTold) → (worker : ℕ) → List (Call Garbling Label)
program_calls program seed garbler sinks worker =
    calls_of garble_rules worker (before_program seed garbler sinks) (emission_of program)
    ++ call_of garble_rules
    ((run_of garble_rules (before_program seed garbler sinks) (emission_of program)).states worker)
    Finish ∷ []

-- None of them is stopped over a steady sink that has room for the worker's garbled stream.
abbrev pub NoneStops : Type 0
NoneStops = (program : Program) (seed : List ℕ) (garbler : ℕ → List ℕ) (sinks : ℕ → SinkTold) (worker : ℕ) (f : DriverFault) (after : Garbling) →
    IsTrue (sinks worker).steady →
    length (garbled_stream program seed garbler worker) ≤ (sinks worker).room →
    SomeStops garble_rules (program_calls program seed garbler sinks worker) f after → ⊥
