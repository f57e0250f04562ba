-- A whole program garbled and evaluated: the stream of each worker, the labels that are dealt to its evaluator, the outputs that
-- are decoded from both, and the outputs in plain. All go over the program's instructions in the order of their emission, each
-- worker with the wires of all its instructions.
use Rattle.std.specs.Prelude.{ℕ, List, [], ◌∷◌, ◌++◌, drop}
use Rattle.mage_instr.specs.declared.instr.Program.{Program}
use Rattle.mage_instr.specs.declared.party.Party.TheVariants as party
use Rattle.mage_linked.specs.Emission.{emission_of}
use Rattle.mage_label.specs.declared.labels.Label.{Label}
use Rattle.mage_driver.specs.Calls.{Ask, And, Input, Output, Finish, Call}
use Rattle.mage_relations.specs.Unplaced.{starting_in, run_of, calls_of}
use Rattle.mage_streams.specs.Numbers.{next_value}
use Rattle.mage_streams.specs.Garbling.{Garbler, given_labels, said_at, garbling}
use Rattle.mage_streams.specs.Evaluating.{Evaluator, evaluating}
use Rattle.mage_streams.specs.Reckoning.{Reckoner, reckoning}

-- ---- garbling

-- a worker's garbler before its first call, with the garbler's values
abbrev pub new_garbler : (seed : List ℕ) → (worker : ℕ) → (values : List ℕ) → Garbler
new_garbler seed worker values =
    record { seed = seed; worker = worker; values = values; wires = 0; gates = 0 }

-- a worker's calls of its garbler, from the garbler's values of each worker
abbrev pub garbler_calls : Program → (seed : List ℕ) → (garbler : ℕ → List ℕ) → (worker : ℕ) → List (Call Garbler Label)
garbler_calls program seed garbler worker =
    calls_of garbling worker (starting_in (λ w. new_garbler seed w (garbler w))) (emission_of program)

-- the stream of a worker
abbrev pub garbled_stream : Program → (seed : List ℕ) → (garbler : ℕ → List ℕ) → (worker : ℕ) → List ℕ
garbled_stream program seed garbler worker = said_at (garbler_calls program seed garbler worker)

-- the labels that are dealt for a call, where these values of the evaluator are still to come, and the values behind it
abbrev pub dealt_for : Garbler → Ask Label → (values : List ℕ) → List Label
dealt_for g (And a b) values = []
dealt_for g (Input party.Garbler count) values = []
dealt_for g (Input party.Evaluator count) values = given_labels g (next_value values) count
dealt_for g (Output wires) values = []
dealt_for g Finish values = []

abbrev pub values_behind : Ask Label → (values : List ℕ) → List ℕ
values_behind (And a b) values = values
values_behind (Input party.Garbler count) values = values
values_behind (Input party.Evaluator count) values = drop 1 values
values_behind (Output wires) values = values
values_behind Finish values = values

-- the same for some calls
abbrev pub dealt_at : List (Call Garbler Label) → (values : List ℕ) → List Label
dealt_at [] values = []
dealt_at (call ∷ calls) values =
    dealt_for call.state call.ask values ++ dealt_at calls (values_behind call.ask values)

-- the labels that are dealt to a worker's evaluator
abbrev pub dealt_labels : Program → (seed : List ℕ) → (garbler evaluator : ℕ → List ℕ) → (worker : ℕ) → List Label
dealt_labels program seed garbler evaluator worker =
    dealt_at (garbler_calls program seed garbler worker) (evaluator worker)

-- ---- evaluating

abbrev pub new_evaluator : (worker : ℕ) → (labels : List Label) → (stream : List ℕ) → Evaluator
new_evaluator worker labels stream =
    record { worker = worker; labels = labels; gates = 0; left = stream; outputs = [] }

-- a worker's outputs, from the labels and the stream of each worker
abbrev pub decoded_outputs : Program → (labels : ℕ → List Label) → (streams : ℕ → List ℕ) → (worker : ℕ) → List ℕ
decoded_outputs program labels streams worker =
    ((run_of evaluating (starting_in (λ w. new_evaluator w (labels w) (streams w)))
    (emission_of program)).states worker).outputs

-- ---- in plain

abbrev pub new_reckoner : (garbler evaluator : List ℕ) → Reckoner
new_reckoner garbler evaluator = record { garbler = garbler; evaluator = evaluator; outputs = [] }

-- a worker's outputs, from the values of both parties for each worker
abbrev pub plain_outputs : Program → (garbler evaluator : ℕ → List ℕ) → (worker : ℕ) → List ℕ
plain_outputs program garbler evaluator worker =
    ((run_of reckoning (starting_in (λ w. new_reckoner (garbler w) (evaluator w)))
    (emission_of program)).states worker).outputs
