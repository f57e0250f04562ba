-- The rules of the driver that evaluates: what Rattle.mage_streams.specs.Evaluating says, and where the stream isn't what is due.
use Rattle.std.specs.Prelude.{◌≡◌, ℕ, ◌*◌, nat_lt, List, [], ◌∷◌, ◌++◌, ◌⊎◌, Bool, false, Option, Some, None, length, unwrap_or, if◌then◌else◌}
use Rattle.mage_base.specs.Faults.{count_after}
use Rattle.mage_base.specs.Source.{SourceTold}
use Rattle.mage_bits.specs.Bits.{number}
use Rattle.mage_instr.specs.declared.fault.DriverFault.{DriverFault}
use Rattle.mage_instr.specs.declared.fault.DriverFault.TheVariants as fault
use Rattle.mage_instr.specs.declared.party.Party.{Party}
use Rattle.mage_instr.specs.declared.party.Party.TheVariants as party
use Rattle.mage_label.specs.declared.labels.Label.{Label}
use Rattle.mage_label.specs.Labels.{IsWhole, blank, xor}
use Rattle.mage_driver.specs.declared.standing.Standing.{Standing}
use Rattle.mage_driver.specs.declared.standing.Standing.TheVariants as standing
use Rattle.mage_driver.specs.Rules.{Begins, Rules}
use Rattle.mage_streams.specs.Evaluating.{Evaluator, after_reading, after_taking, after_output, decoded_bits, label_of_and, taken_labels}
use Rattle.mage_streams.specs.Streams.{new_evaluator}
use Rattle.mage_eval.specs.Reading.{at_after_colours, at_after_labels, sooner, wrong_at_colours, wrong_at_end, wrong_piece}

pub record Evaluating : Type 0 where
  pub evaluator : Evaluator
  -- how many bytes of the stream were read, and whether its source never fails
  pub at : ℕ
  pub steady : Bool
  -- how many outputs are kept
  pub room : ℕ
  -- what was wrong with the stream, at the first call at which something was
  pub wrong : Option DriverFault

-- before the first call: the labels that were dealt, how many outputs are kept, and the stream
abbrev pub evaluating_from : (worker : ℕ) → List Label → (room : ℕ) → SourceTold → Evaluating
evaluating_from worker labels room source = record {
  evaluator = new_evaluator worker labels (unwrap_or source.left []);
  at = 0;
  steady = source.steady;
  room = room;
  wrong = None;
}

-- the labels of an input of the garbler are due
abbrev pub wrong_at_input : Evaluating → Party → (count : ℕ) → Option DriverFault
wrong_at_input s party.Garbler count = wrong_piece (16 * count) s.at s.evaluator.left
wrong_at_input s party.Evaluator count = None

-- how many bytes were read after an input
abbrev pub at_after_input : Evaluating → Party → (count : ℕ) → ℕ
at_after_input s party.Garbler count = at_after_labels count s.at
at_after_input s party.Evaluator count = s.at

-- an output more, where there is room for it
abbrev pub kept : (room : ℕ) → (outputs : List ℕ) → ℕ → List ℕ
kept room outputs value = if nat_lt (length outputs) room then outputs ++ value ∷ [] else outputs

-- an evaluator after an output
abbrev pub after_kept : Evaluating → List Label → Evaluator
after_kept s wires = record (after_output s.evaluator wires) {
  outputs = kept s.room s.evaluator.outputs (number (decoded_bits wires s.evaluator.left));
}

-- a call stops where its source fails, or where the stream isn't what is due; nothing is put out, and what
-- would have been is behind what was
pub record StopsAt (from to : Evaluating) (f : DriverFault) (after : Evaluating) : Type 0 where
  pub outputs : after.evaluator.outputs ≡ from.evaluator.outputs
  pub behind : Begins from.evaluator.outputs to.evaluator.outputs
  pub cause : ((f ≡ fault.Source) × (from.steady ≡ false)) ⊎ (to.wrong ≡ Some f)

-- How a driver that has failed did so, also where nothing is told: at its source only where that isn't steady, and at no sink.
abbrev pub FailsAtItsSource : (steady : Bool) → Standing → Type 0
FailsAtItsSource steady standing.Running = Unit {0}
FailsAtItsSource steady standing.Finished = Unit {0}
FailsAtItsSource steady (standing.Failed fault.Source) = steady ≡ false
FailsAtItsSource steady (standing.Failed fault.Sink) = ⊥
FailsAtItsSource steady (standing.Failed (fault.Short at)) = Unit {0}
FailsAtItsSource steady (standing.Failed (fault.Long at)) = Unit {0}
FailsAtItsSource steady (standing.Failed (fault.Colour at)) = Unit {0}

abbrev pub eval_rules : Rules Label
eval_rules = record {
  State = Evaluating;
  constant = λ s bit. blank;
  xor = xor;
  not = λ s a. a;
  and = λ s a b. (
    record s {
      evaluator = after_reading s.evaluator;
      at = count_after s.at 32;
      wrong = sooner s.wrong (wrong_piece 32 s.at s.evaluator.left);
    },
    label_of_and s.evaluator a b,
  );
  input = λ s whose count. (
    record s {
      evaluator = after_taking s.evaluator whose count;
      at = at_after_input s whose count;
      wrong = sooner s.wrong (wrong_at_input s whose count);
    },
    taken_labels s.evaluator whose count,
  );
  output = λ s wires. record s {
    evaluator = after_kept s wires;
    at = at_after_colours wires s.at;
    wrong = sooner s.wrong (wrong_at_colours wires s.at s.evaluator.left);
  };
  finish = λ s. record s { wrong = sooner s.wrong (wrong_at_end s.at s.evaluator.left) };
  due = λ from to. to.wrong;
  Stops = StopsAt;
  outputs = λ s. s.evaluator.outputs;
  stream = λ s k. [];
  IsWire = IsWhole;
  wire_bytes = 16;
  pack = λ label. label.bytes;
  unpack = λ bytes. record { bytes = bytes };
}
