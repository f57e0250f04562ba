-- Two small memory programs, written out.
use Rattle.std.specs.Prelude.{ℕ, zero, suc, List, [], ◌∷◌}
use Rattle.mage_instr.specs.declared.directive.Directive.{Directive}
use Rattle.mage_instr.specs.declared.directive.Directive.TheVariants as entry
use Rattle.mage_instr.specs.declared.directive.MemProgram.{MemProgram}
use Rattle.mage_instr.specs.declared.op.Op.{Op}
use Rattle.mage_instr.specs.declared.op.Op.TheVariants as op
use Rattle.mage_instr.specs.declared.replaced.Spot.{Spot}
use Rattle.mage_plain.specs.Plain.{Plain, plain_rules}
use Rattle.mage_steps.specs.Core.{joint_core}

abbrev pub spot : (frame offset : ℕ) → Spot
spot frame offset = record { frame = frame; offset = offset }

-- an instruction with these spots; unused ones are 0, 0
abbrev pub job : Op → (width imm : ℕ) → (out first second : Spot) → Directive
job o width imm out first second = entry.Do (record {
  op = o;
  width = width;
  imm = imm;
  out = out;
  args = first ∷ second ∷ spot 0 0 ∷ [];
})

-- three numbers of 64 bits come in, and the first two go out, in two frames and one slot: the second is
-- written out to make room for the third, and read in again
abbrev pub three_inputs : MemProgram
three_inputs = record {
  limits = record { page = 64; frames = 2; buffer = 1; ahead = 64 };
  stores = 1 ∷ [];
  workers = (
      entry.Fresh 0 0
      ∷ job op.Input 64 0 (spot 0 0) (spot 0 0) (spot 0 0)
      ∷ entry.Fresh 1 1
      ∷ job op.Input 64 0 (spot 1 0) (spot 0 0) (spot 0 0)
      ∷ entry.IssueOut 0 1 0
      ∷ entry.Fresh 1 2
      ∷ job op.Input 64 0 (spot 1 0) (spot 0 0) (spot 0 0)
      ∷ job op.Output 64 0 (spot 0 0) (spot 0 0) (spot 0 0)
      ∷ entry.FinishOut 0
      ∷ entry.IssueIn 0 0
      ∷ entry.FinishIn 0 0
      ∷ job op.Output 64 0 (spot 0 0) (spot 0 0) (spot 0 0)
      ∷ []
      ) ∷ [];
}

-- worker 1 moves its number to worker 0, which adds it to its own and puts the sum out
abbrev pub moved_and_added : MemProgram
moved_and_added = record {
  limits = record { page = 64; frames = 1; buffer = 0; ahead = 0 };
  stores = 0 ∷ 0 ∷ [];
  workers = (
      entry.Fresh 0 0
      ∷ job op.Input 8 0 (spot 0 0) (spot 0 0) (spot 0 0)
      ∷ job op.Recv 8 1 (spot 0 8) (spot 0 0) (spot 0 0)
      ∷ job op.Add 8 0 (spot 0 16) (spot 0 0) (spot 0 8)
      ∷ job op.Output 8 0 (spot 0 0) (spot 0 16) (spot 0 0)
      ∷ []
      ) ∷ (
      entry.Fresh 0 0
      ∷ job op.Input 8 0 (spot 0 0) (spot 0 0) (spot 0 0)
      ∷ job op.Send 8 0 (spot 0 0) (spot 0 0) (spot 0 0)
      ∷ []
      ) ∷ [];
}

-- a plain driver with these values of the garbler, and room for some outputs
abbrev pub with_values : List ℕ → Plain
with_values values = record { garbler = values; evaluator = []; outputs = []; room = 4; ands = 0 }

abbrev pub numbers_in : ℕ → Plain
numbers_in worker = with_values (7 ∷ 8 ∷ 9 ∷ [])

abbrev pub five_and_seven : ℕ → Plain
five_and_seven zero = with_values (5 ∷ [])
five_and_seven (suc worker) = with_values (7 ∷ [])

-- what worker 0 has put out after so many turns
abbrev pub said_after : MemProgram → (drivers : ℕ → Plain) → (turns : ℕ) → List ℕ
said_after plan drivers turns = (joint_core plain_rules plan drivers turns
    0).state.engine.driver.outputs
