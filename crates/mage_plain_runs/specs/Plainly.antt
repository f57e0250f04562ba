-- What the unplaced program puts out over plain drivers, against what it means.
use Rattle.std.specs.Prelude.{◌≡◌, ◌≤◌, ◌<◌, ◌+◌, ◌^◌, ℕ, Bool, true, false, List, [], ◌∷◌, length, slice_index, if◌then◌else◌}
use Rattle.mage_instr.specs.declared.instr.Instr.{Instr}
use Rattle.mage_instr.specs.declared.directive.MemProgram.{MemProgram}
use Rattle.mage_instr.specs.declared.op.Op.{Op}
use Rattle.mage_instr.specs.declared.op.Op.TheVariants as op
use Rattle.mage_instr.specs.declared.party.Party.TheVariants as party
use Rattle.mage_instr.specs.Inputs.{widths_in}
use Rattle.mage_linked.specs.Emission.{own_instrs, program_of}
use Rattle.mage_linked.specs.Workers.{list_at}
use Rattle.mage_linked.specs.declared.emitted.Emitted.{Emitted}
use Rattle.mage_meaning.specs.Given.{Given}
use Rattle.mage_meaning.specs.Means.{means_of}
use Rattle.mage_network.specs.Together.{Joint}
use Rattle.mage_relations.specs.Unplaced.{starting_in, run_of}
use Rattle.mage_plain.specs.Plain.{Plain, plain_rules}
use Rattle.mage_steps.specs.Core.{joint_after}
use Rattle.mage_steps.specs.Laws.{EndsInJoint}
use Rattle.mage_carried.specs.Laws.{CanRun}

-- each value fits the width at its place
abbrev pub Fit : (values widths : List ℕ) → Type 0
Fit values widths = (k : ℕ) → k < length widths → slice_index values k < 2 ^ slice_index widths k

-- the inputs of a worker fit the widths that its instructions have for them
pub record InputsFit (instrs : List Instr) (garbler evaluator : List ℕ) : Type 0 where
  pub garbler_fits : Fit garbler (widths_in party.Garbler instrs)
  pub evaluator_fits : Fit evaluator (widths_in party.Evaluator instrs)

-- plain drivers that are handed these inputs, and have put nothing out
pub record AreHanded (given : Given) (drivers : ℕ → Plain) : Type 0 where
  pub garbler : (n : ℕ) → (drivers n).garbler ≡ list_at given.garbler n
  pub evaluator : (n : ℕ) → (drivers n).evaluator ≡ list_at given.evaluator n
  pub outputs : (n : ℕ) → (drivers n).outputs ≡ []

-- the opcode puts a value out
abbrev pub is_output : Op → Bool
is_output op.Input = false
is_output op.Const = false
is_output op.Output = true
is_output op.Add = false
is_output op.Sub = false
is_output op.Mul = false
is_output op.And = false
is_output op.Or = false
is_output op.Xor = false
is_output op.Not = false
is_output op.Eq = false
is_output op.Lt = false
is_output op.Mux = false
is_output op.Shl = false
is_output op.Shr = false
is_output op.Resize = false
is_output op.Send = false
is_output op.Recv = false
is_output op.Div = false
is_output op.Rem = false
is_output op.Count = false
is_output op.Min = false
is_output op.Max = false

-- how many values some instructions put out
abbrev pub outputs_in : List Instr → ℕ
outputs_in [] = 0
outputs_in (i ∷ instrs) = (if is_output i.op then 1 else 0) + outputs_in instrs

-- instructions, inputs that fit them, and plain drivers that are handed the inputs, with room for what is put out
pub record CanRunPlainly (count : ℕ) (emitted : List Emitted) (given : Given) (drivers : ℕ →
    Plain) : Type 0 where
  pub runs : CanRun count emitted
  pub fit : (n : ℕ) → n < count →
      InputsFit (own_instrs emitted n) (list_at given.garbler n) (list_at given.evaluator n)
  pub handed : AreHanded given drivers
  pub room : (n : ℕ) → n < count → outputs_in (own_instrs emitted n) ≤ (drivers n).room

-- what a worker puts out in the unplaced program
abbrev pub unplaced_outputs : List Emitted → (drivers : ℕ → Plain) → (worker : ℕ) → List ℕ
unplaced_outputs emitted drivers worker =
    ((run_of plain_rules (starting_in drivers) emitted).states worker).outputs

-- some joint turns end in every worker, each of which has then put out what its worker of the program means
pub record RunsAsMeant (count : ℕ) (emitted : List Emitted) (given : Given) (drivers : ℕ →
    Plain) (plan : MemProgram) : Type 0 where
  pub turns : List Joint
  pub ends : (n : ℕ) → EndsInJoint plain_rules plan drivers turns n
  pub put : (n : ℕ) → n < count →
      (joint_after plain_rules plan drivers turns n).state.engine.driver.outputs
      ≡ list_at (means_of (program_of count emitted) given) n
