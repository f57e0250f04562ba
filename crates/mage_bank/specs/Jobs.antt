-- Instructions over frames: which of them can be done there, and the circuit that one is.
use Rattle.std.specs.Prelude.{◌≡◌, ◌≤◌, ◌<◌, ◌+◌, ℕ, true, List, if◌then◌else◌, nat_lt, slice_index_or}
use Rattle.mage_instr.specs.declared.op.Op.{Op}
use Rattle.mage_instr.specs.declared.replaced.Job.{Job}
use Rattle.mage_instr.specs.declared.replaced.Spot.{Spot}
use Rattle.mage_instr.specs.Opcodes.{arity_of, has_result, width_of_arg, width_of_result}
use Rattle.mage_driver.specs.Rules.{Rules}
use Rattle.mage_driver.specs.Circuits.{Circuit}
use Rattle.mage_driver.specs.Operations.{circuit_of}
use Rattle.mage_steps.specs.Engines.{no_spot, operand}
use Rattle.mage_bank.specs.Bank.{Lies}

-- each value of an instruction lies within its frame
pub record JobLies (wire_bytes : ℕ) (frames : List (List ℕ)) (job : Job) : Type 0 where
  pub result : has_result job.op ≡ true →
      Lies wire_bytes frames job.out (width_of_result job.op job.width)
  pub args : (k : ℕ) → k < arity_of job.op → Lies wire_bytes frames
      (slice_index_or job.args k no_spot) (width_of_arg job.op job.width job.imm k)

-- a value's frame is one of so many, and the value ends within a page of so many wires
abbrev pub Fits : (count page width : ℕ) → Spot → Type 0
Fits count page width spot = (spot.frame < count) × (spot.offset + width ≤ page)

-- each value of an instruction fits so
pub record JobFits (count page : ℕ) (job : Job) : Type 0 where
  pub result : has_result job.op ≡ true →
      Fits count page (width_of_result job.op job.width) job.out
  pub args : (k : ℕ) → k < arity_of job.op →
      Fits count page (width_of_arg job.op job.width job.imm k) (slice_index_or job.args k no_spot)

-- how many wires argument k of an instruction has; none where there is no such argument
abbrev pub wires_of_arg : Op → (width imm k : ℕ) → ℕ
wires_of_arg o width imm k = if nat_lt k (arity_of o) then width_of_arg o width imm k else 0

-- the circuit of an instruction on the wires of its arguments
abbrev pub circuit_on : {W : Type 0} (rules : Rules W) → Job → (bank : ℕ → List ℕ) →
    Circuit rules (List W)
circuit_on rules job bank = circuit_of rules job.op job.width job.imm
    (operand rules job bank 0) (operand rules job bank 1) (operand rules job bank 2)
