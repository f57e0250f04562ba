-- The values of an instruction over two frames of 64 wires.
use Rattle.std.specs.Prelude.{◌≡◌, ◌<◌, ℕ, true, slice_index_or}
use Rattle.mage_instr.specs.declared.replaced.Job.{Job}
use Rattle.mage_instr.specs.Opcodes.{arity_of, has_result, width_of_arg, width_of_result}
use Rattle.mage_steps.specs.Engines.{no_spot}
use Rattle.mage_bank.specs.Jobs.{Fits}

-- the result lies within them, where there is one
abbrev pub ResultFits : Job → Type 0
ResultFits job = has_result job.op ≡ true → Fits 2 64 (width_of_result job.op job.width) job.out

-- and so does argument k
abbrev pub ArgFits : Job → (k : ℕ) → Type 0
ArgFits job k = k < arity_of job.op →
    Fits 2 64 (width_of_arg job.op job.width job.imm k) (slice_index_or job.args k no_spot)
