-- An instruction has at most three arguments.
use Rattle.std.proofs.Common.{◌≤◌, ℕ, zero, suc, arith}
use Rattle.mage_instr.specs.declared.op.Op.{Op}
use Rattle.mage_instr.specs.declared.op.Op.TheVariants as op
use Rattle.mage_instr.specs.declared.replaced.Job.{Job}
use Rattle.mage_instr.specs.Opcodes.{arity_of}
use Rattle.mage_bank.specs.Jobs.{JobFits}
use Rattle.mage_bank_tests.specs.Fitting.{ResultFits, ArgFits}

arity_le : (o : Op) → arity_of o ≤ 3
arity_le op.Mux = omega arith
arity_le _ = omega arith

pub job_fits : (job : Job) → ResultFits job → ArgFits job 0 → ArgFits job 1 → ArgFits job 2 → JobFits 2 64 job
job_fits job result first second third = record { result = result; args = each }
  where
    each : (k : ℕ) → ArgFits job k
    each zero l = first l
    each (suc zero) l = second l
    each (suc (suc zero)) l = third l
    each (suc (suc (suc k))) l = let three = arity_le job.op in absurd (omega (arith, three, l))
