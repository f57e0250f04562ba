-- Memory programs whose fields are in their ranges.
use Rattle.std.specs.Prelude.{◌≡◌, ◌≢◌, ◌≤◌, ◌<◌, ℕ, false, List, length, slice_get, IfSome}
use Rattle.std.specs.List.{slice_index_or}
use Rattle.mage_instr.specs.declared.op.Op.{Op}
use Rattle.mage_instr.specs.declared.op.Op.TheVariants as op
use Rattle.mage_instr.specs.declared.replaced.Job.{Job}
use Rattle.mage_instr.specs.declared.replaced.Spot.{Spot}
use Rattle.mage_instr.specs.declared.directive.Directive.{Directive}
use Rattle.mage_instr.specs.declared.directive.Directive.TheVariants as entry
use Rattle.mage_instr.specs.declared.directive.MemProgram.{MemProgram}
use Rattle.mage_instr.specs.Limits.{AreInRange}
use Rattle.mage_instr.specs.Opcodes.{arity_of, has_result, most_workers, WidthOk}

-- each page is below this, and no store has more pages
abbrev pub most_pages : ℕ
most_pages = 2000000

-- what stands for no spot
abbrev pub no_spot : Spot
no_spot = record { frame = 0; offset = 0 }

-- argument k of an instruction
abbrev pub arg_at : (k : ℕ) → Job → Spot
arg_at k job = slice_index_or job.args k no_spot

-- the other end of a link is another worker of the program
abbrev pub LinksTo : (workers own : ℕ) → Op → (imm : ℕ) → Type 0
LinksTo workers own op.Send imm = (imm < workers) × (imm ≢ own)
LinksTo workers own op.Recv imm = (imm < workers) × (imm ≢ own)
LinksTo workers own op.Input imm = Unit {0}
LinksTo workers own op.Const imm = Unit {0}
LinksTo workers own op.Output imm = Unit {0}
LinksTo workers own op.Add imm = Unit {0}
LinksTo workers own op.Sub imm = Unit {0}
LinksTo workers own op.Mul imm = Unit {0}
LinksTo workers own op.And imm = Unit {0}
LinksTo workers own op.Or imm = Unit {0}
LinksTo workers own op.Xor imm = Unit {0}
LinksTo workers own op.Not imm = Unit {0}
LinksTo workers own op.Eq imm = Unit {0}
LinksTo workers own op.Lt imm = Unit {0}
LinksTo workers own op.Mux imm = Unit {0}
LinksTo workers own op.Shl imm = Unit {0}
LinksTo workers own op.Shr imm = Unit {0}
LinksTo workers own op.Resize imm = Unit {0}
LinksTo workers own op.Div imm = Unit {0}
LinksTo workers own op.Rem imm = Unit {0}
LinksTo workers own op.Count imm = Unit {0}
LinksTo workers own op.Min imm = Unit {0}
LinksTo workers own op.Max imm = Unit {0}

-- an instruction of one of so many workers, with its spots
pub record IsJob (workers own : ℕ) (job : Job) : Type 0 where
  pub width : WidthOk job.op job.width job.imm
  pub link : LinksTo workers own job.op job.imm
  pub no_result : has_result job.op ≡ false → job.out ≡ no_spot
  pub no_args : (k : ℕ) → arity_of job.op ≤ k → k < 3 → arg_at k job ≡ no_spot

abbrev pub IsDirective : (workers own : ℕ) → Directive → Type 0
IsDirective workers own (entry.Fresh frame page) = page < most_pages
IsDirective workers own (entry.IssueIn slot page) = page < most_pages
IsDirective workers own (entry.FinishIn slot frame) = Unit {0}
IsDirective workers own (entry.IssueOut slot frame page) = page < most_pages
IsDirective workers own (entry.FinishOut slot) = Unit {0}
IsDirective workers own (entry.Do job) = IsJob workers own job

-- one worker's part
pub record IsPart (workers own : ℕ) (part : List Directive) : Type 0 where
  pub count : length part < 4294967296
  pub each : (d : ℕ) → IfSome (slice_get part d) (IsDirective workers own)

-- each field of a memory program is in its range
pub record IsMemProgram (program : MemProgram) : Type 0 where
  pub limits : AreInRange program.limits
  pub some_worker : 1 ≤ length program.workers
  pub few : length program.workers ≤ most_workers
  pub counted : length program.stores ≡ length program.workers
  pub stores : (w : ℕ) → IfSome (slice_get program.stores w) (λ pages. pages ≤ most_pages)
  pub parts : (w : ℕ) → IfSome (slice_get program.workers w) (IsPart (length program.workers) w)
