-- Whether what a directive names is there.
use Rattle.std.specs.Prelude.{◌+◌, ◌&&◌, ◌||◌, ℕ, Bool, true, nat_lt, nat_le, if◌then◌else◌, slice_index_or}
use Rattle.mage_instr.specs.declared.directive.Directive.{Directive}
use Rattle.mage_instr.specs.declared.directive.Directive.TheVariants as entry
use Rattle.mage_instr.specs.declared.replaced.Job.{Job}
use Rattle.mage_instr.specs.declared.replaced.Limits.{Limits}
use Rattle.mage_instr.specs.declared.replaced.Spot.{Spot}
use Rattle.mage_directives.specs.Directives.{no_spot}
use Rattle.mage_instr.specs.Opcodes.{arity_of, has_result, width_of_result, width_of_arg}

-- a value's frame is there, and the value ends within its page
abbrev pub fits : Limits → (width : ℕ) → Spot → Bool
fits limits width spot = nat_lt spot.frame limits.frames && nat_le (spot.offset + width) limits.page

-- the result fits, where there is one
abbrev pub result_fits : Limits → Job → Bool
result_fits limits job = if has_result job.op then fits limits (width_of_result job.op job.width) job.out else true

-- argument k fits, where there is one
abbrev pub arg_fits : Limits → Job → (k : ℕ) → Bool
arg_fits limits job k = nat_le (arity_of job.op) k || fits limits (width_of_arg job.op job.width job.imm k) (slice_index_or job.args k no_spot)

-- each value of an instruction fits
abbrev pub values_fit : Limits → Job → Bool
values_fit limits job = result_fits limits job && arg_fits limits job 0 && arg_fits limits job 1 && arg_fits limits job 2

-- the frame and the slot that a directive names are there, and its values fit
abbrev pub is_in_range : Limits → Directive → Bool
is_in_range limits (entry.Fresh frame page) = nat_lt frame limits.frames
is_in_range limits (entry.IssueIn slot page) = nat_lt slot limits.buffer
is_in_range limits (entry.FinishIn slot frame) = nat_lt slot limits.buffer && nat_lt frame limits.frames
is_in_range limits (entry.IssueOut slot frame page) = nat_lt slot limits.buffer && nat_lt frame limits.frames
is_in_range limits (entry.FinishOut slot) = nat_lt slot limits.buffer
is_in_range limits (entry.Do job) = values_fit limits job

-- the store page that a transfer names is there
abbrev pub has_page : (pages : ℕ) → Directive → Bool
has_page pages (entry.IssueIn slot page) = nat_lt page pages
has_page pages (entry.IssueOut slot frame page) = nat_lt page pages
has_page pages _ = true
