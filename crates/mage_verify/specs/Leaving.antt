-- Which issues of a write leave their frame: nothing uses the frame before it takes another page.
use Rattle.std.specs.Prelude.{◌&&◌, ◌||◌, ℕ, Bool, true, false, List, [], ◌∷◌, drop, nat_eq, nat_lt, if◌then◌else◌, Option, Some}
use Rattle.mage_instr.specs.declared.directive.Directive.{Directive}
use Rattle.mage_instr.specs.declared.directive.Directive.TheVariants as entry
use Rattle.mage_instr.specs.declared.replaced.Job.{Job}
use Rattle.mage_instr.specs.Opcodes.{arity_of, has_result}
use Rattle.mage_directives.specs.Directives.{arg_at}

-- whether argument k is there, in the frame
abbrev pub has_arg_in : (frame : ℕ) → Job → (k : ℕ) → Bool
has_arg_in frame job k = nat_lt k (arity_of job.op) && nat_eq (arg_at k job).frame frame

-- whether an instruction has a value in the frame
abbrev pub has_value_in : (frame : ℕ) → Job → Bool
has_value_in frame job =
    has_result job.op && nat_eq job.out.frame frame || has_arg_in frame job 0 || has_arg_in frame job 1 || has_arg_in frame job 2

-- Whether the frame is left before these directives: the next one that names it gives it another page, or none does.
abbrev pub is_left : (frame : ℕ) → List Directive → Bool
is_left frame [] = true
is_left frame (entry.Fresh other page ∷ directives) = if nat_eq other frame then true else is_left frame directives
is_left frame (entry.FinishIn slot other ∷ directives) = if nat_eq other frame then true else is_left frame directives
is_left frame (entry.IssueOut slot other page ∷ directives) = if nat_eq other frame then false else is_left frame directives
is_left frame (entry.Do job ∷ directives) = if has_value_in frame job then false else is_left frame directives
is_left frame (_ ∷ directives) = is_left frame directives

-- whether the first of some directives is the issue of a write that leaves its frame
abbrev pub leaves_first : List Directive → Bool
leaves_first (entry.IssueOut slot frame page ∷ directives) = is_left frame directives
leaves_first _ = false

-- the same of directive d
abbrev pub leaves_at : List Directive → (d : ℕ) → Bool
leaves_at directives d = leaves_first (drop d directives)

-- whether directive d is the issue of a write
abbrev pub is_issue_out : Option Directive → Bool
is_issue_out (Some (entry.IssueOut slot frame page)) = true
is_issue_out _ = false

-- the same of each directive
abbrev pub leaves_of : List Directive → List Bool
leaves_of [] = []
leaves_of (directive ∷ directives) = leaves_first (directive ∷ directives) ∷ leaves_of directives
