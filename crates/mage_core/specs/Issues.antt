-- How many transfers some directives ask for.
use Rattle.std.specs.Prelude.{◌+◌, ℕ, List, [], ◌∷◌}
use Rattle.mage_instr.specs.declared.directive.Directive.{Directive}
use Rattle.mage_instr.specs.declared.directive.Directive.TheVariants as entry

-- the issues of reads, and of writes, among some directives
abbrev pub issue_in : Directive → ℕ
issue_in (entry.IssueIn slot page) = 1
issue_in _ = 0

abbrev pub issues_in : List Directive → ℕ
issues_in [] = 0
issues_in (directive ∷ directives) = issues_in directives + issue_in directive

abbrev pub issue_out : Directive → ℕ
issue_out (entry.IssueOut slot frame page) = 1
issue_out _ = 0

abbrev pub issues_out : List Directive → ℕ
issues_out [] = 0
issues_out (directive ∷ directives) = issues_out directives + issue_out directive
