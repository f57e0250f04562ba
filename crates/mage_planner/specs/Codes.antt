-- The exit codes.
use Rattle.std.specs.Prelude.{ℕ}
use Rattle.mage_planner.specs.declared.status.Status.{Status}
use Rattle.mage_planner.specs.declared.status.Status.TheVariants as status

abbrev pub code_of : Status → ℕ
code_of status.Ok = 0
code_of status.Words = 2
code_of status.Language = 3
code_of status.Limits = 4
code_of status.MemoryProgram = 5
code_of status.InputText = 6
code_of status.Desk = 7
code_of status.Store = 8
code_of status.Memory = 9
code_of status.Damaged = 10
code_of status.Stream = 11
code_of status.CheckNo = 12
