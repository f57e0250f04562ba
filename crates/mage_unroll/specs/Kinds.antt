-- The kinds of the faults of unrolling.
use Rattle.std.specs.Prelude.{Bool, true, false, IsTrue}
use Rattle.mage_lex.specs.declared.fault.LangKind.{LangKind}
use Rattle.mage_lex.specs.declared.fault.LangKind.TheVariants as wrong
use Rattle.mage_lex.specs.declared.fault.LangFault.{LangFault}
use Rattle.mage_lex.specs.declared.fault.LangFault.TheVariants as faults

-- what is wrong with a tree, and not with its text
abbrev pub is_unrolling : LangKind → Bool
is_unrolling wrong.BadByte = false
is_unrolling wrong.BadNumber = false
is_unrolling wrong.Syntax = false
is_unrolling wrong.TooDeep = false
is_unrolling wrong.TooLong = true
is_unrolling wrong.UnknownName = true
is_unrolling wrong.Duplicate = true
is_unrolling wrong.WidthDiffers = true
is_unrolling wrong.WorkerDiffers = true
is_unrolling wrong.IndexOut = true
is_unrolling wrong.ConstFault = true
is_unrolling wrong.BadWidth = true
is_unrolling wrong.BadWorker = true

-- a fault of unrolling, or want of memory
abbrev pub IsUnrolling : LangFault → Type 0
IsUnrolling (faults.At kind line column) = IsTrue (is_unrolling kind)
IsUnrolling faults.Memory = Unit {0}
