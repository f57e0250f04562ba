-- The program that a source unrolls to.
use Rattle.std.specs.Prelude.{ℕ, ◌&&◌, nat_le, List, [], ◌∷◌, map, Option, Some, None, Result, Ok, if◌then◌else◌}
use Rattle.mage_chains.specs.Chains.{◌>>=◌}
use Rattle.mage_constants.specs.Answer.{or_fault}
use Rattle.mage_constants.specs.Tokens.{number_of}
use Rattle.mage_instr.specs.Opcodes.{most_workers}
use Rattle.mage_instr.specs.declared.instr.Program.{Program}
use Rattle.mage_lex.specs.declared.fault.LangKind.TheVariants as wrong
use Rattle.mage_lex.specs.declared.fault.LangFault.{LangFault}
use Rattle.mage_lex.specs.declared.token.Token.{Token}
use Rattle.mage_linked.specs.Emission.{program_of}
use Rattle.mage_linked.specs.declared.emitted.Emitted.{Emitted}
use Rattle.mage_scopes.specs.Scopes.{nothing}
use Rattle.mage_tree.specs.declared.tree.Stmt.{Stmt}
use Rattle.mage_unroll.specs.State.{State}
use Rattle.mage_unroll.specs.Statements.{all_acts, executed}

-- a number of workers
abbrev pub workers_in : ℕ → Option ℕ
workers_in n = if nat_le 1 n && nat_le n most_workers then Some n else None

-- the same of a source, which may leave it out
abbrev pub workers_of : Option Token → Result ℕ LangFault
workers_of None = Ok 1
workers_of (Some number) = or_fault wrong.BadWorker number (workers_in (number_of number))

-- what is kept at the start
abbrev pub opening : (workers : ℕ) → State
opening workers =
    record { worker = 0; workers = workers; scopes = nothing ∷ []; program = []; steps = 0 }

-- the instructions of statements with so many workers, in the order of their emission, or the first
-- fault
unfoldable pub emitted_by : (workers : ℕ) → List Stmt → Result (List Emitted) LangFault
emitted_by workers body = do
  after ← all_acts (map executed body) (opening workers)
  Ok after.program

-- the program that a source unrolls to, or its first fault
unfoldable pub unrolled_of : Option Token → List Stmt → Result Program LangFault
unrolled_of count body = do
  workers ← workers_of count
  emitted ← emitted_by workers body
  Ok (program_of workers emitted)
