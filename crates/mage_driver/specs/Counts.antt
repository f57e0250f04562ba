-- How many ANDs some calls are.
use Rattle.std.specs.Prelude.{◌≡◌, ℕ, ◌+◌, List, [], ◌∷◌, length}
use Rattle.mage_instr.specs.declared.op.Op.{Op}
use Rattle.mage_instr.specs.Opcodes.{WidthOk, width_of_arg}
use Rattle.mage_instr.specs.Ands.{and_count_of}
use Rattle.mage_driver.specs.Rules.{Rules}
use Rattle.mage_driver.specs.Operations.{circuit_of}
use Rattle.mage_driver.specs.Calls.{Ask, And, Input, Output, Finish, Call}

abbrev pub and_in : {W : Type 0} → Ask W → ℕ
and_in (And left right) = 1
and_in (Input party count) = 0
and_in (Output wires) = 0
and_in Finish = 0

abbrev pub ands_in : {S W : Type 0} → List (Call S W) → ℕ
ands_in [] = 0
ands_in (call ∷ calls) = and_in call.ask + ands_in calls

-- the circuit of an instruction has as many ANDs as the table of opcodes says
abbrev pub HasItsAnds : {W : Type 0} → Rules W → Op → Type 0
HasItsAnds {W} rules op = (width imm : ℕ) (a b c : List W) (s : rules.State) → WidthOk op width imm →
    length a ≡ width_of_arg op width imm 0 → length b ≡ width_of_arg op width imm 1 →
    length c ≡ width_of_arg op width imm 2 →
    ands_in ((circuit_of rules op width imm a b c s).calls) ≡ and_count_of op width
