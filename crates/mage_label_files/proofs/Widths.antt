-- How many instructions there are.
use Rattle.std.proofs.Common.{◌≤◌, List, length}
use Rattle.mage_instr.specs.declared.instr.Instr.{Instr}
use Rattle.mage_instr.specs.Sound.{IsSound}

pub few_instrs : (instrs : List Instr) → IsSound instrs → length instrs ≤ 4294967295
few_instrs instrs sound = sound.count
