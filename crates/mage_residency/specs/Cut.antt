-- That transfers cut in two, from the directive that issues one to the one that finishes it, carry just what they carry at once.
use Rattle.std.specs.Prelude.{◌≡◌, ℕ, List, None}
use Rattle.mage_instr.specs.declared.instr.Instr.{Instr}
use Rattle.mage_instr.specs.declared.replaced.Limits.{Limits}
use Rattle.mage_instr.specs.declared.directive.Directive.{Directive}
use Rattle.mage_carry.specs.Carrying.{break_of}
use Rattle.mage_sched.specs.Turns.{at_rest, AreInTurn}
use Rattle.mage_sched.specs.Plainly.{plainly}
use Rattle.mage_sched.specs.Scheduled.{AreBelow}
use Rattle.mage_residency.specs.Plain.{CarriesPlainly}

-- Where the transfers of a worker's directives are in turn, on pages of the store, and what they are with transfers done at once
-- carries the worker's instructions, the directives break no rule of the walk with slots, and leave nothing over.
abbrev pub CutTransfersCarry : Type 0
CutTransfersCarry =
    (limits : Limits) (store : ℕ) (instrs : List Instr) (part : List Directive)
    → AreInTurn limits.buffer at_rest part → AreBelow store part
    → CarriesPlainly limits.frames limits.page instrs (plainly at_rest part)
    → break_of limits store instrs part ≡ None

-- And where such directives break no rule of the walk with slots, and leave nothing over, they carry the worker's instructions
-- with transfers done at once too.
abbrev pub TransfersAtOnceCarry : Type 0
TransfersAtOnceCarry =
    (limits : Limits) (store : ℕ) (instrs : List Instr) (part : List Directive)
    → AreBelow store part → AreInTurn limits.buffer at_rest part
    → break_of limits store instrs part ≡ None
    → CarriesPlainly limits.frames limits.page instrs (plainly at_rest part)
