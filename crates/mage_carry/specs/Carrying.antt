-- Whether a memory program carries a program: each worker's directives do just its instructions, each on its own arguments.
use Rattle.std.specs.Prelude.{ℕ, ◌+◌, ◌&&◌, Bool, List, [], ◌∷◌, length, replicate, nat_eq, slice_index, Option, Some, None, Result, Ok, Err, if◌then◌else◌}
use Rattle.std.specs.List.{list_all}
use Rattle.mage_instr.specs.declared.instr.Instr.{Instr}
use Rattle.mage_instr.specs.declared.instr.Program.{Program}
use Rattle.mage_instr.specs.declared.replaced.Limits.{Limits}
use Rattle.mage_instr.specs.declared.directive.Directive.{Directive}
use Rattle.mage_instr.specs.declared.directive.MemProgram.{MemProgram}
use Rattle.mage_carry.specs.declared.carry.Carry.{Carry}
use Rattle.mage_carry.specs.declared.carry.Carry.TheVariants as carry
use Rattle.mage_carry.specs.State.{nothing, Idle, State, is_idle}
use Rattle.mage_carry.specs.Steps.{step_of}

-- at first nothing stands in so many frames nor in the store, and each of so many slots is idle
abbrev pub start : (frames slots : ℕ) → State
start frames slots = record { frames = replicate frames nothing; slots = replicate slots Idle; pages = λ page. None; next = 0 }

-- the walk goes on after directive d, or breaks at it
abbrev pub unless_broken : (d : ℕ) → Option State → (State → Result State ℕ) → Result State ℕ
unless_broken d None rest = Err d
unless_broken d (Some state) rest = rest state

-- what some directives come to, which are numbered from d on, or the first of them that breaks the rules
abbrev pub walked : List Instr → (wires store d : ℕ) → State → List Directive → Result State ℕ
walked instrs wires store d state [] = Ok state
walked instrs wires store d state (directive ∷ part) =
    unless_broken d (step_of instrs wires store state directive) (λ after. walked instrs wires store (d + 1) after part)

-- whether the instructions are used up, and each slot is idle
abbrev pub is_over : List Instr → State → Bool
is_over instrs state = nat_eq state.next (length instrs) && list_all is_idle state.slots

-- where a walk broke: at its end where it isn't over
abbrev pub broken_at : List Instr → (count : ℕ) → Result State ℕ → Option ℕ
broken_at instrs count (Err d) = Some d
broken_at instrs count (Ok state) = if is_over instrs state then None else Some count

-- The first directive of a worker that breaks the rules, or their number where something is left over at the end. Its store
-- has so many pages.
unfoldable pub break_of : Limits → (store : ℕ) → List Instr → List Directive → Option ℕ
break_of limits store instrs part =
    broken_at instrs (length part) (walked instrs limits.page store 0 (start limits.frames limits.buffer) part)

-- no where there is a break, and else what the other workers have
abbrev pub unless_break : (worker : ℕ) → Option ℕ → Carry → Carry
unless_break worker None others = others
unless_break worker (Some d) others = carry.No worker d

-- how many pages the store of a worker has
abbrev pub store_of : List ℕ → (worker : ℕ) → ℕ
store_of stores worker = slice_index stores worker

-- the workers one by one, where they are numbered from one on: the lowest decides
abbrev pub carried_from : Limits → (stores : List ℕ) → (worker : ℕ) → List (List Instr) → List (List Directive) → Carry
carried_from limits stores worker (instrs ∷ programs) (part ∷ parts) =
    unless_break worker (break_of limits (store_of stores worker) instrs part) (carried_from limits stores (worker + 1) programs parts)
carried_from limits stores worker [] parts = carry.Yes
carried_from limits stores worker (instrs ∷ programs) [] = carry.Yes

-- Whether a memory program carries a program. Another number of workers is a break at the very beginning.
unfoldable pub carries_of : Program → MemProgram → Carry
carries_of program plan =
    if nat_eq (length program.workers) (length plan.workers)
    then carried_from plan.limits plan.stores 0 program.workers plan.workers
    else carry.No 0 0
