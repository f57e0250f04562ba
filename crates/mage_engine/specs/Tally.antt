-- How many transfers a machine finished.
use Rattle.std.specs.Prelude.{◌≡◌, ◌+◌, ℕ, List, [], ◌∷◌, take, Bool, true, false, Option, None, Some}
use Rattle.mage_instr.specs.declared.directive.Directive.{Directive}
use Rattle.mage_instr.specs.declared.directive.Directive.TheVariants as entry
use Rattle.mage_instr.specs.declared.fault.MachineFault.{MachineFault}
use Rattle.mage_instr.specs.declared.fault.MachineFault.TheVariants as stops
use Rattle.mage_port.specs.Port.{PortTold, SlotState, Idle, AskedRead, AskedWrite, HasFailed, IsDamaged, slot_state}
use Rattle.mage_engine.specs.Seen.{Seen}

-- how many reads and how many writes a directive finishes
abbrev pub reads_by : Directive → ℕ
reads_by (entry.FinishIn slot frame) = 1
reads_by _ = 0

abbrev pub writes_by : Directive → ℕ
writes_by (entry.FinishOut slot) = 1
writes_by _ = 0

-- the same of a list of directives
abbrev pub reads_in : List Directive → ℕ
reads_in [] = 0
reads_in (directive ∷ directives) = reads_by directive + reads_in directives

abbrev pub writes_in : List Directive → ℕ
writes_in [] = 0
writes_in (directive ∷ directives) = writes_by directive + writes_in directives

-- a port's counts of finished transfers rose from the first one's by those that these directives finish
pub record HasFinished (first port : PortTold) (done : List Directive) : Type 0 where
  pub reads : port.reads ≡ first.reads + reads_in done
  pub writes : port.writes ≡ first.writes + writes_in done

abbrev pub is_damaged : SlotState → Bool
is_damaged Idle = false
is_damaged (AskedRead page) = false
is_damaged (AskedWrite page bytes) = false
is_damaged (HasFailed page) = false
is_damaged (IsDamaged damage) = true

-- no slot of a port is damaged
abbrev pub IsWhole : PortTold → Type 0
IsWhole port = (slot : ℕ) → is_damaged (slot_state port slot) ≡ false

-- the directives that a machine has done
abbrev pub done_by : {S : Type 0} → Seen S → List Directive
done_by machine = take machine.place machine.part.directives

-- A machine that was made over the first port, by its fault: its port finished what its directives finish, or a slot is
-- damaged.
abbrev pub Counts : {S : Type 0} → Option MachineFault → (first : PortTold) → Seen S → Type 0
Counts None first machine = HasFinished first machine.port (done_by machine)
Counts (Some stops.Store) first machine = HasFinished first machine.port (done_by machine)
Counts (Some (stops.Driver fault)) first machine = HasFinished first machine.port (done_by machine)
Counts (Some (stops.Damaged damage)) first machine = (slot : ℕ) × (slot_state machine.port slot ≡ IsDamaged damage)
