-- Which events are enabled, by what the code looks at.
use Rattle.std.specs.Prelude.{◌≡◌, ◌<◌, ℕ, List, Bool, true, false, not, length, nat_lt, Option, None, Some}
use Rattle.mage_instr.specs.declared.directive.Directive.{Directive}
use Rattle.mage_instr.specs.declared.directive.Directive.TheVariants as entry
use Rattle.mage_instr.specs.declared.op.Op.{Op}
use Rattle.mage_instr.specs.declared.op.Op.TheVariants as op
use Rattle.mage_driver.specs.Rules.{Rules}
use Rattle.mage_network.specs.Slots as net
use Rattle.mage_verify.specs.Parts.{WorkerPart}
use Rattle.mage_world.specs.declared.event.Event.{Event}
use Rattle.mage_world.specs.declared.event.Event.TheVariants as event
use Rattle.mage_world.specs.declared.event.Kind.{Kind}
use Rattle.mage_world.specs.declared.slot.Slot.{Slot}
use Rattle.mage_world.specs.Slots.{in_slots, is_idle, is_asked, is_busy, has_read, has_written}
use Rattle.mage_world.specs.Seats.{Seat}
use Rattle.mage_world.specs.Turns.{Wires, IsEnabled}
use Rattle.mage_world.specs.Worlds.{Seen, What, CanBe, CanHappenAt, CanHappen, worker_in, what_in}

-- ---- turns

-- the turn of an instruction can be done: a link to send over has room, one to receive from has a wire
abbrev pub can_do : Op → (imm capacity worker : ℕ) → Wires → Bool
can_do op.Send imm capacity worker wires = nat_lt (length (wires worker imm)) capacity
can_do op.Recv imm capacity worker wires = nat_lt 0 (length (wires imm worker))
can_do _ imm capacity worker wires = true

-- the turn at a directive can be done, or past the last one the end of the driver
abbrev pub can_go : Option Directive → (finished : Bool) → (slots : ℕ → net.Slot (List ℕ)) → (capacity worker : ℕ) →
    Wires → Bool
can_go (Some (entry.Fresh frame page)) finished slots capacity worker wires = true
can_go (Some (entry.IssueIn slot page)) finished slots capacity worker wires = is_idle (slots slot)
can_go (Some (entry.FinishIn slot frame)) finished slots capacity worker wires = has_read (slots slot)
can_go (Some (entry.IssueOut slot frame page)) finished slots capacity worker wires = is_idle (slots slot)
can_go (Some (entry.FinishOut slot)) finished slots capacity worker wires = has_written (slots slot)
can_go (Some (entry.Do job)) finished slots capacity worker wires = can_do job.op job.imm capacity worker wires
can_go None finished slots capacity worker wires = not finished

-- ---- claims and services

-- a slot that is asked can be claimed, one that is busy served; none where no slot is either
abbrev pub IsService : (slots : List Slot) → (worker : ℕ) → Option Event → Type 0
IsService slots worker (Some (event.Claim w slot)) = (w ≡ worker) × (is_asked (in_slots slots slot) ≡ true)
IsService slots worker (Some (event.Serve w slot)) = (w ≡ worker) × (is_busy (in_slots slots slot) ≡ true)
IsService slots worker (Some _) = ⊥
IsService slots worker None =
    (slot : ℕ) → (is_asked (in_slots slots slot) ≡ false) × (is_busy (in_slots slots slot) ≡ false)

-- ---- events

module _ {W : Type 0} (rules : Rules W) where
  -- a turn of this kind is enabled; none where no kind is
  abbrev pub TurnAt : (capacity : ℕ) → WorkerPart → Seat rules.State → Wires → Option Kind → Type 0
  TurnAt capacity part seat wires (Some kind) = IsEnabled rules part kind capacity seat wires
  TurnAt capacity part seat wires None = (kind : Kind) → IsEnabled rules part kind capacity seat wires → ⊥

  -- this event of a worker is enabled; none where no event of it is
  abbrev pub ReadyAt : (capacity worker : ℕ) → WorkerPart → Seat rules.State → Wires → Option Event → Type 0
  ReadyAt capacity worker part seat wires (Some one) =
      (worker_in one ≡ worker) × CanBe rules (what_in one) capacity part seat wires
  ReadyAt capacity worker part seat wires None = (what : What) → CanBe rules what capacity part seat wires → ⊥

  -- none of the workers below a number has an enabled event
  abbrev pub NoneBelow : Seen rules.State → (count : ℕ) → Type 0
  NoneBelow world count = (n : ℕ) (what : What) → n < count → CanHappenAt rules world n what → ⊥

  -- this event is enabled; none where no event is
  abbrev pub Readies : Seen rules.State → Option Event → Type 0
  Readies world (Some one) = CanHappen rules world one
  Readies world None = (n : ℕ) (what : What) → CanHappenAt rules world n what → ⊥
