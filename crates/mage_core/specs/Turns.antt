-- What the machines of a run do in one turn, by what is seen of them.
use Rattle.std.specs.Prelude.{◌≡◌, ◌⊎◌, ℕ, List, length, map, set, Bool, true, false, Some, IfSome, slice_get, Result, Ok, Err}
use Rattle.mage_base.specs.Store.{StoreTold}
use Rattle.mage_instr.specs.declared.fault.MachineFault.{MachineFault}
use Rattle.mage_instr.specs.declared.fault.MachineFault.TheVariants as stops
use Rattle.mage_driver.specs.Rules.{Rules}
use Rattle.mage_driver.specs.Calls.{Told}
use Rattle.mage_link.specs.Queues.{QueueState, queue_told, lies_in}
use Rattle.mage_verify.specs.Parts.{WorkerPart}
use Rattle.mage_engine.specs.declared.turn.Kind.{Kind}
use Rattle.mage_engine.specs.declared.turn.Turn.{Turn}
use Rattle.mage_engine.specs.declared.turn.Turn.TheVariants as turn
use Rattle.mage_engine.specs.declared.turn.Why.{Why}
use Rattle.mage_engine.specs.declared.turn.Why.TheVariants as waits
use Rattle.mage_engine.specs.Seen.{Seen, seen, IsEnded}
use Rattle.mage_engine.specs.Ready.{Connects}
use Rattle.mage_engine.specs.Steps.{IsMove, IsWait, IsFall}
use Rattle.mage_core.specs.declared.fault.RunFault.{RunFault}
use Rattle.mage_core.specs.declared.fault.RunFault.TheVariants as fault
use Rattle.mage_core.specs.Ports.{RunMachine, port_tells}

-- what is seen of each machine
abbrev pub sights : {D S X : Type 0} → (D → Told X) → (S → StoreTold) → List (RunMachine D S) → List (Seen X)
sights driver_tells store_tells machines = map (seen driver_tells (port_tells store_tells)) machines

-- the fault of a run that the machine of a worker answered
abbrev pub run_fault : (worker : ℕ) → MachineFault → RunFault
run_fault worker stops.Store = fault.Store worker
run_fault worker (stops.Driver f) = fault.Driver worker f
run_fault worker (stops.Damaged damage) = fault.Damaged worker damage

-- whether the machine of a worker moved that answered this, or what stopped it
abbrev pub run_answer : (worker : ℕ) → Result Turn MachineFault → Result Bool RunFault
run_answer worker (Ok (turn.Moved kind)) = Ok true
run_answer worker (Ok (turn.Blocked why)) = Ok false
run_answer worker (Ok turn.Ended) = Ok false
run_answer worker (Err f) = Err (run_fault worker f)

-- each machine may use the links that its part names
abbrev pub AllConnect : {X : Type 0} → QueueState → List (Seen X) → Type 0
AllConnect links machines = (w : ℕ) → IfSome (slice_get machines w) (λ machine. Connects (queue_told links) machine.part)

-- links over which nothing went: only the count of waits may differ
pub record SameWires (before after : QueueState) : Type 0 where
  pub told : queue_told after ≡ record (queue_told before) { waits = after.waits }
  pub capacity : after.capacity ≡ before.capacity
  pub lying : (source target : ℕ) → length (lies_in after source target) ≡ length (lies_in before source target)

module _ {W : Type 0} (rules : Rules W) where
  -- the machine of a worker moved, after answers of others that they wait
  pub record Moves (old new : List (Seen rules.State)) (before after : QueueState) (worker : ℕ) : Type 0 where
    pub machine : Seen rules.State
    pub next : Seen rules.State
    pub at : slice_get old worker ≡ Some machine
    pub sets : new ≡ set old worker next
    pub links : QueueState
    pub same : SameWires before links
    pub kind : Kind
    pub move : IsMove rules machine next (queue_told links) (queue_told after) kind
    pub capacity : after.capacity ≡ before.capacity
    pub connects : (part : WorkerPart) → Connects (queue_told links) part → Connects (queue_told after) part
    pub going : IsEnded machine → ⊥

  -- a machine has ended, or it waits for a link
  pub record Waits (links : QueueState) (machine : Seen rules.State) : Type 0 where
    pub before : QueueState
    pub after : QueueState
    pub same : SameWires links before
    pub why : Why
    pub at_link : (slot : ℕ) → why ≡ waits.Slot slot → ⊥
    pub wait : IsWait rules machine machine (queue_told before) (queue_told after) why

  abbrev pub StandsStill : QueueState → Seen rules.State → Type 0
  StandsStill links machine = IsEnded machine ⊎ Waits links machine

  -- the machine of a worker stopped
  pub record Falls (old new : List (Seen rules.State)) (before after : QueueState) (found : RunFault) : Type 0 where
    pub worker : ℕ
    pub machine : Seen rules.State
    pub next : Seen rules.State
    pub at : slice_get old worker ≡ Some machine
    pub sets : new ≡ set old worker next
    pub stopped_by : MachineFault
    pub is : found ≡ run_fault worker stopped_by
    pub falls : IsFall rules machine next machine.fault stopped_by
    pub same : SameWires before after

  -- what one step of the machine of this worker comes to
  abbrev pub StepsTo : (old new : List (Seen rules.State)) → (before after : QueueState) → (worker : ℕ) →
      Result Bool RunFault → Type 0
  StepsTo old new before after worker (Ok true) = Moves old new before after worker
  StepsTo old new before after worker (Ok false) =
      (new ≡ old) × SameWires before after × IfSome (slice_get old worker) (StandsStill before)
  StepsTo old new before after worker (Err found) = Falls old new before after found

  -- what a turn comes to: some machine moves, all stand still, or one stops
  abbrev pub TurnsTo : (old new : List (Seen rules.State)) → (before after : QueueState) →
      Result Bool RunFault → Type 0
  TurnsTo old new before after (Ok true) = (worker : ℕ) × Moves old new before after worker
  TurnsTo old new before after (Ok false) =
      (new ≡ old) × SameWires before after × ((w : ℕ) → IfSome (slice_get old w) (StandsStill before))
  TurnsTo old new before after (Err found) = Falls old new before after found
