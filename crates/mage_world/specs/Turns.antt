-- What a turn of a worker does, and what it leaves.
use Rattle.std.specs.Prelude.{◌≡◌, ℕ, List, [], ◌∷◌, Bool, true, false, IsTrue, Option, None, Some, Result, Ok, Err}
use Rattle.mage_instr.specs.declared.directive.Directive.{Directive}
use Rattle.mage_instr.specs.declared.directive.Directive.TheVariants as entry
use Rattle.mage_instr.specs.declared.fault.DriverFault.{DriverFault}
use Rattle.mage_instr.specs.declared.op.Op.{Op}
use Rattle.mage_instr.specs.declared.op.Op.TheVariants as op
use Rattle.mage_driver.specs.Rules.{Rules}
use Rattle.mage_driver.specs.Calls.{Call, Fell}
use Rattle.mage_network.specs.Network.{appended, put_link}
use Rattle.mage_network.specs.Workers.{Act, Moves, Sends, Takes, Stops}
use Rattle.mage_network.specs.Waiting.{may_go_on}
use Rattle.mage_network.specs.Slots.{Paged, Doing, Acts, Asks, Finishes_read, Finishes_write, asked, act_in}
use Rattle.mage_steps.specs.Engines.{Engine, Next, doing}
use Rattle.mage_verify.specs.Parts.{WorkerPart}
use Rattle.mage_world.specs.declared.event.Kind.{Kind}
use Rattle.mage_world.specs.declared.event.Kind.TheVariants as kind
use Rattle.mage_world.specs.declared.event.ApplyError.{ApplyError}
use Rattle.mage_world.specs.declared.event.ApplyError.TheVariants as error
use Rattle.mage_world.specs.Seats.{Seat}

-- the wires that lie in each link, by who sends and then by who receives
abbrev pub Wires : Type 0
Wires = (source target : ℕ) → List (List ℕ)

-- ---- the kind of a turn

-- what an act does; a worker that has stopped has no turn
abbrev pub kind_of_act : {S L W : Type 0} → Act S L W → Option Kind
kind_of_act (Moves said after) = Some kind.Do
kind_of_act (Sends target wire after) = Some kind.Push
kind_of_act (Takes source after) = Some kind.Pop
kind_of_act Stops = None

-- what an engine does next
abbrev pub kind_of : {Eng L W B : Type 0} → Doing Eng L W B → Option Kind
kind_of (Acts act) = kind_of_act act
kind_of (Asks slot transfer after) = Some kind.Ask
kind_of (Finishes_read slot after) = Some kind.Finish
kind_of (Finishes_write slot after) = Some kind.Finish

-- the same of a directive, which says it; past the last one the driver is finished, once
abbrev pub kind_of_op : Op → Kind
kind_of_op op.Send = kind.Push
kind_of_op op.Recv = kind.Pop
kind_of_op _ = kind.Do

abbrev pub kind_at : Option Directive → (finished : Bool) → Option Kind
kind_at (Some (entry.Fresh frame page)) finished = Some kind.Do
kind_at (Some (entry.IssueIn slot page)) finished = Some kind.Ask
kind_at (Some (entry.FinishIn slot frame)) finished = Some kind.Finish
kind_at (Some (entry.IssueOut slot frame page)) finished = Some kind.Ask
kind_at (Some (entry.FinishOut slot)) finished = Some kind.Finish
kind_at (Some (entry.Do job)) finished = Some (kind_of_op job.op)
kind_at None true = None
kind_at None false = Some kind.Do

-- ---- what it leaves

-- the calls that an act says
abbrev pub said_by : {S L W : Type 0} → Option (Act S L W) → List L
said_by (Some (Moves said after)) = said
said_by _ = []

-- the links after an act, and what then holds of the worker's state that the core has
abbrev pub Leaves : {S L : Type 0} → (worker : ℕ) → Option (Act S L (List ℕ)) → (Holds : S → Type 0) →
    (before after : Wires) → Type 0
Leaves worker (Some (Moves said next)) Holds before after = Holds next × (after ≡ before)
Leaves worker (Some (Sends target wire next)) Holds before after =
    Holds next × (after ≡ put_link before worker target (appended (before worker target) wire))
Leaves worker (Some (Takes source next)) Holds before after =
    (wire : List ℕ) × (rest : List (List ℕ)) × (before source worker ≡ wire ∷ rest)
    × Holds (next wire) × (after ≡ put_link before source worker rest)
Leaves worker _ Holds before after = ⊥

-- a worker's state with the driver's state and the frames of another
abbrev pub framed_as : {S : Type 0} → (other state : Paged (Engine S) (List ℕ)) → Paged (Engine S) (List ℕ)
framed_as other state =
    record state { engine = record state.engine { driver = other.engine.driver; bank = other.engine.bank } }

module _ {W : Type 0} (rules : Rules W) (part : WorkerPart) where
  -- what the worker's engine does next
  abbrev pub next_of : Seat rules.State → Next rules
  next_of seat = doing rules part.limits.page part.directives seat.core.engine

  -- the worker's act; none where it waits for a slot
  abbrev pub act_of : Seat rules.State →
      Option (Act (Paged (Engine rules.State) (List ℕ)) (Call rules.State W) (List ℕ))
  act_of seat = act_in asked (next_of seat) seat.core

  -- A turn was done. The worker's state and the links are what the core has, but for the driver's state and the frames;
  -- and where the driver is told, these are too.
  pub record Did (capacity : ℕ) (old new : Seat rules.State) (before after : Wires) : Type 0 where
    pub can : may_go_on capacity part.worker (act_of old) before ≡ true
    pub sound : new.fault ≡ old.fault
    pub told : new.driver.told ≡ old.driver.told
    pub faults : new.driver.faults ≡ old.driver.faults
    pub rest : Leaves part.worker (act_of old) (λ next. new.core ≡ framed_as new.core next) before after
    pub event : IsTrue old.driver.told → Leaves part.worker (act_of old) (λ next. new.core ≡ next) before after

  -- A turn that the driver stopped: it fell at one of the calls of the turn, and all else stays.
  pub record Fails (capacity : ℕ) (old new : Seat rules.State) (before after : Wires) (fault : DriverFault) :
      Type 0 where
    pub can : may_go_on capacity part.worker (act_of old) before ≡ true
    pub fell : Fell rules (said_by (act_of old)) old.driver fault new.driver
    pub rest : new ≡ record {
      driver = new.driver;
      fault = Some fault;
      core = record old.core { engine = record old.core.engine { driver = new.driver.state } };
    }
    pub links : after ≡ before

  -- a turn isn't enabled, and nothing changed
  abbrev pub Stays : (capacity : ℕ) (old new : Seat rules.State) (before after : Wires) → Type 0
  Stays capacity old new before after =
      (may_go_on capacity part.worker (act_of old) before ≡ false) × (new ≡ old) × (after ≡ before)

  -- what a turn comes to, by what is answered
  abbrev pub Turns : (capacity : ℕ) (old new : Seat rules.State) (before after : Wires) →
      Result (Unit {0}) ApplyError → Type 0
  Turns capacity old new before after (Ok _) = Did capacity old new before after
  Turns capacity old new before after (Err error.NotEnabled) = Stays capacity old new before after
  Turns capacity old new before after (Err (error.Driver fault)) =
      Fails capacity old new before after fault

  -- a turn of this kind is enabled
  pub record IsEnabled (kind : Kind) (capacity : ℕ) (seat : Seat rules.State) (wires : Wires) : Type 0 where
    pub sound : seat.fault ≡ None
    pub of_kind : kind_of (next_of seat) ≡ Some kind
    pub can : may_go_on capacity part.worker (act_of seat) wires ≡ true

  -- What is asked for a turn of a kind comes to: it is done, or stopped by the driver, where it is enabled; and else
  -- nothing changes.
  abbrev pub KindTurns : (kind : Kind) (capacity : ℕ) (old new : Seat rules.State) (before after : Wires) →
      Result (Unit {0}) ApplyError → Type 0
  KindTurns kind capacity old new before after (Ok _) =
      IsEnabled kind capacity old before × Did capacity old new before after
  KindTurns kind capacity old new before after (Err error.NotEnabled) =
      (IsEnabled kind capacity old before → ⊥) × (new ≡ old) × (after ≡ before)
  KindTurns kind capacity old new before after (Err (error.Driver fault)) =
      IsEnabled kind capacity old before × Fails capacity old new before after fault
