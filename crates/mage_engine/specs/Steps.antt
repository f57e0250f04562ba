-- What a step of a machine does.
use Rattle.std.specs.Prelude.{◌≡◌, ◌==◌, ℕ, suc, List, [], ◌∷◌, if◌then◌else◌, IsTrue, Option, None, Some, Result, Ok, Err}
use Rattle.mage_base.specs.Store.{Transfer, Answered, Wrote}
use Rattle.mage_instr.specs.declared.directive.Directive.{Directive}
use Rattle.mage_instr.specs.declared.directive.Directive.TheVariants as entry
use Rattle.mage_instr.specs.declared.fault.MachineFault.{MachineFault}
use Rattle.mage_instr.specs.declared.fault.MachineFault.TheVariants as stops
use Rattle.mage_instr.specs.declared.op.Op.{Op}
use Rattle.mage_instr.specs.declared.op.Op.TheVariants as op
use Rattle.mage_network.specs.Workers.{Moves, Sends, Takes, Stops}
use Rattle.mage_network.specs.Slots.{Acts}
use Rattle.mage_network.specs.Answers.{Hearing, Does, Hears, IsAlongAnswers}
use Rattle.mage_network.specs.Reading.{Flying, hears_in}
use Rattle.mage_driver.specs.declared.standing.Standing.{Standing}
use Rattle.mage_driver.specs.declared.standing.Standing.TheVariants as standing
use Rattle.mage_driver.specs.Rules.{Rules}
use Rattle.mage_driver.specs.Calls.{Call, NoneIsDue, Fell}
use Rattle.mage_link.specs.Links.{LinkTold, after_send, after_receive, after_wait, IsFull, IsDrained}
use Rattle.mage_port.specs.Port.{PortTold, Transfers, AskedRead, AskedWrite, CanAsk, CanRead, slot_state, with_state, with_transfer, Brings, Saves, Fails, Spoils, KeepsOn, IsUnderWay}
use Rattle.mage_port.specs.declared.ready.PortWait.TheVariants as waits
use Rattle.mage_steps.specs.Engines.{Engine, Next, doing, opened}
use Rattle.mage_engine.specs.declared.turn.Kind.{Kind}
use Rattle.mage_engine.specs.declared.turn.Kind.TheVariants as kind
use Rattle.mage_engine.specs.declared.turn.Turn.{Turn}
use Rattle.mage_engine.specs.declared.turn.Turn.TheVariants as turn
use Rattle.mage_engine.specs.declared.turn.Why.{Why}
use Rattle.mage_engine.specs.declared.turn.Why.TheVariants as why
use Rattle.mage_engine.specs.Seen.{Seen, directive_at, IsEnded, engine_with, worker_with, HoldSame}
use Rattle.mage_engine.specs.Ready.{target_at, source_at, wires_of}

-- ---- the kind of a step

abbrev pub kind_of_op : Op → Kind
kind_of_op op.Send = kind.Push
kind_of_op op.Recv = kind.Pop
kind_of_op _ = kind.Do

-- what a step at a directive does; past the last one the driver is finished
abbrev pub kind_of : Option Directive → Kind
kind_of (Some (entry.Fresh frame page)) = kind.Do
kind_of (Some (entry.IssueIn slot page)) = kind.Ask
kind_of (Some (entry.FinishIn slot frame)) = kind.Finish
kind_of (Some (entry.IssueOut slot frame page)) = kind.Ask
kind_of (Some (entry.FinishOut slot)) = kind.Finish
kind_of (Some (entry.Do job)) = kind_of_op job.op
kind_of None = kind.Do

-- where a machine stands after a step: a wire further, and after the last wire of a directive at the next one
abbrev pub place_after : Option Directive → (wire place : ℕ) → ℕ
place_after None wire place = place
place_after (Some directive) wire place =
    if suc wire == wires_of (Some directive) then suc place else place

abbrev pub wire_after : Option Directive → (wire : ℕ) → ℕ
wire_after None wire = wire
wire_after (Some directive) wire =
    if suc wire == wires_of (Some directive) then 0 else suc wire

-- how its driver then stands
abbrev pub standing_after : Option Directive → Standing
standing_after None = standing.Finished
standing_after (Some directive) = standing.Running

-- the slot that a directive finishes
abbrev pub finished_by : Option Directive → Option ℕ
finished_by (Some (entry.FinishIn slot frame)) = Some slot
finished_by (Some (entry.FinishOut slot)) = Some slot
finished_by _ = None

-- What a step at a directive does to the port, with the machine's frames before it and after: an issue asks, with the bytes
-- of its frame, the finish of a read brings the bytes of its frame, and no other directive touches it.
abbrev pub AtPort : Option Directive → (bank filled : ℕ → List ℕ) → (before after : PortTold) → Type 0
AtPort (Some (entry.IssueIn slot page)) bank filled before after =
    after ≡ with_state before slot (AskedRead page)
AtPort (Some (entry.FinishIn slot frame)) bank filled before after =
    Brings before after slot (filled frame) (slot_state before slot)
AtPort (Some (entry.IssueOut slot frame page)) bank filled before after =
    after ≡ with_state before slot (AskedWrite page (bank frame))
AtPort (Some (entry.FinishOut slot)) bank filled before after =
    Saves before after slot (slot_state before slot)
AtPort _ bank filled before after = after ≡ before

-- What holds of the port at an issue: the slot is idle, no slot has the page, and one that is to be read was written.
abbrev pub Asks : Option Directive → PortTold → Type 0
Asks (Some (entry.IssueIn slot page)) port = CanRead port slot page
Asks (Some (entry.IssueOut slot frame page)) port = CanAsk port slot page
Asks _ port = Unit {0}

-- The same to the links: a Send sends one wire to its worker, a Recv receives one, and no other directive touches them.
abbrev pub OverLink : Op → (imm worker : ℕ) → (before after : LinkTold) → Type 0
OverLink op.Send imm worker before after = (wire : List ℕ) × (after ≡ after_send before worker imm wire)
OverLink op.Recv imm worker before after = (wire : List ℕ) × (after ≡ after_receive before worker imm wire)
OverLink _ imm worker before after = after ≡ before

abbrev pub AtLink : Option Directive → (worker : ℕ) → (before after : LinkTold) → Type 0
AtLink (Some (entry.Do job)) worker before after = OverLink job.op job.imm worker before after
AtLink _ worker before after = after ≡ before

-- ---- one event of the core

-- what is beside a machine: for each page its finished transfers, and what the links tell
pub record Beside : Type 0 where
  pub finished : Transfers
  pub link : LinkTold

-- the answers of these transfers, in order
abbrev pub answers_in : List Transfer → List (List ℕ)
answers_in [] = []
answers_in (Wrote page bytes ∷ transfers) = answers_in transfers
answers_in (Answered page bytes ∷ transfers) = bytes ∷ answers_in transfers

-- the answers of each page
abbrev pub heard_in : Transfers → (page : ℕ) → List (List ℕ)
heard_in transfers page = answers_in (transfers page)

-- What a worker that is answered so does in one step, after which it is the worker `next`: an act of its own takes no
-- answer, and hands one wire over where it is a send or a take; what it hears is an answer that the port has as well.
abbrev pub Happens : {S L : Type 0} → Hearing S L (List ℕ) (List ℕ) → (worker : ℕ) →
    (before after : Beside) → (next : S) → Type 0
Happens (Does (Moves said after)) worker old new next =
    (next ≡ after) × (new.link ≡ old.link) × (heard_in new.finished ≡ heard_in old.finished)
Happens (Does (Sends target wire after)) worker old new next =
    (next ≡ after) × (new.link ≡ after_send old.link worker target wire)
    × (heard_in new.finished ≡ heard_in old.finished)
Happens (Does (Takes source after)) worker old new next =
    (wire : List ℕ) × (next ≡ after wire) × (new.link ≡ after_receive old.link worker source wire)
    × (heard_in new.finished ≡ heard_in old.finished)
Happens (Does Stops) worker old new next = ⊥
Happens (Hears page after) worker old new next =
    (bytes : List ℕ) × (next ≡ after bytes) × (new.link ≡ old.link)
    × (new.finished ≡ with_transfer old.finished page (Answered page bytes))

module _ {W : Type 0} (rules : Rules W) where
  -- what the machine's engine does next, with these frames
  abbrev pub next_with : Seen rules.State → (bank : ℕ → List ℕ) → Next rules
  next_with machine bank =
      doing rules machine.part.limits.page machine.part.directives (engine_with machine bank)

  -- the worker that stands where the machine does, with these frames, makes its next step, and then stands where the
  -- machine does after it, with those frames
  abbrev pub StepsFrom : (old new : Seen rules.State) → (before after : LinkTold) →
      (bank filled : ℕ → List ℕ) → Type 0
  StepsFrom old new before after bank filled =
      Happens (hears_in (next_with old bank) (worker_with old bank)) old.part.worker
      (record { finished = old.port.finished; link = before })
      (record { finished = new.port.finished; link = after }) (worker_with new filled)

  -- Whatever the frames that are left hold, the machine makes one event of the core.
  abbrev pub IsEvent : (old new : Seen rules.State) → (before after : LinkTold) → Type 0
  IsEvent old new before after = (bank : ℕ → List ℕ) → HoldSame old bank →
      (filled : ℕ → List ℕ) × HoldSame new filled × StepsFrom old new before after bank filled

  -- the calls that the driver gets next
  abbrev pub calls_of : Next rules → List (Call rules.State W)
  calls_of (Acts (Moves said after)) = said
  calls_of _ = []

  -- The machine moved; where its driver is told, no fault was due in the calls that it got.
  pub record IsMove (old new : Seen rules.State) (before after : LinkTold) (moved : Kind) : Type 0 where
    pub of_kind : moved ≡ kind_of (directive_at old)
    pub port : AtPort (directive_at old) old.bank new.bank old.port new.port
    pub asks : Asks (directive_at old) old.port
    pub link : AtLink (directive_at old) old.part.worker before after
    pub driver : new.driver ≡ record old.driver {
      state = new.driver.state;
      standing = standing_after (directive_at old);
    }
    pub rest : new ≡ record old {
      driver = new.driver;
      port = new.port;
      place = place_after (directive_at old) old.wire old.place;
      wire = wire_after (directive_at old) old.wire;
      bank = new.bank;
    }
    pub event : IsTrue old.driver.told → IsEvent old new before after
    pub passed : IsTrue old.driver.told → NoneIsDue rules (calls_of (next_with old old.bank))

  -- The machine waits: only a count of waits changed, and rose. The link to which it sends is full, or that from which it
  -- receives is empty.
  abbrev pub IsWait : (old new : Seen rules.State) → (before after : LinkTold) → Why → Type 0
  IsWait old new before after (why.Slot slot) =
      (finished_by (directive_at old) ≡ Some slot) × (new ≡ record old { port = new.port })
      × IsUnderWay old.port new.port × (after ≡ before)
  IsWait old new before after (why.Full to) =
      (target_at (directive_at old) ≡ Some to) × (new ≡ old) × (after ≡ after_wait before)
      × IsFull before old.part.worker to
  IsWait old new before after (why.Empty from) =
      (source_at (directive_at old) ≡ Some from) × (new ≡ old) × (after ≡ after_wait before)
      × IsDrained before from old.part.worker

  -- Why a machine stopped: the slot of the finish at which it stands says it, or its driver fell at one of the calls that
  -- come next. Nothing else changed, but for the bytes of frames after a failed transfer. A transfer of a steady port failed
  -- only on a page past the port's, at a count that stands at its greatest value, or in a slot that had failed before.
  abbrev pub IsCause : (old new : Seen rules.State) → MachineFault → Type 0
  IsCause old new stops.Store =
      (slot : ℕ) × (finished_by (directive_at old) ≡ Some slot)
      × Fails old.port new.port slot (slot_state old.port slot)
      × (new ≡ record old { port = new.port; bank = new.bank; fault = Some stops.Store })
      × (IsTrue old.port.steady → KeepsOn old.port (slot_state old.port slot) (Err waits.Failed))
  IsCause old new (stops.Damaged damage) =
      (slot : ℕ) × (finished_by (directive_at old) ≡ Some slot)
      × Spoils old.port new.port slot damage (slot_state old.port slot)
      × (new ≡ record old { port = new.port; bank = new.bank; fault = Some (stops.Damaged damage) })
  IsCause old new (stops.Driver fault) =
      Fell rules (calls_of (next_with old old.bank)) old.driver fault new.driver
      × (new ≡ record old { driver = new.driver; fault = Some (stops.Driver fault) })

  -- a fault that stood before is answered again, and nothing changes
  abbrev pub IsFall : (old new : Seen rules.State) → Option MachineFault → MachineFault → Type 0
  IsFall old new None fault = IsCause old new fault
  IsFall old new (Some before) fault = (fault ≡ before) × (new ≡ old)

  -- what a step comes to, by its answer
  abbrev pub Steps : (old new : Seen rules.State) → (before after : LinkTold) →
      Result Turn MachineFault → Type 0
  Steps old new before after (Ok (turn.Moved moved)) = IsMove old new before after moved
  Steps old new before after (Ok (turn.Blocked why)) = IsWait old new before after why
  Steps old new before after (Ok turn.Ended) = IsEnded old × (new ≡ old) × (after ≡ before)
  Steps old new before after (Err fault) =
      IsFall old new old.fault fault × (after ≡ before)

-- ---- the machine's own run

-- A worker that went along its own run from this start stands where the machine stands: with the port's answers as answers, and
-- with the wires that the links carried.
pub record GoesAlong {W : Type 0} (rules : Rules W) (start : Flying (Engine rules.State) (List ℕ))
    (machine : Seen rules.State) (link : LinkTold) : Type 0 where
  pub bank : ℕ → List ℕ
  pub holds : HoldSame machine bank
  pub said : List (Call rules.State W)
  pub along : IsAlongAnswers (λ (worker : Flying (Engine rules.State) (List ℕ)). hears_in
      (doing rules machine.part.limits.page machine.part.directives worker.engine) worker)
      start (worker_with machine bank) (heard_in machine.port.finished) said
      (λ source. link.received source machine.part.worker) (λ target. link.sent machine.part.worker target)

-- the core's worker before its first directive, with its driver in this state
abbrev pub first_worker : {W : Type 0} (rules : Rules W) → (page : ℕ) → rules.State → Flying (Engine rules.State) (List ℕ)
first_worker rules page driver = record { engine = opened rules page driver; flights = λ slot. None }
