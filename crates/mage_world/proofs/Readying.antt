-- Which event of a worker is enabled.
use Rattle.std.proofs.Common.{◌≡◌, ◌≢◌, ℕ, Bool, true, false, cond, not, List, [], ◌∷◌, Option, Some, None, refl, sym, ap, ◌∙◌, subst}
use Rattle.std.specs.Prelude.{slice_get}
use Rattle.mage_instr.specs.declared.directive.Directive.{Directive}
use Rattle.mage_instr.specs.declared.directive.Directive.TheVariants as entry
use Rattle.mage_instr.specs.declared.op.Op.{Op}
use Rattle.mage_instr.specs.declared.op.Op.TheVariants as op
use Rattle.mage_instr.specs.declared.replaced.Job.{Job}
use Rattle.mage_driver.specs.Rules.{Rules}
use Rattle.mage_driver.specs.Calls.{Call, Finish, call_of}
use Rattle.mage_network.specs.Workers.{Moves, Stops}
use Rattle.mage_network.specs.Waiting.{may_go_on}
use Rattle.mage_network.specs.Slots as net
use Rattle.mage_steps.specs.Engines.{Engine, Acting, act_of_op, doing_at, finishes}
use Rattle.mage_verify.specs.Parts.{WorkerPart}
use Rattle.mage_world.specs.declared.event.Event.{Event}
use Rattle.mage_world.specs.declared.event.Event.TheVariants as event
use Rattle.mage_world.specs.declared.event.Kind.{Kind}
use Rattle.mage_world.specs.declared.event.Kind.TheVariants as kind
use Rattle.mage_world.specs.declared.slot.Slot.{Slot}
use Rattle.mage_world.specs.Slots.{in_slots, is_idle, is_asked, is_busy, has_read, has_written}
use Rattle.mage_world.specs.Seats.{Seat}
use Rattle.mage_world.specs.Turns.{Wires, kind_of, kind_at, next_of, act_of}
use Rattle.mage_world.specs.Worlds.{What, IsTurn, IsService, CanBe, worker_in, what_in}
use Rattle.mage_world.specs.Ready.{can_do, can_go, IsService as IsSlotReady, TurnAt, ReadyAt}
use Rattle.mage_world.proofs.Acting.{act_here}
use Rattle.mage_world.proofs.KindLemmas.{kind_here}

module _ {W : Type 0} (rules : Rules W) (part : WorkerPart) (capacity : ℕ) (wires : Wires) where
  abbrev State : Type 0
  State = net.Paged (Engine rules.State) (List ℕ)

  abbrev Can : net.Doing (Engine rules.State) (Call rules.State W) (List ℕ) (List ℕ) → State → Bool
  Can doing core = may_go_on capacity part.worker (net.act_in net.asked doing core) wires

  op_can : (o : Op) (job : Job) (engine : Engine rules.State) (core : State) →
      Can (net.Acts (act_of_op rules o job engine)) core ≡ can_do o job.imm capacity part.worker wires
  op_can op.Send job engine core = refl
  op_can op.Recv job engine core = refl
  op_can _ job engine core = refl

  ask_can : (word : net.Slot (List ℕ)) (left : State) →
      may_go_on capacity part.worker (net.asks_of {L = Call rules.State W} {W = List ℕ} word left) wires ≡ is_idle word
  ask_can net.Idle left = refl
  ask_can (net.Asked t) left = refl
  ask_can (net.Busy t) left = refl
  ask_can (net.Served t b) left = refl

  read_can : (word : net.Slot (List ℕ)) (slot : ℕ) (after : List ℕ → Engine rules.State) (core : State) →
      may_go_on capacity part.worker (net.finishes_read {L = Call rules.State W} {W = List ℕ} word slot after core) wires ≡ has_read word
  read_can net.Idle slot after core = refl
  read_can (net.Asked t) slot after core = refl
  read_can (net.Busy t) slot after core = refl
  read_can (net.Served (net.Reads p) b) slot after core = refl
  read_can (net.Served (net.Writes p b) c) slot after core = refl

  write_can : (word : net.Slot (List ℕ)) (slot : ℕ) (after : Engine rules.State) (core : State) →
      may_go_on capacity part.worker (net.finishes_write {L = Call rules.State W} {W = List ℕ} word slot after core) wires ≡ has_written word
  write_can net.Idle slot after core = refl
  write_can (net.Asked t) slot after core = refl
  write_can (net.Busy t) slot after core = refl
  write_can (net.Served (net.Reads p) b) slot after core = refl
  write_can (net.Served (net.Writes p b) c) slot after core = refl

  end_can : (b : Bool) (engine : Engine rules.State) (core : State) →
      Can (net.Acts (cond {A = Acting rules} b Stops (Moves (call_of rules engine.driver Finish ∷ []) (finishes rules engine)))) core ≡ not b
  end_can true engine core = refl
  end_can false engine core = refl

  any_can : (o : Option Directive) (core : State) →
      Can (doing_at rules part.limits.page o core.engine) core ≡ can_go o core.engine.is_finished core.slots capacity part.worker wires
  any_can (Some (entry.Fresh frame page)) core = refl
  any_can (Some (entry.IssueIn slot page)) core = ask_can (core.slots slot) _
  any_can (Some (entry.FinishIn slot frame)) core = read_can (core.slots slot) slot _ core
  any_can (Some (entry.IssueOut slot frame page)) core = ask_can (core.slots slot) _
  any_can (Some (entry.FinishOut slot)) core = write_can (core.slots slot) slot _ core
  any_can (Some (entry.Do job)) core = op_can job.op job core.engine core
  any_can None core = end_can core.engine.is_finished core.engine core

  module _ (seat : Seat rules.State) (o : Option Directive) (here : slice_get part.directives seat.core.engine.place ≡ o) where
    -- whether the worker's turn can be done
    pub can_here : may_go_on capacity part.worker (act_of rules part seat) wires
        ≡ can_go o seat.core.engine.is_finished seat.core.slots capacity part.worker wires
    can_here =
        ap (λ a. may_go_on capacity part.worker a wires) (act_here rules part capacity seat o here)
        ∙ any_can o seat.core

    kind_so : kind_of (next_of rules part seat) ≡ kind_at o seat.core.engine.is_finished
    kind_so = kind_here rules part seat seat kind.Do capacity wires wires o here

    pub no_turn_now : can_go o seat.core.engine.is_finished seat.core.slots capacity part.worker wires ≡ false →
        TurnAt rules capacity part seat wires None
    no_turn_now off one enabled = let never : false ≡ true = sym (can_here ∙ off) ∙ enabled.can in absurd cc

    pub turn_now : seat.fault ≡ None → can_go o seat.core.engine.is_finished seat.core.slots capacity part.worker wires ≡ true →
        (k : Option Kind) → k ≡ kind_at o seat.core.engine.is_finished → TurnAt rules capacity part seat wires k
    turn_now sound can (Some one) is = record { sound = sound; of_kind = kind_so ∙ sym is; can = can_here ∙ can }
    turn_now sound can None is = λ one enabled. let never : Some one ≡ None = sym enabled.of_kind ∙ kind_so ∙ sym is in absurd cc

  pub no_turn_failed : (seat : Seat rules.State) → seat.fault ≢ None → TurnAt rules capacity part seat wires None
  no_turn_failed seat failed one enabled = failed enabled.sound

  -- ---- a worker's event

  claims_asked : (word : net.Slot (List ℕ)) (slot : ℕ) (core : State) → is_asked word ≡ true → (after : State) × (net.claims slot word core ≡ Some after)
  claims_asked net.Idle slot core e = absurd cc
  claims_asked (net.Asked t) slot core e = (_, refl)
  claims_asked (net.Busy t) slot core e = absurd cc
  claims_asked (net.Served t b) slot core e = absurd cc

  claims_other : (word : net.Slot (List ℕ)) (slot : ℕ) (core after : State) → is_asked word ≡ false → net.claims slot word core ≡ Some after → ⊥
  claims_other net.Idle slot core after e h = absurd cc
  claims_other (net.Asked t) slot core after e h = absurd cc
  claims_other (net.Busy t) slot core after e h = absurd cc
  claims_other (net.Served t b) slot core after e h = absurd cc

  serves_busy : (word : net.Slot (List ℕ)) (slot : ℕ) (core : State) → is_busy word ≡ true → (after : State) × (net.serves slot word core ≡ Some after)
  serves_busy net.Idle slot core e = absurd cc
  serves_busy (net.Asked t) slot core e = absurd cc
  serves_busy (net.Busy t) slot core e = (_, refl)
  serves_busy (net.Served t b) slot core e = absurd cc

  serves_other : (word : net.Slot (List ℕ)) (slot : ℕ) (core after : State) → is_busy word ≡ false → net.serves slot word core ≡ Some after → ⊥
  serves_other net.Idle slot core after e h = absurd cc
  serves_other (net.Asked t) slot core after e h = absurd cc
  serves_other (net.Busy t) slot core after e h = absurd cc
  serves_other (net.Served t b) slot core after e h = absurd cc

  pub can_claim : (seat : Seat rules.State) (slot : ℕ) → is_asked (seat.core.slots slot) ≡ true →
      CanBe rules (IsService (net.Claims slot)) capacity part seat wires
  can_claim seat slot e = claims_asked (seat.core.slots slot) slot seat.core e

  pub can_serve : (seat : Seat rules.State) (slot : ℕ) → is_busy (seat.core.slots slot) ≡ true →
      CanBe rules (IsService (net.Serves slot)) capacity part seat wires
  can_serve seat slot e = serves_busy (seat.core.slots slot) slot seat.core e

  pub turn_ready : (seat : Seat rules.State) (w : ℕ) (one : Kind) (it : Event) → worker_in it ≡ w → what_in it ≡ IsTurn one →
      TurnAt rules capacity part seat wires (Some one) → ReadyAt rules capacity w part seat wires (Some it)
  turn_ready seat w one it number what turn =
      (number, subst (λ (x : What). CanBe rules x capacity part seat wires) (sym what) turn)

  pub service_ready : (seat : Seat rules.State) (w : ℕ) (slots : List Slot) → seat.core.slots ≡ in_slots slots →
      TurnAt rules capacity part seat wires None → (found : Option Event) → IsSlotReady slots w found → ReadyAt rules capacity w part seat wires found
  service_ready seat w slots same turn (Some (event.Claim v slot)) ready =
      (ready.0, can_claim seat slot (ap (λ (s : ℕ → net.Slot (List ℕ)). is_asked (s slot)) same ∙ ready.1))
  service_ready seat w slots same turn (Some (event.Serve v slot)) ready =
      (ready.0, can_serve seat slot (ap (λ (s : ℕ → net.Slot (List ℕ)). is_busy (s slot)) same ∙ ready.1))
  service_ready seat w slots same turn (Some (event.Do v)) ready = absurd ready
  service_ready seat w slots same turn (Some (event.Ask v)) ready = absurd ready
  service_ready seat w slots same turn (Some (event.Finish v)) ready = absurd ready
  service_ready seat w slots same turn (Some (event.Push v)) ready = absurd ready
  service_ready seat w slots same turn (Some (event.Pop v)) ready = absurd ready
  service_ready seat w slots same turn None ready = go
    where
      go : (what : What) → CanBe rules what capacity part seat wires → ⊥
      go (IsTurn one) enabled = turn one enabled
      go (IsService (net.Claims slot)) found = claims_other (seat.core.slots slot) slot seat.core found.0
          (ap (λ (s : ℕ → net.Slot (List ℕ)). is_asked (s slot)) same ∙ (ready slot).0) found.1
      go (IsService (net.Serves slot)) found = serves_other (seat.core.slots slot) slot seat.core found.0
          (ap (λ (s : ℕ → net.Slot (List ℕ)). is_busy (s slot)) same ∙ (ready slot).1) found.1
