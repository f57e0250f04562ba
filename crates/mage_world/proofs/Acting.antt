-- A turn of a worker is one act of the core.
use Rattle.std.proofs.Common.{◌≡◌, ◌+◌, ℕ, suc, false, List, [], Option, Some, None, refl, sym, ap, ap₂, ◌∙◌, subst, arith}
use Rattle.std.specs.Prelude.{IsTrue, slice_get}
use Rattle.mage_instr.specs.declared.directive.Directive.{Directive}
use Rattle.mage_instr.specs.declared.directive.Directive.TheVariants as entry
use Rattle.mage_driver.specs.Rules.{Rules}
use Rattle.mage_driver.specs.Calls.{Call}
use Rattle.mage_network.specs.Network.{put}
use Rattle.mage_network.specs.Workers.{Act, Moves}
use Rattle.mage_network.specs.Waiting.{may_go_on}
use Rattle.mage_network.specs.Slots as net
use Rattle.mage_steps.specs.Engines.{Engine, advanced, doing_at}
use Rattle.mage_verify.specs.Parts.{WorkerPart}
use Rattle.mage_world.specs.Slots.{is_idle, has_read, has_written}
use Rattle.mage_world.specs.Seats.{Seat}
use Rattle.mage_world.specs.Turns.{Wires, Leaves, framed_as, act_of, Did, Stays}

-- a state that is the core's is so but for the driver's state and the frames
pub framed_same : {S : Type 0} (core next : net.Paged (Engine S) (List ℕ)) → core ≡ next → core ≡ framed_as core next
framed_same {S} core next same =
    ap (λ (x : net.Paged (Engine S) (List ℕ)). record x { engine = record x.engine { driver = core.engine.driver; bank = core.engine.bank } }) same

module _ {W : Type 0} (rules : Rules W) (part : WorkerPart) (capacity : ℕ) (was : Seat rules.State) where
  -- what the worker's act is at a directive
  pub act_here : (o : Option Directive) → slice_get part.directives was.core.engine.place ≡ o →
      act_of rules part was ≡ net.act_in net.asked (doing_at rules part.limits.page o was.core.engine) was.core
  act_here o here = ap (λ (o : Option Directive). net.act_in net.asked (doing_at rules part.limits.page o was.core.engine) was.core) here

  pub waits : act_of rules part was ≡ None → (wires : Wires) → Stays rules part capacity was was wires wires
  waits act wires = (ap (λ a. may_go_on capacity part.worker a wires) act, refl, refl)

  module _ (is : Seat rules.State) (fault : is.fault ≡ was.fault) (told : is.driver.told ≡ was.driver.told)
      (faults : is.driver.faults ≡ was.driver.faults) where
    -- a move, whose circuit a driver makes that may be told
    pub moves_when : (said : List (Call rules.State W)) (next : net.Paged (Engine rules.State) (List ℕ)) →
        act_of rules part was ≡ Some (Moves said next) → is.core ≡ framed_as is.core next → (IsTrue was.driver.told → is.core ≡ next) →
        (wires : Wires) → Did rules part capacity was is wires wires
    moves_when said next act rest same wires = record {
      can = ap (λ a. may_go_on capacity part.worker a wires) act;
      sound = fault;
      told = told;
      faults = faults;
      rest = subst (λ (a : Option (Act (net.Paged (Engine rules.State) (List ℕ)) (Call rules.State W) (List ℕ))). Leaves part.worker a (λ next. is.core ≡ framed_as is.core next) wires wires)
          (sym act) (rest, refl);
      event = λ t. subst (λ (a : Option (Act (net.Paged (Engine rules.State) (List ℕ)) (Call rules.State W) (List ℕ))). Leaves part.worker a (λ next. is.core ≡ next) wires wires)
          (sym act) (same t, refl);
    }

    -- a move
    pub moves : (said : List (Call rules.State W)) (next : net.Paged (Engine rules.State) (List ℕ)) →
        act_of rules part was ≡ Some (Moves said next) → is.core ≡ next → (wires : Wires) → Did rules part capacity was is wires wires
    moves said next act same wires = moves_when said next act (framed_same is.core next same) (λ t. same) wires

  -- ---- slots that aren't ready

  asks_none : (slot : net.Slot (List ℕ)) (left : net.Paged (Engine rules.State) (List ℕ)) → is_idle slot ≡ false →
      net.asks_of {L = Call rules.State W} {W = List ℕ} slot left ≡ None
  asks_none net.Idle left e = absurd cc
  asks_none (net.Asked t) left e = refl
  asks_none (net.Busy t) left e = refl
  asks_none (net.Served t b) left e = refl

  read_none : (slot : net.Slot (List ℕ)) (i : ℕ) (after : List ℕ → Engine rules.State) (worker : net.Paged (Engine rules.State) (List ℕ)) → has_read slot ≡ false →
      net.finishes_read {L = Call rules.State W} {W = List ℕ} slot i after worker ≡ None
  read_none net.Idle i after worker e = refl
  read_none (net.Asked t) i after worker e = refl
  read_none (net.Busy t) i after worker e = refl
  read_none (net.Served (net.Reads p) b) i after worker e = absurd cc
  read_none (net.Served (net.Writes p b) c) i after worker e = refl

  write_none : (slot : net.Slot (List ℕ)) (i : ℕ) (after : Engine rules.State) (worker : net.Paged (Engine rules.State) (List ℕ)) → has_written slot ≡ false →
      net.finishes_write {L = Call rules.State W} {W = List ℕ} slot i after worker ≡ None
  write_none net.Idle i after worker e = refl
  write_none (net.Asked t) i after worker e = refl
  write_none (net.Busy t) i after worker e = refl
  write_none (net.Served (net.Reads p) b) i after worker e = refl
  write_none (net.Served (net.Writes p b) c) i after worker e = absurd cc

  -- ---- asks

  module _ (slot : ℕ) (transfer : net.Transfer (List ℕ)) (x : Directive) (here : slice_get part.directives was.core.engine.place ≡ Some x)
      (asks : doing_at rules part.limits.page (Some x) was.core.engine ≡ net.Asks slot transfer (advanced was.core.engine)) where
    ask_is : act_of rules part was ≡ net.asks_of (was.core.slots slot) (net.asked slot transfer (advanced was.core.engine) was.core)
    ask_is = act_here (Some x) here ∙ ap (λ d. net.act_in net.asked d was.core) asks

    pub ask_waits : is_idle (was.core.slots slot) ≡ false → act_of rules part was ≡ None
    ask_waits busy = ask_is ∙ asks_none (was.core.slots slot) _ busy

    pub ask_moves : was.core.slots slot ≡ net.Idle →
        act_of rules part was ≡ Some (Moves [] (net.asked slot transfer (advanced was.core.engine) was.core))
    ask_moves idle = ask_is ∙ ap (λ s. net.asks_of s (net.asked slot transfer (advanced was.core.engine) was.core)) idle

    -- what the worker is then
    pub asked_is : (slots : ℕ → net.Slot (List ℕ)) → slots ≡ put was.core.slots slot (net.Asked transfer) →
        record was.core { engine = record was.core.engine { place = was.core.engine.place + 1; wire = 0 }; slots = slots }
        ≡ net.asked slot transfer (advanced was.core.engine) was.core
    asked_is slots are =
        let next : was.core.engine.place + 1 ≡ suc was.core.engine.place = omega arith in
        ap₂ (λ (p : ℕ) (s : ℕ → net.Slot (List ℕ)). record was.core { engine = record was.core.engine { place = p; wire = 0 }; slots = s }) next are

  -- ---- finishes

  module _ (slot frame : ℕ) (here : slice_get part.directives was.core.engine.place ≡ Some (entry.FinishIn slot frame)) where
    abbrev filled : List ℕ → Engine rules.State
    filled bytes = record (advanced was.core.engine) { bank = put was.core.engine.bank frame bytes }

    pub read_waits : has_read (was.core.slots slot) ≡ false → act_of rules part was ≡ None
    read_waits e = act_here (Some (entry.FinishIn slot frame)) here ∙ read_none (was.core.slots slot) slot filled was.core e

    pub read_moves : (page : ℕ) (bytes : List ℕ) → was.core.slots slot ≡ net.Served (net.Reads page) bytes →
        act_of rules part was ≡ Some (Moves [] (net.finished slot (filled bytes) was.core))
    read_moves page bytes e = act_here (Some (entry.FinishIn slot frame)) here ∙ ap (λ s. net.finishes_read s slot filled was.core) e

    pub read_is : (bytes : List ℕ) (slots : ℕ → net.Slot (List ℕ)) (bank : ℕ → List ℕ) → slots ≡ put was.core.slots slot net.Idle →
        bank ≡ put was.core.engine.bank frame bytes →
        record was.core { engine = record was.core.engine { place = was.core.engine.place + 1; wire = 0; bank = bank }; slots = slots }
        ≡ net.finished slot (filled bytes) was.core
    read_is bytes slots bank are holds =
        let next : was.core.engine.place + 1 ≡ suc was.core.engine.place = omega arith in
        ap₂ (λ (p : ℕ) (s : ℕ → net.Slot (List ℕ)). record was.core { engine = record was.core.engine { place = p; wire = 0; bank = bank }; slots = s }) next are
        ∙ ap (λ (b : ℕ → List ℕ). net.finished slot (record (advanced was.core.engine) { bank = b }) was.core) holds

  module _ (slot : ℕ) (here : slice_get part.directives was.core.engine.place ≡ Some (entry.FinishOut slot)) where
    pub write_waits : has_written (was.core.slots slot) ≡ false → act_of rules part was ≡ None
    write_waits e = act_here (Some (entry.FinishOut slot)) here ∙ write_none (was.core.slots slot) slot (advanced was.core.engine) was.core e

    pub write_moves : (page : ℕ) (bytes same : List ℕ) → was.core.slots slot ≡ net.Served (net.Writes page bytes) same →
        act_of rules part was ≡ Some (Moves [] (net.finished slot (advanced was.core.engine) was.core))
    write_moves page bytes same e = act_here (Some (entry.FinishOut slot)) here ∙ ap (λ s. net.finishes_write s slot (advanced was.core.engine) was.core) e

    pub write_is : (slots : ℕ → net.Slot (List ℕ)) → slots ≡ put was.core.slots slot net.Idle →
        record was.core { engine = record was.core.engine { place = was.core.engine.place + 1; wire = 0 }; slots = slots }
        ≡ net.finished slot (advanced was.core.engine) was.core
    write_is slots are =
        let next : was.core.engine.place + 1 ≡ suc was.core.engine.place = omega arith in
        ap₂ (λ (p : ℕ) (s : ℕ → net.Slot (List ℕ)). record was.core { engine = record was.core.engine { place = p; wire = 0 }; slots = s }) next are
