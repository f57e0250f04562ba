-- What each directive leaves: a worker that stands, and a turn of the core.
use Rattle.std.proofs.Common.{◌≡◌, ◌<◌, ◌+◌, ℕ, true, false, List, [], ◌∷◌, length, replicate, Some, None, refl, sym, ap, ap₂, ◌∙◌, subst}
use Rattle.std.specs.Prelude.{IsTrue, Vec, slice_get}
use Rattle.std.specs.Global.{Global}
use Rattle.mage_instr.specs.declared.directive.Directive.{Directive}
use Rattle.mage_instr.specs.declared.directive.Directive.TheVariants as entry
use Rattle.mage_instr.specs.declared.fault.DriverFault.{DriverFault}
use Rattle.mage_instr.specs.declared.replaced.Job.{Job}
use Rattle.mage_bank.specs.Bank.{contents, bank_of, lengths_of}
use Rattle.mage_bank.specs.Jobs.{circuit_on}
use Rattle.mage_circuit.specs.Results.{is_made}
use Rattle.mage_driver.specs.declared.standing.Standing.TheVariants as standing
use Rattle.mage_driver.specs.Rules.{Rules}
use Rattle.mage_driver.specs.Calls.{Told, Finish, Answered, Fell, call_of}
use Rattle.mage_network.specs.Network.{put}
use Rattle.mage_network.specs.Slots as net
use Rattle.mage_steps.specs.Engines.{advanced, doing_at, with_result}
use Rattle.mage_verify.specs.Parts.{WorkerPart}
use Rattle.mage_world.specs.declared.slot.Slot.{Slot}
use Rattle.mage_world.specs.declared.worker.Worker.{Worker}
use Rattle.mage_world.specs.Slots.{in_slots, AreWithin, Becomes, Begins, EndsRead, EndsWrite}
use Rattle.mage_world.specs.Seats.{Seat, state_of, seat_of, page_bytes, Stands, IsAt}
use Rattle.mage_world.specs.Turns.{Wires, Did, Fails, Stays}
use Rattle.mage_world.proofs.Acting.{waits, moves, moves_when, ask_waits, ask_moves, asked_is, read_waits, read_moves, read_is, write_waits, write_moves, write_is}
use Rattle.mage_world.proofs.Computing.{stopped, fresh_moves, fresh_is, made_moves, made_rest, made_is, end_moves}
use Rattle.mage_world.proofs.Standing.{running, behind, frame_whole}

module _ {W : Type 0} (rules : Rules W) (part : WorkerPart) (driver : Told rules.State) (worker : Worker)
    (stands : Stands rules part driver worker) where
  abbrev pub Sits : Told rules.State → Worker → Seat rules.State
  Sits told w = seat_of rules part.limits.page told (state_of w)

  abbrev pub old : Seat rules.State
  old = Sits driver worker

  -- nothing changed in a worker that was handed on
  pub same_seat : (frames : Vec (Vec ℕ Global) Global) (slots : Vec Slot Global) → contents frames.items ≡ contents worker.frames.items →
      slots.items ≡ worker.slots.items → Sits driver (record worker { frames = frames; slots = slots }) ≡ old
  same_seat frames slots framed same =
      ap₂ (λ (b : ℕ → List ℕ) (s : ℕ → net.Slot (List ℕ)). record old { core = record old.core { engine = record old.core.engine { bank = b }; slots = s } })
      (ap bank_of framed) (ap in_slots same)

  pub stays_so : (capacity : ℕ) (wires : Wires) (new : Seat rules.State) → new ≡ old → Stays rules part capacity old old wires wires → Stays rules part capacity old new wires wires
  stays_so capacity wires new same stays = subst (λ (s : Seat rules.State). Stays rules part capacity old s wires wires) (sym same) stays

  -- ---- asks

  module _ (slot : ℕ) (transfer : net.Transfer (List ℕ)) (x : Directive) (at : IsAt part worker x)
      (asks : doing_at rules part.limits.page (Some x) old.core.engine ≡ net.Asks slot transfer (advanced old.core.engine)) (slots : Vec Slot Global) where
    pub ask_stands : Becomes worker.slots.items slots.items slot (net.Asked transfer) → AreWithin part.pages slots.items →
        Stands rules part driver (record worker { place = worker.place + 1; wire = 0; slots = slots })
    ask_stands becomes named =
        behind rules part driver worker stands x at driver (running rules part driver worker stands x at) worker.frames slots refl becomes.count
        (becomes.long (page_bytes rules.wire_bytes part) stands.worker_is.long) named

    pub ask_turns : Begins worker.slots.items slots.items slot transfer true → (capacity : ℕ) (wires : Wires) →
        Did rules part capacity old (Sits driver (record worker { place = worker.place + 1; wire = 0; slots = slots })) wires wires
    ask_turns begins capacity wires =
        moves rules part capacity old (Sits driver (record worker { place = worker.place + 1; wire = 0; slots = slots })) refl refl refl []
        (net.asked slot transfer (advanced old.core.engine) old.core)
        (ask_moves rules part capacity old slot transfer x at.here asks begins.0)
        (asked_is rules part capacity old slot transfer x at.here asks (in_slots slots.items) begins.1.slots) wires

    pub ask_stays : Begins worker.slots.items slots.items slot transfer false → (capacity : ℕ) (wires : Wires) →
        Stays rules part capacity old (Sits driver (record worker { slots = slots })) wires wires
    ask_stays begins capacity wires =
        stays_so capacity wires (Sits driver (record worker { slots = slots })) (same_seat worker.frames slots refl begins.1)
        (waits rules part capacity old (ask_waits rules part capacity old slot transfer x at.here asks begins.0) wires)

  -- ---- the finish of a read

  module _ (slot frame : ℕ) (at : IsAt part worker (entry.FinishIn slot frame)) (frames : Vec (Vec ℕ Global) Global) (slots : Vec Slot Global) where
    pub read_stands : EndsRead worker.slots.items slots.items slot (contents worker.frames.items) (contents frames.items) frame true → AreWithin part.pages slots.items →
        Stands rules part driver (record worker { place = worker.place + 1; wire = 0; frames = frames; slots = slots })
    read_stands ends named =
        behind rules part driver worker stands (entry.FinishIn slot frame) at driver (running rules part driver worker stands (entry.FinishIn slot frame) at) frames slots ends.5 ends.3.count
        (ends.3.long (page_bytes rules.wire_bytes part) stands.worker_is.long) named

    pub read_turns : EndsRead worker.slots.items slots.items slot (contents worker.frames.items) (contents frames.items) frame true → (capacity : ℕ) (wires : Wires) →
        Did rules part capacity old (Sits driver (record worker { place = worker.place + 1; wire = 0; frames = frames; slots = slots })) wires wires
    read_turns ends capacity wires =
        moves rules part capacity old (Sits driver (record worker { place = worker.place + 1; wire = 0; frames = frames; slots = slots })) refl refl refl []
        (net.finished slot (record (advanced old.core.engine) { bank = put old.core.engine.bank frame ends.1 }) old.core)
        (read_moves rules part capacity old slot frame at.here ends.0 ends.1 ends.2)
        (read_is rules part capacity old slot frame at.here ends.1 (in_slots slots.items) (bank_of (contents frames.items)) ends.3.slots ends.4) wires

    pub read_stays : EndsRead worker.slots.items slots.items slot (contents worker.frames.items) (contents frames.items) frame false → (capacity : ℕ) (wires : Wires) →
        Stays rules part capacity old (Sits driver (record worker { frames = frames; slots = slots })) wires wires
    read_stays ends capacity wires =
        stays_so capacity wires (Sits driver (record worker { frames = frames; slots = slots })) (same_seat frames slots ends.2 ends.1)
        (waits rules part capacity old (read_waits rules part capacity old slot frame at.here ends.0) wires)

  -- ---- the finish of a write

  module _ (slot : ℕ) (at : IsAt part worker (entry.FinishOut slot)) (slots : Vec Slot Global) where
    pub write_stands : EndsWrite worker.slots.items slots.items slot true → AreWithin part.pages slots.items →
        Stands rules part driver (record worker { place = worker.place + 1; wire = 0; slots = slots })
    write_stands ends named =
        behind rules part driver worker stands (entry.FinishOut slot) at driver (running rules part driver worker stands (entry.FinishOut slot) at) worker.frames slots refl ends.4.count
        (ends.4.long (page_bytes rules.wire_bytes part) stands.worker_is.long) named

    pub write_turns : EndsWrite worker.slots.items slots.items slot true → (capacity : ℕ) (wires : Wires) →
        Did rules part capacity old (Sits driver (record worker { place = worker.place + 1; wire = 0; slots = slots })) wires wires
    write_turns ends capacity wires =
        moves rules part capacity old (Sits driver (record worker { place = worker.place + 1; wire = 0; slots = slots })) refl refl refl []
        (net.finished slot (advanced old.core.engine) old.core)
        (write_moves rules part capacity old slot at.here ends.0 ends.1 ends.2 ends.3)
        (write_is rules part capacity old slot at.here (in_slots slots.items) ends.4.slots) wires

    pub write_stays : EndsWrite worker.slots.items slots.items slot false → (capacity : ℕ) (wires : Wires) →
        Stays rules part capacity old (Sits driver (record worker { slots = slots })) wires wires
    write_stays ends capacity wires =
        stays_so capacity wires (Sits driver (record worker { slots = slots })) (same_seat worker.frames slots refl ends.1)
        (waits rules part capacity old (write_waits rules part capacity old slot at.here ends.0) wires)

  -- ---- a frame is filled

  module _ (frame page : ℕ) (at : IsAt part worker (entry.Fresh frame page)) (frames : Vec (Vec ℕ Global) Global)
      (filled : bank_of (contents frames.items) ≡ put (bank_of (contents worker.frames.items)) frame (replicate (length (bank_of (contents worker.frames.items) frame)) 0))
      (lengths : lengths_of (contents frames.items) ≡ lengths_of (contents worker.frames.items)) where
    pub fresh_stands : Stands rules part driver (record worker { place = worker.place + 1; wire = 0; frames = frames })
    fresh_stands =
        behind rules part driver worker stands (entry.Fresh frame page) at driver (running rules part driver worker stands (entry.Fresh frame page) at) frames worker.slots lengths refl
        stands.worker_is.long stands.worker_is.named

    pub fresh_turns : frame < part.limits.frames → (capacity : ℕ) (wires : Wires) →
        Did rules part capacity old (Sits driver (record worker { place = worker.place + 1; wire = 0; frames = frames })) wires wires
    fresh_turns inside capacity wires =
        moves rules part capacity old (Sits driver (record worker { place = worker.place + 1; wire = 0; frames = frames })) refl refl refl [] _
        (fresh_moves rules part capacity old frame page at.here)
        (fresh_is rules part capacity old frame page at.here (bank_of (contents frames.items))
        (filled ∙ ap (λ (n : ℕ). put (bank_of (contents worker.frames.items)) frame (replicate n 0)) (frame_whole rules part driver worker stands frame inside))) wires

  -- ---- an instruction that the driver makes

  module _ (job : Job) (made : is_made job.op ≡ true) (at : IsAt part worker (entry.Do job)) (driver' : Told rules.State) where
    pub made_stands : driver' ≡ record driver { state = driver'.state; standing = standing.Running } → (frames : Vec (Vec ℕ Global) Global) →
        lengths_of (contents frames.items) ≡ lengths_of (contents worker.frames.items) →
        Stands rules part driver' (record worker { place = worker.place + 1; wire = 0; frames = frames })
    made_stands rest frames lengths =
        behind rules part driver worker stands (entry.Do job) at driver' (ap (λ (d : Told rules.State). d.standing) rest) frames worker.slots lengths refl
        stands.worker_is.long stands.worker_is.named

    pub made_turns : driver' ≡ record driver { state = driver'.state; standing = standing.Running } →
        (IsTrue driver.told → driver'.state ≡ (circuit_on rules job (bank_of (contents worker.frames.items)) driver.state).state) →
        (frames : Vec (Vec ℕ Global) Global) →
        (IsTrue driver.told → bank_of (contents frames.items) ≡ with_result rules job (bank_of (contents worker.frames.items)) (circuit_on rules job (bank_of (contents worker.frames.items)) driver.state).wires) →
        (capacity : ℕ) (wires : Wires) →
        Did rules part capacity old (Sits driver' (record worker { place = worker.place + 1; wire = 0; frames = frames })) wires wires
    made_turns rest reached frames stored capacity wires =
        moves_when rules part capacity old (Sits driver' (record worker { place = worker.place + 1; wire = 0; frames = frames })) refl
        (ap (λ (d : Told rules.State). d.told) rest) (ap (λ (d : Told rules.State). d.faults) rest)
        (circuit_on rules job (bank_of (contents worker.frames.items)) driver.state).calls _
        (made_moves rules part capacity old job made at.here)
        (made_rest rules part capacity old job made at.here driver'.state (bank_of (contents frames.items)))
        (λ told. made_is rules part capacity old job made at.here driver'.state (bank_of (contents frames.items)) (reached told) (stored told)) wires

    pub made_fails : (fault : DriverFault) → Fell rules (circuit_on rules job (bank_of (contents worker.frames.items)) driver.state).calls driver fault driver' →
        (frames : Vec (Vec ℕ Global) Global) → contents frames.items ≡ contents worker.frames.items → (capacity : ℕ) (wires : Wires) →
        Fails rules part capacity old (Sits driver' (record worker { fault = Some fault; frames = frames })) wires wires fault
    made_fails fault fell frames same capacity wires =
        subst (λ (b : ℕ → List ℕ). Fails rules part capacity old (record (Sits driver' (record worker { fault = Some fault })) {
          core = record (Sits driver' (record worker { fault = Some fault })).core { engine = record (Sits driver' (record worker { fault = Some fault })).core.engine { bank = b } };
        }) wires wires fault) (sym (ap bank_of same))
        (stopped rules part capacity old _ _ driver' fault (made_moves rules part capacity old job made at.here) fell wires)

  -- ---- the end

  module _ (sound : worker.fault ≡ None) (past : slice_get part.directives worker.place ≡ None) (driver' : Told rules.State) where
    pub end_turns : worker.finished ≡ false → Answered rules Finish driver driver' → (capacity : ℕ) (wires : Wires) →
        Did rules part capacity old (Sits driver' (record worker { finished = true })) wires wires
    end_turns unfinished answered capacity wires =
        moves_when rules part capacity old (Sits driver' (record worker { finished = true })) refl
        (ap (λ (d : Told rules.State). d.told) answered.rest) (ap (λ (d : Told rules.State). d.faults) answered.rest) (call_of rules driver.state Finish ∷ []) _
        (end_moves rules part capacity old past unfinished) refl
        (λ told. ap (λ (s : rules.State). record old.core { engine = record old.core.engine { driver = s; is_finished = true } }) (answered.state told)) wires

    pub end_fails : worker.finished ≡ false → (fault : DriverFault) → Fell rules (call_of rules driver.state Finish ∷ []) driver fault driver' → (capacity : ℕ) (wires : Wires) →
        Fails rules part capacity old (Sits driver' (record worker { fault = Some fault })) wires wires fault
    end_fails unfinished fault fell capacity wires =
        stopped rules part capacity old _ _ driver' fault (end_moves rules part capacity old past unfinished) fell wires
