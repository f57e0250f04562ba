-- Turns that fill a frame, do an instruction, hand over a wire, or finish the driver, as acts of the core.
use Rattle.std.proofs.Common.{◌≡◌, ◌+◌, ◌==◌, ℕ, suc, Bool, true, false, cond, List, [], ◌∷◌, length, Option, Some, None, nat_lt, refl, sym, ap, ap₂, ◌∙◌, subst, arith}
use Rattle.std.specs.Prelude.{slice_get, slice_index_or}
use Rattle.std.proofs.lemmas.Bool.{lt-ltb}
use Rattle.mage_circuit.specs.Results.{is_made}
use Rattle.mage_instr.specs.declared.directive.Directive.TheVariants as entry
use Rattle.mage_instr.specs.declared.fault.DriverFault.{DriverFault}
use Rattle.mage_instr.specs.declared.op.Op.{Op}
use Rattle.mage_instr.specs.declared.op.Op.TheVariants as op
use Rattle.mage_instr.specs.declared.replaced.Job.{Job}
use Rattle.mage_driver.specs.Rules.{Rules}
use Rattle.mage_driver.specs.Calls.{Told, Call, Finish, Fell, call_of}
use Rattle.mage_driver.specs.Circuits.{Made}
use Rattle.mage_network.specs.Network.{put, put_link, appended}
use Rattle.mage_network.specs.Workers.{Act, Moves, Sends, Takes, Stops}
use Rattle.mage_network.specs.Waiting.{may_go_on}
use Rattle.mage_network.specs.Slots as net
use Rattle.mage_steps.specs.Frames.{cleared, spot_of_wire, wire_at, with_wires, sent_form, received_form}
use Rattle.mage_steps.specs.Engines.{Engine, Acting, advanced, past_wire, no_spot, with_result, made_of, computes, act_of_op, finishes}
use Rattle.mage_engine.proofs.Doing.{computes_when}
use Rattle.mage_verify.specs.Parts.{WorkerPart}
use Rattle.mage_world.specs.Seats.{Seat}
use Rattle.mage_world.specs.Turns.{Wires, Leaves, framed_as, said_by, act_of, Did, Fails, Stays}
use Rattle.mage_world.proofs.Acting.{act_here, framed_same}

past_so : {S : Type 0} (b : Bool) (engine : Engine S) →
    record engine { place = cond b (engine.place + 1) engine.place; wire = cond b 0 (engine.wire + 1) } ≡
    cond b (advanced engine) (record engine { wire = suc engine.wire })
past_so true engine =
    let next : engine.place + 1 ≡ suc engine.place = omega arith in
    ap (λ p. record engine { place = p; wire = 0 }) next
past_so false engine =
    let next : engine.wire + 1 ≡ suc engine.wire = omega arith in
    ap (λ w. record engine { wire = w }) next

module _ {W : Type 0} (rules : Rules W) (part : WorkerPart) (capacity : ℕ) (was : Seat rules.State) where
  abbrev Acts : Type 0
  Acts = Option (Act (net.Paged (Engine rules.State) (List ℕ)) (Call rules.State W) (List ℕ))

  -- a worker whose engine is another
  abbrev pub with_engine : Engine rules.State → net.Paged (Engine rules.State) (List ℕ)
  with_engine engine = record was.core { engine = engine }

  -- a turn that the driver stopped
  pub stopped : (said : List (Call rules.State W)) (next : net.Paged (Engine rules.State) (List ℕ)) (driver : Told rules.State) (fault : DriverFault) →
      act_of rules part was ≡ Some (Moves said next) → Fell rules said was.driver fault driver → (wires : Wires) →
      Fails rules part capacity was (record { driver = driver; fault = Some fault; core = with_engine (record was.core.engine { driver = driver.state }) }) wires wires fault
  stopped said next driver fault act fell wires = record {
    can = ap (λ (a : Acts). may_go_on capacity part.worker a wires) act;
    fell = subst (λ (s : List (Call rules.State W)). Fell rules s was.driver fault driver) (sym (ap (λ (a : Acts). said_by a) act)) fell;
    rest = refl;
    links = refl;
  }

  -- ---- a frame is filled

  module _ (frame page : ℕ) (here : slice_get part.directives was.core.engine.place ≡ Some (entry.Fresh frame page)) where
    pub fresh_moves : act_of rules part was ≡ Some (Moves [] (with_engine (record (advanced was.core.engine) {
      bank = put was.core.engine.bank frame (cleared rules part.limits.page);
    })))
    fresh_moves = act_here rules part capacity was (Some (entry.Fresh frame page)) here

    pub fresh_is : (bank : ℕ → List ℕ) → bank ≡ put was.core.engine.bank frame (cleared rules part.limits.page) →
        with_engine (record was.core.engine { place = was.core.engine.place + 1; wire = 0; bank = bank }) ≡
        with_engine (record (advanced was.core.engine) { bank = put was.core.engine.bank frame (cleared rules part.limits.page) })
    fresh_is bank filled =
        let next : was.core.engine.place + 1 ≡ suc was.core.engine.place = omega arith in
        ap₂ (λ (p : ℕ) (b : ℕ → List ℕ). with_engine (record was.core.engine { place = p; wire = 0; bank = b })) next filled

  -- ---- an instruction that the driver makes

  module _ (job : Job) (made : is_made job.op ≡ true) (here : slice_get part.directives was.core.engine.place ≡ Some (entry.Do job)) where
    abbrev circuit : Made rules.State W (List W)
    circuit = made_of rules job was.core.engine

    pub made_moves : act_of rules part was ≡ Some (Moves circuit.calls (with_engine (record (advanced was.core.engine) {
      driver = circuit.state;
      bank = with_result rules job was.core.engine.bank circuit.wires;
    })))
    made_moves = act_here rules part capacity was (Some (entry.Do job)) here
        ∙ ap (λ (a : Acting rules). net.act_in net.asked (net.Acts a) was.core) (sym (computes_when rules job.op made job was.core.engine))

    -- whatever the driver made
    pub made_rest : (driver : rules.State) (bank : ℕ → List ℕ) →
        with_engine (record was.core.engine { place = was.core.engine.place + 1; wire = 0; driver = driver; bank = bank }) ≡
        with_engine (record (advanced was.core.engine) { driver = driver; bank = bank })
    made_rest driver bank =
        let next : was.core.engine.place + 1 ≡ suc was.core.engine.place = omega arith in
        ap (λ (p : ℕ). with_engine (record was.core.engine { place = p; wire = 0; driver = driver; bank = bank })) next

    pub made_is : (driver : rules.State) (bank : ℕ → List ℕ) → driver ≡ circuit.state → bank ≡ with_result rules job was.core.engine.bank circuit.wires →
        with_engine (record was.core.engine { place = was.core.engine.place + 1; wire = 0; driver = driver; bank = bank }) ≡
        with_engine (record (advanced was.core.engine) {
          driver = circuit.state;
          bank = with_result rules job was.core.engine.bank circuit.wires;
        })
    made_is driver bank reached stored =
        let next : was.core.engine.place + 1 ≡ suc was.core.engine.place = omega arith in
        ap₂ (λ (p : ℕ) (s : rules.State). with_engine (record was.core.engine { place = p; wire = 0; driver = s; bank = bank })) next reached
        ∙ ap (λ (b : ℕ → List ℕ). with_engine (record (advanced was.core.engine) { driver = circuit.state; bank = b })) stored

  -- ---- a wire is handed over

  module _ (job : Job) (here : slice_get part.directives was.core.engine.place ≡ Some (entry.Do job)) where
    op_moves : (o : Op) → job.op ≡ o → act_of rules part was ≡ net.act_in net.asked (net.Acts (act_of_op rules o job was.core.engine)) was.core
    op_moves o is = act_here rules part capacity was (Some (entry.Do job)) here
        ∙ ap (λ (o : Op). net.act_in net.asked (net.Acts (act_of_op rules o job was.core.engine)) was.core) is

    abbrev pub wire_sent : List ℕ
    wire_sent = sent_form rules (wire_at rules was.core.engine.bank (spot_of_wire (slice_index_or job.args 0 no_spot) was.core.engine.wire))

    pub send_is : job.op ≡ op.Send → act_of rules part was ≡ Some (Sends job.imm wire_sent (with_engine (past_wire job.width was.core.engine)))
    send_is sends = op_moves op.Send sends

    pub take_is : job.op ≡ op.Recv → act_of rules part was ≡ Some (Takes job.imm (λ bytes. with_engine (past_wire job.width (record was.core.engine {
      bank = with_wires rules was.core.engine.bank (spot_of_wire job.out was.core.engine.wire) (received_form rules bytes ∷ []);
    }))))
    take_is takes = op_moves op.Recv takes

    -- where the engine stands after one wire more
    pub past_is : (place wire : ℕ) (bank : ℕ → List ℕ) → place ≡ cond (was.core.engine.wire + 1 == job.width) (was.core.engine.place + 1) was.core.engine.place →
        wire ≡ cond (was.core.engine.wire + 1 == job.width) 0 (was.core.engine.wire + 1) →
        with_engine (record was.core.engine { place = place; wire = wire; bank = bank }) ≡ with_engine (past_wire job.width (record was.core.engine { bank = bank }))
    past_is place wire bank place_so wire_so =
        let next : was.core.engine.wire + 1 ≡ suc was.core.engine.wire = omega arith in
        ap₂ (λ (p w : ℕ). with_engine (record was.core.engine { place = p; wire = w; bank = bank })) place_so wire_so
        ∙ ap (λ (e : Engine rules.State). with_engine e) (past_so (was.core.engine.wire + 1 == job.width) (record was.core.engine { bank = bank }))
        ∙ ap (λ (n : ℕ). with_engine (cond (n == job.width) (advanced (record was.core.engine { bank = bank })) (record was.core.engine { wire = suc was.core.engine.wire; bank = bank }))) next

    module _ (is : Seat rules.State) (fault : is.fault ≡ was.fault) (driver : is.driver ≡ was.driver) (before after : Wires) where
      pub sent : job.op ≡ op.Send → is.core ≡ with_engine (past_wire job.width was.core.engine) → nat_lt (length (before part.worker job.imm)) capacity ≡ true →
          after ≡ put_link before part.worker job.imm (appended (before part.worker job.imm) wire_sent) → Did rules part capacity was is before after
      sent sends same room links = record {
        can = ap (λ (a : Acts). may_go_on capacity part.worker a before) (send_is sends) ∙ room;
        sound = fault;
        told = ap (λ (d : Told rules.State). d.told) driver;
        faults = ap (λ (d : Told rules.State). d.faults) driver;
        rest = subst (λ (a : Acts). Leaves part.worker a (λ next. is.core ≡ framed_as is.core next) before after) (sym (send_is sends))
            (framed_same is.core _ same, links);
        event = λ t. subst (λ (a : Acts). Leaves part.worker a (λ next. is.core ≡ next) before after) (sym (send_is sends)) (same, links);
      }

      pub taken : job.op ≡ op.Recv → (bytes : List ℕ) (rest : List (List ℕ)) → before job.imm part.worker ≡ bytes ∷ rest →
          is.core ≡ with_engine (past_wire job.width (record was.core.engine {
            bank = with_wires rules was.core.engine.bank (spot_of_wire job.out was.core.engine.wire) (received_form rules bytes ∷ []);
          })) → after ≡ put_link before job.imm part.worker rest → Did rules part capacity was is before after
      taken takes bytes rest first same links = record {
        can = ap (λ (a : Acts). may_go_on capacity part.worker a before) (take_is takes) ∙ ap (λ (l : List (List ℕ)). nat_lt 0 (length l)) first ∙ lt-ltb 0 (length (bytes ∷ rest)) (omega arith);
        sound = fault;
        told = ap (λ (d : Told rules.State). d.told) driver;
        faults = ap (λ (d : Told rules.State). d.faults) driver;
        rest = subst (λ (a : Acts). Leaves part.worker a (λ next. is.core ≡ framed_as is.core next) before after) (sym (take_is takes))
            (bytes, rest, first, framed_same is.core _ same, links);
        event = λ t. subst (λ (a : Acts). Leaves part.worker a (λ next. is.core ≡ next) before after) (sym (take_is takes)) (bytes, rest, first, same, links);
      }

    pub send_waits : job.op ≡ op.Send → (wires : Wires) → nat_lt (length (wires part.worker job.imm)) capacity ≡ false → Stays rules part capacity was was wires wires
    send_waits sends wires full = (ap (λ (a : Acts). may_go_on capacity part.worker a wires) (send_is sends) ∙ full, refl, refl)

    pub take_waits : job.op ≡ op.Recv → (wires : Wires) → length (wires job.imm part.worker) ≡ 0 → Stays rules part capacity was was wires wires
    take_waits takes wires empty = (ap (λ (a : Acts). may_go_on capacity part.worker a wires) (take_is takes) ∙ ap (λ n. nat_lt 0 n) empty, refl, refl)

  -- ---- the end

  module _ (past : slice_get part.directives was.core.engine.place ≡ None) where
    end_is : (b : Bool) → was.core.engine.is_finished ≡ b →
        act_of rules part was ≡ net.act_in net.asked (net.Acts (cond b Stops (Moves (call_of rules was.core.engine.driver Finish ∷ []) (finishes rules was.core.engine)))) was.core
    end_is b is = act_here rules part capacity was None past
        ∙ ap (λ (b : Bool). net.act_in net.asked (net.Acts (cond {A = Acting rules} b Stops (Moves (call_of rules was.core.engine.driver Finish ∷ []) (finishes rules was.core.engine)))) was.core) is

    pub end_moves : was.core.engine.is_finished ≡ false →
        act_of rules part was ≡ Some (Moves (call_of rules was.core.engine.driver Finish ∷ []) (with_engine (finishes rules was.core.engine)))
    end_moves unfinished = end_is false unfinished

    pub end_waits : was.core.engine.is_finished ≡ true → (wires : Wires) → Stays rules part capacity was was wires wires
    end_waits finished wires = (ap (λ (a : Acts). may_go_on capacity part.worker a wires) (end_is true finished), refl, refl)
