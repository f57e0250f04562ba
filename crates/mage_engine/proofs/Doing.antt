-- Frames that are filled, instructions, and the end.
use Rattle.std.proofs.Common.{◌≡◌, ◌+◌, ℕ, suc, Bool, true, false, cond, List, [], ◌∷◌, drop, Option, Some, None, nat_eq, refl, sym, ap, ap₂, ◌∙◌, subst}
use Rattle.std.specs.Prelude.{IsTrue}
use Rattle.mage_instr.specs.declared.directive.Directive.{Directive}
use Rattle.mage_instr.specs.declared.directive.Directive.TheVariants as entry
use Rattle.mage_instr.specs.declared.op.Op.{Op}
use Rattle.mage_instr.specs.declared.op.Op.TheVariants as op
use Rattle.mage_instr.specs.declared.replaced.Job.{Job}
use Rattle.mage_circuit.specs.Results.{is_made}
use Rattle.mage_network.specs.Network.{put}
use Rattle.mage_network.specs.Workers.{Moves}
use Rattle.mage_network.specs.Slots.{Acts}
use Rattle.mage_network.specs.Reading.{hears_in}
use Rattle.mage_driver.specs.declared.standing.Standing.TheVariants as standing
use Rattle.mage_driver.specs.Rules.{Rules}
use Rattle.mage_driver.specs.Calls.{Told, Finish, Answered, NoneIsDue, call_of}
use Rattle.mage_driver.specs.Circuits.{Made}
use Rattle.mage_bank.specs.Jobs.{circuit_on}
use Rattle.mage_link.specs.Links.{LinkTold}
use Rattle.mage_steps.specs.Frames.{cleared}
use Rattle.mage_steps.specs.Engines.{Engine, Acting, advanced, with_result, computes, act_of_op, doing_at, ends, finishes}
use Rattle.mage_verify.specs.Leaving.{is_left}
use Rattle.mage_engine.specs.declared.turn.Kind.TheVariants as kind
use Rattle.mage_engine.specs.Seen.{Seen, directive_at, is_finished, engine_with, worker_with, HoldSame}
use Rattle.mage_engine.specs.Ready.{IsAt, Stands, wires_of, wires_of_op}
use Rattle.mage_engine.specs.Steps.{IsMove, Happens, OverLink, AtLink, AtPort, Asks, kind_of, kind_of_op, place_after, wire_after, standing_after, calls_of, next_with}
use Rattle.mage_engine.proofs.Advancing.{left_here, ready, ready_of, running, next_ready}
use Rattle.mage_engine.proofs.Using.{circuit_same, stored_same, other_before}
use Rattle.mage_engine.proofs.Moving.{EventAt, Behind, moved_so, stands_so, same_driver}

-- ---- a frame is filled

module _ {W : Type 0} (rules : Rules W) (wb : ℕ) (finished : Bool) (old : Seen rules.State) (frame page : ℕ) (at : IsAt old (entry.Fresh frame page))
    (stands : Stands wb finished old.fault old) where
  abbrev pub clean : ℕ → List ℕ
  clean = put old.bank frame (cleared rules old.part.limits.page)

  fresh_holds : (bank : ℕ → List ℕ) → HoldSame old bank → (f : ℕ) → is_left f (drop (suc old.place) old.part.directives) ≡ false →
      put bank frame (cleared rules old.part.limits.page) f ≡ put old.bank frame (cleared rules old.part.limits.page) f
  fresh_holds bank same f left = go (nat_eq frame f) refl
    where
      go : (b : Bool) → nat_eq frame f ≡ b → cond b (cleared rules old.part.limits.page) (bank f) ≡ cond b (cleared rules old.part.limits.page) (old.bank f)
      go true e = refl
      go false e = same f (ap (is_left f) (left_here old.part.directives old.place (entry.Fresh frame page) at.here)
          ∙ ap (λ b. cond b true (is_left f (drop (suc old.place) old.part.directives))) e ∙ left)

  pub freshened : (new : Seen rules.State) → new ≡ record old { place = old.place + 1; bank = clean } → (link : LinkTold) → IsMove rules old new link link kind.Do
  freshened new is link =
      moved_so rules old (entry.Fresh frame page) at wb finished stands refl new old.driver old.port clean kind.Do is refl
      (same_driver rules old (entry.Fresh frame page) at wb finished stands refl) refl tt link refl
      (λ told bank same. (put bank frame (cleared rules old.part.limits.page), fresh_holds bank same, (refl, refl, refl)))
      (λ told. tt)

  pub stands_fresh : (new : Seen rules.State) → new ≡ record old { place = old.place + 1; bank = clean } → Stands wb finished old.fault new
  stands_fresh new is =
      let r = ready wb finished old (entry.Fresh frame page) at stands in
      stands_so rules old (entry.Fresh frame page) at wb finished stands refl new old.driver old.port clean is
      (next_ready wb finished old (entry.Fresh frame page) at stands old.driver old.port clean (running wb finished old (entry.Fresh frame page) at stands) refl refl refl r.slots r.held)

-- ---- the end

module _ {W : Type 0} (rules : Rules W) (wb : ℕ) (old : Seen rules.State) (sound : old.fault ≡ None) (past : directive_at old ≡ None)
    (stands : Stands wb false old.fault old) (driver : Told rules.State) (answered : Answered rules Finish old.driver driver) where
  runs_still : old.driver.standing ≡ standing.Running
  runs_still = (ready_of wb false old.fault old sound stands).standing

  ended : driver.standing ≡ standing.Finished
  ended = ap (λ (d : Told rules.State). d.standing) answered.rest

  end_happens : (link : LinkTold) (bank : ℕ → List ℕ) → IsTrue old.driver.told →
      Happens (hears_in (doing_at rules old.part.limits.page (directive_at old) (engine_with old bank)) (worker_with old bank)) old.part.worker
      (record { finished = old.port.finished; link = link }) (record { finished = old.port.finished; link = link }) (worker_with (record old { driver = driver }) bank)
  end_happens link bank told =
      subst (λ (o : Option Directive). Happens (hears_in (doing_at rules old.part.limits.page o (engine_with old bank)) (worker_with old bank)) old.part.worker
      (record { finished = old.port.finished; link = link }) (record { finished = old.port.finished; link = link }) (worker_with (record old { driver = driver }) bank)) (sym past)
      (subst (λ (b : Bool). Happens (hears_in (Acts (cond b (ends rules (record (engine_with old bank) { is_finished = true })) (Moves (call_of rules old.driver.state Finish ∷ []) (finishes rules (engine_with old bank))))) (worker_with old bank)) old.part.worker
      (record { finished = old.port.finished; link = link }) (record { finished = old.port.finished; link = link }) (worker_with (record old { driver = driver }) bank))
      (sym (ap is_finished runs_still)) (
        ap₂ (λ (s : rules.State) (b : Bool). record (worker_with old bank) { engine = record (engine_with old bank) { driver = s; is_finished = b } })
            (answered.state told) (ap is_finished ended),
        refl,
        refl,
      ))

  end_passed : IsTrue old.driver.told → NoneIsDue rules (calls_of rules (next_with rules old old.bank))
  end_passed told =
      subst (λ (o : Option Directive). NoneIsDue rules (calls_of rules (doing_at rules old.part.limits.page o (engine_with old old.bank)))) (sym past)
      (subst (λ (b : Bool). NoneIsDue rules (calls_of rules (Acts (cond b (ends rules (record (engine_with old old.bank) { is_finished = true }))
      (Moves (call_of rules old.driver.state Finish ∷ []) (finishes rules (engine_with old old.bank)))))))
      (sym (ap is_finished runs_still)) (answered.passed told))

  pub finished_move : (link : LinkTold) → IsMove rules old (record old { driver = driver }) link link kind.Do
  finished_move link = record {
    of_kind = ap kind_of (sym past);
    port = subst (λ (o : Option Directive). AtPort o old.bank old.bank old.port old.port) (sym past) refl;
    asks = subst (λ (o : Option Directive). Asks o old.port) (sym past) tt;
    link = subst (λ (o : Option Directive). AtLink o old.part.worker link link) (sym past) refl;
    driver = answered.rest ∙ ap (λ (o : Option Directive). record old.driver { state = driver.state; standing = standing_after o }) (sym past);
    rest = ap (λ (o : Option Directive). record old { driver = driver; place = place_after o old.wire old.place; wire = wire_after o old.wire }) (sym past);
    event = λ told bank same. (bank, same, end_happens link bank told);
    passed = λ told. end_passed told;
  }

-- ---- an instruction that the driver makes

pub computes_when : {W : Type 0} (rules : Rules W) (o : Op) → is_made o ≡ true → (job : Job) (engine : Engine rules.State) →
    computes rules job engine ≡ act_of_op rules o job engine
computes_when rules op.Send made job engine = absurd cc
computes_when rules op.Recv made job engine = absurd cc
computes_when rules op.Input made job engine = refl
computes_when rules op.Const made job engine = refl
computes_when rules op.Output made job engine = refl
computes_when rules op.Add made job engine = refl
computes_when rules op.Sub made job engine = refl
computes_when rules op.Mul made job engine = refl
computes_when rules op.And made job engine = refl
computes_when rules op.Or made job engine = refl
computes_when rules op.Xor made job engine = refl
computes_when rules op.Not made job engine = refl
computes_when rules op.Eq made job engine = refl
computes_when rules op.Lt made job engine = refl
computes_when rules op.Mux made job engine = refl
computes_when rules op.Shl made job engine = refl
computes_when rules op.Shr made job engine = refl
computes_when rules op.Resize made job engine = refl
computes_when rules op.Div made job engine = refl
computes_when rules op.Rem made job engine = refl
computes_when rules op.Count made job engine = refl
computes_when rules op.Min made job engine = refl
computes_when rules op.Max made job engine = refl

one_wire : (o : Op) (width : ℕ) → is_made o ≡ true → wires_of_op o width ≡ 1
one_wire op.Send width made = absurd cc
one_wire op.Recv width made = absurd cc
one_wire _ width made = refl

of_do : (o : Op) → is_made o ≡ true → kind.Do ≡ kind_of_op o
of_do op.Send made = absurd cc
of_do op.Recv made = absurd cc
of_do _ made = refl

beside_link : (o : Op) → is_made o ≡ true → (imm worker : ℕ) (link : LinkTold) → OverLink o imm worker link link
beside_link op.Send made imm worker link = absurd cc
beside_link op.Recv made imm worker link = absurd cc
beside_link _ made imm worker link = refl

module _ {W : Type 0} (rules : Rules W) (wb : ℕ) (finished : Bool) (old : Seen rules.State) (job : Job) (at : IsAt old (entry.Do job))
    (made : is_made job.op ≡ true) (stands : Stands wb finished old.fault old) (driver : Told rules.State) (bank' : ℕ → List ℕ)
    (runs : driver ≡ record old.driver { state = driver.state; standing = standing.Running }) where
  pub one : wires_of (Some (entry.Do job)) ≡ 1
  one = one_wire job.op job.width made

  pub did : (new : Seen rules.State) → new ≡ record old { driver = driver; place = old.place + 1; bank = bank' } →
      (IsTrue old.driver.told → driver.state ≡ (circuit_on rules job old.bank old.driver.state).state) →
      (IsTrue old.driver.told → bank' ≡ with_result rules job old.bank (circuit_on rules job old.bank old.driver.state).wires) →
      (IsTrue old.driver.told → NoneIsDue rules (circuit_on rules job old.bank old.driver.state).calls) →
      (link : LinkTold) → IsMove rules old new link link kind.Do
  did new is reached stored passed link =
      moved_so rules old (entry.Do job) at wb finished stands one new driver old.port bank' kind.Do is (of_do job.op made) runs refl tt link (beside_link job.op made job.imm old.part.worker link) event
      (λ told. subst (λ (a : Acting rules). NoneIsDue rules (calls_of rules (Acts a))) (computes_when rules job.op made job (engine_with old old.bank)) (passed told))
    where
      running_both : is_finished old.driver.standing ≡ is_finished driver.standing
      running_both = ap is_finished (running wb finished old (entry.Do job) at stands ∙ sym (ap (λ (d : Told rules.State). d.standing) runs))

      event : IsTrue old.driver.told → EventAt rules old (entry.Do job) at (Behind rules old (entry.Do job) at wb finished stands one driver old.port bank') link link
      event told bank same =
          let circuit = circuit_same rules old job at bank same old.driver.state in
          let wires : List W = (circuit_on rules job bank old.driver.state).wires in
          let filled : ℕ → List ℕ = with_result rules job bank wires in (
            filled,
            λ f left. stored_same rules old job at bank same wires f (same f (other_before rules old job at f left))
                ∙ ap (λ (m : Made rules.State W (List W)). with_result rules job old.bank m.wires f) circuit
                ∙ ap (λ (b : ℕ → List ℕ). b f) (sym (stored told)),
            subst (λ (a : Acting rules). Happens (hears_in (Acts a) (worker_with old bank)) old.part.worker
                (record { finished = old.port.finished; link = link }) (record { finished = old.port.finished; link = link })
                (worker_with (Behind rules old (entry.Do job) at wb finished stands one driver old.port bank') filled))
                (computes_when rules job.op made job (engine_with old bank)) (
                  ap₂ (λ (s : rules.State) (b : Bool). record (worker_with old bank) {
                    engine = record (advanced (engine_with old bank)) { driver = s; is_finished = b; bank = filled };
                  }) (reached told ∙ sym (ap (λ (m : Made rules.State W (List W)). m.state) circuit)) (sym running_both),
                  refl,
                  refl,
                ),
          )

  pub stands_did : (new : Seen rules.State) → new ≡ record old { driver = driver; place = old.place + 1; bank = bank' } → Stands wb finished old.fault new
  stands_did new is =
      let r = ready wb finished old (entry.Do job) at stands in
      stands_so rules old (entry.Do job) at wb finished stands one new driver old.port bank' is
      (next_ready wb finished old (entry.Do job) at stands driver old.port bank' (ap (λ (d : Told rules.State). d.standing) runs) refl refl refl r.slots r.held)
