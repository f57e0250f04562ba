-- What a worker's next act is: alone, or one end of a link.
use Rattle.std.proofs.Common.{◌≡◌, ◌∙◌, ℕ, suc, Bool, true, false, cond, List, [], None, Some, refl, ap, subst, slice_get, nat_eq}
use Rattle.mage_instr.specs.declared.directive.Directive.{Directive}
use Rattle.mage_instr.specs.declared.directive.Directive.TheVariants as entry
use Rattle.mage_instr.specs.declared.directive.MemProgram.{MemProgram}
use Rattle.mage_instr.specs.declared.op.Op.{Op}
use Rattle.mage_instr.specs.declared.op.Op.TheVariants as op
use Rattle.mage_instr.specs.declared.replaced.Job.{Job}
use Rattle.mage_network.specs.Workers.{Moves, Sends, Takes}
use Rattle.mage_network.specs.Slots.{Reads, Writes, Slot, Idle, Asked, Busy, Served, act_of, asks_of, finishes_read, finishes_write, finished, act_in, or_stops, served_at_once}
use Rattle.mage_driver.specs.Rules.{Rules}
use Rattle.mage_driver.specs.Calls.{Call}
use Rattle.mage_steps.specs.Engines.{Engine, advanced, past_wire, computes, act_of_op, doing_of, doing_at}
use Rattle.mage_steps.specs.Core.{Core, directives_of, core_act}
use Rattle.mage_steps.specs.Orderly.{Reading, Writing, Fits, flights_before}
use Rattle.mage_steps.proofs.Flights.{flight_in, FlightsAre}
use Rattle.mage_steps.proofs.Settled.{is_settled, AreSettled}
use Rattle.mage_verify.specs.declared.turn.Stand.TheVariants as stand
use Rattle.mage_verify.specs.Joint.{stand_of, stand_at}

idle_word : {B : Type 0} (word : Slot B) → flight_in word ≡ None → word ≡ Idle
idle_word Idle e = refl
idle_word (Asked transfer) e = absurd cc
idle_word (Busy transfer) e = absurd cc
idle_word (Served transfer bytes) e = absurd cc

module _ {W : Type 0} (rules : Rules W) (plan : MemProgram) where
  abbrev Core' : Type 0
  Core' = Core rules plan

  -- The next act of a worker is one of its own, which does the directive.
  pub record GoesOn (n : ℕ) (c : Core') : Type 0 where
    pub said : List (Call rules.State W)
    pub after : Core'
    pub acts : core_act rules plan n c ≡ Moves said after
    pub place : after.engine.place ≡ suc c.engine.place
    pub wire : after.engine.wire ≡ 0
    pub finished : after.engine.is_finished ≡ c.engine.is_finished

  computed : (o : Op) (job : Job) (imm : ℕ) (engine : Engine rules.State) → stand_of o imm ≡ stand.Alone →
      act_of_op rules o job engine ≡ computes rules job engine
  computed op.Input job imm engine e = refl
  computed op.Const job imm engine e = refl
  computed op.Output job imm engine e = refl
  computed op.Add job imm engine e = refl
  computed op.Sub job imm engine e = refl
  computed op.Mul job imm engine e = refl
  computed op.And job imm engine e = refl
  computed op.Or job imm engine e = refl
  computed op.Xor job imm engine e = refl
  computed op.Not job imm engine e = refl
  computed op.Eq job imm engine e = refl
  computed op.Lt job imm engine e = refl
  computed op.Mux job imm engine e = refl
  computed op.Shl job imm engine e = refl
  computed op.Shr job imm engine e = refl
  computed op.Resize job imm engine e = refl
  computed op.Send job imm engine e = absurd cc
  computed op.Recv job imm engine e = absurd cc
  computed op.Div job imm engine e = refl
  computed op.Rem job imm engine e = refl
  computed op.Count job imm engine e = refl
  computed op.Min job imm engine e = refl
  computed op.Max job imm engine e = refl

  -- the act at a directive
  act_at : (n : ℕ) (c : Core') (x : Directive) → slice_get (directives_of plan n) c.engine.place ≡ Some x →
      core_act rules plan n c ≡ or_stops (act_in served_at_once (doing_of rules plan.limits.page x c.engine) c)
  act_at n c x found = ap (λ o. or_stops {L = Call rules.State W} {W = List ℕ} (act_in served_at_once (doing_at rules plan.limits.page o c.engine) c)) found

  asks_on : (n : ℕ) (c : Core') (left : Core') (word : Slot (List ℕ)) → core_act rules plan n c ≡ or_stops (asks_of word left) →
      word ≡ Idle → left.engine ≡ advanced c.engine → GoesOn n c
  asks_on n c left word acts idle engine = record {
    said = [];
    after = left;
    acts = acts ∙ ap (λ w. or_stops {L = Call rules.State W} {W = List ℕ} (asks_of w left)) idle;
    place = ap (λ (e : Engine rules.State). e.place) engine;
    wire = ap (λ (e : Engine rules.State). e.wire) engine;
    finished = ap (λ (e : Engine rules.State). e.is_finished) engine;
  }

  reads_on : (n : ℕ) (c : Core') (slot page : ℕ) (to : List ℕ → Engine rules.State) (word : Slot (List ℕ)) →
      core_act rules plan n c ≡ or_stops (finishes_read word slot to c) → is_settled word ≡ true → flight_in word ≡ Some (Reading page) →
      ((bytes : List ℕ) → (to bytes).place ≡ suc c.engine.place) → ((bytes : List ℕ) → (to bytes).wire ≡ 0) →
      ((bytes : List ℕ) → (to bytes).is_finished ≡ c.engine.is_finished) → GoesOn n c
  reads_on n c slot page to Idle acts settled flight place wire done = absurd cc
  reads_on n c slot page to (Asked t) acts settled flight place wire done = absurd cc
  reads_on n c slot page to (Busy t) acts settled flight place wire done = absurd cc
  reads_on n c slot page to (Served (Reads p) bytes) acts settled flight place wire done = record {
    said = [];
    after = finished slot (to bytes) c;
    acts = acts;
    place = place bytes;
    wire = wire bytes;
    finished = done bytes;
  }
  reads_on n c slot page to (Served (Writes p sent) bytes) acts settled flight place wire done = absurd cc

  writes_on : (n : ℕ) (c : Core') (slot page : ℕ) (word : Slot (List ℕ)) →
      core_act rules plan n c ≡ or_stops (finishes_write word slot (advanced c.engine) c) → is_settled word ≡ true →
      flight_in word ≡ Some (Writing page) → GoesOn n c
  writes_on n c slot page Idle acts settled flight = absurd cc
  writes_on n c slot page (Asked t) acts settled flight = absurd cc
  writes_on n c slot page (Busy t) acts settled flight = absurd cc
  writes_on n c slot page (Served (Reads p) bytes) acts settled flight = absurd cc
  writes_on n c slot page (Served (Writes p sent) bytes) acts settled flight = record {
    said = [];
    after = finished slot (advanced c.engine) c;
    acts = acts;
    place = refl;
    wire = refl;
    finished = refl;
  }

  -- a directive that asks nothing of another worker is done
  pub alone_goes : (n : ℕ) (c : Core') (x : Directive) → slice_get (directives_of plan n) c.engine.place ≡ Some x →
      stand_at (Some x) ≡ stand.Alone → FlightsAre rules plan n c → AreSettled c →
      Fits (flights_before (directives_of plan n) c.engine.place) x → GoesOn n c
  alone_goes n c (entry.Fresh frame page) found alone are settled fits = record {
    said = _;
    after = _;
    acts = act_at n c (entry.Fresh frame page) found;
    place = refl;
    wire = refl;
    finished = refl;
  }
  alone_goes n c (entry.IssueIn slot page) found alone are settled fits =
      asks_on n c (served_at_once slot (Reads page) (advanced c.engine) c) (c.slots slot)
      (act_at n c (entry.IssueIn slot page) found) (idle_word (c.slots slot) (are slot ∙ fits.0)) refl
  alone_goes n c (entry.FinishIn slot frame) found alone are settled fits =
      reads_on n c slot fits.0 _ (c.slots slot) (act_at n c (entry.FinishIn slot frame) found) (settled slot)
      (are slot ∙ fits.1) (λ bytes. refl) (λ bytes. refl) (λ bytes. refl)
  alone_goes n c (entry.IssueOut slot frame page) found alone are settled fits =
      asks_on n c (served_at_once slot (Writes page (c.engine.bank frame)) (advanced c.engine) c) (c.slots slot)
      (act_at n c (entry.IssueOut slot frame page) found) (idle_word (c.slots slot) (are slot ∙ fits.0)) refl
  alone_goes n c (entry.FinishOut slot) found alone are settled fits =
      writes_on n c slot fits.0 (c.slots slot) (act_at n c (entry.FinishOut slot) found) (settled slot) (are slot ∙ fits.1)
  alone_goes n c (entry.Do job) found alone are settled fits = record {
    said = _;
    after = _;
    acts = act_at n c (entry.Do job) found
        ∙ ap (λ a. or_stops {L = Call rules.State W} {W = List ℕ} (Some (act_of a c))) (computed job.op job job.imm c.engine alone);
    place = refl;
    wire = refl;
    finished = refl;
  }

  -- ---- a value that goes over

  -- an engine after one wire more of a value of this width
  pub record Passes (width : ℕ) (before after : Core') : Type 0 where
    pub place : after.engine.place ≡ (past_wire width before.engine).place
    pub wire : after.engine.wire ≡ (past_wire width before.engine).wire
    pub finished : after.engine.is_finished ≡ before.engine.is_finished

  past_finished : (width : ℕ) (engine : Engine rules.State) → (past_wire width engine).is_finished ≡ engine.is_finished
  past_finished width engine = go (nat_eq (suc engine.wire) width)
    where
      go : (b : Bool) → (cond b (advanced engine) (record engine { wire = suc engine.wire })).is_finished ≡ engine.is_finished
      go true = refl
      go false = refl

  -- what frames hold doesn't matter to it
  past_with_bank : (width : ℕ) (engine : Engine rules.State) (bank : ℕ → List ℕ) →
      ((past_wire width (record engine { bank = bank })).place ≡ (past_wire width engine).place)
      × ((past_wire width (record engine { bank = bank })).wire ≡ (past_wire width engine).wire)
  past_with_bank width engine bank = go (nat_eq (suc engine.wire) width)
    where
      changed : Engine rules.State
      changed = record engine { bank = bank }

      go : (b : Bool) → ((cond b (advanced changed) (record changed { wire = suc changed.wire })).place
          ≡ (cond b (advanced engine) (record engine { wire = suc engine.wire })).place)
          × ((cond b (advanced changed) (record changed { wire = suc changed.wire })).wire
          ≡ (cond b (advanced engine) (record engine { wire = suc engine.wire })).wire)
      go true = (refl, refl)
      go false = (refl, refl)

  -- a worker at a Send sends a wire
  pub record SendsOn (n target width : ℕ) (c : Core') : Type 0 where
    pub bytes : List ℕ
    pub after : Core'
    pub acts : core_act rules plan n c ≡ Sends target bytes after
    pub passes : Passes width c after

  pub sends_on : (n target width : ℕ) (c : Core') (job : Job) → slice_get (directives_of plan n) c.engine.place ≡ Some (entry.Do job) →
      job.op ≡ op.Send → job.imm ≡ target → job.width ≡ width → SendsOn n target width c
  sends_on n target width c job found is_send to wide =
      subst (λ t. SendsOn n t width c) to (subst (λ w. SendsOn n job.imm w c) wide (record {
        bytes = _;
        after = record c { engine = past_wire job.width c.engine };
        acts = act_at n c (entry.Do job) found
            ∙ ap (λ o. or_stops {L = Call rules.State W} {W = List ℕ} (Some (act_of (act_of_op rules o job c.engine) c))) is_send;
        passes = record { place = refl; wire = refl; finished = past_finished job.width c.engine };
      }))

  -- a worker at a Recv takes one
  pub record TakesOn (n source width : ℕ) (c : Core') : Type 0 where
    pub to : List ℕ → Core'
    pub acts : core_act rules plan n c ≡ Takes source to
    pub passes : (bytes : List ℕ) → Passes width c (to bytes)

  pub takes_on : (n source width : ℕ) (c : Core') (job : Job) → slice_get (directives_of plan n) c.engine.place ≡ Some (entry.Do job) →
      job.op ≡ op.Recv → job.imm ≡ source → job.width ≡ width → TakesOn n source width c
  takes_on n source width c job found is_recv from wide =
      subst (λ s. TakesOn n s width c) from (subst (λ w. TakesOn n job.imm w c) wide (record {
        to = _;
        acts = act_at n c (entry.Do job) found
            ∙ ap (λ o. or_stops {L = Call rules.State W} {W = List ℕ} (Some (act_of (act_of_op rules o job c.engine) c))) is_recv;
        passes = λ bytes. let p = past_with_bank job.width c.engine _ in record {
          place = p.0;
          wire = p.1;
          finished = past_finished job.width (record c.engine { bank = _ });
        };
      }))
