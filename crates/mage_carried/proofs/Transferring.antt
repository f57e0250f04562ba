-- Workers that stand at a Send and at its Recv: the wires go over, and both stand behind them.
use Rattle.std.proofs.Common.{◌≡◌, ◌≤◌, ◌<◌, ◌+◌, ◌*◌, ℕ, suc, Bool, true, false, cond, List, [], ◌∷◌, ◌++◌, length, get_or, Option, Some, None, refl, sym, ap, ◌∙◌, subst, slice_get, arith, append_assoc, option_map}
use Rattle.std.proofs.lemmas.Bool.Decides.{nat_tests}
use Rattle.std.proofs.lemmas.List.{length-append}
use Rattle.std.proofs.lemmas.Option.{get_or_from_slice_get}
use Rattle.mage_instr.specs.declared.directive.Directive.{Directive}
use Rattle.mage_instr.specs.declared.directive.Directive.TheVariants as entry
use Rattle.mage_instr.specs.declared.directive.MemProgram.{MemProgram}
use Rattle.mage_instr.specs.declared.instr.Instr.{Instr}
use Rattle.mage_instr.specs.declared.op.Op.TheVariants as op
use Rattle.mage_instr.specs.declared.replaced.Job.{Job}
use Rattle.mage_instr.specs.declared.replaced.Spot.{Spot}
use Rattle.mage_instr.specs.Opcodes.{arity_of, has_result, width_of_result, width_of_arg}
use Rattle.mage_instr.specs.Sound.{IsSound, arg_of}
use Rattle.mage_network.specs.Workers.{Sends, Takes, Worker, said_in}
use Rattle.mage_network.specs.Slots as core
use Rattle.mage_driver.specs.Rules.{Rules, AreLawful}
use Rattle.mage_driver.specs.Calls.{Call}
use Rattle.mage_steps.specs.Frames.{spot_of_wire, wire_at, with_wires, sent_form, received_form}
use Rattle.mage_steps.specs.Engines.{Engine, advanced, past_wire, act_of_op, with_result, doing_at}
use Rattle.mage_steps.specs.Core.{Core, core_act}
use Rattle.mage_carry.specs.State as walk
use Rattle.mage_carry.specs.Steps.{◌>>=◌, provided, placed, is_within, no_spot, result_at, result_put, counted}
use Rattle.mage_carried.specs.Wires.{AreWires, MakesWires}
use Rattle.mage_carried.proofs.Reading.{HasWires, wire_read}
use Rattle.mage_carried.proofs.Relation.{value_of, IsWhole, Holds, frame_in, times_le}
use Rattle.mage_carried.proofs.Relation as relation
use Rattle.mage_carried.proofs.Jobs.{Doing, follows_result}
use Rattle.mage_carried.proofs.Jobs as jobs
use Rattle.mage_carried.proofs.Standing as standing
use Rattle.mage_carried.proofs.Standing.{WalksOn, stands_at}
use Rattle.mage_carried.proofs.Computing.{sound_at, arg_width, next_job}
use Rattle.mage_carried.proofs.Handing.{wires_front, Sending, Taking, sent_some}

-- a result that is put lies in its page
fits_so : (instrs : List Instr) (page : ℕ) (i : Instr) (job : Job) (w after : walk.State) → has_result i.op ≡ true →
    option_map counted (result_put instrs page i job w) ≡ Some after → job.out.offset + width_of_result i.op i.width ≤ page
fits_so instrs page i job w after has e = go (has_result i.op) has e
  where
    within : (b : Bool) (state : walk.State) → is_within page (width_of_result i.op i.width) job.out ≡ b →
        option_map counted (provided b state) ≡ Some after → job.out.offset + width_of_result i.op i.width ≤ page
    within false state e' f = absurd cc
    within true state e' f = grind (arith, nat_tests)

    go : (b : Bool) → b ≡ true →
        option_map counted (cond b (result_at instrs page (width_of_result i.op i.width) job.out w) (Some w)) ≡ Some after →
        job.out.offset + width_of_result i.op i.width ≤ page
    go false h f = absurd cc
    go true h f = go' (slice_get w.frames job.out.frame) f
      where
        go' : (o : Option walk.Content) →
            option_map counted (o >>= (λ content. provided (is_within page (width_of_result i.op i.width) job.out)
            (walk.with_frame job.out.frame (placed instrs job.out.offset (width_of_result i.op i.width) w.next content) w))) ≡ Some after →
            job.out.offset + width_of_result i.op i.width ≤ page
        go' None g = absurd cc
        go' (Some content) g = within (is_within page (width_of_result i.op i.width) job.out) _ refl g

module _ {W : Type 0} (rules : Rules W) (lawful : AreLawful rules) (fine : rules.State → Bool) (makes : MakesWires rules fine) (plan : MemProgram) (n : ℕ)
    (instrs : List Instr) (sound : IsSound instrs) (store : ℕ) where
  abbrev Standing : (values : List (List W)) → (driver : rules.State) → (calls : List (Call rules.State W)) →
      (left : List Directive) → (worker : Worker (Core rules plan) (Call rules.State W) (List ℕ)) → Type 0
  Standing = standing.Stands rules lawful fine plan n instrs store

  abbrev Done : (values : List (List W)) → (w after : walk.State) → Job → Instr → Type 0
  Done = Doing rules lawful plan.limits.page instrs

  -- the next directive of a worker is this instruction's
  pub job_of : (values : List (List W)) (driver : rules.State) (calls : List (Call rules.State W)) (job : Job)
      (rest : List Directive) (worker : Worker (Core rules plan) (Call rules.State W) (List ℕ)) (i : Instr) →
      (h : Standing values driver calls (entry.Do job ∷ rest) worker) → slice_get instrs (length values) ≡ Some i →
      (after : walk.State) × Done values h.w after job i × WalksOn instrs plan.limits.page store after rest
  job_of values driver calls job rest worker i h here =
      let next = next_job rules lawful fine makes plan n instrs sound store values driver calls job rest worker h in (
        next.1,
        subst (λ x. Done values h.w next.1 job x)
            (let a : Some next.0 ≡ Some i = sym next.2.here ∙ here in (let b : next.0 ≡ i = cc in b)) next.2,
        next.3,
      )

  -- behind an instruction, with its result at its spot
  pub stands_behind : (values : List (List W)) (driver : rules.State) (calls : List (Call rules.State W)) (job : Job)
      (rest : List Directive) (worker other : Worker (Core rules plan) (Call rules.State W) (List ℕ)) (i : Instr) (wires : List W)
      (h : Standing values driver calls (entry.Do job ∷ rest) worker) (after : walk.State) → Done values h.w after job i →
      WalksOn instrs plan.limits.page store after rest → AreWires rules wires →
      (has_result i.op ≡ true → length wires ≡ width_of_result i.op i.width) →
      other.state ≡ record worker.state {
        engine = advanced (record worker.state.engine {
          bank = with_result rules job worker.state.engine.bank wires;
        });
      } → said_in other.past ≡ calls →
      Standing (values ++ wires ∷ []) driver calls rest other
  stands_behind values driver calls job rest worker other i wires h after d walks are long e said = record {
    w = after;
    follows = subst (λ (s : Core rules plan). relation.Follows rules plan.limits.page instrs (values ++ wires ∷ []) after
        s.engine.bank s.slots s.pages) (sym e)
        (follows_result rules lawful plan.limits.page instrs values h.w after worker.state.engine.bank worker.state.slots
        worker.state.pages job i wires d h.follows are long);
    wire = ap (λ (s : Core rules plan). s.engine.wire) e;
    unfinished = ap (λ (s : Core rules plan). s.engine.is_finished) e ∙ h.unfinished;
    same = ap (λ (s : Core rules plan). s.engine.driver) e ∙ h.same;
    is_fine = h.is_fine;
    front = h.front ++ entry.Do job ∷ [];
    split = h.split ∙ sym (append_assoc h.front (entry.Do job ∷ []) rest);
    place = ap (λ (s : Core rules plan). s.engine.place) e ∙ ap suc h.place ∙ sym (length-append h.front (entry.Do job ∷ [])
        ∙ (let f : length h.front + 1 ≡ suc (length h.front) = omega arith in f));
    walks = walks;
    said = said;
  }

  -- what a sender sends
  pub record Sends' (b : ℕ) (values : List (List W)) (i : Instr) (state : Core rules plan) : Type 0 where
    pub wires : AreWires rules (value_of values (arg_of i 0))
    pub long : length (value_of values (arg_of i 0)) ≡ i.width
    pub sending : Sending rules lawful fine plan n b i.width (value_of values (arg_of i 0)) state

  pub sending_so : (b : ℕ) (values : List (List W)) (driver : rules.State) (calls : List (Call rules.State W)) (job : Job)
      (rest : List Directive) (worker : Worker (Core rules plan) (Call rules.State W) (List ℕ)) (i : Instr)
      (h : Standing values driver calls (entry.Do job ∷ rest) worker) (after : walk.State) → Done values h.w after job i →
      i.op ≡ op.Send → i.imm ≡ b → Sends' b values i worker.state
  sending_so b values driver calls job rest worker i h after d is to = record {
    wires = one.0.wires;
    long = one.0.long ∙ arg_width instrs (length values) i 0 (sound_at instrs (length values) i sound d.here) within
        ∙ ap (λ o. width_of_arg o i.width i.imm 0) is;
    sending = record { sends = sends };
  }
    where
      within : 0 < arity_of i.op
      within = subst (λ o. 0 < arity_of o) (sym is) (omega arith)

      stands : jobs.Stands plan.limits.page h.w.frames (arg_of i 0) (width_of_arg i.op i.width i.imm 0) (get_or job.args 0 no_spot)
      stands = d.args 0 within

      spot : Spot
      spot = get_or job.args 0 no_spot

      one : IsWhole rules plan.limits.page instrs values (arg_of i 0)
          × HasWires rules (worker.state.engine.bank (get_or job.args 0 no_spot).frame) (get_or job.args 0 no_spot).offset (value_of values (arg_of i 0))
      one = (h.follows.frames (get_or job.args 0 no_spot).frame).each (get_or job.args 0 no_spot).offset (arg_of i 0)
          (ap (λ (c : walk.Content). c (get_or job.args 0 no_spot).offset)
          (get_or_from_slice_get h.w.frames (get_or job.args 0 no_spot).frame stands.content walk.nothing stands.frame) ∙ stands.offset)

      sends : (done more : List W) (x : W) → value_of values (arg_of i 0) ≡ done ++ x ∷ more →
          core_act rules plan n (sent_some rules lawful fine plan worker.state (length done)) ≡
          Sends b (sent_form rules x)
          (record worker.state { engine = past_wire i.width (record worker.state.engine { wire = length done }) })
      sends done more x e =
          let engine : Engine rules.State = record worker.state.engine { wire = length done } in
          let state : Core rules plan = record worker.state { engine = engine } in
          let parts = wires_front rules lawful fine plan done more x (subst (AreWires rules) e one.0.wires) in
          ap (λ o. core.or_stops (core.act_in core.served_at_once (doing_at rules plan.limits.page o engine) state))
          (stands_at rules lawful fine plan n instrs store values driver calls (entry.Do job) rest worker h)
          ∙ ap (λ o. core.act_of (act_of_op rules o job engine) state) (d.same.op ∙ is)
          ∙ ap (λ m. Sends m (sent_form rules (wire_at rules worker.state.engine.bank (spot_of_wire (get_or job.args 0 no_spot) (length done))))
          (record worker.state { engine = past_wire job.width engine })) (d.same.imm ∙ to)
          ∙ ap (λ y. Sends b (sent_form rules y) (record worker.state { engine = past_wire job.width engine }))
          (wire_read rules lawful (worker.state.engine.bank (get_or job.args 0 no_spot).frame) (get_or job.args 0 no_spot).offset done x more
          parts.0 parts.1
          (subst (HasWires rules (worker.state.engine.bank (get_or job.args 0 no_spot).frame) (get_or job.args 0 no_spot).offset) e one.1))
          ∙ ap (λ k. Sends b (sent_form rules x) (record worker.state { engine = past_wire k engine })) d.same.width

  pub taking_so : (a : ℕ) (values : List (List W)) (driver : rules.State) (calls : List (Call rules.State W)) (job : Job)
      (rest : List Directive) (worker : Worker (Core rules plan) (Call rules.State W) (List ℕ)) (i : Instr)
      (h : Standing values driver calls (entry.Do job ∷ rest) worker) (after : walk.State) → Done values h.w after job i →
      i.op ≡ op.Recv → i.imm ≡ a → Taking rules lawful fine plan a n i.width job.out worker.state
  taking_so a values driver calls job rest worker i h after d is from = record {
    takes = λ done.
        let engine : Engine rules.State = record worker.state.engine {
          wire = length done;
          bank = with_wires rules worker.state.engine.bank job.out done;
        } in
        let state : Core rules plan = record worker.state { engine = engine } in
        ap (λ o. core.or_stops (core.act_in core.served_at_once (doing_at rules plan.limits.page o engine) state))
        (stands_at rules lawful fine plan n instrs store values driver calls (entry.Do job) rest worker h)
        ∙ ap (λ o. core.act_of (act_of_op rules o job engine) state) (d.same.op ∙ is)
        ∙ ap (λ m. Takes m (λ bytes. record worker.state {
          engine = past_wire job.width (record worker.state.engine {
            wire = length done;
            bank = with_wires rules (with_wires rules worker.state.engine.bank job.out done) (spot_of_wire job.out (length done))
                (received_form rules bytes ∷ []);
          });
        })) (d.same.imm ∙ from)
        ∙ ap (λ k. Takes a (λ bytes. record worker.state {
          engine = past_wire k (record worker.state.engine {
            wire = length done;
            bank = with_wires rules (with_wires rules worker.state.engine.bank job.out done) (spot_of_wire job.out (length done))
                (received_form rules bytes ∷ []);
          });
        })) d.same.width;
    room =
        let fits = fits_so instrs plan.limits.page i job h.w after (ap has_result is) d.put in
        let wide : width_of_result i.op i.width ≡ i.width = ap (λ o. width_of_result o i.width) is in
        let long = (h.follows.frames job.out.frame).long in
        subst (λ l. job.out.offset * rules.wire_bytes + i.width * rules.wire_bytes ≤ l) (sym long)
        (times_le rules lawful plan.limits.page instrs job.out.offset i.width plan.limits.page rules.wire_bytes
        (subst (λ k. job.out.offset + k ≤ plan.limits.page) wide fits));
  }
