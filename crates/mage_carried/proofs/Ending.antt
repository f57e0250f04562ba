-- All instructions of a program are done, and then all workers end.
use Rattle.std.proofs.Common.{◌≡◌, ◌≤◌, ◌<◌, ℕ, zero, suc, Bool, true, false, cond, List, [], ◌∷◌, ◌++◌, length, nat_eq, None, refl, sym, ap, ◌∙◌, subst, slice_get, arith, append-nil, append_assoc}
use Rattle.std.proofs.lemmas.Bool.{eqb-true}
use Rattle.std.proofs.lemmas.Bool.Decides.{nat_tests}
use Rattle.std.proofs.lemmas.Option.{slice_get_within}
use mathlib.Core.Path.{fun_ext}
use Rattle.mage_instr.specs.declared.directive.Directive.{Directive}
use Rattle.mage_instr.specs.declared.directive.Directive.TheVariants as entry
use Rattle.mage_instr.specs.declared.directive.MemProgram.{MemProgram}
use Rattle.mage_instr.specs.declared.instr.Instr.{Instr}
use Rattle.mage_instr.specs.Sound.{IsSound}
use Rattle.mage_linked.specs.Workers.{with_at}
use Rattle.mage_linked.specs.Linked.{IsTransfer, AreLinked, nothing, alone, transfer}
use Rattle.mage_linked.specs.declared.emitted.Emitted.{Emitted}
use Rattle.mage_network.specs.Workers.{Moves, Stops, Moved, Worker, fresh, said_in, doing as doing_on}
use Rattle.mage_network.specs.Together.{Alone, joint_run}
use Rattle.mage_network.specs.Slots as core
use Rattle.mage_driver.specs.Rules.{Rules, AreLawful}
use Rattle.mage_driver.specs.Calls.{Call, Finish, call_of}
use Rattle.mage_driver.specs.Operations.{circuit_of}
use Rattle.mage_relations.specs.Unplaced.{Unplaced, wires_of_arg, made_by, after_emitted, run_of, calls_of}
use Rattle.mage_steps.specs.Engines.{finishes, doing_at}
use Rattle.mage_steps.specs.Core.{Core, core_act, core_at_first, directives_of}
use Rattle.mage_carried.specs.Wires.{MakesWires}
use Rattle.mage_carried.proofs.Standing as standing
use Rattle.mage_carried.proofs.Standing.{behind_all}
use Rattle.mage_carried.proofs.Computing.{next_job}
use Rattle.mage_carried.proofs.Joining.{Leads, leads_then, alone_moves, with_here, Joined, IsReady, local_runs}
use Rattle.mage_carried.proofs.Emitting.{Come, emits_alone, emits_transfer}

-- a worker of the core at its end: it has stopped, its driver is finished, and these are its calls
pub record EndsWell {W : Type 0} (rules : Rules W) (plan : MemProgram) (n : ℕ) (state : rules.State) (calls : List (Call rules.State W))
    (worker : Worker (Core rules plan) (Call rules.State W) (List ℕ)) : Type 0 where
  pub stops : core_act rules plan n worker.state ≡ Stops
  pub driver : worker.state.engine.driver ≡ rules.finish state
  pub said : said_in worker.past ≡ calls ++ call_of rules state Finish ∷ []

module _ {W : Type 0} (rules : Rules W) (lawful : AreLawful rules) (fine : rules.State → Bool) (makes : MakesWires rules fine) (plan : MemProgram) (count : ℕ)
    (drivers : ℕ → rules.State) (instrs : ℕ → List Instr) (sound : (n : ℕ) → n < count → IsSound (instrs n)) (stores : ℕ → ℕ) where
  abbrev Crew : Type 0
  Crew = ℕ → Worker (Core rules plan) (Call rules.State W) (List ℕ)

  abbrev AllJoined : (values : ℕ → List (List W)) → (states : ℕ → rules.State) → (calls : ℕ → List (Call rules.State W)) →
      (left : ℕ → List Directive) → Crew → Type 0
  AllJoined = Joined rules lawful fine plan count drivers instrs stores

  abbrev Comes : (r : Unplaced rules.State W) → (calls : ℕ → List (Call rules.State W)) → List Emitted → Crew → Type 0
  Comes = Come rules lawful fine makes plan count drivers instrs sound stores

  calls_alone : (r : Unplaced rules.State W) (calls : ℕ → List (Call rules.State W)) (e : Emitted) (es : List Emitted) →
      ◌≡◌ {A = ℕ → List (Call rules.State W)}
      (λ n. with_at calls e.worker (calls e.worker ++ (made_by rules r e).calls) n ++ calls_of rules n (after_emitted rules r e) es)
      (λ n. calls n ++ calls_of rules n r (e ∷ es))
  calls_alone r calls e es = fun_ext (λ n. go n (nat_eq n e.worker) refl)
    where
      go : (n : ℕ) (x : Bool) → nat_eq n e.worker ≡ x →
          cond x (calls e.worker ++ (made_by rules r e).calls) (calls n) ++ calls_of rules n (after_emitted rules r e) es ≡
          calls n ++ (cond x (made_by rules r e).calls [] ++ calls_of rules n (after_emitted rules r e) es)
      go n true p =
          append_assoc (calls e.worker) (made_by rules r e).calls (calls_of rules n (after_emitted rules r e) es)
          ∙ ap (λ k. calls k ++ ((made_by rules r e).calls ++ calls_of rules n (after_emitted rules r e) es)) (sym (eqb-true n e.worker p))
      go n false p = refl

  none_said : (b : Bool) (xs ys : List (Call rules.State W)) → ys ≡ [] → cond b ys [] ++ xs ≡ xs
  none_said true xs ys e = ap (λ l. l ++ xs) e
  none_said false xs ys e = refl

  calls_transfer : (r : Unplaced rules.State W) (calls : ℕ → List (Call rules.State W)) (send recv : Emitted) (es : List Emitted) →
      IsTransfer count send recv →
      ◌≡◌ {A = ℕ → List (Call rules.State W)}
      (λ n. calls n ++ calls_of rules n (after_emitted rules (after_emitted rules r send) recv) es)
      (λ n. calls n ++ calls_of rules n r (send ∷ recv ∷ es))
  calls_transfer r calls send recv es is = fun_ext (λ n. ap (λ l. calls n ++ l) (sym (none n)))
    where
      none : (n : ℕ) → calls_of rules n r (send ∷ recv ∷ es) ≡
          calls_of rules n (after_emitted rules (after_emitted rules r send) recv) es
      none n =
          none_said (nat_eq n send.worker) _ (made_by rules r send).calls
          (ap (λ o. (circuit_of rules o send.instr.width send.instr.imm (wires_of_arg r send.worker send.instr 0)
          (wires_of_arg r send.worker send.instr 1) (wires_of_arg r send.worker send.instr 2) (r.states send.worker)).calls) is.sends)
          ∙ none_said (nat_eq n recv.worker) _ (made_by rules (after_emitted rules r send) recv).calls
          (ap (λ o. (circuit_of rules o recv.instr.width recv.instr.imm
          (wires_of_arg (after_emitted rules r send) recv.worker recv.instr 0)
          (wires_of_arg (after_emitted rules r send) recv.worker recv.instr 1)
          (wires_of_arg (after_emitted rules r send) recv.worker recv.instr 2)
          ((after_emitted rules r send).states recv.worker)).calls) is.receives)

  -- all instructions
  pub emits : (es : List Emitted) → AreLinked count es → (r : Unplaced rules.State W) (calls : ℕ → List (Call rules.State W)) (ws : Crew) →
      Comes r calls es ws →
      Leads (core_act rules plan) (Comes (run_of rules r es) (λ n. calls n ++ calls_of rules n r es) []) ws
  emits [] nothing r calls ws h =
      ([], subst (λ c. Comes r c [] ws) (fun_ext (λ n. sym (append-nil (calls n)))) h)
  emits (e ∷ es) (alone none within rest) r calls ws h =
      leads_then (core_act rules plan)
      (Comes (after_emitted rules r e) (with_at calls e.worker (calls e.worker ++ (made_by rules r e).calls)) es)
      (Comes (run_of rules r (e ∷ es)) (λ n. calls n ++ calls_of rules n r (e ∷ es)) []) ws
      (emits_alone rules lawful fine makes plan count drivers instrs sound stores r calls e es ws none within h)
      (λ others k. subst (λ c. Leads (core_act rules plan) (Comes (run_of rules r (e ∷ es)) c []) others) (calls_alone r calls e es)
      (emits es rest (after_emitted rules r e) (with_at calls e.worker (calls e.worker ++ (made_by rules r e).calls)) others k))
  emits (send ∷ recv ∷ es) (transfer is rest) r calls ws h =
      leads_then (core_act rules plan)
      (Comes (after_emitted rules (after_emitted rules r send) recv) calls es)
      (Comes (run_of rules r (send ∷ recv ∷ es)) (λ n. calls n ++ calls_of rules n r (send ∷ recv ∷ es)) []) ws
      (emits_transfer rules lawful fine makes plan count drivers instrs sound stores r calls send recv es ws is h)
      (λ others k. subst (λ c. Leads (core_act rules plan) (Comes (run_of rules r (send ∷ recv ∷ es)) c []) others)
      (calls_transfer r calls send recv es is)
      (emits es rest (after_emitted rules (after_emitted rules r send) recv) calls others k))

  -- no directive is an instruction's once all are done
  all_done : (values : ℕ → List (List W)) (states : ℕ → rules.State) (calls : ℕ → List (Call rules.State W)) (left : ℕ → List Directive)
      (n : ℕ) (ws : Crew) → n < count → AllJoined values states calls left ws → length (instrs n) ≡ length (values n) →
      (ds : List Directive) → left n ≡ ds → IsReady rules lawful fine plan count drivers instrs stores ds → ds ≡ []
  all_done values states calls left n ws within h full [] e ready = refl
  all_done values states calls left n ws within h full (entry.Fresh frame page ∷ rest) e ready = absurd ready
  all_done values states calls left n ws within h full (entry.IssueIn slot page ∷ rest) e ready = absurd ready
  all_done values states calls left n ws within h full (entry.FinishIn slot frame ∷ rest) e ready = absurd ready
  all_done values states calls left n ws within h full (entry.IssueOut slot frame page ∷ rest) e ready = absurd ready
  all_done values states calls left n ws within h full (entry.FinishOut slot ∷ rest) e ready = absurd ready
  all_done values states calls left n ws within h full (entry.Do job ∷ rest) e ready =
      absurd (let next = next_job rules lawful fine makes plan n (instrs n) (sound n within) (stores n) (values n) (states n) (calls n) job rest (ws n)
      (subst (λ l. standing.Stands rules lawful fine plan n (instrs n) (stores n) (values n) (states n) (calls n) l (ws n)) e (h.each n within)) in
      let below = slice_get_within (instrs n) (length (values n)) next.0 next.2.here in omega arith)

  -- the workers below a number have no directive left
  abbrev AreThrough : (values : ℕ → List (List W)) → (states : ℕ → rules.State) → (calls : ℕ → List (Call rules.State W)) →
      (k : ℕ) → Crew → Type 0
  AreThrough values states calls k ws = (left : ℕ → List Directive) × AllJoined values states calls left ws
      × ((n : ℕ) → n < k → left n ≡ [])

  pub through_all : (values : ℕ → List (List W)) (states : ℕ → rules.State) (calls : ℕ → List (Call rules.State W))
      (k : ℕ) (ws : Crew) → k ≤ count → ((n : ℕ) → n < count → length (instrs n) ≡ length (values n)) →
      AreThrough values states calls 0 ws → Leads (core_act rules plan) (AreThrough values states calls k) ws
  through_all values states calls zero ws within full h = ([], h)
  through_all values states calls (suc k) ws within full h =
      leads_then (core_act rules plan) (AreThrough values states calls k) (AreThrough values states calls (suc k)) ws
      (through_all values states calls k ws (omega arith) full h)
      (λ others m.
      let below : k < count = omega arith in
      let l = local_runs rules lawful fine plan count drivers instrs stores (m.0 k) values states calls m.0 k others below refl m.1 in (
        l.0,
        (
          with_at m.0 k l.1.0,
          l.1.2,
          λ n under. go m.0 n l.1.0 (nat_eq n k) refl under m.2
              (all_done values states calls (with_at m.0 k l.1.0) k (joint_run (core_act rules plan) l.0 others) below l.1.2 (full k below)
              l.1.0 (with_here m.0 k l.1.0) l.1.1),
        ),
      ))
    where
      go : (left : ℕ → List Directive) (n : ℕ) (ds : List Directive) (b : Bool) → nat_eq n k ≡ b → n < suc k →
          ((m : ℕ) → m < k → left m ≡ []) → ds ≡ [] → cond b ds (left n) ≡ []
      go left n ds true e under rest none = none
      go left n ds false e under rest none = rest n (grind (arith, nat_tests))

  -- the workers below a number have ended, and the others have no directive left
  pub record AreEnded (values : ℕ → List (List W)) (states : ℕ → rules.State) (calls : ℕ → List (Call rules.State W)) (k : ℕ)
      (ws : Crew) : Type 0 where
    pub ended : (n : ℕ) → n < k → EndsWell rules plan n (states n) (calls n) (ws n)
    pub each : (n : ℕ) → k ≤ n → n < count →
        standing.Stands rules lawful fine plan n (instrs n) (stores n) (values n) (states n) (calls n) [] (ws n)
    pub beside : (n : ℕ) → count ≤ n → ws n ≡ fresh (core_at_first rules plan drivers n)

  end_here : (values : List (List W)) (state : rules.State) (calls : List (Call rules.State W)) (n : ℕ)
      (worker : Worker (Core rules plan) (Call rules.State W) (List ℕ)) →
      standing.Stands rules lawful fine plan n (instrs n) (stores n) values state calls [] worker →
      slice_get (directives_of plan n) worker.state.engine.place ≡ None
  end_here values state calls n worker h =
      ap (slice_get (directives_of plan n)) h.place ∙ ap (λ l. slice_get l (length h.front)) h.split ∙ behind_all h.front

  -- a worker that finishes its driver
  finishing : (values : List (List W)) (state : rules.State) (calls : List (Call rules.State W)) (n : ℕ)
      (worker : Worker (Core rules plan) (Call rules.State W) (List ℕ)) →
      standing.Stands rules lawful fine plan n (instrs n) (stores n) values state calls [] worker →
      core_act rules plan n worker.state ≡ Moves (call_of rules worker.state.engine.driver Finish ∷ [])
      (record worker.state { engine = finishes rules worker.state.engine })
  finishing values state calls n worker h =
      ap (λ o. core.or_stops (core.act_in core.served_at_once (doing_at rules plan.limits.page o worker.state.engine) worker.state))
      (end_here values state calls n worker h)
      ∙ ap (λ b. core.act_of (cond b Stops (Moves (call_of rules worker.state.engine.driver Finish ∷ []) (finishes rules worker.state.engine)))
      worker.state) h.unfinished

  finished_well : (values : List (List W)) (state : rules.State) (calls : List (Call rules.State W)) (n : ℕ)
      (worker : Worker (Core rules plan) (Call rules.State W) (List ℕ)) →
      standing.Stands rules lawful fine plan n (instrs n) (stores n) values state calls [] worker →
      EndsWell rules plan n state calls (doing_on worker (Moved (call_of rules worker.state.engine.driver Finish ∷ []))
      (record worker.state { engine = finishes rules worker.state.engine }))
  finished_well values state calls n worker h = record {
    stops =
        let engine = finishes rules worker.state.engine in
        let after : Core rules plan = record worker.state { engine = engine } in
        ap (λ o. core.or_stops (core.act_in core.served_at_once (doing_at rules plan.limits.page o engine) after))
        (end_here values state calls n worker h);
    driver = ap rules.finish h.same;
    said = ap (λ l. l ++ call_of rules worker.state.engine.driver Finish ∷ []) h.said
        ∙ ap (λ s. calls ++ call_of rules s Finish ∷ []) h.same;
  }

  pub end_all : (values : ℕ → List (List W)) (states : ℕ → rules.State) (calls : ℕ → List (Call rules.State W)) (k : ℕ) (ws : Crew) →
      k ≤ count → AreEnded values states calls 0 ws → Leads (core_act rules plan) (AreEnded values states calls k) ws
  end_all values states calls zero ws within h = ([], h)
  end_all values states calls (suc k) ws within h =
      leads_then (core_act rules plan) (AreEnded values states calls k) (AreEnded values states calls (suc k)) ws
      (end_all values states calls k ws (omega arith) h)
      (λ others m.
      let below : k < count = omega arith in
      let s = m.each k (omega arith) below in
      let said = call_of rules (others k).state.engine.driver Finish ∷ [] in
      let after : Core rules plan = record (others k).state { engine = finishes rules (others k).state.engine } in (
        Alone k ∷ [],
        subst (AreEnded values states calls (suc k))
            (sym (alone_moves (core_act rules plan) k said after others (finishing (values k) (states k) (calls k) k (others k) s)))
            (record {
              ended = λ n under. one others n (doing_on (others k) (Moved said) after) (nat_eq k n) refl under m.ended
                  (finished_well (values k) (states k) (calls k) k (others k) s);
              each = λ n over under. subst (λ w. standing.Stands rules lawful fine plan n (instrs n) (stores n) (values n) (states n) (calls n) [] w)
                  (sym (ap (λ b. cond b (doing_on (others k) (Moved said) after) (others n)) (apart n over))) (m.each n (omega arith) under);
              beside = λ n past. ap (λ b. cond b (doing_on (others k) (Moved said) after) (others n)) (apart n (omega arith)) ∙ m.beside n past;
            }),
      ))
    where
      apart : (n : ℕ) → suc k ≤ n → nat_eq k n ≡ false
      apart n h' = grind (arith, nat_tests)

      one : (others : Crew) (n : ℕ) (w : Worker (Core rules plan) (Call rules.State W) (List ℕ)) (b : Bool) → nat_eq k n ≡ b → n < suc k →
          ((m : ℕ) → m < k → EndsWell rules plan m (states m) (calls m) (others m)) → EndsWell rules plan k (states k) (calls k) w →
          EndsWell rules plan n (states n) (calls n) (cond b w (others n))
      one others n w true e under rest here =
          subst (λ j. EndsWell rules plan j (states j) (calls j) w) (eqb-true k n e) here
      one others n w false e under rest here = rest n (grind (arith, nat_tests))

  -- all instructions, and then each worker's end
  pub whole_run : (es : List Emitted) → AreLinked count es → (r : Unplaced rules.State W) (calls : ℕ → List (Call rules.State W)) (ws : Crew) →
      Comes r calls es ws →
      Leads (core_act rules plan)
      (AreEnded (run_of rules r es).values (run_of rules r es).states (λ n. calls n ++ calls_of rules n r es) count) ws
  whole_run es linked r calls ws h =
      leads_then (core_act rules plan) (Comes (run_of rules r es) (λ n. calls n ++ calls_of rules n r es) [])
      (AreEnded (run_of rules r es).values (run_of rules r es).states (λ n. calls n ++ calls_of rules n r es) count) ws
      (emits es linked r calls ws h)
      (λ others k.
      leads_then (core_act rules plan)
      (AreThrough (run_of rules r es).values (run_of rules r es).states (λ n. calls n ++ calls_of rules n r es) count)
      (AreEnded (run_of rules r es).values (run_of rules r es).states (λ n. calls n ++ calls_of rules n r es) count) others
      (through_all (run_of rules r es).values (run_of rules r es).states (λ n. calls n ++ calls_of rules n r es) count others
      (omega arith)
      (λ n within. let l = k.1.rest n within in ap length (l.1 ∙ append-nil l.0) ∙ l.2)
      (k.0, k.1.joined, λ n under. absurd (omega arith)))
      (λ others' m. end_all (run_of rules r es).values (run_of rules r es).states (λ n. calls n ++ calls_of rules n r es) count others'
      (omega arith)
      (record {
        ended = λ n under. absurd (omega arith);
        each = λ n over under. subst (λ l. standing.Stands rules lawful fine plan n (instrs n) (stores n) ((run_of rules r es).values n)
            ((run_of rules r es).states n) (calls n ++ calls_of rules n r es) l (others' n)) (m.2 n under) (m.1.each n under);
        beside = λ n past. m.1.beside n past;
      })))
