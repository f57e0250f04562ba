-- The instructions of a program, in the order of their emission, are done by the core's workers together.
use Rattle.std.proofs.Common.{◌≡◌, ◌≤◌, ◌<◌, ◌+◌, ℕ, Bool, true, false, cond, List, [], ◌∷◌, ◌++◌, length, drop, get_or, nat_eq, Some, refl, sym, ap, ◌∙◌, subst, slice_get, arith, append_assoc, ◌||◌}
use Rattle.std.proofs.lemmas.Bool.{eqb-true, eq-eqb}
use Rattle.std.proofs.lemmas.Bool.Decides.{nat_tests}
use Rattle.std.proofs.lemmas.List.{length-append}
use Rattle.std.proofs.lemmas.Option.{slice_get_within}
use Rattle.std.specs.List.{list_all}
use Rattle.mage_instr.specs.declared.directive.Directive.{Directive}
use Rattle.mage_instr.specs.declared.directive.Directive.TheVariants as entry
use Rattle.mage_instr.specs.declared.directive.MemProgram.{MemProgram}
use Rattle.mage_instr.specs.declared.instr.Instr.{Instr}
use Rattle.mage_instr.specs.declared.op.Op.TheVariants as op
use Rattle.mage_instr.specs.declared.replaced.Job.{Job}
use Rattle.mage_instr.specs.Opcodes.{has_result, width_of_result}
use Rattle.mage_instr.specs.Sound.{IsSound, arg_of}
use Rattle.mage_linked.specs.Workers.{with_at}
use Rattle.mage_linked.specs.Transfers.{is_send, is_recv}
use Rattle.mage_linked.specs.Linked.{is_transfer, IsTransfer}
use Rattle.mage_linked.specs.Emission.{own_instrs}
use Rattle.mage_linked.specs.declared.emitted.Emitted.{Emitted}
use Rattle.mage_linked.proofs.EmissionLemmas.{own_instrs-first, own_instrs-other}
use Rattle.mage_network.specs.Workers.{Moved, Worker, doing as doing_on}
use Rattle.mage_network.specs.Network as net
use Rattle.mage_network.specs.Together.{Alone, joint_run}
use Rattle.mage_driver.specs.Rules.{Rules, AreLawful}
use Rattle.mage_driver.specs.Calls.{Call}
use Rattle.mage_driver.specs.Circuits.{Made}
use Rattle.mage_relations.specs.Unplaced.{Unplaced, wires_of_arg, with_sent, with_wires as with_value, made_by, after_emitted}
use Rattle.mage_steps.specs.Frames.{with_wires as mage_with_wires}
use Rattle.mage_steps.specs.Engines.{advanced}
use Rattle.mage_steps.specs.Core.{Core, core_act}
use Rattle.mage_carry.specs.State as walk
use Rattle.mage_carry.specs.Carrying.{is_over}
use Rattle.mage_carried.specs.Wires.{MakesWires}
use Rattle.mage_carried.proofs.Relation.{value_of}
use Rattle.mage_carried.proofs.Standing as standing
use Rattle.mage_carried.proofs.Standing.{behind}
use Rattle.mage_carried.proofs.Transfers.{both_so}
use Rattle.mage_carried.proofs.Jobs.{Doing}
use Rattle.mage_carried.proofs.Computing.{instr_goes, sound_at}
use Rattle.mage_carried.proofs.Joining.{Leads, leads_then, alone_moves, with_here, with_other, Joined, joined_one, IsReady, local_runs}
use Rattle.mage_carried.proofs.Handing.{Sending, Taking, Between, sent_some, got_some, sent_all, got_all, hand_all, wires_none}
use Rattle.mage_carried.proofs.Transferring.{Sends', job_of, stands_behind, sending_so, taking_so}

neither : (a b : Bool) → (a || b) ≡ false → (a ≡ false) × (b ≡ false)
neither true b e = absurd cc
neither false b e = (refl, e)

flip_eq : (n m : ℕ) → nat_eq n m ≡ false → nat_eq m n ≡ false
flip_eq n m e = grind (arith, nat_tests)

not_eq : (n m : ℕ) → (n ≡ m → ⊥) → nat_eq n m ≡ false
not_eq n m h = go (nat_eq n m) refl
  where
    go : (b : Bool) → nat_eq n m ≡ b → b ≡ false
    go true e = absurd (h (eqb-true n m e))
    go false e = refl

module _ {W : Type 0} (rules : Rules W) (lawful : AreLawful rules) (fine : rules.State → Bool) (makes : MakesWires rules fine) (plan : MemProgram) (count : ℕ)
    (drivers : ℕ → rules.State) (instrs : ℕ → List Instr) (sound : (n : ℕ) → n < count → IsSound (instrs n)) (stores : ℕ → ℕ) where
  abbrev Crew : Type 0
  Crew = ℕ → Worker (Core rules plan) (Call rules.State W) (List ℕ)

  abbrev AllJoined : (values : ℕ → List (List W)) → (states : ℕ → rules.State) → (calls : ℕ → List (Call rules.State W)) →
      (left : ℕ → List Directive) → Crew → Type 0
  AllJoined = Joined rules lawful fine plan count drivers instrs stores

  -- two workers go on, and all others stay
  joined_two : (values others : ℕ → List (List W)) (states : ℕ → rules.State) (calls : ℕ → List (Call rules.State W))
      (left rest : ℕ → List Directive) (ws ws' : Crew) (a b : ℕ) → a < count → b < count → AllJoined values states calls left ws →
      standing.Stands rules lawful fine plan a (instrs a) (stores a) (others a) (states a) (calls a) (rest a) (ws' a) →
      standing.Stands rules lawful fine plan b (instrs b) (stores b) (others b) (states b) (calls b) (rest b) (ws' b) →
      ((m : ℕ) → nat_eq a m ≡ false → nat_eq b m ≡ false → (others m ≡ values m) × (rest m ≡ left m) × (ws' m ≡ ws m)) →
      AllJoined others states calls rest ws'
  joined_two values others states calls left rest ws ws' a b wa wb h sa sb same = record {
    each = λ m below. each m below (nat_eq a m) (nat_eq b m) refl refl;
    beside = λ m past. (same m (not_eq a m (λ e. omega arith)) (not_eq b m (λ e. omega arith))).2 ∙ h.beside m past;
  }
    where
      each : (m : ℕ) → m < count → (x y : Bool) → nat_eq a m ≡ x → nat_eq b m ≡ y →
          standing.Stands rules lawful fine plan m (instrs m) (stores m) (others m) (states m) (calls m) (rest m) (ws' m)
      each m below true y e f =
          subst (λ k. standing.Stands rules lawful fine plan k (instrs k) (stores k) (others k) (states k) (calls k) (rest k) (ws' k))
          (eqb-true a m e) sa
      each m below false true e f =
          subst (λ k. standing.Stands rules lawful fine plan k (instrs k) (stores k) (others k) (states k) (calls k) (rest k) (ws' k))
          (eqb-true b m f) sb
      each m below false false e f =
          let s = same m e f in
          subst (λ v. standing.Stands rules lawful fine plan m (instrs m) (stores m) v (states m) (calls m) (rest m) (ws' m)) (sym s.0)
          (subst (λ l. standing.Stands rules lawful fine plan m (instrs m) (stores m) (values m) (states m) (calls m) l (ws' m)) (sym s.1)
          (subst (λ w. standing.Stands rules lawful fine plan m (instrs m) (stores m) (values m) (states m) (calls m) (left m) w) (sym s.2)
          (h.each m below)))

  -- the instructions of each worker that are left
  abbrev pub AreLeft : (values : ℕ → List (List W)) → List Emitted → Type 0
  AreLeft values es = (n : ℕ) → n < count →
      (front : List Instr) × (instrs n ≡ front ++ own_instrs es n) × (length front ≡ length (values n))

  -- the run so far: all that was sent is taken
  pub record SoFar (r : Unplaced rules.State W) (calls : ℕ → List (Call rules.State W)) (left : ℕ → List Directive)
      (es : List Emitted) (ws : Crew) : Type 0 where
    pub joined : AllJoined r.values r.states calls left ws
    pub rest : AreLeft r.values es
    pub taken : (from to : ℕ) → r.sent from to ≡ []

  -- a worker's next instruction
  next_of : (values : ℕ → List (List W)) (e : Emitted) (es : List Emitted) → AreLeft values (e ∷ es) → e.worker < count →
      slice_get (instrs e.worker) (length (values e.worker)) ≡ Some e.instr
  next_of values e es left within =
      let l = left e.worker within in
      ap (λ k. slice_get (instrs e.worker) k) (sym l.2)
      ∙ ap (λ xs. slice_get xs (length l.0)) (l.1 ∙ ap (λ xs. l.0 ++ xs) (own_instrs-first e es))
      ∙ behind l.0 e.instr (own_instrs es e.worker)

  -- no directive is left only where no instruction is
  not_over : (n : ℕ) (values : List (List W)) (driver : rules.State) (calls : List (Call rules.State W)) (i : Instr)
      (worker : Worker (Core rules plan) (Call rules.State W) (List ℕ)) →
      standing.Stands rules lawful fine plan n (instrs n) (stores n) values driver calls [] worker →
      slice_get (instrs n) (length values) ≡ Some i → ⊥
  not_over n values driver calls i worker h here =
      let end : h.w ≡ h.walks.1 = (let e = h.walks.2 in cc) in
      let over : is_over (instrs n) h.w ≡ true = ap (is_over (instrs n)) end ∙ h.walks.3 in
      let counted = (both_so (nat_eq h.w.next (length (instrs n))) (list_all walk.is_idle h.w.slots) over).0 in
      let same : length values ≡ length (instrs n) = sym h.follows.next ∙ eqb-true h.w.next (length (instrs n)) counted in
      let below = slice_get_within (instrs n) (length values) i here in
      omega arith

  -- a worker comes to the directive of its next instruction
  come : (values : ℕ → List (List W)) (states : ℕ → rules.State) (calls : ℕ → List (Call rules.State W)) (left : ℕ → List Directive)
      (n : ℕ) (i : Instr) (ws : Crew) → n < count → AllJoined values states calls left ws →
      slice_get (instrs n) (length (values n)) ≡ Some i →
      Leads (core_act rules plan) (λ others. (job : Job) × (rest : List Directive)
      × AllJoined values states calls (with_at left n (entry.Do job ∷ rest)) others) ws
  come values states calls left n i ws within h here =
      let l = local_runs rules lawful fine plan count drivers instrs stores (left n) values states calls left n ws within refl h in
      (l.0, go l.1.0 l.1.1 l.1.2)
    where
      go : (ds : List Directive) → IsReady rules lawful fine plan count drivers instrs stores ds → {others : Crew} →
          AllJoined values states calls (with_at left n ds) others →
          (job : Job) × (rest : List Directive) × AllJoined values states calls (with_at left n (entry.Do job ∷ rest)) others
      go [] ready {others} j = absurd (not_over n (values n) (states n) (calls n) i (others n)
          (subst (λ l. standing.Stands rules lawful fine plan n (instrs n) (stores n) (values n) (states n) (calls n) l (others n))
          (with_here left n []) (j.each n within)) here)
      go (entry.Fresh frame page ∷ rest) ready j = absurd ready
      go (entry.IssueIn slot page ∷ rest) ready j = absurd ready
      go (entry.FinishIn slot frame ∷ rest) ready j = absurd ready
      go (entry.IssueOut slot frame page ∷ rest) ready j = absurd ready
      go (entry.FinishOut slot ∷ rest) ready j = absurd ready
      go (entry.Do job ∷ rest) ready j = (job, rest, j)

  -- the run after some instructions, for whatever directives are left
  abbrev pub Come : (r : Unplaced rules.State W) → (calls : ℕ → List (Call rules.State W)) → List Emitted → Crew → Type 0
  Come r calls es ws = (left : ℕ → List Directive) × SoFar r calls left es ws

  after_alone : (r : Unplaced rules.State W) (e : Emitted) → is_send e.instr.op ≡ false → is_recv e.instr.op ≡ false →
      after_emitted rules r e ≡
      with_value (record r { states = with_at r.states e.worker (made_by rules r e).state }) e.worker (made_by rules r e).wires
  after_alone r e s t =
      ap (λ b. cond b
      (with_value (with_sent r e.worker e.instr.imm (r.sent e.worker e.instr.imm ++ wires_of_arg r e.worker e.instr 0 ∷ [])) e.worker [])
      (cond (is_recv e.instr.op)
      (with_value (with_sent r e.instr.imm e.worker (drop 1 (r.sent e.instr.imm e.worker))) e.worker
      (get_or (r.sent e.instr.imm e.worker) 0 []))
      (with_value (record r { states = with_at r.states e.worker (made_by rules r e).state }) e.worker (made_by rules r e).wires))) s
      ∙ ap (λ b. cond b
      (with_value (with_sent r e.instr.imm e.worker (drop 1 (r.sent e.instr.imm e.worker))) e.worker
      (get_or (r.sent e.instr.imm e.worker) 0 []))
      (with_value (record r { states = with_at r.states e.worker (made_by rules r e).state }) e.worker (made_by rules r e).wires)) t

  -- the instructions that are left, after one of a worker
  left_after : (values : ℕ → List (List W)) (e : Emitted) (es : List Emitted) (wires : List W) → AreLeft values (e ∷ es) →
      AreLeft (with_at values e.worker (values e.worker ++ wires ∷ [])) es
  left_after values e es wires left m below = go (nat_eq m e.worker) refl
    where
      l : (front : List Instr) × (instrs m ≡ front ++ own_instrs (e ∷ es) m) × (length front ≡ length (values m))
      l = left m below

      go : (b : Bool) → nat_eq m e.worker ≡ b → (front : List Instr) × (instrs m ≡ front ++ own_instrs es m)
          × (length front ≡ length (cond b (values e.worker ++ wires ∷ []) (values m)))
      go true f =
          let same : m ≡ e.worker = eqb-true m e.worker f in (
            l.0 ++ e.instr ∷ [],
            l.1 ∙ ap (λ xs. l.0 ++ xs) (ap (own_instrs (e ∷ es)) same ∙ own_instrs-first e es
                ∙ ap (λ k. e.instr ∷ own_instrs es k) (sym same)) ∙ sym (append_assoc l.0 (e.instr ∷ []) (own_instrs es m)),
            length-append l.0 (e.instr ∷ []) ∙ ap (λ k. k + 1) (l.2 ∙ ap (λ k. length (values k)) same)
                ∙ sym (length-append (values e.worker) (wires ∷ [])),
          )
      go false f = (
        l.0,
        l.1 ∙ ap (λ xs. l.0 ++ xs) (own_instrs-other e es m
            (λ same. let t : true ≡ false = sym (eq-eqb m e.worker (sym same)) ∙ f in absurd cc)),
        l.2,
      )

  -- an instruction that speaks of no other worker
  pub emits_alone : (r : Unplaced rules.State W) (calls : ℕ → List (Call rules.State W)) (e : Emitted) (es : List Emitted) (ws : Crew) →
      is_transfer e.instr.op ≡ false → e.worker < count → Come r calls (e ∷ es) ws →
      Leads (core_act rules plan)
      (Come (after_emitted rules r e) (with_at calls e.worker (calls e.worker ++ (made_by rules r e).calls)) es) ws
  emits_alone r calls e es ws none within h =
      leads_then (core_act rules plan)
      (λ others. (job : Job) × (rest : List Directive)
      × AllJoined r.values r.states calls (with_at h.0 e.worker (entry.Do job ∷ rest)) others)
      (Come (after_emitted rules r e) (with_at calls e.worker (calls e.worker ++ (made_by rules r e).calls)) es) ws
      (come r.values r.states calls h.0 e.worker e.instr ws within h.1.joined here)
      (λ others k. one others k.0 k.1 k.2)
    where
      no_link : (is_send e.instr.op ≡ false) × (is_recv e.instr.op ≡ false)
      no_link = neither (is_send e.instr.op) (is_recv e.instr.op) none

      here : slice_get (instrs e.worker) (length (r.values e.worker)) ≡ Some e.instr
      here = next_of r.values e es h.1.rest within

      made : Made rules.State W (List W)
      made = made_by rules r e

      one : (others : Crew) (job : Job) (rest : List Directive) →
          AllJoined r.values r.states calls (with_at h.0 e.worker (entry.Do job ∷ rest)) others →
          Leads (core_act rules plan)
          (Come (after_emitted rules r e) (with_at calls e.worker (calls e.worker ++ (made_by rules r e).calls)) es) others
      one others job rest j =
          let left = with_at h.0 e.worker (entry.Do job ∷ rest) in
          let g = instr_goes rules lawful fine makes plan e.worker (instrs e.worker) (sound e.worker within) (stores e.worker)
          (r.values e.worker) (r.states e.worker) (calls e.worker) job rest (others e.worker) e.instr
          (subst (λ l. standing.Stands rules lawful fine plan e.worker (instrs e.worker) (stores e.worker) (r.values e.worker)
          (r.states e.worker) (calls e.worker) l (others e.worker)) (with_here h.0 e.worker (entry.Do job ∷ rest)) (j.each e.worker within))
          here no_link.0 no_link.1 in
          let ws' = net.put others e.worker (doing_on (others e.worker) (Moved made.calls) g.0) in (
            Alone e.worker ∷ [],
            subst (Come (after_emitted rules r e) (with_at calls e.worker (calls e.worker ++ made.calls)) es)
                (sym (alone_moves (core_act rules plan) e.worker made.calls g.0 others g.1))
                (subst (λ x. Come x (with_at calls e.worker (calls e.worker ++ made.calls)) es ws')
                (sym (after_alone r e no_link.0 no_link.1)) (
                  with_at left e.worker rest,
                  record {
                    joined = joined_one rules lawful fine plan count drivers instrs stores r.values r.states calls left others e.worker
                        (r.values e.worker ++ made.wires ∷ []) made.state (calls e.worker ++ made.calls) rest
                        (doing_on (others e.worker) (Moved made.calls) g.0) j within g.2;
                    rest = left_after r.values e es made.wires h.1.rest;
                    taken = h.1.taken;
                  },
                )),
          )

  -- the run after a Send, and after its Recv
  abbrev after_sending : Unplaced rules.State W → (a b : ℕ) → List W → Unplaced rules.State W
  after_sending r a b wires = with_value (with_sent r a b (r.sent a b ++ wires ∷ [])) a []

  abbrev after_taking : Unplaced rules.State W → (a b : ℕ) → Unplaced rules.State W
  after_taking r a b = with_value (with_sent r a b (drop 1 (r.sent a b))) b (get_or (r.sent a b) 0 [])

  after_send : (r : Unplaced rules.State W) (e : Emitted) (b : ℕ) → e.instr.op ≡ op.Send → e.instr.imm ≡ b →
      after_emitted rules r e ≡ after_sending r e.worker b (wires_of_arg r e.worker e.instr 0)
  after_send r e b is to =
      ap (λ t. cond t
      (after_sending r e.worker e.instr.imm (wires_of_arg r e.worker e.instr 0))
      (cond (is_recv e.instr.op) (after_taking r e.instr.imm e.worker)
      (with_value (record r { states = with_at r.states e.worker (made_by rules r e).state }) e.worker (made_by rules r e).wires)))
      (ap is_send is)
      ∙ ap (λ k. after_sending r e.worker k (wires_of_arg r e.worker e.instr 0)) to

  after_recv : (r : Unplaced rules.State W) (e : Emitted) (a : ℕ) → e.instr.op ≡ op.Recv → e.instr.imm ≡ a →
      after_emitted rules r e ≡ after_taking r a e.worker
  after_recv r e a is from =
      ap (λ t. cond t
      (after_sending r e.worker e.instr.imm (wires_of_arg r e.worker e.instr 0))
      (cond (is_recv e.instr.op) (after_taking r e.instr.imm e.worker)
      (with_value (record r { states = with_at r.states e.worker (made_by rules r e).state }) e.worker (made_by rules r e).wires)))
      (ap is_send is)
      ∙ ap (λ t. cond t (after_taking r e.instr.imm e.worker)
      (with_value (record r { states = with_at r.states e.worker (made_by rules r e).state }) e.worker (made_by rules r e).wires))
      (ap is_recv is)
      ∙ ap (λ k. after_taking r k e.worker) from

  -- what lies between two workers after a Send
  sent_then : (r : Unplaced rules.State W) (a b : ℕ) (wires : List W) → r.sent a b ≡ [] →
      (after_sending r a b wires).sent a b ≡ wires ∷ []
  sent_then r a b wires e =
      ap (λ f. f b) (with_here r.sent a (with_at (r.sent a) b (r.sent a b ++ wires ∷ [])))
      ∙ with_here (r.sent a) b (r.sent a b ++ wires ∷ [])
      ∙ ap (λ l. l ++ wires ∷ []) e

  none_left : (r : Unplaced rules.State W) (a b : ℕ) (wires : List W) → ((from to : ℕ) → r.sent from to ≡ []) → (from to : ℕ) →
      (after_taking (after_sending r a b wires) a b).sent from to ≡ []
  none_left r a b wires none from to = go (nat_eq from a) (nat_eq to b)
    where
      go : (x y : Bool) → cond x (λ k. cond (nat_eq k b) (drop 1 ((after_sending r a b wires).sent a b)) ((after_sending r a b wires).sent a k))
          (cond x (λ k. cond (nat_eq k b) (r.sent a b ++ wires ∷ []) (r.sent a k)) (r.sent from)) to ≡ []
      go true y = go' (nat_eq to b) refl
        where
          go' : (z : Bool) → nat_eq to b ≡ z →
              cond z (drop 1 ((after_sending r a b wires).sent a b)) ((after_sending r a b wires).sent a to) ≡ []
          go' true f = ap (drop 1) (sent_then r a b wires (none a b))
          go' false f = ap (λ g. g to) (with_here r.sent a (with_at (r.sent a) b (r.sent a b ++ wires ∷ [])))
              ∙ with_other (r.sent a) b (r.sent a b ++ wires ∷ []) to f ∙ none a to
      go false y = none from to

  nonempty : (wires : List W) → 1 ≤ length wires → (x : W) × (more : List W) × (wires ≡ x ∷ more)
  nonempty [] h = absurd (omega arith)
  nonempty (x ∷ more) h = (x, more, refl)

  -- a Send and its Recv
  pub emits_transfer : (r : Unplaced rules.State W) (calls : ℕ → List (Call rules.State W)) (send recv : Emitted) (es : List Emitted)
      (ws : Crew) → IsTransfer count send recv → Come r calls (send ∷ recv ∷ es) ws →
      Leads (core_act rules plan) (Come (after_emitted rules (after_emitted rules r send) recv) calls es) ws
  emits_transfer r calls send recv es ws is h =
      leads_then (core_act rules plan)
      (λ others. (job : Job) × (rest : List Directive)
      × AllJoined r.values r.states calls (with_at h.0 send.worker (entry.Do job ∷ rest)) others)
      Goal ws
      (come r.values r.states calls h.0 send.worker send.instr ws is.sender h.1.joined here_a)
      (λ others k. leads_then (core_act rules plan)
      (λ others'. (job : Job) × (rest : List Directive)
      × AllJoined r.values r.states calls
      (with_at (with_at h.0 send.worker (entry.Do k.0 ∷ k.1)) recv.worker (entry.Do job ∷ rest)) others')
      Goal others
      (come r.values r.states calls (with_at h.0 send.worker (entry.Do k.0 ∷ k.1)) recv.worker recv.instr others is.receiver k.2 here_b)
      (λ others' m. hand k.0 k.1 m.0 m.1 others' m.2))
    where
      Goal : Crew → Type 0
      Goal others = Come (after_emitted rules (after_emitted rules r send) recv) calls es others

      ab : nat_eq send.worker recv.worker ≡ false
      ab = not_eq send.worker recv.worker is.apart

      ba : nat_eq recv.worker send.worker ≡ false
      ba = flip_eq send.worker recv.worker ab

      here_a : slice_get (instrs send.worker) (length (r.values send.worker)) ≡ Some send.instr
      here_a = next_of r.values send (recv ∷ es) h.1.rest is.sender

      here_b : slice_get (instrs recv.worker) (length (r.values recv.worker)) ≡ Some recv.instr
      here_b =
          let l = h.1.rest recv.worker is.receiver in
          ap (λ k. slice_get (instrs recv.worker) k) (sym l.2)
          ∙ ap (λ xs. slice_get xs (length l.0))
          (l.1 ∙ ap (λ xs. l.0 ++ xs) (own_instrs-other send (recv ∷ es) recv.worker is.apart ∙ own_instrs-first recv es))
          ∙ behind l.0 recv.instr (own_instrs es recv.worker)

      hand : (ja : Job) (ra : List Directive) (jb : Job) (rb : List Directive) (others : Crew) →
          AllJoined r.values r.states calls
          (with_at (with_at h.0 send.worker (entry.Do ja ∷ ra)) recv.worker (entry.Do jb ∷ rb)) others →
          Leads (core_act rules plan) (Come (after_emitted rules (after_emitted rules r send) recv) calls es) others
      hand ja ra jb rb others j =
          let all = hand_all rules lawful fine plan send.worker recv.worker recv.instr.width jb.out
          (value_of (r.values send.worker) (arg_of send.instr 0)) (others send.worker).state (others recv.worker).state
          (calls send.worker) (calls recv.worker) others ba
          (subst (λ k. Sending rules lawful fine plan send.worker recv.worker k (value_of (r.values send.worker) (arg_of send.instr 0))
          (others send.worker).state) is.same_width sends.sending)
          taking sends.wires (sends.long ∙ is.same_width) full.1 [] full.0 others full.2 begins in
          (all.0, subst (λ x. Come x calls es (joint_run (core_act rules plan) all.0 others)) (sym after) (ends (joint_run (core_act rules plan) all.0 others) all.1))
        where
          left : ℕ → List Directive
          left = with_at (with_at h.0 send.worker (entry.Do ja ∷ ra)) recv.worker (entry.Do jb ∷ rb)

          sa : standing.Stands rules lawful fine plan send.worker (instrs send.worker) (stores send.worker) (r.values send.worker)
              (r.states send.worker) (calls send.worker) (entry.Do ja ∷ ra) (others send.worker)
          sa = subst (λ l. standing.Stands rules lawful fine plan send.worker (instrs send.worker) (stores send.worker) (r.values send.worker)
              (r.states send.worker) (calls send.worker) l (others send.worker))
              (with_other (with_at h.0 send.worker (entry.Do ja ∷ ra)) recv.worker (entry.Do jb ∷ rb) send.worker ab
              ∙ with_here h.0 send.worker (entry.Do ja ∷ ra)) (j.each send.worker is.sender)

          sb : standing.Stands rules lawful fine plan recv.worker (instrs recv.worker) (stores recv.worker) (r.values recv.worker)
              (r.states recv.worker) (calls recv.worker) (entry.Do jb ∷ rb) (others recv.worker)
          sb = subst (λ l. standing.Stands rules lawful fine plan recv.worker (instrs recv.worker) (stores recv.worker) (r.values recv.worker)
              (r.states recv.worker) (calls recv.worker) l (others recv.worker))
              (with_here (with_at h.0 send.worker (entry.Do ja ∷ ra)) recv.worker (entry.Do jb ∷ rb)) (j.each recv.worker is.receiver)

          da : (after : walk.State) × Doing rules lawful plan.limits.page (instrs send.worker) (r.values send.worker) sa.w after ja send.instr
              × standing.WalksOn (instrs send.worker) plan.limits.page (stores send.worker) after ra
          da = job_of rules lawful fine makes plan send.worker (instrs send.worker) (sound send.worker is.sender) (stores send.worker)
              (r.values send.worker) (r.states send.worker) (calls send.worker) ja ra (others send.worker) send.instr sa here_a

          db : (after : walk.State) × Doing rules lawful plan.limits.page (instrs recv.worker) (r.values recv.worker) sb.w after jb recv.instr
              × standing.WalksOn (instrs recv.worker) plan.limits.page (stores recv.worker) after rb
          db = job_of rules lawful fine makes plan recv.worker (instrs recv.worker) (sound recv.worker is.receiver) (stores recv.worker)
              (r.values recv.worker) (r.states recv.worker) (calls recv.worker) jb rb (others recv.worker) recv.instr sb here_b

          sends : Sends' rules lawful fine makes plan send.worker (instrs send.worker) (sound send.worker is.sender) (stores send.worker)
              recv.worker (r.values send.worker) send.instr (others send.worker).state
          sends = sending_so rules lawful fine makes plan send.worker (instrs send.worker) (sound send.worker is.sender) (stores send.worker)
              recv.worker (r.values send.worker) (r.states send.worker) (calls send.worker) ja ra (others send.worker) send.instr sa
              da.0 da.1 is.sends is.to

          taking : Taking rules lawful fine plan send.worker recv.worker recv.instr.width jb.out (others recv.worker).state
          taking = taking_so rules lawful fine makes plan recv.worker (instrs recv.worker) (sound recv.worker is.receiver) (stores recv.worker)
              send.worker (r.values recv.worker) (r.states recv.worker) (calls recv.worker) jb rb (others recv.worker) recv.instr sb
              db.0 db.1 is.receives is.from

          full : (x : W) × (more : List W) × (value_of (r.values send.worker) (arg_of send.instr 0) ≡ x ∷ more)
          full = nonempty (value_of (r.values send.worker) (arg_of send.instr 0))
              (subst (λ k. 1 ≤ k) (sym sends.long)
              (sound_at (instrs send.worker) (length (r.values send.worker)) send.instr (sound send.worker is.sender) here_a).0.0)

          begins : Between rules lawful fine plan send.worker recv.worker (sent_some rules lawful fine plan (others send.worker).state 0)
              (got_some rules lawful fine plan (others recv.worker).state jb.out []) (calls send.worker) (calls recv.worker) others others
          begins = record {
            sender = ap (λ k. sent_some rules lawful fine plan (others send.worker).state k) sa.wire;
            sender_said = sa.said;
            receiver =
                ap (λ bank. record (others recv.worker).state { engine = record (others recv.worker).state.engine { bank = bank } })
                (sym (wires_none rules lawful (others recv.worker).state.engine.bank jb.out))
                ∙ ap (λ k. record (others recv.worker).state {
                  engine = record (others recv.worker).state.engine {
                    wire = k;
                    bank = mage_with_wires rules (others recv.worker).state.engine.bank jb.out [];
                  };
                }) sb.wire;
            receiver_said = sb.said;
            other = λ m x y. refl;
          }

          after : after_emitted rules (after_emitted rules r send) recv ≡
              after_taking (after_sending r send.worker recv.worker (value_of (r.values send.worker) (arg_of send.instr 0)))
              send.worker recv.worker
          after = ap (λ x. after_emitted rules x recv) (after_send r send recv.worker is.sends is.to)
              ∙ after_recv (after_sending r send.worker recv.worker (value_of (r.values send.worker) (arg_of send.instr 0))) recv
              send.worker is.receives is.from

          ends : (ws' : Crew) → Between rules lawful fine plan send.worker recv.worker (sent_all rules lawful fine plan (others send.worker).state)
              (got_all rules lawful fine plan (others recv.worker).state jb.out (value_of (r.values send.worker) (arg_of send.instr 0)))
              (calls send.worker) (calls recv.worker) others ws' →
              Come (after_taking (after_sending r send.worker recv.worker (value_of (r.values send.worker) (arg_of send.instr 0)))
              send.worker recv.worker) calls es ws'
          ends ws' t = (
            with_at (with_at left send.worker ra) recv.worker rb,
            record {
              joined = joined_two r.values
                  (after_taking (after_sending r send.worker recv.worker (value_of (r.values send.worker) (arg_of send.instr 0)))
                  send.worker recv.worker).values
                  r.states calls left (with_at (with_at left send.worker ra) recv.worker rb) others ws' send.worker recv.worker
                  is.sender is.receiver j
                  (subst (λ v. standing.Stands rules lawful fine plan send.worker (instrs send.worker) (stores send.worker) v
                  (r.states send.worker) (calls send.worker) ((with_at (with_at left send.worker ra) recv.worker rb) send.worker) (ws' send.worker))
                  (sym (with_other sent_values recv.worker (sent_values recv.worker ++ found ∷ []) send.worker ab
                  ∙ with_here r.values send.worker (r.values send.worker ++ [] ∷ [])))
                  (subst (λ l. standing.Stands rules lawful fine plan send.worker (instrs send.worker) (stores send.worker)
                  (r.values send.worker ++ [] ∷ []) (r.states send.worker) (calls send.worker) l (ws' send.worker))
                  (sym (with_other (with_at left send.worker ra) recv.worker rb send.worker ab ∙ with_here left send.worker ra))
                  (stands_behind rules lawful fine makes plan send.worker (instrs send.worker) (sound send.worker is.sender)
                  (stores send.worker) (r.values send.worker) (r.states send.worker) (calls send.worker) ja ra (others send.worker)
                  (ws' send.worker) send.instr [] sa da.0 da.1 da.2 tt
                  (λ has. absurd (let f : has_result send.instr.op ≡ false = ap has_result is.sends in
                  let g : true ≡ false = sym has ∙ f in cc))
                  (t.sender ∙ ap (λ bank. record (others send.worker).state { engine = advanced (record (others send.worker).state.engine { bank = bank }) })
                  (sym (ap (λ o. cond (has_result o) (mage_with_wires rules (others send.worker).state.engine.bank ja.out []) (others send.worker).state.engine.bank)
                  (da.1.same.op ∙ is.sends)))) t.sender_said)))
                  (subst (λ v. standing.Stands rules lawful fine plan recv.worker (instrs recv.worker) (stores recv.worker) v
                  (r.states recv.worker) (calls recv.worker) ((with_at (with_at left send.worker ra) recv.worker rb) recv.worker) (ws' recv.worker))
                  (sym (with_here sent_values recv.worker (sent_values recv.worker ++ found ∷ [])
                  ∙ ap (λ v. v ++ found ∷ []) (with_other r.values send.worker (r.values send.worker ++ [] ∷ []) recv.worker ba)
                  ∙ ap (λ x. r.values recv.worker ++ x ∷ []) found_is))
                  (subst (λ l. standing.Stands rules lawful fine plan recv.worker (instrs recv.worker) (stores recv.worker)
                  (r.values recv.worker ++ value_of (r.values send.worker) (arg_of send.instr 0) ∷ []) (r.states recv.worker)
                  (calls recv.worker) l (ws' recv.worker))
                  (sym (with_here (with_at left send.worker ra) recv.worker rb))
                  (stands_behind rules lawful fine makes plan recv.worker (instrs recv.worker) (sound recv.worker is.receiver)
                  (stores recv.worker) (r.values recv.worker) (r.states recv.worker) (calls recv.worker) jb rb (others recv.worker)
                  (ws' recv.worker) recv.instr (value_of (r.values send.worker) (arg_of send.instr 0)) sb db.0 db.1 db.2 sends.wires
                  (λ has. sends.long ∙ is.same_width ∙ sym (ap (λ o. width_of_result o recv.instr.width) is.receives))
                  (t.receiver ∙ ap (λ bank. record (others recv.worker).state { engine = advanced (record (others recv.worker).state.engine { bank = bank }) })
                  (sym (ap (λ o. cond (has_result o) (mage_with_wires rules (others recv.worker).state.engine.bank jb.out
                  (value_of (r.values send.worker) (arg_of send.instr 0))) (others recv.worker).state.engine.bank)
                  (db.1.same.op ∙ is.receives)))) t.receiver_said)))
                  (λ m x y. (
                    with_other sent_values recv.worker (sent_values recv.worker ++ found ∷ []) m (flip_eq recv.worker m y)
                        ∙ with_other r.values send.worker (r.values send.worker ++ [] ∷ []) m (flip_eq send.worker m x),
                    with_other (with_at left send.worker ra) recv.worker rb m (flip_eq recv.worker m y)
                        ∙ with_other left send.worker ra m (flip_eq send.worker m x),
                    t.other m x y,
                  ));
              rest = left_after sent_values recv es found (left_after r.values send (recv ∷ es) [] h.1.rest);
              taken = none_left r send.worker recv.worker (value_of (r.values send.worker) (arg_of send.instr 0)) h.1.taken;
            },
          )
            where
              sent_values : ℕ → List (List W)
              sent_values = with_at r.values send.worker (r.values send.worker ++ [] ∷ [])

              found : List W
              found = get_or ((after_sending r send.worker recv.worker (value_of (r.values send.worker) (arg_of send.instr 0))).sent
                  send.worker recv.worker) 0 []

              found_is : get_or ((after_sending r send.worker recv.worker (value_of (r.values send.worker) (arg_of send.instr 0))).sent
                  send.worker recv.worker) 0 [] ≡ value_of (r.values send.worker) (arg_of send.instr 0)
              found_is = ap (λ l. get_or l 0 []) (sent_then r send.worker recv.worker
                  (value_of (r.values send.worker) (arg_of send.instr 0)) (h.1.taken send.worker recv.worker))
