-- What is done in a world is done in the core's network.
use Rattle.std.proofs.Common.{◌≡◌, ◌≤◌, ◌<◌, ◌+◌, ℕ, zero, suc, Bool, true, false, cond, List, [], ◌∷◌, length, set, nat_eq, nat_lt, inl, inr, Option, Some, None, refl, sym, ap, ap₂, ◌∙◌, subst, arith}
use Rattle.std.specs.Prelude.{slice_get, slice_index_or, IsTrue, not, ◌⊎◌}
use Rattle.std.proofs.lemmas.Bool.{eqb-true, eqb-false, lt-ltb}
use Rattle.mage_instr.specs.declared.directive.Directive.{Directive}
use Rattle.mage_instr.specs.declared.directive.MemProgram.{MemProgram}
use Rattle.mage_instr.specs.declared.replaced.Limits.{Limits}
use Rattle.mage_driver.specs.Rules.{Rules}
use Rattle.mage_driver.specs.Calls.{Call, Told}
use Rattle.mage_network.specs.Network.{Network, opening, put, put_link, appended, takes}
use Rattle.mage_network.specs.Workers.{Act, Moves, Sends, Takes, Stops, Moved, Sent, Took, Worker, doing}
use Rattle.mage_network.specs.Waiting.{event, may_act, may_become, may_go_on}
use Rattle.mage_network.specs.Slots as net
use Rattle.mage_steps.specs.Core.{Core, engine_of, directives_of, core_at_first}
use Rattle.mage_steps.specs.Frames.{cleared}
use Rattle.mage_steps.specs.Engines.{Engine, Next}
use Rattle.mage_steps.specs.Engines as engines
use Rattle.mage_verify.specs.Parts.{WorkerPart, part_of, parts_from, parts_of}
use Rattle.mage_world.specs.Seats.{Seat}
use Rattle.mage_world.specs.Turns.{Leaves, act_of}
use Rattle.mage_world.specs.Worlds.{Seen, seats_opened, opened, What, IsTurn, IsService, WasDone, Changes}
use Rattle.mage_world.specs.Cores.{core_what, core_of_seat, Shows, AreStates}
use Rattle.mage_world.proofs.WorldLemmas.{get_set_same, get_set_other, within}

-- ---- parts

part_here : (limits : Limits) (stores : List ℕ) (first : ℕ) (workers : List (List Directive)) (n : ℕ) (part : WorkerPart) →
    slice_get (parts_from limits stores first workers) n ≡ Some part →
    (part.worker ≡ first + n) × (part.limits ≡ limits) × (part.directives ≡ slice_index_or workers n [])
part_here limits stores first [] n part e = absurd cc
part_here limits stores first (ds ∷ workers) zero part e =
    let same : part_of limits stores first ds ≡ part = cc in
    let more : first ≡ first + 0 = omega arith in
    (sym (ap (λ (p : WorkerPart). p.worker) same) ∙ more, sym (ap (λ (p : WorkerPart). p.limits) same), sym (ap (λ (p : WorkerPart). p.directives) same))
part_here limits stores first (ds ∷ workers) (suc n) part e =
    let found = part_here limits stores (first + 1) workers n part e in
    let number : first + 1 + n ≡ first + suc n = omega arith in
    (found.0 ∙ number, found.1, found.2)

module _ {W : Type 0} (rules : Rules W) (plan : MemProgram) (drivers : ℕ → rules.State) where
  abbrev Net : Type 0
  Net = Network (Core rules plan) (Call rules.State W) (List ℕ)

  abbrev CoreAct : Type 0
  CoreAct = Option (Act (Core rules plan) (Call rules.State W) (List ℕ))

  module _ (old new : Seen rules.State) (n : ℕ) (part : WorkerPart) (was is : Seat rules.State)
      (changes : Changes rules old new n part was is) (network : Net) (shows : Shows rules plan drivers old network) where
    here : (part.worker ≡ 0 + n) × (part.limits ≡ plan.limits) × (part.directives ≡ directives_of plan n)
    here = part_here plan.limits plan.stores 0 plan.workers n part (ap (λ ps. slice_get ps n) (sym shows.parts) ∙ changes.part_is)

    number : part.worker ≡ n
    number = let none_more : 0 + n ≡ n = omega arith in here.0 ∙ none_more

    stood : (network.workers n).state ≡ was.core
    stood = shows.each n ∙ ap (λ (o : Option (Seat rules.State)). core_of_seat rules plan drivers o n) changes.was_is

    -- the worker's act in the core
    acts_so : net.act_in net.asked (engine_of rules plan n (network.workers n).state.engine) (network.workers n).state ≡ act_of rules part was
    acts_so =
        ap (λ (s : Core rules plan). net.act_in net.asked (engine_of rules plan n s.engine) s) stood
        ∙ ap₂ (λ (page : ℕ) (ds : List Directive). net.act_in net.asked (engines.doing rules page ds was.core.engine) was.core)
        (sym (ap (λ (l : Limits). l.page) here.1)) (sym here.2)

    -- a network in which worker n is as the new seat
    shown : (workers : ℕ → Worker (Core rules plan) (Call rules.State W) (List ℕ)) (worker : Worker (Core rules plan) (Call rules.State W) (List ℕ))
        (links : ℕ → ℕ → List (List ℕ)) → workers ≡ put network.workers n worker → worker.state ≡ is.core → links ≡ new.wires →
        Shows rules plan drivers new (record { workers = workers; links = links })
    shown workers worker links are same linked = record {
      parts = ap (λ (s : Seen rules.State). s.parts) changes.rest ∙ shows.parts;
      each = λ m. ap (λ (ws : ℕ → Worker (Core rules plan) (Call rules.State W) (List ℕ)). (ws m).state) are ∙ go m (nat_eq n m) refl
          ∙ ap (λ (s : Seen rules.State). core_of_seat rules plan drivers (slice_get s.seats m) m) (sym changes.rest);
      links = linked;
    }
      where
        go : (m : ℕ) (b : Bool) → nat_eq n m ≡ b →
            (cond b worker (network.workers m)).state ≡ core_of_seat rules plan drivers (slice_get (set old.seats n is) m) m
        go m true e = same ∙ ap (λ (o : Option (Seat rules.State)). core_of_seat rules plan drivers o m)
            (sym (ap (λ k. slice_get (set old.seats n is) k) (sym (eqb-true n m e)) ∙ get_set_same old.seats n is (within old.seats n was changes.was_is)))
        go m false e = shows.each m ∙ ap (λ (o : Option (Seat rules.State)). core_of_seat rules plan drivers o m)
            (sym (get_set_other old.seats n m is (eqb-false n m e)))

    turned : (act : CoreAct) → may_go_on old.capacity n act old.wires ≡ true → Leaves n act (λ next. is.core ≡ next) old.wires new.wires →
        Shows rules plan drivers new (may_act old.capacity n act network)
    turned None can left = absurd left
    turned (Some Stops) can left = absurd left
    turned (Some (Moves said next)) can left = shown _ (doing (network.workers n) (Moved said) next) network.links refl (sym left.0) (shows.links ∙ sym left.1)
    turned (Some (Sends target wire next)) can left =
        subst (λ (b : Bool). Shows rules plan drivers new (cond b (record {
          workers = put network.workers n (doing (network.workers n) (Sent target wire) next);
          links = put_link network.links n target (appended (network.links n target) wire);
        }) network)) (sym (ap (λ (ls : ℕ → ℕ → List (List ℕ)). nat_lt (length (ls n target)) old.capacity) shows.links ∙ can))
        (shown _ (doing (network.workers n) (Sent target wire) next) _ refl (sym left.0)
        (ap (λ (ls : ℕ → ℕ → List (List ℕ)). put_link ls n target (appended (ls n target) wire)) shows.links ∙ sym left.1))
    turned (Some (Takes source next)) can left =
        subst (λ (link : List (List ℕ)). Shows rules plan drivers new (takes_so link)) (sym (ap (λ (ls : ℕ → ℕ → List (List ℕ)). ls source n) shows.links ∙ left.2))
        (shown _ (doing (network.workers n) (Took source left.0) (next left.0)) _ refl (sym left.3)
        (ap (λ (ls : ℕ → ℕ → List (List ℕ)). put_link ls source n left.1) shows.links ∙ sym left.4))
      where
        takes_so : List (List ℕ) → Net
        takes_so link = takes n source next link network

    -- what a turn leaves, for the worker's own number
    own_number : (act : CoreAct) → Leaves part.worker act (λ next. is.core ≡ next) old.wires new.wires → Leaves n act (λ next. is.core ≡ next) old.wires new.wires
    own_number act left = subst (λ (k : ℕ). Leaves k act (λ next. is.core ≡ next) old.wires new.wires) number left

    pub done : (one : What) → IsTrue was.driver.told → WasDone rules one old.capacity part was is old.wires new.wires →
        Shows rules plan drivers new (event (net.over_slots (engine_of rules plan)) old.capacity (core_what n one) network)
    done (IsTurn kind) told did =
        subst (λ (act : CoreAct). Shows rules plan drivers new (may_act old.capacity n act network)) (sym acts_so)
        (turned (act_of rules part was) (subst (λ (k : ℕ). may_go_on old.capacity k (act_of rules part was) old.wires ≡ true) number did.can)
        (own_number (act_of rules part was) (did.event told)))
    done (IsService service) told did =
        subst (λ (o : Option (Core rules plan)). Shows rules plan drivers new (may_become n o network))
        (sym (ap (λ (s : Core rules plan). net.becomes service s) stood ∙ did.0))
        (shown _ (record { state = is.core; past = (network.workers n).past }) network.links refl refl (shows.links ∙ sym did.2))

-- ---- before the first event

parts_long : (limits : Limits) (stores : List ℕ) (first : ℕ) (workers : List (List Directive)) → length (parts_from limits stores first workers) ≡ length workers
parts_long limits stores first [] = refl
parts_long limits stores first (ds ∷ workers) = ap suc (parts_long limits stores (first + 1) workers)

module _ {D W : Type 0} (rules : Rules W) (tells : D → Told rules.State) where
  abbrev first_core : WorkerPart → rules.State → net.Paged (Engine rules.State) (List ℕ)
  first_core part state = net.idle (engines.opened rules part.limits.page state) (λ page. cleared rules part.limits.page)

  -- a seat before the first event
  seat_first : (parts : List WorkerPart) (drivers : List D) (n : ℕ) → length drivers ≡ length parts →
      ((length parts ≤ n) × (slice_get (seats_opened rules tells parts drivers) n ≡ None))
      ⊎ ((part : WorkerPart) × (driver : D) × (seat : Seat rules.State) × (n < length parts) × (slice_get parts n ≡ Some part) × (slice_get drivers n ≡ Some driver)
      × (slice_get (seats_opened rules tells parts drivers) n ≡ Some seat) × (seat.core ≡ first_core part (tells driver).state))
  seat_first [] drivers n count = inl (omega arith, refl)
  seat_first (p ∷ parts) [] n count = absurd (omega arith)
  seat_first (p ∷ parts) (d ∷ drivers) zero count = inr (p, d, _, omega arith, refl, refl, refl, refl)
  seat_first (p ∷ parts) (d ∷ drivers) (suc n) count = elim (seat_first parts drivers n (omega arith)) [
    | inl past ↦ let far = past.0 in inl (omega arith, past.1)
    | inr here ↦ let near = here.3 in inr (here.0, here.1, here.2, omega arith, here.4, here.5, here.6, here.7)
  ]

  pub opening_shown : (plan : MemProgram) (states : ℕ → rules.State) (parts : List WorkerPart) (drivers : List D) (capacity : ℕ) → parts ≡ parts_of plan →
      length drivers ≡ length parts → AreStates tells drivers states →
      Shows rules plan states (opened rules tells parts drivers capacity) (opening (core_at_first rules plan states))
  opening_shown plan states parts drivers capacity are count told = record { parts = are; each = each; links = refl }
    where
      long : length parts ≡ length plan.workers
      long = ap (λ (ps : List WorkerPart). length ps) are ∙ parts_long plan.limits plan.stores 0 plan.workers

      first_so : (n page : ℕ) (state : rules.State) → page ≡ plan.limits.page → state ≡ states n → not (nat_lt n (length plan.workers)) ≡ false →
          core_at_first rules plan states n ≡ net.idle (engines.opened rules page state) (λ p. cleared rules page)
      first_so n page state pages same within =
          ap (λ (b : Bool). net.idle (record (engines.opened rules plan.limits.page (states n)) { is_finished = b }) (λ p. cleared rules plan.limits.page)) within
          ∙ sym (ap₂ (λ (k : ℕ) (s : rules.State). net.idle (engines.opened rules k s) (λ p. cleared rules k)) pages same)

      each : (n : ℕ) → core_at_first rules plan states n ≡ core_of_seat rules plan states (slice_get (seats_opened rules tells parts drivers) n) n
      each n = elim (seat_first parts drivers n count) [
        | inl past ↦ ap (λ (o : Option (Seat rules.State)). core_of_seat rules plan states o n) (sym past.1)
        | inr here ↦
            let part_is = part_here plan.limits plan.stores 0 plan.workers n here.0 (ap (λ ps. slice_get ps n) (sym are) ∙ here.4) in
            let within : nat_lt n (length plan.workers) ≡ true = lt-ltb n (length plan.workers) (subst (λ k. n < k) long here.3) in
            first_so n here.0.limits.page (tells here.1).state (ap (λ (l : Limits). l.page) part_is.1) (told n here.1 here.5) (ap not within)
            ∙ sym here.7
            ∙ ap (λ (o : Option (Seat rules.State)). core_of_seat rules plan states o n) (sym here.6)
      ]
