-- What is reached stands beside a network of the core's workers, over drivers that do nothing.
use Rattle.std.proofs.Common.{◌≡◌, ◌≢◌, ◌≤◌, ◌<◌, ◌∙◌, ℕ, suc, Bool, true, false, cond, ◌&&◌, not, List, [], ◌∷◌, length, length-append, Option, None, Some, refl, sym, ap, subst, slice_get, nat_eq, nat_lt, arith}
use Rattle.std.proofs.lemmas.Bool.{eqb-true, eqb-false, eq-eqb, lt-ltb, le-ltb}
use Rattle.mage_instr.specs.declared.directive.Directive.{Directive}
use Rattle.mage_instr.specs.declared.directive.Directive.TheVariants as entry
use Rattle.mage_instr.specs.declared.directive.MemProgram.{MemProgram}
use Rattle.mage_instr.specs.declared.op.Op.{Op}
use Rattle.mage_instr.specs.declared.op.Op.TheVariants as op
use Rattle.mage_instr.specs.declared.replaced.Job.{Job}
use Rattle.mage_instr.specs.Opcodes.{WidthOk}
use Rattle.mage_network.specs.Workers.{Act, Worker, Deed, Moved, Sent, Took, doing, fresh}
use Rattle.mage_network.specs.Network.{put, put_link, appended}
use Rattle.mage_network.proofs.Accounts.{Accounts, accounts_fresh, accounts_moved, accounts_sent, accounts_took}
use Rattle.mage_network.proofs.Places.{put_each}
use Rattle.mage_driver.specs.Calls.{Call, Finish, call_of}
use Rattle.mage_steps.specs.Engines.{advanced, finishes}
use Rattle.mage_steps.specs.Core.{Core, directives_of, core_act, core_at_first, engine_of}
use Rattle.mage_steps.specs.Orderly.{AreOrderly, Fits, flights_before}
use Rattle.mage_steps.proofs.Flights.{run_keeps}
use Rattle.mage_steps.proofs.Settled.{run_settles}
use Rattle.mage_directives.specs.Directives.{IsDirective, IsPart, IsMemProgram}
use Rattle.mage_verify.specs.declared.turn.Stand.TheVariants as standing
use Rattle.mage_verify.specs.Joint.{stand_of, stand_at}
use Rattle.mage_verify.specs.Parts.{WorkerPart}
use Rattle.mage_verified_runs.proofs.Moving.{GoesOn as ActsAlone, alone_goes, Passes, SendsOn, sends_on, TakesOn, takes_on}
use Rattle.mage_verified_runs.proofs.Order.{found_in}
use Rattle.mage_verified_runs.proofs.Ending.{in_list, ended_act}
use Rattle.mage_engine.specs.Ready.{wires_of, wires_of_op}
use Rattle.mage_progress.specs.Stands.{Stand, Held, at_first, directives_in, next_in, HasEnded, stand_after, AreSame, HandsOver, AtLinks, GoesOn, IsReached, Starts, Goes}
use Rattle.mage_progress.proofs.Quiet.{quiet}

-- a worker at a directive: its driver isn't finished, and some wire of the directive is still to come
abbrev pub FitsAt : Option Directive → Stand → Type 0
FitsAt None stand = Unit {0}
FitsAt (Some directive) stand = (stand.finished ≡ false) × (stand.wire < wires_of (Some directive))

-- ---- links

held_with : (b : Bool) (wires others : List (List ℕ)) (count held : ℕ) → length wires ≡ count → length others ≡ held →
    length (cond b wires others) ≡ cond b count held
held_with true wires others count held e f = e
held_with false wires others count held e f = f

-- a link of some length has a first wire
first_wire : (wires : List (List ℕ)) (count : ℕ) → length wires ≡ suc count →
    (wire : List ℕ) × (rest : List (List ℕ)) × (wires ≡ wire ∷ rest) × (length rest ≡ count)
first_wire [] count e = absurd cc
first_wire (wire ∷ rest) count e = (wire, rest, refl, (let l : suc (length rest) ≡ suc count = e in omega (arith, l)))

-- ---- directives

width_some : (o : Op) (width imm : ℕ) → WidthOk o width imm → 1 ≤ wires_of_op o width
width_some op.Send width imm ok = omega (arith, ok)
width_some op.Recv width imm ok = omega (arith, ok)
width_some _ width imm ok = omega arith

-- each directive has some wire to come
some_wire : (workers own : ℕ) (directive : Directive) → IsDirective workers own directive → 1 ≤ wires_of (Some directive)
some_wire workers own (entry.Do job) is = width_some job.op job.width job.imm is.width
some_wire workers own (entry.Fresh frame page) is = omega arith
some_wire workers own (entry.IssueIn slot page) is = omega arith
some_wire workers own (entry.FinishIn slot frame) is = omega arith
some_wire workers own (entry.IssueOut slot frame page) is = omega arith
some_wire workers own (entry.FinishOut slot) is = omega arith

-- ---- stands

-- a wire more, by the test of the last wire
abbrev wire_more : (last : Bool) → Stand → Stand
wire_more last at = record { place = cond last (suc at.place) at.place; wire = cond last 0 (suc at.wire); finished = false }

module _ (parts : List WorkerPart) (plan : MemProgram) (fine : IsMemProgram plan) (orderly : AreOrderly plan)
    (count : length parts ≡ length plan.workers) (are : (worker : ℕ) → directives_in parts worker ≡ directives_of plan worker) where
  abbrev pub Core' : Type 0
  Core' = Core quiet plan

  abbrev pub Said : Type 0
  Said = Call (Unit {0}) (Unit {0})

  abbrev pub Worker' : Type 0
  Worker' = Worker Core' Said (List ℕ)

  abbrev pub drivers : ℕ → Unit {0}
  drivers n = tt

  abbrev pub act : ℕ → Core' → Act Core' Said (List ℕ)
  act = core_act quiet plan

  abbrev pub starts : ℕ → Core'
  starts = core_at_first quiet plan drivers

  -- how far a worker of the core is
  abbrev pub stand_in : Core' → Stand
  stand_in c = record { place = c.engine.place; wire = c.engine.wire; finished = c.engine.is_finished }

  -- A network of the core beside what is reached: its workers stand at the same places, and as many wires lie on its links.
  pub record Tracks (stands : ℕ → Stand) (held : Held) : Type 0 where
    pub workers : ℕ → Worker'
    pub links : ℕ → ℕ → List (List ℕ)
    pub accounts : Accounts act starts workers links
    pub stand : (worker : ℕ) → worker < length parts → stand_in (workers worker).state ≡ stands worker
    pub beside : (worker : ℕ) → length parts ≤ worker → (workers worker).state.engine.is_finished ≡ true
    pub lies : (s t : ℕ) → length (links s t) ≡ held s t
    pub fits : (worker : ℕ) → worker < length parts → FitsAt (next_in parts stands worker) (stands worker)

  -- a directive of a worker has some wire to come
  some_to_come : (worker place : ℕ) (directive : Directive) → slice_get (directives_in parts worker) place ≡ Some directive →
      1 ≤ wires_of (Some directive)
  some_to_come worker place directive here =
      let found : slice_get (directives_of plan worker) place ≡ Some directive =
      ap (λ (ds : List Directive). slice_get ds place) (sym (are worker)) ∙ here in
      let part = found_in (IsPart (length plan.workers) worker) _ _ (in_list plan.workers worker place directive found) (fine.parts worker) in
      some_wire (length plan.workers) worker directive (found_in (IsDirective (length plan.workers) worker) _ _ found (part.each place))

  -- with no wire of it done, a worker whose driver isn't finished fits
  fits_fresh : (worker place : ℕ) → FitsAt (slice_get (directives_in parts worker) place) (record { place = place; wire = 0; finished = false })
  fits_fresh worker place = go (slice_get (directives_in parts worker) place) refl
    where
      go : (o : Option Directive) → slice_get (directives_in parts worker) place ≡ o → FitsAt o (record { place = place; wire = 0; finished = false })
      go None e = tt
      go (Some directive) e = let some = some_to_come worker place directive e in (refl, omega (arith, some))

  -- ---- the start

  pub tracks_first : (stands : ℕ → Stand) (held : Held) → ((worker : ℕ) → worker < length parts → stands worker ≡ at_first) →
      ((s t : ℕ) → held s t ≡ 0) → Tracks stands held
  tracks_first stands held first none = record {
    workers = λ n. fresh (starts n);
    links = λ n m. [];
    accounts = accounts_fresh act starts;
    stand = λ worker inside.
        let there : nat_lt worker (length plan.workers) ≡ true = lt-ltb worker (length plan.workers) (omega (arith, inside, count)) in
        ap (λ (b : Bool). record { place = 0; wire = 0; finished = not b }) there ∙ sym (first worker inside);
    beside = λ worker past.
        let gone : nat_lt worker (length plan.workers) ≡ false = le-ltb worker (length plan.workers) (omega (arith, past, count)) in ap not gone;
    lies = λ s t. sym (none s t);
    fits = λ worker inside. subst (λ (at : Stand). FitsAt (slice_get (directives_in parts worker) at.place) at) (sym (first worker inside))
        (fits_fresh worker 0);
  }

  -- ---- one step

  module _ (stands later : ℕ → Stand) (held left : Held) (worker : ℕ) (inside : worker < length parts) (tracks : Tracks stands held)
      (others : (other : ℕ) → other < length parts → worker ≢ other → later other ≡ stands other) where
    abbrev w : Worker'
    w = tracks.workers worker

    abbrev c : Core'
    c = w.state

    -- what a deed of the worker leads to
    built : (deed : Deed Said (List ℕ)) (after : Core') (links : ℕ → ℕ → List (List ℕ)) →
        Accounts act starts (put tracks.workers worker (doing w deed after)) links → stand_in after ≡ later worker →
        ((s t : ℕ) → length (links s t) ≡ left s t) → FitsAt (next_in parts later worker) (later worker) → Tracks later left
    built deed after links accounts is lies fits = record {
      workers = put tracks.workers worker (doing w deed after);
      links = links;
      accounts = accounts;
      stand = put_each (λ k (x : Worker'). k < length parts → stand_in x.state ≡ later k) tracks.workers worker (doing w deed after)
          (λ within. is) (λ k off within. tracks.stand k within ∙ sym (others k within (eqb-false worker k off)));
      beside = put_each (λ k (x : Worker'). length parts ≤ k → x.state.engine.is_finished ≡ true) tracks.workers worker (doing w deed after)
          (λ past. absurd (omega (arith, inside, past))) (λ k off past. tracks.beside k past);
      lies = lies;
      fits = λ k within. fit k within (nat_eq worker k) refl;
    }
      where
        fit : (k : ℕ) → k < length parts → (b : Bool) → nat_eq worker k ≡ b → FitsAt (next_in parts later k) (later k)
        fit k within true e = subst (λ (i : ℕ). FitsAt (next_in parts later i) (later i)) (eqb-true worker k e) fits
        fit k within false e =
            subst (λ (at : Stand). FitsAt (slice_get (directives_in parts k) at.place) at) (sym (others k within (eqb-false worker k e)))
            (tracks.fits k within)

    at_place : c.engine.place ≡ (stands worker).place
    at_place = ap (λ (at : Stand). at.place) (tracks.stand worker inside)

    at_wire : c.engine.wire ≡ (stands worker).wire
    at_wire = ap (λ (at : Stand). at.wire) (tracks.stand worker inside)

    at_end : c.engine.is_finished ≡ (stands worker).finished
    at_end = ap (λ (at : Stand). at.finished) (tracks.stand worker inside)

    -- where the core's worker stands
    here_is : (o : Option Directive) → next_in parts stands worker ≡ o → slice_get (directives_of plan worker) c.engine.place ≡ o
    here_is o e =
        ap (λ (d : ℕ). slice_get (directives_of plan worker) d) at_place
        ∙ ap (λ (ds : List Directive). slice_get ds (stands worker).place) (sym (are worker)) ∙ e

    -- with no links touched
    same_links : AreSame held left → (s t : ℕ) → length (tracks.links s t) ≡ left s t
    same_links same s t = tracks.lies s t ∙ sym (same s t)

    -- ---- past the last directive

    ends : next_in parts stands worker ≡ None → (HasEnded None (stands worker) → ⊥) → later worker ≡ stand_after None (stands worker) →
        AreSame held left → Tracks later left
    ends past runs is same = go c.engine.is_finished refl
      where
        go : (b : Bool) → c.engine.is_finished ≡ b → Tracks later left
        go true e = absurd (runs (record { past = refl; finished = sym at_end ∙ e }))
        go false e =
            let acts = ended_act quiet plan drivers worker c false (here_is None past) e in
            built (Moved (call_of quiet c.engine.driver Finish ∷ [])) (record c { engine = finishes quiet c.engine }) tracks.links
            (accounts_moved act starts tracks.workers tracks.links worker (call_of quiet c.engine.driver Finish ∷ [])
            (record c { engine = finishes quiet c.engine }) acts tracks.accounts)
            (ap (λ (at : Stand). record { place = at.place; wire = at.wire; finished = true }) (tracks.stand worker inside) ∙ sym is)
            (same_links same)
            (subst (λ (at : Stand). FitsAt (slice_get (directives_in parts worker) at.place) at) (sym is)
            (subst (λ (o : Option Directive). FitsAt o (stand_after None (stands worker))) (sym past) tt))

    -- ---- at a directive

    module _ (x : Directive) (here : next_in parts stands worker ≡ Some x) (is : later worker ≡ stand_after (Some x) (stands worker)) where
      fits_now : FitsAt (Some x) (stands worker)
      fits_now = subst (λ (o : Option Directive). FitsAt o (stands worker)) here (tracks.fits worker inside)

      fits_wire : (b : Bool) → nat_eq (suc (stands worker).wire) (wires_of (Some x)) ≡ b →
          FitsAt (slice_get (directives_in parts worker) (wire_more b (stands worker)).place) (wire_more b (stands worker))
      fits_wire true e = fits_fresh worker (suc (stands worker).place)
      fits_wire false e =
          let less = fits_now.1 in
          let off : suc (stands worker).wire ≢ wires_of (Some x) = eqb-false _ _ e in
          subst (λ (o : Option Directive). FitsAt o (wire_more false (stands worker))) (sym here)
          (refl, omega (arith, less, off))

      fits_later : FitsAt (next_in parts later worker) (later worker)
      fits_later =
          subst (λ (at : Stand). FitsAt (slice_get (directives_in parts worker) at.place) at) (sym is)
          (fits_wire (nat_eq (suc (stands worker).wire) (wires_of (Some x))) refl)

      -- a directive alone
      alone : stand_at (Some x) ≡ standing.Alone → wires_of (Some x) ≡ 1 → AreSame held left → Tracks later left
      alone single one same =
          built (Moved on.said) on.after tracks.links
          (accounts_moved act starts tracks.workers tracks.links worker on.said on.after on.acts tracks.accounts)
          (ap (λ (p : ℕ). record { place = p; wire = on.after.engine.wire; finished = on.after.engine.is_finished }) (on.place ∙ ap suc at_place)
          ∙ ap (λ (n : ℕ). record { place = suc (stands worker).place; wire = n; finished = on.after.engine.is_finished }) on.wire
          ∙ ap (λ (b : Bool). record { place = suc (stands worker).place; wire = 0; finished = b }) (on.finished ∙ at_end ∙ fits_now.0)
          ∙ ap (λ (b : Bool). wire_more b (stands worker)) (sym last) ∙ sym is)
          (same_links same) fits_later
        where
          last : nat_eq (suc (stands worker).wire) (wires_of (Some x)) ≡ true
          last = let less = fits_now.1 in eq-eqb _ _ (omega (arith, less, one))

          on : ActsAlone quiet plan worker c
          on = alone_goes quiet plan worker c x (here_is (Some x) here) single
              (run_keeps quiet plan worker (starts worker) w.past c (λ slot. refl) (tracks.accounts.alone worker))
              (run_settles (engine_of quiet plan) worker (starts worker) w.past c (λ slot. refl) (tracks.accounts.alone worker))
              (found_in (Fits (flights_before (directives_of plan worker) c.engine.place)) _ x (here_is (Some x) here)
              ((orderly worker).each c.engine.place))

    -- ---- an instruction that hands a wire over

    module _ (job : Job) (here : next_in parts stands worker ≡ Some (entry.Do job)) (is : later worker ≡ stand_after (Some (entry.Do job)) (stands worker))
        (many : wires_of (Some (entry.Do job)) ≡ job.width) where
      passed : (after : Core') → Passes quiet plan job.width c after → (b : Bool) → nat_eq (suc c.engine.wire) job.width ≡ b →
          stand_in after ≡ wire_more b (stands worker)
      passed after p true e =
          ap (λ (n : ℕ). record { place = n; wire = after.engine.wire; finished = after.engine.is_finished })
          (p.place ∙ ap (λ x. (cond x (advanced c.engine) (record c.engine { wire = suc c.engine.wire })).place) e ∙ ap suc at_place)
          ∙ ap (λ (n : ℕ). record { place = suc (stands worker).place; wire = n; finished = after.engine.is_finished })
          (p.wire ∙ ap (λ x. (cond x (advanced c.engine) (record c.engine { wire = suc c.engine.wire })).wire) e)
          ∙ ap (λ (b : Bool). record { place = suc (stands worker).place; wire = 0; finished = b })
          (p.finished ∙ at_end ∙ (fits_now (entry.Do job) here is).0)
      passed after p false e =
          ap (λ (n : ℕ). record { place = n; wire = after.engine.wire; finished = after.engine.is_finished })
          (p.place ∙ ap (λ x. (cond x (advanced c.engine) (record c.engine { wire = suc c.engine.wire })).place) e ∙ at_place)
          ∙ ap (λ (n : ℕ). record { place = (stands worker).place; wire = n; finished = after.engine.is_finished })
          (p.wire ∙ ap (λ x. (cond x (advanced c.engine) (record c.engine { wire = suc c.engine.wire })).wire) e ∙ ap suc at_wire)
          ∙ ap (λ (b : Bool). record { place = (stands worker).place; wire = suc (stands worker).wire; finished = b })
          (p.finished ∙ at_end ∙ (fits_now (entry.Do job) here is).0)

      stands_so : (after : Core') → Passes quiet plan job.width c after → stand_in after ≡ later worker
      stands_so after p =
          passed after p (nat_eq (suc c.engine.wire) job.width) refl
          ∙ ap (λ (n : ℕ). wire_more (nat_eq (suc n) job.width) (stands worker)) at_wire
          ∙ ap (λ (n : ℕ). wire_more (nat_eq (suc (stands worker).wire) n) (stands worker)) (sym many) ∙ sym is

      sends : job.op ≡ op.Send → HandsOver op.Send job.imm worker held left → Tracks later left
      sends is_send more =
          built (Sent job.imm on.bytes) on.after (put_link tracks.links worker job.imm longer)
          (accounts_sent act starts tracks.workers tracks.links worker job.imm on.bytes on.after on.acts tracks.accounts)
          (stands_so on.after on.passes)
          (λ s t. held_with (nat_eq worker s && nat_eq job.imm t) longer (tracks.links s t) (suc (held worker job.imm)) (held s t) one
          (tracks.lies s t) ∙ sym (more s t))
          (fits_later (entry.Do job) here is)
        where
          on : SendsOn quiet plan worker job.imm job.width c
          on = sends_on quiet plan worker job.imm job.width c job (here_is (Some (entry.Do job)) here) is_send refl refl

          longer : List (List ℕ)
          longer = appended (tracks.links worker job.imm) on.bytes

          one : length longer ≡ suc (held worker job.imm)
          one =
              let both = length-append (tracks.links worker job.imm) (on.bytes ∷ []) in
              let lies = tracks.lies worker job.imm in omega (arith, both, lies)

      takes : job.op ≡ op.Recv → HandsOver op.Recv job.imm worker held left → Tracks later left
      takes is_recv less =
          built (Took job.imm wire) (on.to wire) (put_link tracks.links job.imm worker rest)
          (accounts_took act starts tracks.workers tracks.links worker job.imm on.to wire rest on.acts first.2 tracks.accounts)
          (stands_so (on.to wire) (on.passes wire))
          (λ s t. held_with (nat_eq job.imm s && nat_eq worker t) rest (tracks.links s t) less.0 (held s t) first.3
          (tracks.lies s t) ∙ sym (less.2 s t))
          (fits_later (entry.Do job) here is)
        where
          on : TakesOn quiet plan worker job.imm job.width c
          on = takes_on quiet plan worker job.imm job.width c job (here_is (Some (entry.Do job)) here) is_recv refl refl

          first : (wire : List ℕ) × (rest : List (List ℕ)) × (tracks.links job.imm worker ≡ wire ∷ rest) × (length rest ≡ less.0)
          first = first_wire (tracks.links job.imm worker) less.0 (tracks.lies job.imm worker ∙ less.1)

          wire : List ℕ
          wire = first.0

          rest : List (List ℕ)
          rest = first.1

    -- ---- each directive

    instruct : (job : Job) (o : Op) → job.op ≡ o → next_in parts stands worker ≡ Some (entry.Do job) →
        later worker ≡ stand_after (Some (entry.Do job)) (stands worker) → HandsOver o job.imm worker held left → Tracks later left
    instruct job op.Send e here is links = sends job here is (ap (λ (o : Op). wires_of_op o job.width) e) e links
    instruct job op.Recv e here is links = takes job here is (ap (λ (o : Op). wires_of_op o job.width) e) e links
    instruct job _ e here is links =
        alone (entry.Do job) here is (ap (λ (o : Op). stand_of o job.imm) e) (ap (λ (o : Op). wires_of_op o job.width) e) links

    stepped : (o : Option Directive) → next_in parts stands worker ≡ o → (HasEnded o (stands worker) → ⊥) →
        later worker ≡ stand_after o (stands worker) → AtLinks o worker held left → Tracks later left
    stepped None here runs is links = ends here runs is links
    stepped (Some (entry.Fresh frame page)) here runs is links = alone (entry.Fresh frame page) here is refl refl links
    stepped (Some (entry.IssueIn slot page)) here runs is links = alone (entry.IssueIn slot page) here is refl refl links
    stepped (Some (entry.FinishIn slot frame)) here runs is links = alone (entry.FinishIn slot frame) here is refl refl links
    stepped (Some (entry.IssueOut slot frame page)) here runs is links = alone (entry.IssueOut slot frame page) here is refl refl links
    stepped (Some (entry.FinishOut slot)) here runs is links = alone (entry.FinishOut slot) here is refl refl links
    stepped (Some (entry.Do job)) here runs is links = instruct job job.op refl here is links

  pub tracks_step : (stands later : ℕ → Stand) (held left : Held) (worker : ℕ) → worker < length parts → Tracks stands held →
      GoesOn parts worker stands held later left → Tracks later left
  tracks_step stands later held left worker inside tracks on =
      stepped stands later held left worker inside tracks on.others (next_in parts stands worker) refl on.runs on.stand on.links

  pub tracks_reached : (stands : ℕ → Stand) (held : Held) → IsReached parts stands held → Tracks stands held
  tracks_reached stands held (Starts first none) = tracks_first stands held first none
  tracks_reached later left (Goes reached inside on) = tracks_step _ later _ left _ inside (tracks_reached _ _ reached) on

-- ---- functions that are the same at each number

over_same : (o : Op) (imm worker : ℕ) (held left after : Held) → AreSame left after → HandsOver o imm worker held left →
    HandsOver o imm worker held after
over_same op.Send imm worker held left after same h = λ s t. same s t ∙ h s t
over_same op.Recv imm worker held left after same h = (h.0, h.1, λ s t. same s t ∙ h.2 s t)
over_same _ imm worker held left after same h = λ s t. same s t ∙ h s t

at_same : (o : Option Directive) (worker : ℕ) (held left after : Held) → AreSame left after → AtLinks o worker held left →
    AtLinks o worker held after
at_same None worker held left after same h = λ s t. same s t ∙ h s t
at_same (Some (entry.Fresh frame page)) worker held left after same h = λ s t. same s t ∙ h s t
at_same (Some (entry.IssueIn slot page)) worker held left after same h = λ s t. same s t ∙ h s t
at_same (Some (entry.FinishIn slot frame)) worker held left after same h = λ s t. same s t ∙ h s t
at_same (Some (entry.IssueOut slot frame page)) worker held left after same h = λ s t. same s t ∙ h s t
at_same (Some (entry.FinishOut slot)) worker held left after same h = λ s t. same s t ∙ h s t
at_same (Some (entry.Do job)) worker held left after same h = over_same job.op job.imm worker held left after same h

module _ (parts : List WorkerPart) (later others : ℕ → Stand) (left after : Held)
    (same : (worker : ℕ) → worker < length parts → others worker ≡ later worker) (links : AreSame left after) where
  goes_same : (stands : ℕ → Stand) (held : Held) (worker : ℕ) → worker < length parts → GoesOn parts worker stands held later left →
      GoesOn parts worker stands held others after
  goes_same stands held worker inside on = record {
    runs = on.runs;
    stand = same worker inside ∙ on.stand;
    others = λ other within off. same other within ∙ on.others other within off;
    links = at_same (next_in parts stands worker) worker held left after links on.links;
  }

-- what is the same as what is reached is reached
pub reached_same : (parts : List WorkerPart) (stands others : ℕ → Stand) (held left : Held) → IsReached parts stands held →
    ((worker : ℕ) → worker < length parts → others worker ≡ stands worker) → AreSame held left → IsReached parts others left
reached_same parts stands others held left (Starts first none) same links =
    Starts (λ worker inside. same worker inside ∙ first worker inside) (λ s t. links s t ∙ none s t)
reached_same parts later others held left (Goes reached inside on) same links =
    Goes reached inside (goes_same parts later others held left same links _ _ _ inside on)
