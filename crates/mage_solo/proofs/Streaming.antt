-- A run that garbles says the streams of the program.
use Rattle.std.proofs.Common.{◌≡◌, ◌<◌, ◌≤◌, ◌+◌, ◌++◌, ◌⊎◌, inl, inr, ℕ, zero, suc, Bool, true, false, List, [], ◌∷◌, length, map, Option, None, Some, slice_get, slice_index_or, unwrap_or, is_some, refl, sym, ap, ap₂, ◌∙◌, subst, arith, length-append}
use Rattle.std.proofs.lemmas.List.{length-map, reverse-reverse}
use Rattle.std.proofs.lemmas.List.Elements.{All-cons}
use Rattle.std.specs.Prelude.{IfSome, IsTrue, Vec, reverse, Result, Ok, Err, OnOk, is_err}
use Rattle.std.specs.Global.{Global}
use Rattle.std.specs.Option.{option_map}
use Rattle.std.specs.List.{All}
use Rattle.mage_base.specs.Sink.{SinkTold}
use Rattle.mage_base.specs.declared.failure.Damage.{Damage}
use Rattle.mage_base.specs.Store.{StoreTold}
use Rattle.mage_instr.specs.declared.fault.DriverFault.{DriverFault}
use Rattle.mage_instr.specs.declared.fault.DriverFault.TheVariants as broken
use Rattle.mage_instr.specs.declared.directive.MemProgram.{MemProgram}
use Rattle.mage_directives.specs.Directives.{IsMemProgram}
use Rattle.mage_driver.specs.declared.standing.Standing.TheVariants as standing
use Rattle.mage_driver.specs.Calls.{Told, RoseFor}
use Rattle.mage_linked.specs.declared.emitted.Emitted.{Emitted}
use Rattle.mage_linked.specs.Emission.{program_of}
use Rattle.mage_linked.specs.Workers.{list_at}
use Rattle.mage_verify.specs.Faults.{fault_of}
use Rattle.mage_verify.specs.Parts.{WorkerPart, parts_of}
use Rattle.mage_verify.specs.Runs.{AreVerified}
use Rattle.mage_streams.specs.Streams.{garbled_stream}
use Rattle.mage_garble.specs.Rule.{Garbling, FailsAtItsSink, garble_rules}
use Rattle.mage_garble.specs.Sending.{tells_taken}
use Rattle.mage_carried.specs.Laws.{CanRun, Carries}
use Rattle.mage_carried.proofs.Starting.{carried_so}
use Rattle.mage_garbled_runs.specs.Runs.{garblers}
use Rattle.mage_garbled_runs.proofs.Garbled.{carried_garbles}
use Rattle.mage_steps.specs.Core.{joint_after}
use Rattle.mage_verified_runs.specs.Turns.{verified_turns}
use Rattle.mage_core.specs.Answered.{AreStates, AreTold}
use Rattle.mage_core.specs.Going.{Start}
use Rattle.mage_core.specs.Joined.{RunsJoint, WasDeceived}
use Rattle.mage_core.specs.Results.{starts_of, Back, AllStay, ComesTo}
use Rattle.mage_core.specs.Steady.{IsNotOfStore}
use Rattle.mage_core.specs.declared.fault.RunFault.{RunFault}
use Rattle.mage_core.specs.declared.fault.RunFault.TheVariants as fault
use Rattle.mage_solo.specs.Stores.{AllSuffice, WereDeceived}
use Rattle.mage_solo.specs.Garbling.{Sunk, AllTellTaken, TookNone, AllTook, NoneTook, NoneFailed, TellStill, HasStopped, GarbleStops, IsOfNoStore, IsClosed, AreClosed, HandsBack, AreMadeOf, garbler_opening, garbler_openings}
use Rattle.mage_solo.specs.Plain.{lists_of}
use Rattle.mage_solo.proofs.Lists.{same_some, if_found, if_each, found_below, found_beside, get_within, index_found, Ones, ones_of}
use Rattle.mage_solo.proofs.Workers.{start_at, at_start, at_store, deceived_so, broken_ones, damaged_ones, undamaged}
use Rattle.mage_solo.proofs.Agreeing.{joint_agrees}
use Rattle.mage_solo.proofs.Plainly.{parts_count}

-- ---- the drivers at first

pub garbler_openings_count : (seed : List ℕ) (k : ℕ) (values : List (List ℕ)) (sinks : List SinkTold) → length values ≡ length sinks →
    length (garbler_openings seed k values sinks) ≡ length sinks
garbler_openings_count seed k [] [] long = refl
garbler_openings_count seed k [] (s ∷ ss) long = absurd (omega (arith, long))
garbler_openings_count seed k (v ∷ vs) [] long = absurd (omega (arith, long))
garbler_openings_count seed k (v ∷ vs) (s ∷ ss) long = ap suc (garbler_openings_count seed (k + 1) vs ss (omega (arith, long)))

-- a sink that isn't there
abbrev pub no_sink : SinkTold
no_sink = record { taken = None; faults = 0; steady = false; room = 0 }

abbrev pub sink_at : List SinkTold → (worker : ℕ) → SinkTold
sink_at sinks worker = slice_index_or sinks worker no_sink

-- the driver of a worker at first
opening_at : (seed : List ℕ) (k : ℕ) (values : List (List ℕ)) (sinks : List SinkTold) (w : ℕ) (driver : Told Garbling) →
    slice_get (garbler_openings seed k values sinks) w ≡ Some driver →
    driver ≡ garbler_opening seed (k + w) (list_at values w) (sink_at sinks w)
opening_at seed k [] ss zero driver d = absurd cc
opening_at seed k [] ss (suc w) driver d = absurd cc
opening_at seed k (v ∷ vs) [] zero driver d = absurd cc
opening_at seed k (v ∷ vs) [] (suc w) driver d = absurd cc
opening_at seed k (v ∷ vs) (s ∷ ss) zero driver d =
    let number : k ≡ k + 0 = omega arith in
    sym (same_some (garbler_opening seed k v s) driver d) ∙ ap (λ (n : ℕ). garbler_opening seed n v s) number
opening_at seed k (v ∷ vs) (s ∷ ss) (suc w) driver d =
    let number : (k + 1) + w ≡ k + suc w = omega arith in
    opening_at seed (k + 1) vs ss w driver d ∙ ap (λ (n : ℕ). garbler_opening seed n (list_at vs w) (sink_at ss w)) number

pub all_run : (seed : List ℕ) (k : ℕ) (values : List (List ℕ)) (sinks : List SinkTold) →
    All (λ (driver : Told Garbling). driver.standing ≡ standing.Running) (garbler_openings seed k values sinks)
all_run seed k [] ss = λ i d h. absurd (omega (arith, h))
all_run seed k (v ∷ vs) [] = λ i d h. absurd (omega (arith, h))
all_run seed k (v ∷ vs) (s ∷ ss) =
    All-cons (λ (driver : Told Garbling). driver.standing ≡ standing.Running) (garbler_opening seed k v s) (garbler_openings seed (k + 1) vs ss) refl (all_run seed (k + 1) vs ss)

-- ---- the sinks in the end

pub closed_at : (drivers : List (Told Garbling)) (sinks : List SinkTold) (w : ℕ) (sink : SinkTold) → AreClosed drivers sinks → slice_get sinks w ≡ Some sink →
    (driver : Told Garbling) × (slice_get drivers w ≡ Some driver) × IsClosed driver sink
closed_at [] [] zero sink h e = absurd cc
closed_at [] [] (suc w) sink h e = absurd cc
closed_at [] (s ∷ ss) w sink h e = absurd h
closed_at (d ∷ ds) [] w sink h e = absurd h
closed_at (d ∷ ds) (s ∷ ss) zero sink h e = (d, refl, subst (λ (x : SinkTold). IsClosed d x) (same_some s sink e) h.0)
closed_at (d ∷ ds) (s ∷ ss) (suc w) sink h e = closed_at ds ss w sink h.1 e

pub closed_count : (drivers : List (Told Garbling)) (sinks : List SinkTold) → AreClosed drivers sinks → length sinks ≡ length drivers
closed_count [] [] h = refl
closed_count [] (s ∷ ss) h = absurd h
closed_count (d ∷ ds) [] h = absurd h
closed_count (d ∷ ds) (s ∷ ss) h = ap suc (closed_count ds ss h.1)

-- what a sink took that tells it before and after
pub taken_more : (before after : Option (List ℕ)) (bytes : List ℕ) → IsTrue (is_some before) → IsTrue (is_some after) →
    unwrap_or after [] ≡ unwrap_or before [] ++ bytes → after ≡ option_map (λ earlier. earlier ++ bytes) before
taken_more None after bytes told tells is = absurd cc
taken_more (Some earlier) None bytes told tells is = absurd cc
taken_more (Some earlier) (Some later) bytes told tells is = ap (λ (l : List ℕ). Some l) is

taken_same : (before after : Option (List ℕ)) → IsTrue (is_some before) → IsTrue (is_some after) → unwrap_or after [] ≡ unwrap_or before [] → after ≡ before
taken_same None after told tells is = absurd cc
taken_same (Some earlier) None told tells is = absurd cc
taken_same (Some earlier) (Some later) told tells is = ap (λ (l : List ℕ). Some l) is

-- ---- the run

module _ (parts : List WorkerPart) (seed : List ℕ) (garbler : List (List ℕ)) (sinks : List SinkTold) (now : List (Told Garbling)) (sinks' : List SinkTold)
    (before after : List StoreTold) (long_g : length garbler ≡ length parts) (long_s : length sinks ≡ length parts) (kept : length now ≡ length parts)
    (closed : AreClosed now sinks') where
  abbrev openings : List (Told Garbling)
  openings = garbler_openings seed 0 garbler sinks

  abbrev these : List (Start Garbling)
  these = starts_of parts openings (ones_of before)

  abbrev states : ℕ → Garbling
  states = garblers seed (list_at garbler) (sink_at sinks)

  pub counted : length openings ≡ length parts
  counted = garbler_openings_count seed 0 garbler sinks (omega (arith, long_g, long_s)) ∙ long_s

  opened : (w : ℕ) (start : Start Garbling) → slice_get these w ≡ Some start → start.driver ≡ garbler_opening seed w (list_at garbler w) (sink_at sinks w)
  opened w start e =
      let at = start_at parts openings before w start e in
      let number : 0 + w ≡ w = omega arith in
      opening_at seed 0 garbler sinks w start.driver at.driver
      ∙ ap (λ (n : ℕ). garbler_opening seed n (list_at garbler w) (sink_at sinks w)) number

  pub are_states : AreStates these states
  are_states w = if_each (λ (start : Start Garbling). states w ≡ start.driver.state) (slice_get these w)
      (λ start e. sym (ap (λ (d : Told Garbling). d.state) (opened w start e)))

  pub are_told : AllTellTaken sinks → AreTold these
  are_told all w = if_each (λ (start : Start Garbling). IsTrue start.driver.told) (slice_get these w) (λ start e.
      let at = start_at parts openings before w start e in
      let sink = found_beside parts sinks w start.part long_s at.part in
      let tells = if_found (λ (s : SinkTold). IsTrue (tells_taken s)) (slice_get sinks w) sink.0 sink.1 (all w) in
      ap (λ (d : Told Garbling). d.told) (opened w start e) ∙ ap tells_taken (index_found sinks w sink.0 no_sink sink.1) ∙ tells)

  -- a worker of the run, by its sink
  pub record Here (w : ℕ) (sink : Sunk sinks sinks' w) : Type 0 where
    pub back : Back these now (ones_of after) w
    pub opens : back.start.driver ≡ garbler_opening seed w (list_at garbler w) sink.old
    pub closes : IsClosed back.driver sink.new

  pub here : length before ≡ length parts → length after ≡ length parts → (w : ℕ) (sink : Sunk sinks sinks' w) → Here w sink
  here long_b long_a w sink =
      let within : w < length parts = subst (λ n. w < n) long_s (get_within sinks w sink.old sink.old_so) in
      let part = found_below parts w within in
      let driver = found_below openings w (let n = counted in omega (arith, n, within)) in
      let store = found_below before w (omega (arith, long_b, within)) in
      let last = found_below after w (omega (arith, long_a, within)) in
      let end = closed_at now sinks' w sink.new closed sink.new_so in
      let starts_so : slice_get these w ≡ Some (record { part = part.0; driver = driver.0; store = store.0 }) =
      at_start parts openings before w part.0 driver.0 store.0 part.1 driver.1 store.1 in record {
        back = record {
          start = record { part = part.0; driver = driver.0; store = store.0 };
          driver = end.0;
          store = last.0;
          starts_so = starts_so;
          driver_so = end.1;
          store_so = at_store after w last.0 last.1;
        };
        opens = opened w (record { part = part.0; driver = driver.0; store = store.0 }) starts_so
            ∙ ap (garbler_opening seed w (list_at garbler w)) (index_found sinks w sink.old no_sink sink.old_so);
        closes = end.2;
      }

  pub tell_so : length before ≡ length parts → length after ≡ length parts → AllStay these now (ones_of after) → TellStill sinks sinks'
  tell_so long_b long_a stay w sink tells =
      let at = here long_b long_a w sink in
      at.closes.told ((stay w at.back).told ∙ ap (λ (d : Told Garbling). d.told) at.opens ∙ tells)

  pub none_failed : length before ≡ length parts → length after ≡ length parts → ComesTo these now (ones_of after) None → NoneFailed sinks sinks'
  none_failed long_b long_a done w sink =
      let at = here long_b long_a w sink in
      sym at.closes.faults ∙ (done w at.back).driver_faults ∙ ap (λ (d : Told Garbling). d.faults) at.opens

  -- the driver of a worker that stopped
  pub stopped_so : (w : ℕ) (f : DriverFault) → ComesTo these now (ones_of after) (Some (fault.Driver w f)) →
      (f ≡ broken.Sink) × HasStopped sinks sinks' w
  stopped_so w f came =
      let back = came.0 in
      let at = start_at parts openings before w back.start back.starts_so in
      let old = found_beside parts sinks w back.start.part long_s at.part in
      let new = found_below sinks' w (subst (λ n. w < n) (sym (closed_count now sinks' closed)) (get_within now w back.driver back.driver_so)) in
      let end = closed_at now sinks' w new.0 closed new.1 in
      let driver : end.0 ≡ back.driver = same_some end.0 back.driver (sym end.1 ∙ back.driver_so) in
      let was : back.start.driver.faults ≡ old.0.faults =
      ap (λ (d : Told Garbling). d.faults) (opened w back.start back.starts_so) ∙ ap (λ (s : SinkTold). s.faults) (index_found sinks w old.0 no_sink old.1) in
      let is : back.driver.faults ≡ new.0.faults = ap (λ (d : Told Garbling). d.faults) (sym driver) ∙ end.2.faults in
      let failed : end.0.standing ≡ standing.Failed f = ap (λ (d : Told Garbling). d.standing) driver ∙ came.1.0 in
      let sink : f ≡ broken.Sink = subst FailsAtItsSink failed end.2.failing in
      let rose : RoseFor f old.0.faults new.0.faults =
      subst (λ (n : ℕ). RoseFor f n new.0.faults) was (subst (λ (n : ℕ). RoseFor f back.start.driver.faults n) is came.1.1) in
      let at_sink : RoseFor broken.Sink old.0.faults new.0.faults = subst (λ (g : DriverFault). RoseFor g old.0.faults new.0.faults) sink rose in (
        sink,
        (record { old = old.0; new = new.0; old_so = old.1; new_so = new.1 }, at_sink.0, at_sink.1),
      )

  module _ (count : ℕ) (emitted : List Emitted) (plan : MemProgram) (fine : IsMemProgram plan) (is : parts ≡ parts_of plan) (none : fault_of plan ≡ None)
      (carried : Carries count emitted plan) (can : CanRun count emitted) (long_b : length before ≡ length parts) (long_a : length after ≡ length parts)
      (tell : AllTellTaken sinks) where
    abbrev stream : ℕ → List ℕ
    stream = garbled_stream (program_of count emitted) seed (list_at garbler)

    -- what a worker's garbler has said in the joint run
    pub whole_stream : (w : ℕ) (sink : Sunk sinks sinks' w) →
        (joint_after garble_rules plan states (verified_turns plan.workers) w).state.engine.driver.sending.stream ≡ unwrap_or sink.old.taken [] ++ stream w
    whole_stream w sink =
        let run = carried_garbles count emitted plan seed (list_at garbler) (sink_at sinks) can carried in
        let workers = ap length is ∙ parts_count plan ∙ (carried_so count emitted plan carried).workers in
        let within : w < count = subst (λ n. w < n) (long_s ∙ workers) (get_within sinks w sink.old sink.old_so) in
        ap (λ worker. worker.state.engine.driver.sending.stream) (sym (joint_agrees garble_rules plan states fine none run.turns w (run.ends w)))
        ∙ run.stream w within
        ∙ ap (λ (s : SinkTold). unwrap_or s.taken [] ++ stream w) (index_found sinks w sink.old no_sink sink.old_so)

    pub tells_old : (w : ℕ) (sink : Sunk sinks sinks' w) → IsTrue (is_some sink.old.taken)
    tells_old w sink = if_found (λ (s : SinkTold). IsTrue (tells_taken s)) (slice_get sinks w) sink.old sink.old_so (tell w)

    pub tells_new : (w : ℕ) (sink : Sunk sinks sinks' w) (at : Here w sink) → at.back.driver.told ≡ at.back.start.driver.told → IsTrue (is_some sink.new.taken)
    tells_new w sink at same = at.closes.told (same ∙ ap (λ (d : Told Garbling). d.told) at.opens ∙ tells_old w sink)

    all_took : RunsJoint garble_rules plan states these now (ones_of after) → AllStay these now (ones_of after) → ComesTo these now (ones_of after) None →
        AllTook sinks sinks' stream
    all_took joined stay done w sink =
        let at = here long_b long_a w sink in
        let is_done = done w at.back in
        let said : at.back.driver.state.sending.stream ≡ unwrap_or sink.old.taken [] ++ stream w =
        ap (λ (s : Garbling). s.sending.stream) (joined.stands w at.back) ∙ whole_stream w sink in record {
          taken = taken_more sink.old.taken sink.new.taken (stream w) (tells_old w sink) (tells_new w sink at (stay w at.back).told)
              (sym at.closes.stream ∙ said);
          faults = sym at.closes.faults ∙ is_done.driver_faults ∙ ap (λ (d : Told Garbling). d.faults) at.opens;
        }

    pub streams_so : AllStay these now (ones_of after) → ComesTo these now (ones_of after) None →
        RunsJoint garble_rules plan states these now (ones_of after) ⊎ WasDeceived these now (ones_of after) →
        AllTook sinks sinks' stream ⊎ WereDeceived parts (ones_of before) (ones_of after)
    streams_so stay done (inl joined) = inl (all_took joined stay done)
    streams_so stay done (inr was) = inr (deceived_so parts openings now before after counted kept was)

-- ---- the same of a run whose drivers were made over the sinks

-- where all drivers were made
pub made_all : {K : Type 0} (tells : K → SinkTold) (seed : List ℕ) (values : List (Vec ℕ Global)) (all left : List K) (drivers : List (Told Garbling)) →
    AreMadeOf tells seed values all left drivers → left ≡ [] → drivers ≡ garbler_openings seed 0 (lists_of values) (map tells all)
made_all tells seed values all left drivers m none =
    let zero_left : length left ≡ 0 = ap length none in
    let no_values : m.unused ≡ [] = empty m.unused (m.together ∙ zero_left) in
    m.made ∙ ap (λ (n : ℕ). garbler_openings seed n (lists_of m.used) (map tells m.taken)) zero_left
    ∙ ap₂ (λ (v : List (Vec ℕ Global)) (s : List _). garbler_openings seed 0 (lists_of v) (map tells s))
    (sym (m.values_are ∙ ap (λ (l : List (Vec ℕ Global)). l ++ m.used) no_values))
    (sym (m.sinks ∙ ap (λ (l : List _). l ++ m.taken) none))
  where
    empty : {X : Type 0} (xs : List X) → length xs ≡ 0 → xs ≡ []
    empty [] e = refl
    empty (x ∷ xs) e = absurd (omega (arith, e))

-- sinks whose drivers made no call, numbered from one on
none_from : (seed : List ℕ) (k : ℕ) (values : List (List ℕ)) (sinks after : List SinkTold) → AreClosed (garbler_openings seed k values sinks) after →
    length values ≡ length sinks → (w : ℕ) (old new : SinkTold) → slice_get sinks w ≡ Some old → slice_get after w ≡ Some new → TookNone old new
none_from seed k values sinks after closed long w old new old_so new_so =
    let end = closed_at (garbler_openings seed k values sinks) after w new closed new_so in
    let opened : end.0 ≡ garbler_opening seed (k + w) (list_at values w) old =
    opening_at seed k values sinks w end.0 end.1 ∙ ap (garbler_opening seed (k + w) (list_at values w)) (index_found sinks w old no_sink old_so) in record {
      taken = λ tells. taken_same old.taken new.taken tells (end.2.told (ap (λ (d : Told Garbling). d.told) opened ∙ tells))
          (sym end.2.stream ∙ ap (λ (d : Told Garbling). d.state.sending.stream) opened);
      faults = sym end.2.faults ∙ ap (λ (d : Told Garbling). d.faults) opened;
    }

same_none : (sink : SinkTold) → TookNone sink sink
same_none sink = record { taken = λ tells. refl; faults = refl }

-- behind sinks that weren't touched
none_behind : {K : Type 0} (tells : K → SinkTold) (left taken back : List K) →
    ((w : ℕ) (old new : SinkTold) → slice_get (map tells taken) w ≡ Some old → slice_get (map tells back) w ≡ Some new → TookNone old new) →
    (w : ℕ) (old new : SinkTold) → slice_get (map tells (left ++ taken)) w ≡ Some old → slice_get (map tells (left ++ back)) w ≡ Some new → TookNone old new
none_behind tells [] taken back each w old new o n = each w old new o n
none_behind tells (x ∷ left) taken back each zero old new o n =
    subst (λ (s : SinkTold). TookNone s new) (same_some (tells x) old o) (subst (λ (s : SinkTold). TookNone (tells x) s) (same_some (tells x) new n) (same_none (tells x)))
none_behind tells (x ∷ left) taken back each (suc w) old new o n = none_behind tells left taken back each w old new o n

-- drivers that were made and taken apart at once
pub none_made : {K : Type 0} (tells : K → SinkTold) (seed : List ℕ) (values : List (Vec ℕ Global)) (all left now : List K) (drivers : List (Told Garbling)) →
    length values ≡ length all → AreMadeOf tells seed values all left drivers → HandsBack tells drivers left now → NoneTook (map tells all) (map tells now)
none_made {K} tells seed values all left now drivers long m h w sink =
    none_behind tells left m.taken h.back
    (none_from seed (length left) (lists_of m.used) (map tells m.taken) (map tells h.back)
    (subst (λ (l : List (Told Garbling)). AreClosed l (map tells h.back)) m.made h.closed) used)
    w sink.old sink.new (ap (λ (l : List K). slice_get (map tells l) w) (sym m.sinks) ∙ sink.old_so) (ap (λ (l : List K). slice_get (map tells l) w) (sym h.whole) ∙ sink.new_so)
  where
    used : length (lists_of m.used) ≡ length (map tells m.taken)
    used =
        let all_values : length values ≡ length m.unused + length m.used = ap length m.values_are ∙ length-append m.unused m.used in
        let all_sinks : length all ≡ length left + length m.taken = ap length m.sinks ∙ length-append left m.taken in
        let both = m.together in
        length-map m.used (λ v. v.items) ∙ (let e : length m.used ≡ length m.taken = omega (arith, all_values, all_sinks, both, long) in e) ∙ sym (length-map m.taken tells)

module _ (parts : List WorkerPart) (seed : List ℕ) (garbler : List (List ℕ)) (sinks : List SinkTold) (drivers now : List (Told Garbling)) (sinks' : List SinkTold)
    (before after : List (List StoreTold)) (made : drivers ≡ garbler_openings seed 0 garbler sinks) (long_g : length garbler ≡ length parts)
    (long_s : length sinks ≡ length parts) (kept : length now ≡ length parts) (closed : AreClosed now sinks')
    (b : Ones before (length parts)) (a : Ones after (length parts)) where
  pub carry_over : (P : List (Told Garbling) → List (List StoreTold) → List (List StoreTold) → Type 0) →
      P (garbler_openings seed 0 garbler sinks) (ones_of b.each) (ones_of a.each) → P drivers before after
  carry_over P h =
      subst (λ (ds : List (Told Garbling)). P ds before after) (sym made)
      (subst (λ (x : List (List StoreTold)). P (garbler_openings seed 0 garbler sinks) x after) (sym b.is)
      (subst (λ (y : List (List StoreTold)). P (garbler_openings seed 0 garbler sinks) (ones_of b.each) y) (sym a.is) h))

  pub told_end : AllTellTaken sinks → AreTold (starts_of parts drivers before)
  told_end = carry_over (λ ds x y. AllTellTaken sinks → AreTold (starts_of parts ds x))
      (are_told parts seed garbler sinks now sinks' b.each a.each long_g long_s kept closed)

  pub tell_end : AllStay (starts_of parts drivers before) now after → TellStill sinks sinks'
  tell_end = carry_over (λ ds x y. AllStay (starts_of parts ds x) now y → TellStill sinks sinks')
      (tell_so parts seed garbler sinks now sinks' b.each a.each long_g long_s kept closed b.long a.long)

  pub quiet_end : ComesTo (starts_of parts drivers before) now after None → NoneFailed sinks sinks'
  quiet_end = carry_over (λ ds x y. ComesTo (starts_of parts ds x) now y None → NoneFailed sinks sinks')
      (none_failed parts seed garbler sinks now sinks' b.each a.each long_g long_s kept closed b.long a.long)

  pub stopped_end : (w : ℕ) (f : DriverFault) → ComesTo (starts_of parts drivers before) now after (Some (fault.Driver w f)) →
      (f ≡ broken.Sink) × HasStopped sinks sinks' w
  stopped_end w f = carry_over (λ ds x y. ComesTo (starts_of parts ds x) now y (Some (fault.Driver w f)) → (f ≡ broken.Sink) × HasStopped sinks sinks' w)
      (stopped_so parts seed garbler sinks now sinks' b.each a.each long_g long_s kept closed w f)

  module _ (count : ℕ) (emitted : List Emitted) (plan : MemProgram) (fine : IsMemProgram plan) (is : parts ≡ parts_of plan) (none : fault_of plan ≡ None)
      (carried : Carries count emitted plan) (can : CanRun count emitted) (tell : AllTellTaken sinks) where
    pub streams_end : AllStay (starts_of parts drivers before) now after → ComesTo (starts_of parts drivers before) now after None →
        ((states : ℕ → Garbling) → AreStates (starts_of parts drivers before) states →
        RunsJoint garble_rules plan states (starts_of parts drivers before) now after ⊎ WasDeceived (starts_of parts drivers before) now after) →
        AllTook sinks sinks' (garbled_stream (program_of count emitted) seed (list_at garbler)) ⊎ WereDeceived parts before after
    streams_end = carry_over (λ ds x y. AllStay (starts_of parts ds x) now y → ComesTo (starts_of parts ds x) now y None →
        ((states : ℕ → Garbling) → AreStates (starts_of parts ds x) states →
        RunsJoint garble_rules plan states (starts_of parts ds x) now y ⊎ WasDeceived (starts_of parts ds x) now y) →
        AllTook sinks sinks' (garbled_stream (program_of count emitted) seed (list_at garbler)) ⊎ WereDeceived parts x y)
        (λ stay done joint. streams_so parts seed garbler sinks now sinks' b.each a.each long_g long_s kept closed count emitted plan fine is none carried can b.long a.long tell
        stay done (joint (garblers seed (list_at garbler) (sink_at sinks)) (are_states parts seed garbler sinks now sinks' b.each a.each long_g long_s kept closed)))

-- ---- what a run that garbles answers

pub same_map : {X : Type 0} (xs : List X) → map (λ x. x) xs ≡ xs
same_map [] = refl
same_map {X} (x ∷ xs) = ap (λ (l : List X). x ∷ l) (same_map xs)

pub few_parts : (parts : List WorkerPart) → AreVerified parts → length parts ≤ 16
few_parts parts verified =
    let many : length parts ≡ length verified.whole.0.workers = ap length verified.whole.2 ∙ parts_count verified.whole.0 in
    let few = verified.whole.1.few in omega (arith, many, few)

-- the drivers that came back were taken apart
pub closed_end : {K : Type 0} (tells : K → SinkTold) (turned ended : List (Told Garbling)) (left now : List K) → left ≡ [] → turned ≡ reverse ended →
    HandsBack tells (reverse turned) left now → AreClosed (map (λ d. d) ended) (map tells now)
closed_end {K} tells turned ended left now none is h =
    subst (λ (l : List K). AreClosed (map (λ d. d) ended) (map tells l)) (sym (h.whole ∙ ap (λ (l : List K). l ++ h.back) none))
    (subst (λ (l : List (Told Garbling)). AreClosed l (map tells h.back)) (ap reverse is ∙ reverse-reverse ended ∙ sym (same_map ended)) h.closed)

-- no driver made a call
pub none_end : (seed : List ℕ) (garbler : List (List ℕ)) (sinks : List SinkTold) (now : List (Told Garbling)) (sinks' : List SinkTold) → AreClosed now sinks' →
    now ≡ garbler_openings seed 0 garbler sinks → length garbler ≡ length sinks → NoneTook sinks sinks'
none_end seed garbler sinks now sinks' closed is long w sink =
    none_from seed 0 garbler sinks sinks' (subst (λ (l : List (Told Garbling)). AreClosed l sinks') is closed) long w sink.old sink.new sink.old_so sink.new_so

pub tell_none : (before after : List SinkTold) → NoneTook before after → TellStill before after
tell_none before after took w sink tells = ap (λ (o : Option (List ℕ)). is_some o) ((took w sink).taken tells) ∙ tells

-- as many sinks come back as were handed in
pub sinks_count : {K : Type 0} (tells : K → SinkTold) (seed : List ℕ) (values : List (Vec ℕ Global)) (all left now : List K) (drivers : List (Told Garbling)) →
    length values ≡ length all → AreMadeOf tells seed values all left drivers → HandsBack tells drivers left now → length now ≡ length all
sinks_count tells seed values all left now drivers long m h =
    let all_values : length values ≡ length m.unused + length m.used = ap length m.values_are ∙ length-append m.unused m.used in
    let all_sinks : length all ≡ length left + length m.taken = ap length m.sinks ∙ length-append left m.taken in
    let both = m.together in
    let used : length (lists_of m.used) ≡ length m.used = length-map m.used (λ v. v.items) in
    let taken : length (map tells m.taken) ≡ length m.taken = length-map m.taken tells in
    let made : length drivers ≡ length (map tells m.taken) =
    ap length m.made ∙ garbler_openings_count seed (length left) (lists_of m.used) (map tells m.taken) (omega (arith, all_values, all_sinks, both, used, taken, long)) in
    let closed : length (map tells h.back) ≡ length drivers = closed_count drivers (map tells h.back) h.closed in
    let back : length (map tells h.back) ≡ length h.back = length-map h.back tells in
    let whole : length now ≡ length left + length h.back = ap length h.whole ∙ length-append left h.back in
    omega (arith, all_sinks, taken, made, closed, back, whole)

module _ (parts : List WorkerPart) (seed : List ℕ) (garbler : List (List ℕ)) (sinks : List SinkTold) (drivers now : List (Told Garbling)) (sinks' : List SinkTold)
    (before after : List (List StoreTold)) (made : drivers ≡ garbler_openings seed 0 garbler sinks) (long_g : length garbler ≡ length parts)
    (long_s : length sinks ≡ length parts) (counted : length drivers ≡ length parts) (kept : length now ≡ length parts) (closed : AreClosed now sinks')
    (b : Ones before (length parts)) (a : Ones after (length parts)) where
  pub garble_stops : (found : Option RunFault) → ComesTo (starts_of parts drivers before) now after found →
      ((w : ℕ) (damage : Damage) → found ≡ Some (fault.Damaged w damage) → IfSome (slice_get (starts_of parts drivers before) w) (λ start. start.store.pages ≡ None)) →
      IfSome found (GarbleStops parts before after sinks sinks')
  garble_stops None came untold = tt
  garble_stops (Some (fault.Store w)) came untold = broken_ones parts drivers now before after counted kept b a w came
  garble_stops (Some (fault.Driver w f)) came untold =
      stopped_end parts seed garbler sinks drivers now sinks' before after made long_g long_s kept closed b a w f came
  garble_stops (Some (fault.Damaged w damage)) came untold = damaged_ones parts drivers now before after counted kept b a w damage came (untold w damage refl)
  garble_stops (Some fault.Memory) came untold = tt

  -- no store stops a run whose stores suffice
  pub garble_spared : AllSuffice parts before → (found : Option RunFault) → ComesTo (starts_of parts drivers before) now after found →
      ((w : ℕ) (damage : Damage) → found ≡ Some (fault.Damaged w damage) → IfSome (slice_get (starts_of parts drivers before) w) (λ start. start.store.pages ≡ None)) →
      IsNotOfStore found → IfSome found IsOfNoStore
  garble_spared all None came untold no_store = tt
  garble_spared all (Some (fault.Store w)) came untold no_store = absurd no_store
  garble_spared all (Some (fault.Driver w f)) came untold no_store =
      (stopped_end parts seed garbler sinks drivers now sinks' before after made long_g long_s kept closed b a w f came).0
  garble_spared all (Some (fault.Damaged w damage)) came untold no_store =
      absurd (undamaged parts drivers now before after counted kept b a all w damage came (untold w damage refl))
  garble_spared all (Some fault.Memory) came untold no_store = tt

-- what holds where an answer isn't an error
pub ok_all : (P : Type 0) {T E : Type 0} (r : Result T E) → OnOk r P → {b : Bool} → b ≡ is_err r → b ≡ false → P
ok_all P (Ok x) h e f = h
ok_all P (Err x) h e f = absurd (let never : true ≡ false = sym e ∙ f in cc)
