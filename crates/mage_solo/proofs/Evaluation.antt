-- A run that evaluates puts out what is decoded.
use Rattle.std.proofs.Common.{◌≡◌, ◌<◌, ◌+◌, ◌++◌, ◌⊎◌, inl, inr, ℕ, zero, suc, List, [], ◌∷◌, length, map, None, Some, slice_get, refl, sym, ap, ◌∙◌, subst, take_all, arith}
use Rattle.std.proofs.lemmas.List.{length-map}
use Rattle.std.proofs.lemmas.List.Elements.{All-cons}
use Rattle.std.specs.Prelude.{IsTrue}
use Rattle.std.specs.List.{All}
use Rattle.mage_base.specs.Source.{SourceTold}
use Rattle.mage_base.specs.Store.{StoreTold}
use Rattle.mage_instr.specs.declared.fault.DriverFault.{DriverFault}
use Rattle.mage_instr.specs.declared.fault.DriverFault.TheVariants as broken
use Rattle.mage_instr.specs.declared.directive.MemProgram.{MemProgram}
use Rattle.mage_directives.specs.Directives.{IsMemProgram}
use Rattle.mage_driver.specs.declared.standing.Standing.{Standing}
use Rattle.mage_driver.specs.declared.standing.Standing.TheVariants as standing
use Rattle.mage_driver.specs.Calls.{Told, Call, Finish, NoneIsDue, RoseFor, call_of}
use Rattle.mage_label.specs.declared.labels.Label.{Label}
use Rattle.mage_linked.specs.declared.emitted.Emitted.{Emitted}
use Rattle.mage_linked.specs.Emission.{program_of, emission_of}
use Rattle.mage_linked.specs.Workers.{list_at, below}
use Rattle.mage_network.specs.Workers.{said_in}
use Rattle.mage_relations.specs.Unplaced.{starting_in, run_of, calls_of}
use Rattle.mage_verify.specs.Faults.{fault_of}
use Rattle.mage_verify.specs.Parts.{WorkerPart, parts_of}
use Rattle.mage_streams.specs.Streams.{decoded_outputs}
use Rattle.mage_eval.specs.Rule.{Evaluating, FailsAtItsSource, evaluating_from, eval_rules}
use Rattle.mage_eval.specs.Reading.{tells_left}
use Rattle.mage_eval.specs.Lawful.{evaluating_is_lawful}
use Rattle.mage_plain_runs.specs.Plainly.{outputs_in}
use Rattle.mage_linked.proofs.EmissionLemmas.{emission_of-program_of}
use Rattle.mage_linked.proofs.LinkedLemmas.{AreLinked-below}
use Rattle.mage_carried.specs.Laws.{CanRun, Carries, RunsAsUnplaced}
use Rattle.mage_carried.proofs.Starting.{at_below, below_long, map_long, carried_so}
use Rattle.mage_carried.proofs.Carried.{carried_runs}
use Rattle.mage_carried.proofs.Wired.{makes_wires}
use Rattle.mage_garbled_runs.specs.Runs.{AreWhole}
use Rattle.mage_garbled_runs.proofs.Garbled.{carried_decodes, evaluator_gives_wires, labels_whole, whole_test}
use Rattle.mage_steps.specs.Core.{joint_after}
use Rattle.mage_verified_runs.specs.Turns.{verified_turns}
use Rattle.mage_core.specs.Answered.{AreStates, AreTold}
use Rattle.mage_core.specs.Going.{Start}
use Rattle.mage_core.specs.Begun.{BeginsJoint}
use Rattle.mage_core.specs.Joined.{RunsJoint, WasDeceived}
use Rattle.mage_core.specs.Results.{starts_of, Back, ComesTo}
use Rattle.mage_core.specs.declared.fault.RunFault.TheVariants as fault
use Rattle.mage_solo.specs.Stores.{WereDeceived}
use Rattle.mage_solo.specs.Plain.{outputs_done}
use Rattle.mage_solo.specs.Evaluating.{NoneFailed, FailedFor, HasStopped, AreClosed, evaluator_opening, evaluator_openings, evaluators_of, source_at, stream_at, rooms_of, no_source, AllTellLeft, IsForItsStream, evaluator_at_end, stream_fault, decoded_by, outputs_of}
use Rattle.mage_solo.proofs.Lists.{same_some, if_found, if_each, map_get, found_below, found_beside, get_within, index_found, list_found, same_lists, ones_of}
use Rattle.mage_solo.proofs.Workers.{start_at, at_start, at_store, deceived_so}
use Rattle.mage_solo.proofs.Rooms.{rooms_same, own_at}
use Rattle.mage_solo.proofs.Agreeing.{joint_agrees}
use Rattle.mage_solo.proofs.Plainly.{part_does, parts_count}
use Rattle.mage_solo.proofs.Decoded.{decoded_few}
use Rattle.mage_solo.proofs.Drawing.{closed_faults, closed_at}
use Rattle.mage_solo.proofs.Sticking.{AllStick, all_stick, stick_first, stick_behind, stopped_for, last_passed}

-- ---- the drivers at first

pub evaluator_openings_count : (k : ℕ) (parts : List WorkerPart) (labels : List (List Label)) (sources : List SourceTold) → length labels ≡ length parts →
    length sources ≡ length parts → length (evaluator_openings k parts labels sources) ≡ length parts
evaluator_openings_count k [] ls ss long also = refl
evaluator_openings_count k (p ∷ ps) [] ss long also = absurd (omega (arith, long))
evaluator_openings_count k (p ∷ ps) (l ∷ ls) [] long also = absurd (omega (arith, also))
evaluator_openings_count k (p ∷ ps) (l ∷ ls) (s ∷ ss) long also =
    ap suc (evaluator_openings_count (k + 1) ps ls ss (omega (arith, long)) (omega (arith, also)))

-- the driver of a worker at first
opening_at : (k : ℕ) (parts : List WorkerPart) (labels : List (List Label)) (sources : List SourceTold) (w : ℕ) (part : WorkerPart) (driver : Told Evaluating) →
    slice_get parts w ≡ Some part → slice_get (evaluator_openings k parts labels sources) w ≡ Some driver →
    driver ≡ evaluator_opening (k + w) part (list_at labels w) (source_at sources w)
opening_at k [] ls ss zero part driver p d = absurd cc
opening_at k [] ls ss (suc w) part driver p d = absurd cc
opening_at k (x ∷ ps) [] ss zero part driver p d = absurd cc
opening_at k (x ∷ ps) [] ss (suc w) part driver p d = absurd cc
opening_at k (x ∷ ps) (l ∷ ls) [] zero part driver p d = absurd cc
opening_at k (x ∷ ps) (l ∷ ls) [] (suc w) part driver p d = absurd cc
opening_at k (x ∷ ps) (l ∷ ls) (s ∷ ss) zero part driver p d =
    let number : k ≡ k + 0 = omega arith in
    sym (same_some (evaluator_opening k x l s) driver d) ∙ ap (λ (q : WorkerPart). evaluator_opening k q l s) (same_some x part p)
    ∙ ap (λ (n : ℕ). evaluator_opening n part l s) number
opening_at k (x ∷ ps) (l ∷ ls) (s ∷ ss) (suc w) part driver p d =
    let number : (k + 1) + w ≡ k + suc w = omega arith in
    opening_at (k + 1) ps ls ss w part driver p d ∙ ap (λ (n : ℕ). evaluator_opening n part (list_at ls w) (source_at ss w)) number

pub all_run : (k : ℕ) (parts : List WorkerPart) (labels : List (List Label)) (sources : List SourceTold) →
    All (λ (driver : Told Evaluating). driver.standing ≡ standing.Running) (evaluator_openings k parts labels sources)
all_run k [] ls ss = λ i d h. absurd (omega (arith, h))
all_run k (p ∷ ps) [] ss = λ i d h. absurd (omega (arith, h))
all_run k (p ∷ ps) (l ∷ ls) [] = λ i d h. absurd (omega (arith, h))
all_run k (p ∷ ps) (l ∷ ls) (s ∷ ss) =
    All-cons (λ (driver : Told Evaluating). driver.standing ≡ standing.Running) (evaluator_opening k p l s) (evaluator_openings (k + 1) ps ls ss) refl (all_run (k + 1) ps ls ss)

-- ---- the run

pub decoded_count : (count : ℕ) (f : ℕ → List ℕ) → length (map f (below count)) ≡ count
decoded_count count f = map_long f (below count) ∙ below_long count

pub decoded_at : (count : ℕ) (f : ℕ → List ℕ) (w : ℕ) → w < count → list_at (map f (below count)) w ≡ f w
decoded_at count f w within =
    let found = found_below (map f (below count)) w (subst (λ n. w < n) (sym (decoded_count count f)) within) in
    list_found (map f (below count)) w found.0 found.1 ∙ sym (index_found (map f (below count)) w found.0 [] found.1) ∙ at_below f count w [] within

failed_for : (f : DriverFault) (old new : SourceTold) → RoseFor f old.faults new.faults → FailsAtItsSource new.steady (standing.Failed f) → FailedFor f old new
failed_for broken.Source old new rose failed = (rose.0, rose.1, failed)
failed_for broken.Sink old new rose failed = absurd failed
failed_for (broken.Short at) old new rose failed = rose
failed_for (broken.Long at) old new rose failed = rose
failed_for (broken.Colour at) old new rose failed = rose

module _ (parts : List WorkerPart) (labels : List (List Label)) (sources : List SourceTold) (before : List StoreTold) where
  abbrev openings : List (Told Evaluating)
  openings = evaluator_openings 0 parts labels sources

  abbrev these : List (Start Evaluating)
  these = starts_of parts openings (ones_of before)

  opened : (w : ℕ) (start : Start Evaluating) → slice_get these w ≡ Some start →
      start.driver ≡ evaluator_opening w start.part (list_at labels w) (source_at sources w)
  opened w start e =
      let at = start_at parts openings before w start e in
      let number : 0 + w ≡ w = omega arith in
      opening_at 0 parts labels sources w start.part start.driver at.part at.driver
      ∙ ap (λ (n : ℕ). evaluator_opening n start.part (list_at labels w) (source_at sources w)) number

  module _ (long_l : length labels ≡ length parts) (long_s : length sources ≡ length parts) where
    counted : length openings ≡ length parts
    counted = evaluator_openings_count 0 parts labels sources long_l long_s

    pub are_told : AllTellLeft sources → AreTold these
    are_told all w = if_each (λ (start : Start Evaluating). IsTrue start.driver.told) (slice_get these w) (λ start e.
        let at = start_at parts openings before w start e in
        let source = found_beside parts sources w start.part long_s at.part in
        let tells = if_found (λ (s : SourceTold). IsTrue (tells_left s)) (slice_get sources w) source.0 source.1 (all w) in
        ap (λ (d : Told Evaluating). d.told) (opened w start e)
        ∙ ap tells_left (index_found sources w source.0 no_source source.1) ∙ tells)

    module _ (now : List (Told Evaluating)) (after : List StoreTold) (kept : length now ≡ length parts) (long_b : length before ≡ length parts)
        (long_a : length after ≡ length parts) where
      -- a worker of the run
      pub record Here (w : ℕ) : Type 0 where
        pub back : Back these now (ones_of after) w
        pub opens : back.start.driver ≡ evaluator_opening w back.start.part (list_at labels w) (source_at sources w)

      pub here : (w : ℕ) → w < length parts → Here w
      here w within =
          let part = found_below parts w within in
          let driver = found_below openings w (let n = counted in omega (arith, n, within)) in
          let store = found_below before w (omega (arith, long_b, within)) in
          let end = found_below now w (omega (arith, kept, within)) in
          let last = found_below after w (omega (arith, long_a, within)) in
          let starts_so : slice_get these w ≡ Some (record { part = part.0; driver = driver.0; store = store.0 }) =
          at_start parts openings before w part.0 driver.0 store.0 part.1 driver.1 store.1 in record {
            back = record {
              start = record { part = part.0; driver = driver.0; store = store.0 };
              driver = end.0;
              store = last.0;
              starts_so = starts_so;
              driver_so = end.1;
              store_so = at_store after w last.0 last.1;
            };
            opens = opened w (record { part = part.0; driver = driver.0; store = store.0 }) starts_so;
          }

      module _ (sources' : List SourceTold) (closed : AreClosed now sources') where
        -- the driver of a worker that stopped
        pub stopped_so : (w : ℕ) (f : DriverFault) → ComesTo these now (ones_of after) (Some (fault.Driver w f)) → HasStopped sources sources' w f
        stopped_so w f came =
            let back = came.0 in
            let at = start_at parts openings before w back.start back.starts_so in
            let old = found_beside parts sources w back.start.part long_s at.part in
            let new = closed_at now sources' w back.driver closed back.driver_so in
            let was : back.start.driver.faults ≡ old.0.faults =
            ap (λ (d : Told Evaluating). d.faults) (opened w back.start back.starts_so)
            ∙ ap (λ (s : SourceTold). s.faults) (index_found sources w old.0 no_source old.1) in
            let rose : RoseFor f old.0.faults new.0.faults =
            subst (λ (n : ℕ). RoseFor f n new.0.faults) was (subst (λ (n : ℕ). RoseFor f back.start.driver.faults n) new.2.faults came.1.1) in
            let failed : FailsAtItsSource new.0.steady (standing.Failed f) =
            subst (λ (s : Standing). FailsAtItsSource new.0.steady s) came.1.0 new.2.failed in (
              record { old = old.0; new = new.0; old_so = old.1; new_so = new.1 },
              failed_for f old.0 new.0 rose failed,
            )

        -- without a fault no source failed
        pub unfailed_so : ComesTo these now (ones_of after) None → NoneFailed sources sources'
        unfailed_so done w source =
            let at = here w (subst (λ n. w < n) long_s (get_within sources w source.old source.old_so)) in
            let is_done = done w at.back in
            let end = map_get (λ (d : Told Evaluating). d.faults) now w at.back.driver at.back.driver_so in
            let told = map_get (λ (s : SourceTold). s.faults) sources' w source.new source.new_so in
            same_some source.new.faults at.back.driver.faults (sym told ∙ ap (λ (l : List ℕ). slice_get l w) (closed_faults now sources' closed) ∙ end)
            ∙ is_done.driver_faults
            ∙ ap (λ (d : Told Evaluating). d.faults) at.opens
            ∙ ap (λ (s : SourceTold). s.faults) (index_found sources w source.old no_source source.old_so)

-- ---- the program

module _ (parts : List WorkerPart) (labels : List (List Label)) (sources : List SourceTold) (now : List (Told Evaluating)) (before after : List StoreTold)
    (count : ℕ) (emitted : List Emitted) (plan : MemProgram) (fine : IsMemProgram plan) (is : parts ≡ parts_of plan) (none : fault_of plan ≡ None)
    (carried : Carries count emitted plan) (can : CanRun count emitted) (whole : (w : ℕ) → AreWhole (list_at labels w)) where
  abbrev its : List (Start Evaluating)
  its = starts_of parts (evaluator_openings 0 parts labels sources) (ones_of before)

  abbrev states : ℕ → Evaluating
  states = evaluators_of (program_of count emitted) labels sources

  pub are_states : AreStates its states
  are_states w = if_each (λ (start : Start Evaluating). states w ≡ start.driver.state) (slice_get its w) (λ start e.
      let at = start_at parts (evaluator_openings 0 parts labels sources) before w start e in
      let does = part_does plan w start.part (subst (λ (ps : List WorkerPart). slice_get ps w ≡ Some start.part) is at.part) in
      ap (λ (n : ℕ). evaluating_from w (list_at labels w) n (source_at sources w)) (rooms_same count emitted plan carried w ∙ ap outputs_done does)
      ∙ sym (ap (λ (d : Told Evaluating). d.state) (opened parts labels sources before w start e)))

  ran : RunsAsUnplaced eval_rules emitted states count plan
  ran = carried_runs eval_rules evaluating_is_lawful labels_whole
      (makes_wires eval_rules evaluating_is_lawful labels_whole evaluator_gives_wires) plan count emitted
      states (λ n. whole_test (list_at labels n) (whole n)) can carried

  -- all calls of a worker's evaluator, but for its end
  abbrev calls_before : (worker : ℕ) → List (Call Evaluating Label)
  calls_before worker = calls_of eval_rules worker (starting_in states) (emission_of (program_of count emitted))

  abbrev last_call : (worker : ℕ) → Call Evaluating Label
  last_call worker = call_of eval_rules (evaluator_at_end (program_of count emitted) labels sources worker) Finish

  -- what a worker's evaluator was asked in the joint run
  asked : (w : ℕ) → w < count →
      said_in (joint_after eval_rules plan states (verified_turns plan.workers) w).past ≡ calls_before w ++ last_call w ∷ []
  asked w within =
      ap (λ worker. said_in worker.past) (sym (joint_agrees eval_rules plan states fine none ran.turns w (ran.ends w)))
      ∙ (ran.did w within).calls
      ∙ ap (λ (es : List Emitted). calls_of eval_rules w (starting_in states) es
      ++ call_of eval_rules ((run_of eval_rules (starting_in states) es).states w) Finish ∷ [])
      (sym (emission_of-program_of count emitted (AreLinked-below count emitted can.linked)))

  -- what it put out there
  put_out : (w : ℕ) → w < count →
      (joint_after eval_rules plan states (verified_turns plan.workers) w).state.engine.driver.evaluator.outputs
      ≡ decoded_outputs (program_of count emitted) (list_at labels) (stream_at sources) w
  put_out w within =
      let run = carried_decodes count emitted plan (list_at labels) (rooms_of (program_of count emitted)) (source_at sources) whole can carried in
      let few = decoded_few count emitted (list_at labels) (stream_at sources) can w within in
      let own = ap outputs_in (own_at count emitted w within) in
      ap (λ worker. worker.state.engine.driver.evaluator.outputs) (sym (joint_agrees eval_rules plan states fine none run.turns w (run.ends w)))
      ∙ run.outputs w within
      ∙ take_all (rooms_of (program_of count emitted) w) (decoded_outputs (program_of count emitted) (list_at labels) (stream_at sources) w) (omega (arith, few, own))

  module _ (long_l : length labels ≡ length parts) (long_s : length sources ≡ length parts) (kept : length now ≡ length parts)
      (long_b : length before ≡ length parts) (long_a : length after ≡ length parts) where
    workers : length parts ≡ count
    workers = ap length is ∙ parts_count plan ∙ (carried_so count emitted plan carried).workers

    at_worker : (w : ℕ) → w < count → Here parts labels sources before long_l long_s now after kept long_b long_a w
    at_worker w within = here parts labels sources before long_l long_s now after kept long_b long_a w (omega (arith, workers, within))

    pub said_so : RunsJoint eval_rules plan states its now (ones_of after) ⊎ WasDeceived its now (ones_of after) →
        ((outputs_of now ≡ decoded_by (program_of count emitted) labels sources count)
        × ((w : ℕ) → w < count → stream_fault (program_of count emitted) labels sources w ≡ None))
        ⊎ WereDeceived parts (ones_of before) (ones_of after)
    said_so (inr was) = inr (deceived_so parts (evaluator_openings 0 parts labels sources) now before after
        (evaluator_openings_count 0 parts labels sources long_l long_s) kept was)
    said_so (inl joined) = inl (
      same_lists (outputs_of now) (decoded_by (program_of count emitted) labels sources count)
          (long ∙ sym (decoded_count count (decoded_outputs (program_of count emitted) (list_at labels) (stream_at sources))))
          (λ w h. each w (subst (λ n. w < n) long h)),
      λ w within. last_passed (calls_before w) (last_call w)
          (subst (λ (calls : List (Call Evaluating Label)). NoneIsDue eval_rules calls) (asked w within) (joined.passed w (at_worker w within).back)),
    )
      where
        long : length (outputs_of now) ≡ count
        long = length-map now (λ (driver : Told Evaluating). driver.state.evaluator.outputs) ∙ kept ∙ workers

        each : (w : ℕ) → w < count → list_at (outputs_of now) w ≡ list_at (decoded_by (program_of count emitted) labels sources count) w
        each w within =
            let at = at_worker w within in
            list_found (outputs_of now) w at.back.driver.state.evaluator.outputs
            (map_get (λ (d : Told Evaluating). d.state.evaluator.outputs) now w at.back.driver at.back.driver_so)
            ∙ ap (λ (s : Evaluating). s.evaluator.outputs) (joined.stands w at.back)
            ∙ put_out w within
            ∙ sym (decoded_at count (decoded_outputs (program_of count emitted) (list_at labels) (stream_at sources)) w within)

    -- a driver that stopped did so at its source, or for what is wrong with its stream
    stopped_due : (w : ℕ) (f : DriverFault) → w < count → BeginsJoint eval_rules plan states its now (ones_of after) (Some (fault.Driver w f)) →
        IsForItsStream (program_of count emitted) labels sources (fault.Driver w f)
    stopped_due w f within begun =
        let at = at_worker w within in
        let stops = begun.caused w f refl at.back in
        let last = stream_fault (program_of count emitted) labels sources w in
        let all : AllStick (states w).steady last (stops.before ++ (stops.step ++ stops.later)) =
        subst (AllStick (states w).steady last) (sym (asked w within) ∙ stops.are) (all_stick states (emission_of (program_of count emitted)) w) in
        stopped_for (states w).steady last stops.step f at.back.driver.state
        (stick_first (states w).steady last stops.step stops.later (stick_behind (states w).steady last stops.before (stops.step ++ stops.later) all)) stops.stopped

    pub wrong_so : (w : ℕ) (f : DriverFault) → w < count →
        BeginsJoint eval_rules plan states its now (ones_of after) (Some (fault.Driver w f)) ⊎ WasDeceived its now (ones_of after) →
        IsForItsStream (program_of count emitted) labels sources (fault.Driver w f) ⊎ WereDeceived parts (ones_of before) (ones_of after)
    wrong_so w f within (inl begun) = inl (stopped_due w f within begun)
    wrong_so w f within (inr was) = inr (deceived_so parts (evaluator_openings 0 parts labels sources) now before after
        (evaluator_openings_count 0 parts labels sources long_l long_s) kept was)
