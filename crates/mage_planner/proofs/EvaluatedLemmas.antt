-- What an evaluation comes to.
use Rattle.std.proofs.Common.{◌≡◌, ◌≢◌, ◌≤◌, ◌<◌, ◌+◌, ◌++◌, ◌⊎◌, inl, inr, ℕ, zero, suc, List, [], ◌∷◌, length, map, slice_get, IsTrue, IsSome, Option, Some, None, Vec, Result, Ok, Err, refl, sym, ap, ap₂, subst, ◌∙◌, arith}
use Rattle.std.specs.Prelude.{IfErr, IfOk, OnOk}
use Rattle.std.specs.Option.{option_map}
use Rattle.std.specs.declared.alloc.Global.{Global}
use Rattle.std.proofs.lemmas.List.{length-map}
use Rattle.mage_base.specs.declared.failure.Damage.{Damage}
use Rattle.mage_base.specs.Desk.{DeskTold, Files, Returned}
use Rattle.mage_base.specs.Faults.{Rose}
use Rattle.mage_base.specs.Source.{SourceTold}
use Rattle.mage_base.specs.Store.{StoreTold}
use Rattle.mage_instr.specs.declared.directive.MemProgram.{MemProgram}
use Rattle.mage_instr.specs.declared.fault.DriverFault.{DriverFault}
use Rattle.mage_instr.specs.declared.fault.DriverFault.TheVariants as broken
use Rattle.mage_instr.specs.declared.instr.Program.{Program}
use Rattle.mage_label.specs.declared.labels.Label.{Label}
use Rattle.mage_directives.specs.Directives.{IsMemProgram}
use Rattle.mage_linked.specs.declared.emitted.Emitted.{Emitted}
use Rattle.mage_linked.specs.Emission.{own_instrs, program_of}
use Rattle.mage_linked.specs.Workers.{list_at}
use Rattle.mage_linked.proofs.WorkerLemmas.{length-map_below}
use Rattle.mage_texts.specs.Lists.{lists_of}
use Rattle.mage_texts.specs.OutputText.{text_of}
use Rattle.mage_verify.specs.Parts.{WorkerPart, parts_of}
use Rattle.mage_verify.proofs.Walked.{directives_of}
use Rattle.mage_carried.specs.Laws.{CanRun, Carries}
use Rattle.mage_garbled_runs.specs.Runs.{AreWhole}
use Rattle.mage_core.specs.declared.fault.RunFault.{RunFault}
use Rattle.mage_core.specs.declared.fault.RunFault.TheVariants as fault
use Rattle.mage_core.specs.Made as made
use Rattle.mage_lending.specs.Names.{worker_file, worker_files}
use Rattle.mage_lending.specs.Sources.{AreSources, NoneHaveFailed, with_source_faults}
use Rattle.mage_lending.specs.Stores.{AreBack, own_stores, told_on}
use Rattle.mage_solo.specs.Evaluating.{AllSteady, AllTellLeft, Drawn, EvalStops, IsForItsStream, NoneFailed, decoded_by, labels_in, stream_at, stream_fault}
use Rattle.mage_solo.specs.Stores as solo
use Rattle.mage_solo.specs.Stores.{AllSuffice, AreMoved, HaveGrown}
use Rattle.mage_source_runs.specs.Moves.{Moves}
use Rattle.mage_source_runs.specs.Runs.{RunsSource}
use Rattle.mage_source_runs.proofs.Running.{sources_can_be_run}
use Rattle.mage_planner.specs.declared.refusal.Refusal.{Refusal}
use Rattle.mage_planner.specs.declared.refusal.Refusal.TheVariants as refusal
use Rattle.mage_planner.specs.declared.refusal.StreamFault.{StreamFault}
use Rattle.mage_planner.specs.declared.refusal.StreamFault.TheVariants as stream
use Rattle.mage_planner.specs.declared.work.Evaluating.{Evaluating}
use Rattle.mage_planner.specs.Evaluated.{source_with, fault_with, decoded_with}
use Rattle.mage_planner.specs.Outcome.{Done, Reading, stops_at, stream_refusal, streams_held}
use Rattle.mage_planner.specs.Found.{File, Held, whole_file}
use Rattle.mage_planner.specs.Stores.{GivesBack, HaveMoved, IsRight, WereDeceived}
use Rattle.mage_planner.specs.Answer.{Ceases, Closes, IsWrong, NothingIsWrong, ReadsThese, StoresAreSound, StreamsBegin}
use Rattle.mage_planner.specs.Writing.{Interrupts}
use Rattle.mage_planner.specs.Work.{CanBeEvaluated, IsEvaluationOf}
use Rattle.mage_planner.specs.EvalRan.{EvaluatedSo, HasStreams, IsUnstopped}
use Rattle.mage_planner.specs.Ran.{Ran}
use Rattle.mage_planner.proofs.BegunLemmas.{nothing_begun}
use Rattle.mage_planner.proofs.PerformLemmas.{back_faults, back_files}
use Rattle.mage_planner.proofs.RanLemmas.{moves_from, some_parts}
use Rattle.mage_planner.proofs.HaltedLemmas.{none_breaks}
use Rattle.mage_planner.proofs.RunLemmas.{moves_of_parts, counts, given, as_many, has_broken, has_damaged, were_deceived, rose, broken_inside, damaged_inside, all_moved, all_suffice, sound_back, sound_used, sound_unused}
use Rattle.mage_planner.proofs.StreamFaultLemmas.{all_steady, all_tell, are_held, decoded_same, fault_same, fresh_at, none_have, sources_count, sources_raise, streams_same}
use Rattle.mage_planner.proofs.WritingLemmas.{none_stays}

-- ---- stores that are back while streams are still open

module _ (evaluating : Evaluating) (before opened back : DeskTold) (fresh shelves : List (List StoreTold)) (names : List (List ℕ)) (sources : List SourceTold)
    (has : HasStreams before evaluating fresh names sources opened) (shape : counts shelves ≡ counts fresh) (grown : HaveGrown evaluating.parts.items fresh shelves)
    (back_so : AreBack before.lent opened back shelves)
  where
    stores_back : AreBack before.lent before back shelves
    stores_back =
        let b : AreBack before.lent (record before { lent = before.lent ++ own_stores 0 (length evaluating.parts.items) }) back shelves =
        subst (λ (desk : DeskTold). AreBack before.lent desk back shelves) has.lent.rest back_so in
        record { lent = b.lent; rest = b.rest }

    stores_given : GivesBack shelves before back
    stores_given = given 16 before back evaluating.parts.items fresh shelves has.lent.stores shape grown stores_back

    pub evaluating_suffice : CanBeEvaluated evaluating → IsTrue before.steady → IsTrue before.stores_tell_pages → AllSuffice evaluating.parts.items fresh
    evaluating_suffice can steady tells = all_suffice 16 before back evaluating.parts.items fresh shelves has.lent.stores shape grown stores_back can.verified steady tells

    -- no store failed of a run that neither a store nor a stream stopped
    pub evaluating_sound : (after : DeskTold) (outcome : Result (Vec (Vec ℕ Global) Global) RunFault) → after.returned ≡ back.returned
        → OnOk outcome (AreMoved evaluating.parts.items fresh shelves) → IfErr outcome (λ f. f ≡ fault.Memory → shelves ≡ fresh)
        → IsUnstopped outcome → StoresAreSound before after
    evaluating_sound after outcome same moved memory unstopped worker =
        subst (λ (returned : ℕ → Returned). (returned worker).faults ≤ (before.returned worker).faults) (sym same) (go outcome moved memory unstopped)
      where
        go : (outcome : Result (Vec (Vec ℕ Global) Global) RunFault) → OnOk outcome (AreMoved evaluating.parts.items fresh shelves)
            → IfErr outcome (λ f. f ≡ fault.Memory → shelves ≡ fresh) → IsUnstopped outcome → (back.returned worker).faults ≤ (before.returned worker).faults
        go (Ok outputs) moved memory unstopped =
            sound_back 16 before back evaluating.parts.items fresh shelves has.lent.stores shape grown stores_back
            (sound_used 16 before back evaluating.parts.items fresh shelves has.lent.stores shape grown stores_back moved) worker
        go (Err (fault.Store w)) moved memory unstopped = absurd unstopped
        go (Err (fault.Damaged w damage)) moved memory unstopped = absurd unstopped
        go (Err (fault.Driver w f)) moved memory unstopped = absurd unstopped
        go (Err fault.Memory) moved memory unstopped =
            sound_back 16 before back evaluating.parts.items fresh shelves has.lent.stores shape grown stores_back
            (sound_unused 16 before back evaluating.parts.items fresh shelves has.lent.stores shape grown stores_back (memory refl)) worker

-- ---- what an evaluation is to do

module _ (evaluating : Evaluating) (done : Done) (is : IsEvaluationOf evaluating done) where
  source : RunsSource is.loaded is.plan
  source = sources_can_be_run is.limits is.text is.loaded is.plan is.in_range is.loads is.planned

  evaluated_moves : done.moves ≡ moves_of_parts evaluating.parts.items
  evaluated_moves =
      ap (λ (d : Done). d.moves) is.is ∙ sym (moves_from is.plan.limits is.plan.stores 0 is.plan.workers) ∙ ap moves_of_parts (sym is.parts)

  pub evaluated_count : length done.moves ≡ length evaluating.parts.items
  evaluated_count = ap (λ (moves : List Moves). length moves) evaluated_moves ∙ length-map evaluating.parts.items _

  pub some_evaluated_moves : CanBeEvaluated evaluating → done.moves ≢ []
  some_evaluated_moves can none =
      let many = ap (λ (moves : List Moves). length moves) none in
      let some = some_parts evaluating.parts.items can.verified in
      absurd (omega (arith, many, evaluated_count, some))

  pub nothing_evaluated : done.streams ++ done.files ≡ []
  nothing_evaluated = ap (λ (d : Done). d.streams ++ d.files) is.is

  workers_count : length is.loaded.program.workers ≡ source.count
  workers_count = ap (λ (p : Program). length p.workers) (sym source.program_is) ∙ length-map_below (own_instrs source.emitted) source.count

  parts_count : length evaluating.parts.items ≡ length is.loaded.program.workers
  parts_count =
      ap (λ (parts : List WorkerPart). length parts) is.parts ∙ sym (length-map (parts_of is.plan) (λ part. part.directives))
      ∙ ap length (directives_of is.plan) ∙ source.many ∙ sym workers_count

  -- each worker's labels, and its stream
  abbrev pub labels : List (List Label)
  labels = labels_in evaluating.labels.items

  abbrev pub held : List (List ℕ)
  held = streams_held is.streams 0 (length is.loaded.program.workers)

  abbrev pub reading : Reading
  reading = record {
    stem = evaluating.stream.now;
    files = is.streams;
    wrong = λ worker. stops_at worker (is.streams worker) (fault_with is.loaded.program labels held worker);
  }

  reads_are : done.reads ≡ Some reading
  reads_are = ap (λ (d : Done). d.reads) is.is

  said_is : done.said ≡ text_of (decoded_with is.loaded.program labels held)
  said_is = ap (λ (d : Done). d.said) is.is

  -- ---- where the desk's own streams are read

  record Own (before : DeskTold) : Type 0 where
    told : Files
    files : before.files ≡ Some told
    same : (worker : ℕ) → is.streams worker ≡ whole_file (told (worker_file evaluating.stream.now worker))

  own_reads : (before : DeskTold) → ReadsThese before.files done.reads → Own before
  own_reads before own = go before.files refl (subst (λ (r : Option Reading). ReadsThese before.files r) reads_are own) where
    go : (files : Option Files) → before.files ≡ files → ReadsThese files (Some reading) → Own before
    go None is_so there = absurd there
    go (Some told) is_so there = record { told = told; files = is_so; same = there }

  -- each stream is there that nothing is wrong with
  pub streams_there : (before : DeskTold) (told : Files) → before.files ≡ Some told → ReadsThese before.files done.reads → NothingIsWrong (length done.moves) done.reads
      → (worker : ℕ) → worker < length evaluating.parts.items → IsSome (told (worker_file evaluating.stream.now worker))
  streams_there before told files own right worker inside =
      let at : worker < length done.moves = omega (arith, inside, evaluated_count) in
      found (told (worker_file evaluating.stream.now worker)) (fault_with is.loaded.program labels held worker)
      (ap (λ (file : File). stops_at worker file (fault_with is.loaded.program labels held worker)) (sym (theirs worker)) ∙ none worker at)
    where
      theirs : (w : ℕ) → is.streams w ≡ whole_file (told (worker_file evaluating.stream.now w))
      theirs = subst (λ (f : Option Files). ReadsThese f (Some reading)) files (subst (λ (r : Option Reading). ReadsThese before.files r) reads_are own)

      none : (w : ℕ) → w < length done.moves → reading.wrong w ≡ None
      none = subst (NothingIsWrong (length done.moves)) reads_are right

      found : (file : Option (List ℕ)) (f : Option DriverFault) → stops_at worker (whole_file file) f ≡ None → IsSome file
      found None f e = absurd (cc)
      found (Some bytes) f e = refl

  module _ (before : DeskTold) (sources : List SourceTold) (handed : AreSources before (worker_files evaluating.stream.now 0 (length evaluating.parts.items)) sources)
      (own : Own before)
    where
      handed_all : AreSources before (worker_files evaluating.stream.now 0 (length is.loaded.program.workers)) sources
      handed_all = subst (λ (n : ℕ). AreSources before (worker_files evaluating.stream.now 0 n) sources) parts_count handed

      tell : AllTellLeft sources
      tell = all_tell before own.told own.files evaluating.stream.now is.streams own.same 0 (length is.loaded.program.workers) sources handed_all

      same_left : (w : ℕ) → stream_at sources w ≡ stream_at (map source_with held) w
      same_left = streams_same before own.told own.files evaluating.stream.now is.streams own.same 0 (length is.loaded.program.workers) sources handed_all

      decoded : decoded_by (program_of source.count source.emitted) labels sources source.count ≡ decoded_with is.loaded.program labels held
      decoded =
          ap (λ (p : Program). decoded_by p labels sources source.count) source.program_is
          ∙ decoded_same is.loaded.program labels sources (map source_with held) same_left source.count
          ∙ ap (λ (n : ℕ). decoded_by is.loaded.program labels (map source_with held) n) (sym workers_count)

      -- a worker's stream is there
      there : (w : ℕ) → w < length evaluating.parts.items → (bytes : List ℕ) × (is.streams w ≡ Held bytes)
      there w inside =
          let at : 0 + w ≡ w = omega arith in
          let one = are_held before own.told own.files evaluating.stream.now is.streams own.same 0 (length evaluating.parts.items) sources handed w inside in
          (one.0, subst (λ (n : ℕ). is.streams n ≡ Held one.0) at one.1)

      -- its fault is the same
      fault_is : (w : ℕ) → stream_fault (program_of source.count source.emitted) labels sources w ≡ fault_with is.loaded.program labels held w
      fault_is w =
          ap (λ (p : Program). stream_fault p labels sources w) source.program_is ∙ fault_same is.loaded.program labels sources (map source_with held) same_left w

      -- and is what is wrong with it
      wrong_is : (w : ℕ) → w < length evaluating.parts.items → (found : Option DriverFault) → stream_fault (program_of source.count source.emitted) labels sources w ≡ found
          → reading.wrong w ≡ option_map (stream_refusal w) found
      wrong_is w inside found e =
          let one = there w inside in
          ap₂ (λ (file : File) (f : Option DriverFault). stops_at w file f) one.1 (sym (fault_is w) ∙ e)

      -- nothing is wrong with a stream where that is none
      right_is : (w : ℕ) → w < length evaluating.parts.items → reading.wrong w ≡ None → stream_fault (program_of source.count source.emitted) labels sources w ≡ None
      right_is w inside none =
          let one = there w inside in
          fault_is w ∙ no_fault (fault_with is.loaded.program labels held w)
          (sym (ap (λ (file : File). stops_at w file (fault_with is.loaded.program labels held w)) one.1) ∙ none)
        where
          no_fault : (f : Option DriverFault) → option_map (stream_refusal w) f ≡ None → f ≡ None
          no_fault None e = refl
          no_fault (Some f) e = absurd (cc)

  -- ---- a run over streams that were just opened

  module _ (can : CanBeEvaluated evaluating) (before opened back after : DeskTold) (fresh shelves : List (List StoreTold)) (names : List (List ℕ)) (sources others : List SourceTold)
      (has : HasStreams before evaluating fresh names sources opened) (shape : counts shelves ≡ counts fresh) (grown : HaveGrown evaluating.parts.items fresh shelves)
      (back_so : AreBack before.lent opened back shelves) (long : length others ≡ length sources)
      (closed : after ≡ record back { faults = with_source_faults back.faults others }) (rises : back.faults ≤ after.faults)
      (quiet : NoneHaveFailed others → after.faults ≡ back.faults)
    where
      abbrev parts : List WorkerPart
      parts = evaluating.parts.items

      back_is : AreBack before.lent before back shelves
      back_is = stores_back evaluating before opened back fresh shelves names sources has shape grown back_so

      gives : GivesBack shelves before back
      gives = stores_given evaluating before opened back fresh shelves names sources has shape grown back_so

      few : length shelves ≤ length done.moves
      few = let many = as_many 16 before back parts fresh shelves has.lent.stores shape grown back_is in omega (arith, many, evaluated_count)

      rest_so : after ≡ record back { faults = after.faults }
      rest_so = closed ∙ ap (λ (n : ℕ). record back { faults = n }) (sym (ap (λ (desk : DeskTold). desk.faults) closed))

      begun : StreamsBegin (Ok done) before shelves after
      begun = nothing_begun (Ok done) before after shelves (ap (λ (desk : DeskTold). desk.files) rest_so ∙ back_files shelves before back gives)

      ceases : Ceases (done.streams ++ done.files) back back
      ceases = record { files = none_stays (done.streams ++ done.files) back.files; rest = refl }

      closes : Closes done.streams done.reads back after
      closes = record { rises = rises; calm = λ none unread. let some = reads_are in absurd (cc); rest = rest_so }

      -- the worker of a source is one of the program's
      drawn_inside : (w : ℕ) → Drawn sources others w → w < length parts
      drawn_inside w drawn =
          let inside = found_inside sources w drawn.old drawn.old_so in
          let many = sources_count before evaluating.stream.now 0 (length parts) sources has.handed in
          omega (arith, inside, many)
        where
          found_inside : (xs : List SourceTold) (v : ℕ) (x : SourceTold) → slice_get xs v ≡ Some x → v < length xs
          found_inside [] zero x e = absurd (cc)
          found_inside [] (suc v) x e = absurd (cc)
          found_inside (y ∷ xs) zero x e = omega arith
          found_inside (y ∷ xs) (suc v) x e = let rest = found_inside xs v x e in omega (arith, rest)

      -- ---- what is known of such a run

      abbrev pub IsDecoded : Result (Vec (Vec ℕ Global) Global) RunFault → Type 0
      IsDecoded outcome = (plan : MemProgram) (count : ℕ) (emitted : List Emitted) → IsMemProgram plan → parts ≡ parts_of plan → Carries count emitted plan → CanRun count emitted
          → AllTellLeft sources → ((w : ℕ) → AreWhole (list_at labels w))
          → IfOk outcome (λ outputs. ((lists_of outputs.items ≡ decoded_by (program_of count emitted) labels sources count)
          × ((w : ℕ) → w < count → stream_fault (program_of count emitted) labels sources w ≡ None)) ⊎ solo.WereDeceived parts fresh shelves)

      abbrev pub IsForStreams : Result (Vec (Vec ℕ Global) Global) RunFault → Type 0
      IsForStreams outcome = (plan : MemProgram) (count : ℕ) (emitted : List Emitted) → IsMemProgram plan → parts ≡ parts_of plan → Carries count emitted plan → CanRun count emitted
          → AllTellLeft sources → ((w : ℕ) → AreWhole (list_at labels w))
          → IfErr outcome (λ f. IsForItsStream (program_of count emitted) labels sources f ⊎ solo.WereDeceived parts fresh shelves)

      abbrev pub RunsThrough : Result (Vec (Vec ℕ Global) Global) RunFault → Type 0
      RunsThrough outcome = (plan : MemProgram) (count : ℕ) (emitted : List Emitted) → IsMemProgram plan → parts ≡ parts_of plan → Carries count emitted plan → CanRun count emitted
          → AllTellLeft sources → ((w : ℕ) → AreWhole (list_at labels w)) → AllSuffice parts fresh → AllSteady sources
          → ((w : ℕ) → w < count → stream_fault (program_of count emitted) labels sources w ≡ None) → IfErr outcome (λ f. f ≡ fault.Memory)

      -- ---- it was stopped

      fails_so : Rose back.faults after.faults → Interrupts done refusal.Desk before after
      fails_so risen = record {
        shelves = shelves;
        between = back;
        returns = record { few = few; given = gives };
        text = done.said;
        right = λ own. inl refl;
        breaks = none_breaks back after rest_so done.said (done.streams ++ done.files) rises risen;
        fronts = begun;
      }

      stops_so : Interrupts done refusal.Memory before after
      stops_so = record {
        shelves = shelves;
        between = back;
        returns = record { few = few; given = gives };
        stopped = back;
        ceases = ceases;
        closes = closes;
        fronts = begun;
      }

      breaks_so : (w : ℕ) → solo.HasBroken parts fresh shelves w → Interrupts done (refusal.Store w) before after
      breaks_so w broken_so =
          let found = has_broken 16 before back parts fresh shelves has.lent.stores shape grown back_is w broken_so in
          let inside = broken_inside 16 before back parts fresh shelves has.lent.stores shape grown back_is w found in (
            omega (arith, inside, evaluated_count),
            record {
              shelves = shelves;
              between = back;
              returns = record { few = few; given = gives };
              broken = found;
              rose = subst (λ (returned : ℕ → Returned). Rose (before.returned w).faults (returned w).faults) (sym (ap (λ (desk : DeskTold). desk.returned) rest_so))
                  (rose 16 before back parts fresh shelves has.lent.stores shape grown back_is w found);
              stopped = back;
              ceases = ceases;
              closes = closes;
              fronts = begun;
            },
          )

      damages_so : (w : ℕ) (damage : Damage) → solo.HasDamaged parts fresh shelves w damage → Interrupts done (refusal.Damaged w damage) before after
      damages_so w damage damaged =
          let found = has_damaged 16 before back parts fresh shelves has.lent.stores shape grown back_is w damage damaged in
          let inside = damaged_inside 16 before back parts fresh shelves has.lent.stores shape grown back_is w damage found in (
            omega (arith, inside, evaluated_count),
            record {
              shelves = shelves;
              between = back;
              returns = record { few = few; given = gives };
              damaged = found;
              stopped = back;
              ceases = ceases;
              closes = closes;
              fronts = begun;
            },
          )

      -- its stream stopped it, and nothing else
      misreads_so : (w : ℕ) (f : DriverFault) (wrong : StreamFault) → stream_refusal w f ≡ refusal.Stream w wrong → (f ≡ broken.Source → ⊥) → Drawn sources others w
          → IsForStreams (Err (fault.Driver w f)) → Interrupts done (refusal.Stream w wrong) before after
      misreads_so w f wrong same not drawn streams =
          let inside = drawn_inside w drawn in (
            omega (arith, inside, evaluated_count),
            record {
              reads = subst (λ (r : Option Reading). IsSome r) (sym reads_are) refl;
              shelves = shelves;
              between = back;
              returns = record { few = few; given = gives };
              wrong = λ theirs. go (own_reads before theirs);
              rises = rises;
              rest = rest_so;
            },
          )
        where
          go : Own before → IsWrong w (refusal.Stream w wrong) done.reads ⊎ WereDeceived before shelves
          go own =
              decide (streams is.plan source.count source.emitted source.accepted.fields is.parts source.carries source.runs (tell before sources has.handed own) is.whole)
            where
              decide : IsForItsStream (program_of source.count source.emitted) labels sources (fault.Driver w f) ⊎ solo.WereDeceived parts fresh shelves
                  → IsWrong w (refusal.Stream w wrong) done.reads ⊎ WereDeceived before shelves
              decide (inl (inl failed)) = absurd (not failed.0)
              decide (inl (inr e)) =
                  inl (subst (λ (r : Option Reading). IsWrong w (refusal.Stream w wrong) r) (sym reads_are)
                  (wrong_is before sources has.handed own w (drawn_inside w drawn) (Some f) e ∙ ap (λ (r : Refusal). Some r) same))
              decide (inr deceived) = inr (were_deceived 16 before back parts fresh shelves has.lent.stores shape grown back_is deceived)

      -- a source that failed raised the count
      rose_source : (w : ℕ) → (drawn : Drawn sources others w) → Rose drawn.old.faults drawn.new.faults → Rose back.faults after.faults
      rose_source w drawn risen =
          let none = fresh_at before evaluating.stream.now 0 (length parts) sources has.handed w drawn.old drawn.old_so in
          let failed : 1 ≤ drawn.new.faults = omega (arith, none, risen) in
          let raised = sources_raise back.faults others w drawn.new drawn.new_so failed in
          let faults = ap (λ (desk : DeskTold). desk.faults) closed in
          omega (arith, raised, faults)

      -- ---- nothing stopped it

      quiet_so : NoneFailed sources others → after.faults ≡ back.faults
      quiet_so none = quiet (none_have before evaluating.stream.now 0 (length parts) sources others has.handed long none)

      given_so : NoneFailed sources others → GivesBack shelves before after
      given_so none =
          subst (λ (desk : DeskTold). GivesBack shelves before desk) (sym (rest_so ∙ ap (λ (n : ℕ). record back { faults = n }) (quiet_so none))) gives

      -- what is known of what was put out
      abbrev Known : Vec (Vec ℕ Global) Global → Type 0
      Known outputs = ((lists_of outputs.items ≡ decoded_by (program_of source.count source.emitted) labels sources source.count)
          × ((w : ℕ) → w < source.count → stream_fault (program_of source.count source.emitted) labels sources w ≡ None)) ⊎ solo.WereDeceived parts fresh shelves

      right_by : (outputs : Vec (Vec ℕ Global) Global) → Own before → Known outputs → IsRight before shelves done.said (text_of (lists_of outputs.items))
      right_by outputs own (inl told) = inl (ap text_of (told.0 ∙ decoded before sources has.handed own) ∙ sym said_is)
      right_by outputs own (inr deceived) = inr (were_deceived 16 before back parts fresh shelves has.lent.stores shape grown back_is deceived)

      sound_by : (outputs : Vec (Vec ℕ Global) Global) → Own before → Known outputs → NothingIsWrong (length done.moves) done.reads ⊎ WereDeceived before shelves
      sound_by outputs own (inl told) =
          inl (subst (λ (r : Option Reading). NothingIsWrong (length done.moves) r) (sym reads_are)
          (λ w inside.
          let within : w < length parts = omega (arith, inside, evaluated_count) in
          let own_number : w < source.count = omega (arith, within, parts_count, workers_count) in
          wrong_is before sources has.handed own w within None (told.1 w own_number)))
      sound_by outputs own (inr deceived) = inr (were_deceived 16 before back parts fresh shelves has.lent.stores shape grown back_is deceived)

      ran_so : (outputs : Vec (Vec ℕ Global) Global) → NoneFailed sources others → AreMoved parts fresh shelves → IsDecoded (Ok outputs)
          → Ran done (text_of (lists_of outputs.items)) before after
      ran_so outputs none moved decodes = record {
        shelves = shelves;
        moved = subst (λ (moves : List Moves). HaveMoved moves shelves) (sym evaluated_moves)
            (all_moved 16 before back parts fresh shelves has.lent.stores shape grown back_is can.verified moved);
        given = given_so none;
        right = λ theirs. right_by outputs (own_reads before theirs) (known (own_reads before theirs));
        sound = λ theirs. sound_by outputs (own_reads before theirs) (known (own_reads before theirs));
      }
        where
          known : Own before → Known outputs
          known own = decodes is.plan source.count source.emitted source.accepted.fields is.parts source.carries source.runs (tell before sources has.handed own) is.whole

      -- ---- whatever it came to

      pub evaluating_ends : (outcome : Result (Vec (Vec ℕ Global) Global) RunFault) → OnOk outcome (NoneFailed sources others) → OnOk outcome (AreMoved parts fresh shelves)
          → IfErr outcome (EvalStops parts fresh shelves sources others) → IsDecoded outcome → IsForStreams outcome → EvaluatedSo done outcome before after
      evaluating_ends (Ok outputs) unfailed moved stops decodes streams = ran_so outputs unfailed moved decodes
      evaluating_ends (Err (fault.Store w)) unfailed moved stops decodes streams = breaks_so w stops
      evaluating_ends (Err (fault.Damaged w damage)) unfailed moved stops decodes streams = damages_so w damage stops
      evaluating_ends (Err (fault.Driver w broken.Sink)) unfailed moved stops decodes streams = absurd stops.1
      evaluating_ends (Err (fault.Driver w broken.Source)) unfailed moved stops decodes streams = fails_so (rose_source w stops.0 (stops.1).1)
      evaluating_ends (Err (fault.Driver w (broken.Short at))) unfailed moved stops decodes streams = misreads_so w (broken.Short at) (stream.Short at) refl (λ e. cc) stops.0 streams
      evaluating_ends (Err (fault.Driver w (broken.Long at))) unfailed moved stops decodes streams = misreads_so w (broken.Long at) (stream.Long at) refl (λ e. cc) stops.0 streams
      evaluating_ends (Err (fault.Driver w (broken.Colour at))) unfailed moved stops decodes streams = misreads_so w (broken.Colour at) (stream.Colour at) refl (λ e. cc) stops.0 streams
      evaluating_ends (Err fault.Memory) unfailed moved stops decodes streams = stops_so

      -- only want of memory stopped it
      only_memory : (A : Type 0) (outcome : Result (Vec (Vec ℕ Global) Global) RunFault) → OnOk outcome (NoneFailed sources others)
          → IfErr outcome (λ f. f ≡ fault.Memory → A × NoneFailed sources others) → IfErr outcome (λ f. f ≡ fault.Memory) → IsUnstopped outcome × NoneFailed sources others
      only_memory A (Ok outputs) unfailed memory only = (tt, unfailed)
      only_memory A (Err fault.Memory) unfailed memory only = (tt, (memory refl).1)
      only_memory A (Err f) unfailed memory only = absurd (cc)

      -- over a steady desk with streams that nothing is wrong with nothing else does
      pub evaluating_calm : (A : Type 0) (outcome : Result (Vec (Vec ℕ Global) Global) RunFault) → OnOk outcome (NoneFailed sources others)
          → IfErr outcome (λ f. f ≡ fault.Memory → A × NoneFailed sources others) → RunsThrough outcome → IsTrue before.steady → IsTrue before.stores_tell_pages
          → ReadsThese before.files done.reads → NothingIsWrong (length done.moves) done.reads → IsUnstopped outcome × (after.faults ≡ before.faults)
      evaluating_calm A outcome unfailed memory runs steady tells theirs right = go (own_reads before theirs) where
        none : (w : ℕ) → w < length done.moves → reading.wrong w ≡ None
        none = subst (λ (r : Option Reading). NothingIsWrong (length done.moves) r) reads_are right

        go : Own before → IsUnstopped outcome × (after.faults ≡ before.faults)
        go own =
            let ended = only_memory A outcome unfailed memory (runs is.plan source.count source.emitted source.accepted.fields is.parts source.carries source.runs (tell before sources has.handed own) is.whole
            (evaluating_suffice evaluating before opened back fresh shelves names sources has shape grown back_so can steady tells)
            (all_steady before evaluating.stream.now 0 (length parts) sources has.handed steady)
            (λ w inside.
            let within : w < length parts = omega (arith, inside, parts_count, workers_count) in
            let at : w < length done.moves = omega (arith, within, evaluated_count) in
            right_is before sources has.handed own w within (none w at))) in
            (ended.0, quiet_so ended.1 ∙ back_faults shelves before back gives)

-- ---- what a run leaves its stores and sources, as they are told

pub stores_told : {S : Type 0} {A : Type 0} (B : Type 0) (tells : S → StoreTold) (stores others : List (Vec S Global)) (outcome : Result A RunFault)
    → IfErr outcome (λ f. f ≡ fault.Memory → (made.shelves others ≡ made.shelves stores) × B) → IfErr outcome (λ f. f ≡ fault.Memory → told_on tells others ≡ told_on tells stores)
stores_told B tells stores others (Ok x) memory = tt
stores_told {S} B tells stores others (Err f) memory = λ same. ap (λ (all : List (List S)). map (λ shelf. map tells shelf) all) (memory same).0
