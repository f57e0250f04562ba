-- What a garbling comes to.
use Rattle.std.proofs.Common.{◌≡◌, ◌≢◌, ◌≤◌, ◌+◌, ◌++◌, ◌⊎◌, inl, inr, ℕ, List, [], length, Option, Some, None, Result, Ok, Err, refl, sym, ap, ap₂, subst, ◌∙◌, arith}
use Rattle.std.specs.Prelude.{IfSome, OnOk}
use Rattle.std.proofs.lemmas.List.{append-nil, length-map}
use Rattle.mage_base.specs.declared.failure.Damage.{Damage}
use Rattle.mage_base.specs.Desk.{DeskTold, Files, Returned}
use Rattle.mage_base.specs.Faults.{Rose}
use Rattle.mage_base.specs.Sink.{SinkTold}
use Rattle.mage_base.specs.Store.{StoreTold}
use Rattle.mage_instr.specs.declared.directive.MemProgram.{MemProgram}
use Rattle.mage_instr.specs.declared.instr.Program.{Program}
use Rattle.mage_directives.specs.Directives.{IsMemProgram}
use Rattle.mage_linked.specs.declared.emitted.Emitted.{Emitted}
use Rattle.mage_linked.specs.Emission.{program_of}
use Rattle.mage_linked.specs.Workers.{list_at}
use Rattle.mage_texts.specs.Lists.{lists_of}
use Rattle.mage_verify.specs.Parts.{WorkerPart, parts_of}
use Rattle.mage_streams.specs.Streams.{garbled_stream}
use Rattle.mage_carried.specs.Laws.{CanRun, Carries}
use Rattle.mage_core.specs.declared.fault.RunFault.{RunFault}
use Rattle.mage_core.specs.declared.fault.RunFault.TheVariants as fault
use Rattle.mage_lending.specs.Names.{worker_files}
use Rattle.mage_lending.specs.Sinks.{with_all, with_empty, AreTaken, ClosesAll}
use Rattle.mage_lending.specs.Stores.{AreBack, with_shelf, shelf_at}
use Rattle.mage_solo.specs.Fronts.{TookFront, AllTookFronts}
use Rattle.mage_solo.specs.Garbling.{Sunk, TookAll, AllTellTaken, AllTook, NoneTook, GarbleStops}
use Rattle.mage_solo.specs.Stores as solo
use Rattle.mage_solo.specs.Stores.{AreMoved, HaveGrown}
use Rattle.mage_source_runs.specs.Moves.{Moves}
use Rattle.mage_source_runs.specs.Runs.{RunsSource}
use Rattle.mage_source_runs.proofs.Running.{sources_can_be_run}
use Rattle.mage_planner.specs.declared.refusal.Refusal.{Refusal}
use Rattle.mage_planner.specs.declared.refusal.Refusal.TheVariants as refusal
use Rattle.mage_planner.specs.declared.work.Garbling.{Garbling}
use Rattle.mage_planner.specs.Outcome.{Done, NewFile, stream_files}
use Rattle.mage_planner.specs.Stores.{GivesBack, HaveMoved, IsRight}
use Rattle.mage_planner.specs.Answer.{Does, AreFronts, BreaksOff, Ceases, Closes, NothingIsWrong, OthersStay, StoresAreSound, StreamsBegin, with_files}
use Rattle.mage_planner.specs.Steps.{IsNoDeskFault}
use Rattle.mage_planner.specs.Writing.{Interrupts, Performs}
use Rattle.mage_planner.specs.Work.{CanBeGarbled, IsGarblingOf}
use Rattle.mage_planner.specs.Ran.{HasOpened, ended_so}
use Rattle.mage_planner.proofs.WritingLemmas.{none_stays, performs_files}
use Rattle.mage_planner.proofs.BegunLemmas.{Held, taken_held, fronts_held, none_took_fronts, fronts_right}
use Rattle.mage_planner.proofs.RunLemmas.{moves_of_parts, counts, given, as_many, has_broken, has_damaged, were_deceived, rose, broken_inside, damaged_inside, all_moved, sound_back, sound_used, sound_unused}
use Rattle.mage_planner.proofs.RanLemmas.{moves_from, some_parts}
use Rattle.mage_planner.proofs.StreamLemmas.{count_files, names_of, filed, filed_names, stream_names, begun_stay, files_untold, refilled, fronts_count, taken_count, opened_count, no_fault_at, filled_right, tell_taken, sinks_keep, sinks_raise}

-- ---- stores that are back while streams are still open

module _ (garbling : Garbling) (before opened back : DeskTold) (fresh shelves : List (List StoreTold)) (names : List (List ℕ)) (sinks : List SinkTold)
    (has : HasOpened before garbling fresh names sinks opened) (back_so : AreBack before.lent opened back shelves)
  where
    pub back_after : back ≡ record before {
      files = with_empty before.files names;
      lent = back.lent;
      returned = λ worker. with_shelf (before.returned worker) (shelf_at shelves worker);
    }
    back_after =
        back_so.rest
        ∙ ap (λ (desk : DeskTold). record desk { lent = back.lent; returned = λ worker. with_shelf (desk.returned worker) (shelf_at shelves worker) }) has.rest

    pub back_between : AreBack before.lent before (record before { lent = back.lent; returned = back.returned }) shelves
    back_between = record {
      lent = back_so.lent;
      rest = ap (λ (returned : ℕ → Returned). record before { lent = back.lent; returned = returned }) (ap (λ (desk : DeskTold). desk.returned) back_after);
    }

    -- no store failed of a run that none stopped
    module _ (after : DeskTold) (others : List SinkTold) (shape : counts shelves ≡ counts fresh) (grown : HaveGrown garbling.parts.items fresh shelves) where
      returned_closed : {E : Type 0} (r : Result (Unit {0}) E) → ClosesAll back after names others r → after.returned ≡ back.returned
      returned_closed (Ok x) closed = ap (λ (desk : DeskTold). desk.returned) closed.2
      returned_closed (Err e) closed = ap (λ (desk : DeskTold). desk.returned) closed.2

      pub garbling_sound : {E : Type 0} (stopped : Option RunFault) (r : Result (Unit {0}) E) → ClosesAll back after names others r
          → (stopped ≡ None → AreMoved garbling.parts.items fresh shelves) → (stopped ≡ Some fault.Memory → shelves ≡ fresh)
          → IsNoDeskFault (ended_so {T = Unit {0}} stopped r) → StoresAreSound before after
      garbling_sound stopped r closed moved same none worker =
          subst (λ (returned : ℕ → Returned). (returned worker).faults ≤ (before.returned worker).faults) (sym (returned_closed r closed)) (go stopped r moved same none)
        where
          go : {E : Type 0} (stopped : Option RunFault) (r : Result (Unit {0}) E) → (stopped ≡ None → AreMoved garbling.parts.items fresh shelves)
              → (stopped ≡ Some fault.Memory → shelves ≡ fresh)
              → IsNoDeskFault (ended_so {T = Unit {0}} stopped r) → (back.returned worker).faults ≤ (before.returned worker).faults
          go None (Ok x) moved same none =
              sound_back 16 before (record before { lent = back.lent; returned = back.returned }) garbling.parts.items fresh shelves has.stores shape grown back_between
              (sound_used 16 before (record before { lent = back.lent; returned = back.returned }) garbling.parts.items fresh shelves has.stores shape grown back_between (moved refl)) worker
          go None (Err e) moved same none = absurd none
          go (Some (fault.Store w)) r moved same none = absurd none
          go (Some (fault.Damaged w damage)) r moved same none = absurd none
          go (Some (fault.Driver w f)) r moved same none = absurd none
          go (Some fault.Memory) r moved same none =
              sound_back 16 before (record before { lent = back.lent; returned = back.returned }) garbling.parts.items fresh shelves has.stores shape grown back_between
              (sound_unused 16 before (record before { lent = back.lent; returned = back.returned }) garbling.parts.items fresh shelves has.stores shape grown back_between (same refl)) worker

-- ---- what a garbling is to do

module _ (garbling : Garbling) (done : Done) (is : IsGarblingOf garbling done) where
  pub source : RunsSource is.loaded is.plan
  source = sources_can_be_run is.limits is.text is.loaded is.plan is.in_range is.loads is.planned

  pub garbled_moves : done.moves ≡ moves_of_parts garbling.parts.items
  garbled_moves =
      ap (λ (d : Done). d.moves) is.is ∙ sym (moves_from is.plan.limits is.plan.stores 0 is.plan.workers) ∙ ap moves_of_parts (sym is.parts)

  pub garbled_count : length done.moves ≡ length garbling.parts.items
  garbled_count = ap (λ (moves : List Moves). length moves) garbled_moves ∙ length-map garbling.parts.items _

  pub rooms_count : length garbling.rooms.items ≡ length is.loaded.program.workers
  rooms_count = ap (λ (rooms : List ℕ). length rooms) is.rooms ∙ length-map is.loaded.program.workers _

  pub streams_are : done.streams ≡ stream_files garbling.stream.now is.loaded.program garbling.seed (lists_of garbling.garbler.items) 0 (length garbling.rooms.items)
  streams_are =
      ap (λ (d : Done). d.streams) is.is
      ∙ ap (stream_files garbling.stream.now is.loaded.program garbling.seed (lists_of garbling.garbler.items) 0) (sym rooms_count)

  pub streams_named : names_of done.streams ≡ worker_files garbling.stream.now 0 (length garbling.rooms.items)
  streams_named =
      ap names_of streams_are ∙ stream_names garbling.stream.now is.loaded.program garbling.seed (lists_of garbling.garbler.items) 0 (length garbling.rooms.items)

  pub no_files_garbled : done.files ≡ []
  no_files_garbled = ap (λ (d : Done). d.files) is.is

  nothing_read : done.reads ≡ None
  nothing_read = ap (λ (d : Done). d.reads) is.is

  pub nothing_said : done.said ≡ []
  nothing_said = ap (λ (d : Done). d.said) is.is

  -- there is a stream
  pub some_stream : CanBeGarbled garbling → done.streams ≢ []
  some_stream can none =
      let many = ap (λ (files : List NewFile). length files) none in
      let named = ap (λ (names : List (List ℕ)). length names) streams_named in
      let count = length-map done.streams (λ (file : NewFile). file.name) in
      let files = count_files garbling.stream.now 0 (length garbling.rooms.items) in
      let some = some_parts garbling.parts.items can.verified in
      let rooms = can.rooms in
      absurd (omega (arith, many, named, count, files, some, rooms))

  pub some_garbled_moves : CanBeGarbled garbling → done.moves ≢ []
  some_garbled_moves can none =
      let many = ap (λ (moves : List Moves). length moves) none in
      let some = some_parts garbling.parts.items can.verified in
      absurd (omega (arith, many, garbled_count, some))

  streams_and_files : done.streams ++ done.files ≡ done.streams
  streams_and_files = ap (λ (files : List NewFile). done.streams ++ files) no_files_garbled ∙ append-nil done.streams

  -- ---- what is left where some of the streams were written, in the desk's eyes

  -- Below, the stores were given back in between, and these streams are written, whatever their bytes; the count of faults rose.
  module _ (before between after : DeskTold) (shelves : List (List StoreTold)) (few : length shelves ≤ length done.moves) (gives : GivesBack shelves before between)
      (begun : List NewFile) (rest : List (List ℕ)) (named : names_of done.streams ≡ names_of begun ++ rest)
      (left : after ≡ record between { files = with_files between.files begun; faults = after.faults }) (rises : between.faults ≤ after.faults)
      (fronts : StreamsBegin (Ok done) before shelves after)
    where
      files_stay : OthersStay (done.streams ++ done.files) between.files after.files
      files_stay =
          subst (λ (own : List NewFile). OthersStay own between.files after.files) (sym streams_and_files)
          (subst (λ (f : Option Files). OthersStay done.streams between.files f) (sym (ap (λ (desk : DeskTold). desk.files) left)) (begun_stay between.files done.streams begun rest named))

      -- as it was, but for its files
      abbrev ceased : DeskTold
      ceased = record between { files = after.files }

      ceases : Ceases (done.streams ++ done.files) between ceased
      ceases = record { files = files_stay; rest = refl }

      closes : CanBeGarbled garbling → Closes done.streams done.reads ceased after
      closes can = record {
        rises = rises;
        calm = λ none unread. absurd (some_stream can none);
        rest = left ∙ ap (λ (f : Option Files). record between { files = f; faults = after.faults }) (sym (ap (λ (desk : DeskTold). desk.files) left));
      }

      breaks : Rose between.faults after.faults → BreaksOff [] (done.streams ++ done.files) between after
      breaks rose = performs_files (done.streams ++ done.files) (Err refusal.Desk) between after (record {
        files = files_stay;
        rises = rises;
        rose = rose;
        rest = left ∙ ap (λ (f : Option Files). record between { files = f; faults = after.faults }) (sym (ap (λ (desk : DeskTold). desk.files) left));
      })

      pub stops_garbling : CanBeGarbled garbling → Interrupts done refusal.Memory before after
      stops_garbling can = record {
        shelves = shelves;
        between = between;
        returns = record { few = few; given = gives };
        stopped = ceased;
        ceases = ceases;
        closes = closes can;
        fronts = fronts;
      }

      pub fails_garbling : Rose between.faults after.faults → Interrupts done refusal.Desk before after
      fails_garbling rose = record {
        shelves = shelves;
        between = between;
        returns = record { few = few; given = gives };
        text = [];
        right = λ own. inl (sym nothing_said);
        breaks = breaks rose;
        fronts = fronts;
      }

      returned_so : after.returned ≡ between.returned
      returned_so = ap (λ (desk : DeskTold). desk.returned) left

  -- ---- a run over streams that were just opened

  module _ (can : CanBeGarbled garbling) (before opened back after : DeskTold) (fresh shelves : List (List StoreTold)) (names : List (List ℕ)) (sinks others : List SinkTold)
      (has : HasOpened before garbling fresh names sinks opened) (shape : counts shelves ≡ counts fresh) (grown : HaveGrown garbling.parts.items fresh shelves)
      (back_so : AreBack before.lent opened back shelves) (as_many_sinks : length others ≡ length sinks) (rises : back.faults ≤ after.faults)
    where
      abbrev parts : List WorkerPart
      parts = garbling.parts.items

      back_is : back ≡ record before {
        files = with_empty before.files names;
        lent = back.lent;
        returned = λ worker. with_shelf (before.returned worker) (shelf_at shelves worker);
      }
      back_is = back_after garbling before opened back fresh shelves names sinks has back_so

      -- the desk with its stores, as if no stream had been opened
      abbrev between : DeskTold
      between = record before { lent = back.lent; returned = back.returned }

      between_back : AreBack before.lent before between shelves
      between_back = back_between garbling before opened back fresh shelves names sinks has back_so

      gives : GivesBack shelves before between
      gives = given 16 before between parts fresh shelves has.stores shape grown between_back

      few : length shelves ≤ length done.moves
      few = let many = as_many 16 before between parts fresh shelves has.stores shape grown between_back in omega (arith, many, garbled_count)

      faults_back : back.faults ≡ before.faults
      faults_back = ap (λ (desk : DeskTold). desk.faults) back_is

      names_long : length names ≡ length sinks
      names_long =
          ap (λ (l : List (List ℕ)). length l) has.named ∙ count_files garbling.stream.now 0 (length garbling.rooms.items)
          ∙ sym (opened_count before garbling.rooms.items sinks has.handed)

      named : (contents : List (List ℕ)) → length contents ≡ length others → names_of done.streams ≡ names_of (filed names contents)
      named contents long =
          streams_named ∙ sym has.named ∙ sym (filed_names names contents (omega (arith, names_long, as_many_sinks, long)))

      -- what was closed
      left : (contents : List (List ℕ)) → length contents ≡ length others → after ≡ record back { files = with_all back.files names contents; faults = after.faults }
          → after ≡ record between { files = with_files before.files (filed names contents); faults = after.faults }
      left contents long is =
          is ∙ ap (λ (desk : DeskTold). record desk { files = with_all desk.files names contents; faults = after.faults }) back_is
          ∙ ap₂ (λ (f : Option Files) (returned : ℕ → Returned). record before { files = f; faults = after.faults; lent = back.lent; returned = returned })
          (refilled before.files names contents (omega (arith, names_long, as_many_sinks, long))) (sym (ap (λ (desk : DeskTold). desk.returned) back_is))

      -- the contents of the files, however closing ended
      record Closed : Type 0 where
        contents : List (List ℕ)
        long : length contents ≡ length others
        held : Held others contents
        rest : after ≡ record back { files = with_all back.files names contents; faults = after.faults }

      closed_so : {E : Type 0} (r : Result (Unit {0}) E) → ClosesAll back after names others r → Closed
      closed_so (Ok x) closed = record {
        contents = closed.0;
        long = taken_count others closed.0 closed.1;
        held = taken_held others closed.0 closed.1;
        rest = closed.2 ∙ ap (λ (n : ℕ). record back { files = with_all back.files names closed.0; faults = n }) (sym (ap (λ (desk : DeskTold). desk.faults) closed.2));
      }
      closed_so (Err e) closed = record {
        contents = closed.0;
        long = fronts_count others closed.0 closed.1;
        held = fronts_held others closed.0 closed.1;
        rest = closed.2;
      }

      -- a sink that failed raises the count
      rose_sink : {E : Type 0} (r : Result (Unit {0}) E) → ClosesAll back after names others r → (w : ℕ) → (sink : Sunk sinks others w) → 1 ≤ sink.new.faults → Rose back.faults after.faults
      rose_sink (Ok x) closed w sink failed =
          let raised = sinks_raise back.faults others w sink.new sink.new_so failed in
          let faults = ap (λ (desk : DeskTold). desk.faults) closed.2 in
          omega (arith, raised, faults)
      rose_sink (Err e) closed w sink failed =
          let raised = sinks_raise back.faults others w sink.new sink.new_so failed in
          let rose = closed.3 in
          omega (arith, raised, rose)

      rose_closed : {E : Type 0} (e : E) → ClosesAll {T = Unit {0}} back after names others (Err e) → Rose back.faults after.faults
      rose_closed e closed = sinks_keep back.faults after.faults others closed.3

      -- what is known of the streams of a run that was stopped
      abbrev AreBegun : Type 0
      AreBegun = (plan : MemProgram) (count : ℕ) (emitted : List Emitted) → IsMemProgram plan → parts ≡ parts_of plan → Carries count emitted plan → CanRun count emitted
          → AllTellTaken sinks
          → AllTookFronts sinks others (garbled_stream (program_of count emitted) garbling.seed (list_at (lists_of garbling.garbler.items))) ⊎ solo.WereDeceived parts fresh shelves

      -- all that is left of a run that was stopped
      abbrev Left : Refusal → Type 0
      Left why = Interrupts done why before after

      module _ (closed : Closed) where
        abbrev begun : List NewFile
        begun = filed names closed.contents

        first_named : names_of done.streams ≡ names_of begun ++ []
        first_named = named closed.contents closed.long ∙ sym (append-nil (names_of begun))

        left_so : after ≡ record between { files = with_files between.files begun; faults = after.faults }
        left_so = left closed.contents closed.long closed.rest

        rises_so : between.faults ≤ after.faults
        rises_so = omega (arith, rises, faults_back)

        -- no other file changed
        others_stay : (written : List NewFile) → with_files before.files written ≡ with_files before.files begun → OthersStay done.files (with_files before.files written) after.files
        others_stay written same =
            subst (λ (f : Option Files). OthersStay done.files (with_files before.files written) f) (same ∙ sym (ap (λ (desk : DeskTold). desk.files) left_so))
            (none_stays done.files (with_files before.files written))

        -- each file is a front of its stream
        fronts_so : AreBegun → StreamsBegin (Ok done) before shelves after
        fronts_so garbled = by_told before.files refl where
          by_told : (files : Option Files) → before.files ≡ files → StreamsBegin (Ok done) before shelves after
          by_told None told = inl (record {
            begun = [];
            fronts = tt;
            rest = others_stay [] (told ∙ sym (files_untold begun) ∙ sym (ap (λ (f : Option Files). with_files f begun) told));
          })
          by_told (Some files) told =
              by_streams (garbled is.plan source.count source.emitted source.accepted.fields is.parts source.carries source.runs
              (tell_taken before files garbling.rooms.items sinks told has.handed))
            where
              by_streams : AllTookFronts sinks others (garbled_stream (program_of source.count source.emitted) garbling.seed (list_at (lists_of garbling.garbler.items)))
                  ⊎ solo.WereDeceived parts fresh shelves → StreamsBegin (Ok done) before shelves after
              by_streams (inl took) = inl (record {
                begun = begun;
                fronts = subst (λ (names : List (List ℕ)). AreFronts (filed names closed.contents) done.streams) (sym has.named)
                    (subst (λ (streams : List NewFile). AreFronts (filed (worker_files garbling.stream.now 0 (length garbling.rooms.items)) closed.contents) streams) (sym streams_are)
                    (fronts_right before files garbling.stream.now is.loaded.program garbling.seed (lists_of garbling.garbler.items) 0 garbling.rooms.items sinks others closed.contents
                    told has.handed as_many_sinks
                    (λ w sink.
                    let at : w ≡ 0 + w = omega arith in
                    subst (λ (n : ℕ). TookFront sink.old sink.new (garbled_stream is.loaded.program garbling.seed (list_at (lists_of garbling.garbler.items)) n)) at
                    (subst (λ (p : Program). TookFront sink.old sink.new (garbled_stream p garbling.seed (list_at (lists_of garbling.garbler.items)) w)) source.program_is (took w sink)))
                    closed.held));
                rest = others_stay begun refl;
              })
              by_streams (inr deceived) = inr (were_deceived 16 before between parts fresh shelves has.stores shape grown between_back deceived)

        stops_so : AreBegun → Left refusal.Memory
        stops_so garbled = stops_garbling before between after shelves few gives begun [] first_named left_so rises_so (fronts_so garbled) can

        fails_so : AreBegun → Rose back.faults after.faults → Left refusal.Desk
        fails_so garbled rose =
            let same = faults_back in
            fails_garbling before between after shelves few gives begun [] first_named left_so rises_so (fronts_so garbled) (subst (λ (n : ℕ). Rose n after.faults) same rose)

        breaks_so : AreBegun → (w : ℕ) → solo.HasBroken parts fresh shelves w → Left (refusal.Store w)
        unfolding stops_so stops_garbling
        breaks_so garbled w broken =
            let found = has_broken 16 before between parts fresh shelves has.stores shape grown between_back w broken in
            let inside = broken_inside 16 before between parts fresh shelves has.stores shape grown between_back w found in (
              omega (arith, inside, garbled_count),
              record {
                shelves = shelves;
                between = between;
                returns = record { few = few; given = gives };
                broken = found;
                rose = subst (λ (returned : ℕ → Returned). Rose (before.returned w).faults (returned w).faults) (sym (ap (λ (desk : DeskTold). desk.returned) left_so))
                    (rose 16 before between parts fresh shelves has.stores shape grown between_back w found);
                stopped = (stops_so garbled).stopped;
                ceases = (stops_so garbled).ceases;
                closes = (stops_so garbled).closes;
                fronts = fronts_so garbled;
              },
            )

        damages_so : AreBegun → (w : ℕ) (damage : Damage) → solo.HasDamaged parts fresh shelves w damage → Left (refusal.Damaged w damage)
        unfolding stops_so stops_garbling
        damages_so garbled w damage damaged =
            let found = has_damaged 16 before between parts fresh shelves has.stores shape grown between_back w damage damaged in
            let inside = damaged_inside 16 before between parts fresh shelves has.stores shape grown between_back w damage found in (
              omega (arith, inside, garbled_count),
              record {
                shelves = shelves;
                between = between;
                returns = record { few = few; given = gives };
                damaged = found;
                stopped = (stops_so garbled).stopped;
                ceases = (stops_so garbled).ceases;
                closes = (stops_so garbled).closes;
                fronts = fronts_so garbled;
              },
            )

      -- ---- nothing stopped it

      -- what is known of the streams
      abbrev AreGarbled : Type 0
      AreGarbled = (plan : MemProgram) (count : ℕ) (emitted : List Emitted) → IsMemProgram plan → parts ≡ parts_of plan → Carries count emitted plan → CanRun count emitted
          → AllTellTaken sinks
          → AllTook sinks others (garbled_stream (program_of count emitted) garbling.seed (list_at (lists_of garbling.garbler.items))) ⊎ solo.WereDeceived parts fresh shelves

      module _ (contents : List (List ℕ)) (taken : AreTaken others contents)
          (rest : after ≡ record back { files = with_all back.files names contents; faults = after.faults }) (quiet : after.faults ≡ back.faults)
          (moved : AreMoved parts fresh shelves) (garbled : AreGarbled)
        where
          abbrev closed_whole : Closed
          closed_whole = record { contents = contents; long = taken_count others contents taken; held = taken_held others contents taken; rest = rest }

          calm : after.faults ≡ between.faults
          calm = quiet ∙ faults_back

          -- these streams are written
          does_with : (filled : List NewFile) → IsRight before shelves done.streams filled → names_of filled ≡ names_of done.streams
              → with_files before.files (filed names contents) ≡ with_files before.files (filled ++ done.files) → Does done before after
          does_with filled right named_so files = record {
            shelves = shelves;
            moved = subst (λ (moves : List Moves). HaveMoved moves shelves) (sym garbled_moves)
                (all_moved 16 before between parts fresh shelves has.stores shape grown between_back can.verified moved);
            between = between;
            given = gives;
            text = [];
            right = λ own. inl (sym nothing_said);
            sound = λ own. inl (subst (NothingIsWrong (length done.moves)) (sym nothing_read) tt);
            filled = filled;
            right_streams = right;
            named = named_so;
            finishes = performs_files (filled ++ done.files) (Ok tt) between after
                (left_so closed_whole ∙ ap₂ (λ (f : Option Files) (n : ℕ). record between { files = f; faults = n }) files calm);
          }

          same_files : (filled : List NewFile) → filled ++ done.files ≡ filled
          same_files filled = ap (λ (files : List NewFile). filled ++ files) no_files_garbled ∙ append-nil filled

          all_named : names_of (filed names contents) ≡ names_of done.streams
          all_named = sym (named contents (taken_count others contents taken))

          whole_streams : (files : Files) → before.files ≡ Some files
              → AllTook sinks others (garbled_stream (program_of source.count source.emitted) garbling.seed (list_at (lists_of garbling.garbler.items)))
              → filed names contents ≡ done.streams
          whole_streams files told took =
              ap (λ (l : List (List ℕ)). filed l contents) has.named
              ∙ filled_right before files garbling.stream.now is.loaded.program garbling.seed (lists_of garbling.garbler.items) 0 garbling.rooms.items sinks others contents
              told has.handed as_many_sinks
              (λ w sink.
              let at : w ≡ 0 + w = omega arith in
              subst (λ (n : ℕ). TookAll sink.old sink.new (garbled_stream is.loaded.program garbling.seed (list_at (lists_of garbling.garbler.items)) n)) at
              (subst (λ (p : Program). TookAll sink.old sink.new (garbled_stream p garbling.seed (list_at (lists_of garbling.garbler.items)) w)) source.program_is (took w sink)))
              taken
              ∙ sym streams_are

          does_so : Does done before after
          does_so = by_told before.files refl where
            by_told : (files : Option Files) → before.files ≡ files → Does done before after
            by_told None told =
                does_with done.streams (inl refl) refl
                (ap (λ (f : Option Files). with_files f (filed names contents)) told ∙ files_untold (filed names contents)
                ∙ sym (files_untold (done.streams ++ done.files)) ∙ sym (ap (λ (f : Option Files). with_files f (done.streams ++ done.files)) told))
            by_told (Some files) told =
                by_streams (garbled is.plan source.count source.emitted source.accepted.fields is.parts source.carries source.runs
                (tell_taken before files garbling.rooms.items sinks told has.handed))
              where
                same : with_files before.files (filed names contents) ≡ with_files before.files (filed names contents ++ done.files)
                same = ap (with_files before.files) (sym (same_files (filed names contents)))

                by_streams : AllTook sinks others (garbled_stream (program_of source.count source.emitted) garbling.seed (list_at (lists_of garbling.garbler.items)))
                    ⊎ solo.WereDeceived parts fresh shelves → Does done before after
                by_streams (inl took) = does_with (filed names contents) (inl (whole_streams files told took)) all_named same
                by_streams (inr deceived) =
                    does_with (filed names contents) (inr (were_deceived 16 before between parts fresh shelves has.stores shape grown between_back deceived)) all_named same

      -- ---- whatever stopped it

      pub garbling_ends : {E : Type 0} (stopped : Option RunFault) (r : Result (Unit {0}) E) → ClosesAll back after names others r
          → (stopped ≡ None → OnOk r (after.faults ≡ back.faults)) → (stopped ≡ None → AreMoved parts fresh shelves) → IfSome stopped (GarbleStops parts fresh shelves sinks others)
          → (stopped ≡ None → AreGarbled) → ((stopped ≡ Some fault.Memory → ⊥) → AreBegun) → (stopped ≡ Some fault.Memory → NoneTook sinks others) → Performs done (ended_so {T = Unit {0}} stopped r) before after
      garbling_ends None (Ok x) closed quiet moved stops garbled begun untouched =
          does_so closed.0 closed.1
          (closed.2 ∙ ap (λ (n : ℕ). record back { files = with_all back.files names closed.0; faults = n }) (sym (ap (λ (desk : DeskTold). desk.faults) closed.2)))
          (quiet refl) (moved refl) (garbled refl)
      garbling_ends None (Err e) closed quiet moved stops garbled begun untouched = fails_so (closed_so (Err e) closed) (begun (λ memory. cc)) (rose_closed e closed)
      garbling_ends (Some (fault.Store w)) r closed quiet moved stops garbled begun untouched = breaks_so (closed_so r closed) (begun (λ memory. cc)) w stops
      garbling_ends (Some (fault.Damaged w damage)) r closed quiet moved stops garbled begun untouched =
          damages_so (closed_so r closed) (begun (λ memory. cc)) w damage stops
      garbling_ends (Some (fault.Driver w f)) r closed quiet moved stops garbled begun untouched =
          let sink = (stops.1).0 in
          let none = no_fault_at before garbling.rooms.items sinks w sink.old has.handed sink.old_so in
          let rose = (stops.1).2 in
          fails_so (closed_so r closed) (begun (λ memory. cc)) (rose_sink r closed w sink (omega (arith, none, rose)))
      garbling_ends (Some fault.Memory) r closed quiet moved stops garbled begun untouched =
          stops_so (closed_so r closed) (λ plan count emitted fine same carries runs told. inl (none_took_fronts sinks others _ told (untouched refl)))
