-- A garbling over a desk that is steady.
use Rattle.std.proofs.Common.{◌≡◌, ◌≤◌, ◌<◌, ℕ, zero, suc, List, [], ◌∷◌, length, map, slice_get, IsTrue, Option, Some, None, IfSome, IsSome, IsOk, OnOk, Result, Ok, Err, refl, sym, ap, subst, ◌∙◌, arith}
use Rattle.mage_base.specs.declared.failure.DeskError.{DeskError}
use Rattle.mage_base.specs.declared.failure.DeskError.TheVariants as errors
use Rattle.mage_base.specs.Desk.{DeskTold, Files, IsNoFault}
use Rattle.mage_base.specs.Sink.{SinkTold}
use Rattle.mage_base.specs.Store.{StoreTold}
use Rattle.mage_core.specs.declared.fault.RunFault.{RunFault}
use Rattle.mage_core.specs.declared.fault.RunFault.TheVariants as fault
use Rattle.mage_instr.specs.declared.instr.Instr.{Instr}
use Rattle.mage_instr.specs.declared.instr.Program.{Program}
use Rattle.mage_lending.specs.Sinks.{AreOpened, OpenedCounted}
use Rattle.mage_linked.specs.Emission.{own_instrs, program_of}
use Rattle.mage_linked.specs.Workers.{list_at}
use Rattle.mage_linked.proofs.WorkerLemmas.{list_at-map, length-map_below}
use Rattle.mage_lending.specs.Stores.{AreBack}
use Rattle.mage_solo.specs.Stores.{AllSuffice, HaveGrown}
use Rattle.mage_solo.specs.Garbling.{AllHaveRoom, AllTellTaken, NoneFailed, NoneTook}
use Rattle.mage_stream_length.specs.Length.{length_of}
use Rattle.mage_stream_length.proofs.Walking.{streams_are_no_longer}
use Rattle.mage_streams.specs.Streams.{garbled_stream}
use Rattle.mage_texts.specs.Lists.{lists_of}
use Rattle.mage_planner.specs.declared.refusal.Refusal.{Refusal}
use Rattle.mage_planner.specs.declared.refusal.Refusal.TheVariants as refusal
use Rattle.mage_planner.specs.declared.work.Garbling.{Garbling}
use Rattle.mage_planner.specs.Outcome.{Done}
use Rattle.mage_planner.specs.Steps.{IsNoDeskFault, IsNotDesk}
use Rattle.mage_planner.specs.Ran.{HasOpened, LendsSo, ended_so, unopened_by}
use Rattle.mage_planner.specs.Work.{CanBeGarbled, IsGarblingOf}
use Rattle.mage_planner.proofs.RunLemmas.{counts, all_suffice}
use Rattle.mage_planner.proofs.GarbledLemmas.{source, back_after, back_between}
use Rattle.mage_planner.proofs.StreamLemmas.{tell_taken}

-- ---- room for the streams

-- the stream of each worker fits the room that is asked for
rooms_hold : (workers : List (List Instr)) (stream : ℕ → List ℕ) → ((w : ℕ) → w < length workers → length (stream w) ≤ length_of (list_at workers w))
    → (w : ℕ) → IfSome (slice_get (map length_of workers) w) (λ room. length (stream w) ≤ room)
rooms_hold [] stream fit zero = tt
rooms_hold [] stream fit (suc w) = tt
rooms_hold (own ∷ workers) stream fit zero = fit 0 (omega arith)
rooms_hold (own ∷ workers) stream fit (suc w) = rooms_hold workers (λ n. stream (suc n)) (λ n inside. fit (suc n) (omega (arith, inside))) w

-- and so it fits the sink that was handed out
sinks_hold : (desk : DeskTold) (rooms : List ℕ) (sinks : List SinkTold) (stream : ℕ → List ℕ) → AreOpened desk rooms sinks → IsTrue desk.steady
    → ((w : ℕ) → IfSome (slice_get rooms w) (λ room. length (stream w) ≤ room)) → AllHaveRoom sinks stream
sinks_hold desk [] [] stream opened steady fit zero = tt
sinks_hold desk [] [] stream opened steady fit (suc w) = tt
sinks_hold desk [] (sink ∷ sinks) stream opened steady fit w = absurd opened
sinks_hold desk (room ∷ rooms) [] stream opened steady fit w = absurd opened
sinks_hold desk (room ∷ rooms) (sink ∷ sinks) stream opened steady fit zero =
    let calm = opened.0.steady steady in
    let own : sink.room ≡ room = calm.1 in
    let few : length (stream 0) ≤ room = fit 0 in
    record { steady = calm.0; room = omega (arith, own, few) }
sinks_hold desk (room ∷ rooms) (sink ∷ sinks) stream opened steady fit (suc w) =
    sinks_hold desk rooms sinks (λ n. stream (suc n)) opened.1 steady (λ n. fit (suc n)) w

module _ (garbling : Garbling) (done : Done) (is : IsGarblingOf garbling done) where
  abbrev pub stream : ℕ → List ℕ
  stream = garbled_stream (program_of (source garbling done is).count (source garbling done is).emitted) garbling.seed (list_at (lists_of garbling.garbler.items))

  workers_fit : (w : ℕ) → w < length (program_of (source garbling done is).count (source garbling done is).emitted).workers
      → length (stream w) ≤ length_of (list_at (program_of (source garbling done is).count (source garbling done is).emitted).workers w)
  workers_fit w inside =
      let run = source garbling done is in
      let many : length (program_of run.count run.emitted).workers ≡ run.count = length-map_below (own_instrs run.emitted) run.count in
      let within : w < run.count = omega (arith, inside, many) in
      let fits = streams_are_no_longer run.count run.emitted run.runs garbling.seed (list_at (lists_of garbling.garbler.items)) w within in
      subst (λ (instrs : List Instr). length (stream w) ≤ length_of instrs) (sym (list_at-map (own_instrs run.emitted) run.count w within)) fits

  rooms_are : map length_of (program_of (source garbling done is).count (source garbling done is).emitted).workers ≡ garbling.rooms.items
  rooms_are = ap (λ (p : Program). map length_of p.workers) (source garbling done is).program_is ∙ sym is.rooms

  pub streams_fit : (desk : DeskTold) (sinks : List SinkTold) → AreOpened desk garbling.rooms.items sinks → IsTrue desk.steady → AllHaveRoom sinks stream
  streams_fit desk sinks opened steady =
      sinks_hold desk garbling.rooms.items sinks stream opened steady
      (subst (λ (rooms : List ℕ). (w : ℕ) → IfSome (slice_get rooms w) (λ room. length (stream w) ≤ room)) rooms_are
      (rooms_hold (program_of (source garbling done is).count (source garbling done is).emitted).workers stream workers_fit))

-- each sink of a desk that tells its files tells what it took
pub told_taken : (desk : DeskTold) (rooms : List ℕ) (sinks : List SinkTold) → IsSome desk.files → AreOpened desk rooms sinks → AllTellTaken sinks
told_taken desk rooms sinks told opened = go desk.files refl told where
  go : (files : Option Files) → desk.files ≡ files → IsSome files → AllTellTaken sinks
  go None same some = absurd (cc)
  go (Some files) same some = tell_taken desk files rooms sinks same opened

-- ---- the desk and its stores

-- Below, the stores that were lent were given back, and the streams are still open.
module _ (garbling : Garbling) (can : CanBeGarbled garbling) (before opened back : DeskTold) (fresh shelves : List (List StoreTold)) (names : List (List ℕ)) (sinks : List SinkTold)
    (has : HasOpened before garbling fresh names sinks opened) (shape : counts shelves ≡ counts fresh) (grown : HaveGrown garbling.parts.items fresh shelves)
    (back_so : AreBack before.lent opened back shelves)
  where
    pub stores_suffice : IsTrue before.steady → IsTrue before.stores_tell_pages → AllSuffice garbling.parts.items fresh
    stores_suffice steady tells =
        all_suffice 16 before (record before { lent = back.lent; returned = back.returned }) garbling.parts.items fresh shelves has.stores shape grown
        (back_between garbling before opened back fresh shelves names sinks has back_so) can.verified steady tells

    pub still_steady : back.steady ≡ before.steady
    still_steady = ap (λ (desk : DeskTold). desk.steady) (back_after garbling before opened back fresh shelves names sinks has back_so)

    pub still_counted : back.faults ≡ before.faults
    still_counted = ap (λ (desk : DeskTold). desk.faults) (back_after garbling before opened back fresh shelves names sinks has back_so)

-- ---- how such a run ends

-- nothing stopped it but want of memory
pub only_memory : {E : Type 0} (stopped : Option RunFault) (closed : Result (Unit {0}) E) → IsOk closed → IfSome stopped (λ f. f ≡ fault.Memory)
    → IsNoDeskFault (ended_so {T = Unit {0}} stopped closed)
only_memory None (Ok x) fine memory = tt
only_memory None (Err e) fine memory = absurd (cc)
only_memory (Some f) closed fine memory = rw memory tt

-- and so no sink failed
pub none_failed : (before after : List SinkTold) (stopped : Option RunFault) → IfSome stopped (λ f. f ≡ fault.Memory) → (stopped ≡ None → NoneFailed before after)
    → (stopped ≡ Some fault.Memory → NoneTook before after) → NoneFailed before after
none_failed before after None memory quiet untouched = quiet refl
none_failed before after (Some f) memory quiet untouched = λ w sink. (untouched (ap (λ (g : RunFault). Some g) memory) w sink).faults

-- what is known where a result is Ok
pub ok_so : {T E : Type 0} (P : Type 0) (r : Result T E) → IsOk r → OnOk r P → P
ok_so P (Ok x) fine p = p
ok_so P (Err e) fine p = absurd (cc)

-- streams weren't opened for want of memory
pub unopened_calm : (T : Type 0) (error : DeskError) (before now : ℕ) → IsNoFault {T = T} (Err error) → OpenedCounted {T = T} before now (Err error) → IsNotDesk (unopened_by error)
unopened_calm T errors.Memory before now none counted = tt
unopened_calm T errors.Fault before now none counted = absurd none
unopened_calm T errors.TooLong before now none counted = absurd counted

-- and stores weren't lent for want of it
pub unlent_calm : (T : Type 0) (workers : ℕ) (why : Refusal) (before after : DeskTold) → LendsSo {T = T} workers (Err why) before after → IsNotDesk why
    → IsNotDesk why × (after.faults ≡ before.faults)
unlent_calm T workers refusal.Memory before after lends not = (tt, lends.1)
unlent_calm T workers refusal.Desk before after lends not = absurd not
unlent_calm T workers why before after lends not = absurd lends
