-- Streams that weren't opened, and stores that were lent for nothing.
use Rattle.std.proofs.Common.{◌≡◌, ◌≤◌, ◌+◌, ◌-◌, ◌++◌, ℕ, inl, List, [], ◌∷◌, length, Option, Some, None, Ok, Err, refl, sym, ap, ap₂, subst, ◌∙◌, arith}
use Rattle.std.specs.Prelude.{IfSome}
use Rattle.std.specs.Option.{option_map}
use Rattle.std.proofs.lemmas.List.{append-nil}
use Rattle.mage_base.specs.declared.failure.DeskError.{DeskError}
use Rattle.mage_base.specs.declared.failure.DeskError.TheVariants as errors
use Rattle.mage_base.specs.Desk.{DeskTold, Files, Returned}
use Rattle.mage_base.specs.Faults.{Rose}
use Rattle.mage_base.specs.Sink.{SinkTold}
use Rattle.mage_base.specs.Store.{StoreTold, Transfer}
use Rattle.mage_texts.specs.Lists.{lists_of}
use Rattle.mage_verify.specs.Parts.{WorkerPart}
use Rattle.mage_core.specs.Results.{Grew}
use Rattle.mage_lending.specs.Names.{worker_files}
use Rattle.mage_lending.specs.Sinks.{with_empty, AreOpened, HaveFiles, OpenedCounted}
use Rattle.mage_lending.specs.Stores.{AreBack, own_stores, with_shelf, shelf_at}
use Rattle.mage_solo.specs.Stores.{HaveGrown}
use Rattle.mage_planner.specs.declared.refusal.Refusal.TheVariants as refusal
use Rattle.mage_planner.specs.declared.work.Garbling.{Garbling}
use Rattle.mage_planner.specs.Outcome.{Done, NewFile}
use Rattle.mage_planner.specs.Stores.{GivesBack}
use Rattle.mage_planner.specs.Answer.{AreFronts, OthersStay, StoresAreSound, StreamsBegin, with_files}
use Rattle.mage_planner.specs.Writing.{Interrupts}
use Rattle.mage_planner.specs.Work.{CanBeGarbled, IsGarblingOf}
use Rattle.mage_planner.specs.Ran.{HasLent, HasOpened, unopened_by}
use Rattle.mage_planner.proofs.RunLemmas.{given, as_many, sound_back, sound_unused}
use Rattle.mage_planner.proofs.StreamLemmas.{count_files, names_of, nothing_in, nothing_named, emptied_is, names_split, opened_count}
use Rattle.mage_planner.proofs.WritingLemmas.{none_stays}
use Rattle.mage_planner.proofs.BegunLemmas.{empty_fronts}
use Rattle.mage_planner.proofs.GarbledLemmas.{garbled_count, streams_are, streams_named, stops_garbling, fails_garbling}

-- ---- opened streams

-- a sink of the desk as it was lent is one of the desk as it was before
opened_before : (before lent : DeskTold) (rooms : List ℕ) (sinks : List SinkTold) → lent.files ≡ before.files → lent.steady ≡ before.steady → AreOpened lent rooms sinks
    → AreOpened before rooms sinks
opened_before before lent [] [] files steady opened = tt
opened_before before lent [] (sink ∷ sinks) files steady opened = absurd opened
opened_before before lent (room ∷ rooms) [] files steady opened = absurd opened
opened_before before lent (room ∷ rooms) (sink ∷ sinks) files steady opened = (
  record {
    taken = subst (λ (f : Option Files). IfSome f (λ _. sink.taken ≡ Some [])) files opened.0.taken;
    no_fault = opened.0.no_fault;
    steady = λ calm. opened.0.steady (steady ∙ calm);
  },
  opened_before before lent rooms sinks files steady opened.1,
)

pub has_opened : (before lent now : DeskTold) (garbling : Garbling) (fresh : List (List StoreTold)) (names : List (List ℕ)) (sinks : List SinkTold) (rooms : List ℕ)
    → rooms ≡ garbling.rooms.items → HasLent 16 before garbling.parts.items fresh lent → names ≡ worker_files garbling.stream.now 0 (length rooms) → AreOpened lent rooms sinks
    → HaveFiles now.files names → now ≡ record lent { files = with_empty lent.files (worker_files garbling.stream.now 0 (length rooms)) }
    → HasOpened before garbling fresh names sinks now
has_opened before lent now garbling fresh names sinks rooms same has named opened there rest = record {
  stores = has.stores;
  named = named ∙ ap (λ (l : List ℕ). worker_files garbling.stream.now 0 (length l)) same;
  handed = subst (λ (l : List ℕ). AreOpened before l sinks) same
      (opened_before before lent rooms sinks (ap (λ (desk : DeskTold). desk.files) has.rest) (ap (λ (desk : DeskTold). desk.steady) has.rest) opened);
  there = there;
  rest = rest ∙ ap (λ (l : List (List ℕ)). record lent { files = with_empty lent.files l }) (sym named)
      ∙ ap (λ (desk : DeskTold). record desk { files = with_empty desk.files names }) has.rest;
}

pub opened_so : (before now : DeskTold) (garbling : Garbling) (fresh : List (List StoreTold)) (names : List (List ℕ)) (sinks : List SinkTold)
    → HasOpened before garbling fresh names sinks now → (desk : DeskTold) × HasOpened desk garbling fresh names sinks now
opened_so before now garbling fresh names sinks has = (before, has)

-- ---- stores that weren't used

grew_not : (store : StoreTold) → Grew store store
grew_not store = record {
  reads = omega arith;
  writes = omega arith;
  faults = omega arith;
  log = ([], kept store.log);
}
  where
    kept : (log : Option (List Transfer)) → log ≡ option_map (λ earlier. earlier ++ []) log
    kept None = refl
    kept (Some earlier) = ap (λ (l : List Transfer). Some l) (sym (append-nil earlier))

same_one : (x y : StoreTold) → ◌≡◌ {A = Option (List StoreTold)} (Some (x ∷ [])) (Some (y ∷ [])) → x ≡ y
same_one x y e = cc

pub grown_not : (parts : List WorkerPart) (fresh : List (List StoreTold)) → HaveGrown parts fresh fresh
grown_not parts fresh w worker =
    let same : worker.old ≡ worker.new = same_one worker.old worker.new (sym worker.old_so ∙ worker.new_so) in
    subst (λ (new : StoreTold). Grew worker.old new) same (grew_not worker.old)

-- ---- streams that weren't opened

-- Below, so many of the streams were opened, and closed again; then the stores were given back.
module _ (garbling : Garbling) (before lent opened back : DeskTold) (fresh : List (List StoreTold)) (has : HasLent 16 before garbling.parts.items fresh lent) (count : ℕ)
    (few : count ≤ length garbling.rooms.items)
    (rest : opened ≡ record lent { files = with_empty lent.files (worker_files garbling.stream.now 0 count); faults = opened.faults })
    (back_so : AreBack before.lent opened back fresh)
  where
    abbrev names : List (List ℕ)
    names = worker_files garbling.stream.now 0 count

    back_is : back ≡ record before {
      files = with_empty before.files names;
      faults = opened.faults;
      lent = back.lent;
      returned = λ worker. with_shelf (before.returned worker) (shelf_at fresh worker);
    }
    back_is =
        back_so.rest
        ∙ ap (λ (desk : DeskTold). record desk { lent = back.lent; returned = λ worker. with_shelf (desk.returned worker) (shelf_at fresh worker) })
        (rest ∙ ap (λ (desk : DeskTold). record desk { files = with_empty desk.files names; faults = opened.faults }) has.rest)

    abbrev between : DeskTold
    between = record before { lent = back.lent; returned = back.returned }

    between_back : AreBack before.lent before between fresh
    between_back = record {
      lent = back_so.lent;
      rest = ap (λ (returned : ℕ → Returned). record before { lent = back.lent; returned = returned }) (ap (λ (desk : DeskTold). desk.returned) back_is);
    }

    gives : GivesBack fresh before between
    gives = given 16 before between garbling.parts.items fresh fresh has.stores refl (grown_not garbling.parts.items fresh) between_back

    left : back ≡ record between { files = with_files before.files (nothing_in names); faults = back.faults }
    left =
        back_is
        ∙ ap₂ (λ (f : Option Files) (returned : ℕ → Returned). record before { files = f; faults = opened.faults; lent = back.lent; returned = returned })
        (emptied_is before.files names) (sym (ap (λ (desk : DeskTold). desk.returned) back_is))
        ∙ ap (λ (n : ℕ). record between { files = with_files before.files (nothing_in names); faults = n }) (sym (ap (λ (desk : DeskTold). desk.faults) back_is))

    pub faults_back : back.faults ≡ opened.faults
    faults_back = ap (λ (desk : DeskTold). desk.faults) back_is

    module _ (done : Done) (is : IsGarblingOf garbling done) where
      many : length fresh ≤ length done.moves
      many =
          let count_of = as_many 16 before between garbling.parts.items fresh fresh has.stores refl (grown_not garbling.parts.items fresh) between_back in
          omega (arith, count_of, garbled_count garbling done is)

      first_named : names_of done.streams ≡ names_of (nothing_in names) ++ worker_files garbling.stream.now (0 + count) (length garbling.rooms.items - count)
      first_named =
          let all : length garbling.rooms.items ≡ count + (length garbling.rooms.items - count) = omega (arith, few) in
          streams_named garbling done is ∙ ap (worker_files garbling.stream.now 0) all
          ∙ names_split garbling.stream.now 0 count (length garbling.rooms.items - count)
          ∙ ap (λ (l : List (List ℕ)). l ++ worker_files garbling.stream.now (0 + count) (length garbling.rooms.items - count)) (sym (nothing_named names))

      -- each that was opened is empty
      fronts : StreamsBegin (Ok done) before fresh back
      fronts = inl (record {
        begun = nothing_in names;
        fronts = subst (λ (streams : List NewFile). AreFronts (nothing_in names) streams) (sym (streams_are garbling done is))
            (empty_fronts garbling.stream.now is.loaded.program garbling.seed (lists_of garbling.garbler.items) 0 count (length garbling.rooms.items) few);
        rest = subst (λ (f : Option Files). OthersStay done.files (with_files before.files (nothing_in names)) f) (sym (ap (λ (desk : DeskTold). desk.files) left))
            (none_stays done.files (with_files before.files (nothing_in names)));
      })

      lent_faults : lent.faults ≡ before.faults
      lent_faults = ap (λ (desk : DeskTold). desk.faults) has.rest

      unopened_stops : CanBeGarbled garbling → lent.faults ≤ opened.faults → Interrupts done refusal.Memory before back
      unopened_stops can rises =
          stops_garbling garbling done is before between back fresh many gives (nothing_in names) (worker_files garbling.stream.now (0 + count) (length garbling.rooms.items - count))
          first_named left (omega (arith, rises, lent_faults, faults_back)) fronts can

      unopened_fails : lent.faults ≤ opened.faults → Rose lent.faults opened.faults → Interrupts done refusal.Desk before back
      unopened_fails rises rose =
          fails_garbling garbling done is before between back fresh many gives (nothing_in names) (worker_files garbling.stream.now (0 + count) (length garbling.rooms.items - count))
          first_named left (omega (arith, rises, lent_faults, faults_back)) fronts
          (subst (λ (n : ℕ). Rose n back.faults) lent_faults (subst (λ (n : ℕ). Rose lent.faults n) (sym faults_back) rose))

      -- whatever kept them from being opened
      pub unopened_ends : (T : Type 0) → CanBeGarbled garbling → (error : DeskError) → OpenedCounted {T = T} lent.faults opened.faults (Err error)
          → Interrupts done (unopened_by error) before back
      unopened_ends T can errors.Memory counted = unopened_stops can counted
      unopened_ends T can errors.Fault counted = unopened_fails counted.0 counted.1
      unopened_ends T can errors.TooLong counted = absurd counted

    pub unopened_sound : StoresAreSound before back
    unopened_sound worker =
        subst (λ (returned : ℕ → Returned). (returned worker).faults ≤ (before.returned worker).faults) (sym (ap (λ (desk : DeskTold). desk.returned) left))
        (sound_back 16 before between garbling.parts.items fresh fresh has.stores refl (grown_not garbling.parts.items fresh) between_back
        (sound_unused 16 before between garbling.parts.items fresh fresh has.stores refl (grown_not garbling.parts.items fresh) between_back refl) worker)

-- the desk as it was before the streams were opened
pub lent_then : (before now : DeskTold) (garbling : Garbling) (fresh : List (List StoreTold)) (names : List (List ℕ)) (sinks : List SinkTold)
    → HasOpened before garbling fresh names sinks now → HasLent 16 before garbling.parts.items fresh (record before { lent = before.lent ++ own_stores 0 (length garbling.parts.items) })
lent_then before now garbling fresh called sinks has = record { stores = has.stores; rest = refl }

-- what is lent once they are open
pub lent_still : (before now : DeskTold) (garbling : Garbling) (fresh : List (List StoreTold)) (names : List (List ℕ)) (sinks : List SinkTold)
    → HasOpened before garbling fresh names sinks now → (count : ℕ) → count ≡ length garbling.parts.items → now.lent ≡ before.lent ++ own_stores 0 count
lent_still before now garbling fresh called sinks has count same =
    ap (λ (desk : DeskTold). desk.lent) has.rest ∙ ap (λ (n : ℕ). before.lent ++ own_stores 0 n) (sym same)

-- as many names as sinks
pub names_long : (before now : DeskTold) (garbling : Garbling) (fresh : List (List StoreTold)) (names : List (List ℕ)) (sinks : List SinkTold)
    → HasOpened before garbling fresh names sinks now → length names ≡ length sinks
names_long before now garbling fresh called sinks has =
    ap (λ (l : List (List ℕ)). length l) has.named ∙ count_files garbling.stream.now 0 (length garbling.rooms.items)
    ∙ sym (opened_count before garbling.rooms.items sinks has.handed)

-- what is lent once opening them failed
pub lent_unopened : (before lent opened : DeskTold) (garbling : Garbling) (fresh : List (List StoreTold)) → HasLent 16 before garbling.parts.items fresh lent
    → (files : Option Files) → opened ≡ record lent { files = files; faults = opened.faults }
    → (count : ℕ) → count ≡ length garbling.parts.items → opened.lent ≡ before.lent ++ own_stores 0 count
lent_unopened before lent opened garbling fresh has files rest count same =
    ap (λ (desk : DeskTold). desk.lent) rest ∙ ap (λ (desk : DeskTold). desk.lent) has.rest ∙ ap (λ (n : ℕ). before.lent ++ own_stores 0 n) (sym same)
