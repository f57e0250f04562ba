-- Streams that are opened for an evaluation, and what is said of what it puts out.
use Rattle.std.proofs.Common.{◌≡◌, ◌<◌, ◌≤◌, ◌+◌, ◌∷◌, ◌++◌, ℕ, zero, suc, List, [], length, IsSome, Option, Some, None, Vec, Result, Ok, Err, refl, sym, ap, subst, ◌∙◌, arith}
use Rattle.std.specs.Prelude.{IfErr, IfOk, IfSome, IsSomeAnd}
use Rattle.std.specs.List.{All}
use Rattle.std.specs.declared.alloc.Global.{Global}
use Rattle.mage_base.specs.declared.failure.DeskError.{DeskError}
use Rattle.mage_base.specs.declared.failure.DeskError.TheVariants as errors
use Rattle.mage_base.specs.Desk.{DeskTold, FaultCounted, Files, IsNoFault, IsNotTooLong, Returned}
use Rattle.mage_base.specs.Faults.{Rose}
use Rattle.mage_base.specs.Source.{SourceTold}
use Rattle.mage_base.specs.Store.{StoreTold}
use Rattle.mage_core.specs.declared.fault.RunFault.{RunFault}
use Rattle.mage_core.specs.declared.fault.RunFault.TheVariants as fault
use Rattle.mage_instr.specs.declared.fault.DriverFault.TheVariants as broken
use Rattle.mage_lending.specs.Names.{worker_file, worker_files}
use Rattle.mage_lending.specs.Sources.{AreSources}
use Rattle.mage_lending.specs.Stores.{AreBack, own_stores, with_shelf, shelf_at}
use Rattle.mage_planner.specs.declared.refusal.Refusal.{Refusal}
use Rattle.mage_planner.specs.declared.refusal.Refusal.TheVariants as refusal
use Rattle.mage_planner.specs.declared.work.Evaluating.{Evaluating}
use Rattle.mage_planner.specs.Outcome.{Done, NewFile}
use Rattle.mage_planner.specs.Stores.{GivesBack}
use Rattle.mage_planner.specs.Answer.{NothingIsWrong, ReadsThese, StoresAreSound}
use Rattle.mage_planner.specs.Writing.{Finished, Interrupts}
use Rattle.mage_planner.specs.Steps.{IsNoDeskFault, IsNotDesk}
use Rattle.mage_planner.specs.Work.{IsEvaluationOf}
use Rattle.mage_planner.specs.EvalRan.{EvaluatesSo, HasStreams, IsUnstopped, evaluation_stopped_by}
use Rattle.mage_planner.specs.Ran.{HasLent, Halted, Ran, unopened_by}
use Rattle.mage_planner.proofs.GarblingLemmas.{grown_not}
use Rattle.mage_planner.proofs.PerformLemmas.{unread}
use Rattle.mage_planner.proofs.HaltedLemmas.{halted, said_so, unsaid}
use Rattle.mage_planner.proofs.RunLemmas.{given, as_many, sound_back, sound_unused}
use Rattle.mage_planner.proofs.StreamFaultLemmas.{sources_count}
use Rattle.mage_planner.proofs.StreamLemmas.{count_files}
use Rattle.mage_planner.proofs.WritingLemmas.{both_all}
use Rattle.mage_planner.proofs.EvaluatedLemmas.{evaluated_count, streams_there}

-- ---- what is said

-- there may be no memory for the text
pub text_evaluated : (done : Done) (said : List ℕ) (r : Result (Vec ℕ Global) Refusal) → IfOk r (λ text. text.items ≡ said) → IfErr r (λ why. why ≡ refusal.Memory)
    → (before after : DeskTold) → Ran done said before after → EvaluatesSo done r before after
text_evaluated done said (Ok text) same memory before after ran = said_so done said text.items before after same ran
text_evaluated done said (Err why) same memory before after ran =
    subst (λ (w : Refusal). Interrupts done w before after) (sym memory) (halted done refusal.Memory before after (unsaid done said before after ran))

-- what neither a store nor a stream stopped is no fault of theirs, and the other way round
pub is_unstopped : (T : Type 0) (stopped : RunFault) → IsUnstopped {T = T} (Err stopped) → IsNotDesk (evaluation_stopped_by stopped)
is_unstopped T (fault.Store worker) none = absurd none
is_unstopped T (fault.Damaged worker damage) none = absurd none
is_unstopped T (fault.Driver worker f) none = absurd none
is_unstopped T fault.Memory none = tt

pub is_stopped : (T : Type 0) (stopped : RunFault) → IsNotDesk (evaluation_stopped_by stopped) → IsUnstopped {T = T} (Err stopped)
is_stopped T (fault.Store worker) none = absurd none
is_stopped T (fault.Damaged worker damage) none = absurd none
is_stopped T (fault.Driver worker broken.Sink) none = absurd none
is_stopped T (fault.Driver worker broken.Source) none = absurd none
is_stopped T (fault.Driver worker (broken.Short at)) none = absurd none
is_stopped T (fault.Driver worker (broken.Long at)) none = absurd none
is_stopped T (fault.Driver worker (broken.Colour at)) none = absurd none
is_stopped T fault.Memory none = tt

-- where saying a text is no fault of the desk, none was counted
pub finished_calm : (text : List ℕ) (files : List NewFile) (r : Result (Unit {0}) Refusal) (before after : DeskTold) → Finished text files r before after → IsNoDeskFault r
    → after.faults ≡ before.faults
finished_calm text files (Ok x) before after finishes none = ap (λ (desk : DeskTold). desk.faults) finishes.rest
finished_calm text files (Err refusal.Desk) before after breaks none = absurd none
finished_calm text files (Err refusal.Memory) before after ceases none = ap (λ (desk : DeskTold). desk.faults) ceases.rest
finished_calm text files (Err other) before after finished none = absurd finished

-- ---- opened streams

-- as many names as sources
pub names_long : (evaluating : Evaluating) (before now : DeskTold) (fresh : List (List StoreTold)) (names : List (List ℕ)) (sources : List SourceTold)
    → HasStreams before evaluating fresh names sources now → length names ≡ length sources
names_long evaluating before now fresh names sources has =
    ap (λ (l : List (List ℕ)). length l) has.named ∙ count_files evaluating.stream.now 0 (length evaluating.parts.items)
    ∙ sym (sources_count before evaluating.stream.now 0 (length evaluating.parts.items) sources has.handed)

-- a source of the desk as it was lent is one of the desk as it was before
sources_before : (before lent : DeskTold) (names : List (List ℕ)) (sources : List SourceTold) → lent.files ≡ before.files → lent.steady ≡ before.steady
    → AreSources lent names sources → AreSources before names sources
sources_before before lent [] [] files steady are = tt
sources_before before lent [] (source ∷ sources) files steady are = absurd are
sources_before before lent (name ∷ names) [] files steady are = absurd are
sources_before before lent (name ∷ names) (source ∷ sources) files steady are = (
  record {
    bytes = subst (λ (f : Option Files). IfSome f (λ fs. IsSomeAnd (fs name) (λ bytes. source.left ≡ Some bytes))) files are.0.bytes;
    no_fault = are.0.no_fault;
    steady = λ calm. are.0.steady (steady ∙ calm);
  },
  sources_before before lent names sources files steady are.1,
)

pub has_streams : (before lent now : DeskTold) (evaluating : Evaluating) (fresh : List (List StoreTold)) (names : List (List ℕ)) (sources : List SourceTold) (workers : ℕ)
    → workers ≡ length evaluating.parts.items → HasLent 16 before evaluating.parts.items fresh lent → names ≡ worker_files evaluating.stream.now 0 workers
    → AreSources lent (worker_files evaluating.stream.now 0 workers) sources → now ≡ record lent { faults = now.faults } → now.faults ≡ lent.faults
    → HasStreams before evaluating fresh names sources now
has_streams before lent now evaluating fresh names sources workers same has named handed rest counted = record {
  lent = subst (λ (desk : DeskTold). HasLent 16 before evaluating.parts.items fresh desk) (sym (unread lent now rest counted)) has;
  named = named ∙ ap (λ (n : ℕ). worker_files evaluating.stream.now 0 n) same;
  handed = subst (λ (n : ℕ). AreSources before (worker_files evaluating.stream.now 0 n) sources) same
      (sources_before before lent (worker_files evaluating.stream.now 0 workers) sources (ap (λ (desk : DeskTold). desk.files) has.rest)
      (ap (λ (desk : DeskTold). desk.steady) has.rest) handed);
}

pub streams_so : (before now : DeskTold) (evaluating : Evaluating) (fresh : List (List StoreTold)) (names : List (List ℕ)) (sources : List SourceTold)
    → HasStreams before evaluating fresh names sources now → (desk : DeskTold) × HasStreams desk evaluating fresh names sources now
streams_so before now evaluating fresh names sources has = (before, has)

-- ---- streams that weren't opened

-- what is lent then
pub lent_unread : (before lent opened : DeskTold) (evaluating : Evaluating) (fresh : List (List StoreTold)) → HasLent 16 before evaluating.parts.items fresh lent
    → opened ≡ record lent { faults = opened.faults } → (count : ℕ) → count ≡ length evaluating.parts.items → opened.lent ≡ before.lent ++ own_stores 0 count
lent_unread before lent opened evaluating fresh has rest count same =
    ap (λ (desk : DeskTold). desk.lent) rest ∙ ap (λ (desk : DeskTold). desk.lent) has.rest ∙ ap (λ (n : ℕ). before.lent ++ own_stores 0 n) (sym same)

-- Below, the streams weren't opened, and then the stores were given back.
module _ (evaluating : Evaluating) (before lent opened back : DeskTold) (fresh : List (List StoreTold)) (has : HasLent 16 before evaluating.parts.items fresh lent)
    (rest : opened ≡ record lent { faults = opened.faults }) (back_so : AreBack before.lent opened back fresh)
  where
    back_is : back ≡ record before {
      faults = opened.faults;
      lent = back.lent;
      returned = λ worker. with_shelf (before.returned worker) (shelf_at fresh worker);
    }
    back_is =
        back_so.rest
        ∙ ap (λ (desk : DeskTold). record desk { lent = back.lent; returned = λ worker. with_shelf (desk.returned worker) (shelf_at fresh worker) })
        (rest ∙ ap (λ (desk : DeskTold). record desk { faults = opened.faults }) has.rest)

    abbrev between : DeskTold
    between = record before { lent = back.lent; returned = back.returned }

    between_back : AreBack before.lent before between fresh
    between_back = record {
      lent = back_so.lent;
      rest = ap (λ (returned : ℕ → Returned). record before { lent = back.lent; returned = returned }) (ap (λ (desk : DeskTold). desk.returned) back_is);
    }

    gives : GivesBack fresh before between
    gives = given 16 before between evaluating.parts.items fresh fresh has.stores refl (grown_not evaluating.parts.items fresh) between_back

    left : back ≡ record between { faults = back.faults }
    left =
        back_is
        ∙ ap (λ (returned : ℕ → Returned). record before { faults = opened.faults; lent = back.lent; returned = returned }) (sym (ap (λ (desk : DeskTold). desk.returned) back_is))
        ∙ ap (λ (n : ℕ). record between { faults = n }) (sym (ap (λ (desk : DeskTold). desk.faults) back_is))

    faults_back : back.faults ≡ opened.faults
    faults_back = ap (λ (desk : DeskTold). desk.faults) back_is

    lent_faults : lent.faults ≡ before.faults
    lent_faults = ap (λ (desk : DeskTold). desk.faults) has.rest

    pub unopened_sound : StoresAreSound before back
    unopened_sound worker =
        subst (λ (returned : ℕ → Returned). (returned worker).faults ≤ (before.returned worker).faults) (sym (ap (λ (desk : DeskTold). desk.returned) left))
        (sound_back 16 before between evaluating.parts.items fresh fresh has.stores refl (grown_not evaluating.parts.items fresh) between_back
        (sound_unused 16 before between evaluating.parts.items fresh fresh has.stores refl (grown_not evaluating.parts.items fresh) between_back refl) worker)

    -- where it was no fault, it was for want of memory, and none was counted
    pub unopened_calm : (T : Type 0) (error : DeskError) → IsNoFault {T = T} (Err error) → IsNotTooLong {T = T} (Err error) → FaultCounted {T = T} lent.faults opened.faults (Err error)
        → IsNotDesk (unopened_by error) × (back.faults ≡ before.faults)
    unopened_calm T errors.Memory none short counted = (tt, faults_back ∙ counted ∙ lent_faults)
    unopened_calm T errors.Fault none short counted = absurd none
    unopened_calm T errors.TooLong none short counted = absurd short

    module _ (done : Done) (is : IsEvaluationOf evaluating done) where
      many : length fresh ≤ length done.moves
      many =
          let count_of = as_many 16 before between evaluating.parts.items fresh fresh has.stores refl (grown_not evaluating.parts.items fresh) between_back in
          omega (arith, count_of, evaluated_count evaluating done is)

      unopened_halts : lent.faults ≤ opened.faults → Rose lent.faults opened.faults → Halted (length done.moves) refusal.Desk before back
      unopened_halts rises rose = record {
        shelves = fresh;
        between = between;
        returns = record { few = many; given = gives };
        cause = tt;
        rest = left;
        faults = (omega (arith, rises, lent_faults, faults_back), subst (λ (n : ℕ). Rose n back.faults) lent_faults (subst (λ (n : ℕ). Rose lent.faults n) (sym faults_back) rose));
      }

      unopened_stops : opened.faults ≡ lent.faults → Halted (length done.moves) refusal.Memory before back
      unopened_stops same = record {
        shelves = fresh;
        between = between;
        returns = record { few = many; given = gives };
        cause = tt;
        rest = left;
        faults = faults_back ∙ same ∙ lent_faults;
      }

      -- whatever kept them from being opened
      pub unopened_ends : (T : Type 0) (error : DeskError) → IsNotTooLong {T = T} (Err error) → FaultCounted {T = T} lent.faults opened.faults (Err error)
          → Interrupts done (unopened_by error) before back
      unopened_ends T errors.Memory short counted = halted done refusal.Memory before back (unopened_stops counted)
      unopened_ends T errors.Fault short counted = halted done refusal.Desk before back (unopened_halts counted.0 counted.1)
      unopened_ends T errors.TooLong short counted = absurd short

-- ---- streams that are there

all_there : (told : Files) (stem : List ℕ) (first count : ℕ) → ((w : ℕ) → w < count → IsSome (told (worker_file stem (first + w)))) → All (λ name. IsSome (told name)) (worker_files stem first count)
all_there told stem first zero each = λ k d inside. absurd (omega (arith, inside))
all_there told stem first (suc count) each =
    let at : first + 0 ≡ first = omega arith in
    both_all (λ (name : List ℕ). IsSome (told name)) (worker_file stem first) (worker_files stem (first + 1) count)
    (subst (λ (n : ℕ). IsSome (told (worker_file stem n))) at (each 0 (omega arith)))
    (all_there told stem (first + 1) count (λ w inside. later w (each (suc w) (omega (arith, inside)))))
  where
    later : (w : ℕ) → IsSome (told (worker_file stem (first + suc w))) → IsSome (told (worker_file stem (first + 1 + w)))
    later w some = let next : first + suc w ≡ first + 1 + w = omega arith in subst (λ (n : ℕ). IsSome (told (worker_file stem n))) next some

-- a desk has all streams of an evaluation with which nothing is wrong
pub finds_streams : (evaluating : Evaluating) (done : Done) → IsEvaluationOf evaluating done → (before lent : DeskTold) (workers : ℕ) (P : Type 0) → workers ≡ length evaluating.parts.items
    → lent.files ≡ before.files → IsSome before.files → ReadsThese before.files done.reads → NothingIsWrong (length done.moves) done.reads
    → IfSome lent.files (λ files. All (λ name. IsSome (files name)) (worker_files evaluating.stream.now 0 workers) → P) → P
finds_streams evaluating done is before lent workers P same files told own right holds =
    go before.files refl told (subst (λ (f : Option Files). IfSome f (λ fs. All (λ name. IsSome (fs name)) (worker_files evaluating.stream.now 0 workers) → P)) files holds)
  where
    go : (f : Option Files) → before.files ≡ f → IsSome f → IfSome f (λ fs. All (λ name. IsSome (fs name)) (worker_files evaluating.stream.now 0 workers) → P) → P
    go None is_so some holds = absurd (cc)
    go (Some fs) is_so some holds =
        holds (all_there fs evaluating.stream.now 0 workers (λ w inside.
        let at : w ≡ 0 + w = omega arith in
        subst (λ (n : ℕ). IsSome (fs (worker_file evaluating.stream.now n))) at
        (streams_there evaluating done is before fs is_so own right w (omega (arith, inside, same)))))
