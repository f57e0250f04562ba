-- A refusal whose line is warned is what the call answers.
use Rattle.std.proofs.Common.{◌≡◌, ◌≢◌, ◌≤◌, ℕ, ap, subst, [], List, length, Bool, IsTrue, Option, Some, None, Result, Err, refl, sym, ◌∙◌, inl, inr, arith}
use Rattle.std.specs.Option.{IfSome}
use Rattle.std.proofs.lemmas.Option.{IfSome_then}
use Rattle.mage_base.specs.Desk.{DeskTold, Files, Returned}
use Rattle.mage_base.specs.Faults.{Rose}
use Rattle.mage_planner.specs.declared.refusal.Refusal.{Refusal}
use Rattle.mage_planner.specs.declared.refusal.Refusal.TheVariants as refusal
use Rattle.mage_planner.specs.declared.status.Status.{Status}
use Rattle.mage_planner.specs.declared.status.Status.TheVariants as status
use Rattle.mage_planner.specs.Lines.{status_of, line_of}
use Rattle.mage_planner.specs.Outcome.{Done, NewFile}
use Rattle.mage_planner.specs.Steps.{IsNotDesk, IsNoDeskFault}
use Rattle.mage_planner.specs.Warned.{WarnsLine, IsOrMemory}
use Rattle.mage_planner.specs.Answer.{Answers, AnswersRefusal, Works, ComesFrom, Leaves, Stops, OthersStay, HasRoom, TellsStores, StoresAreSound, IsComplete, StreamsAreRight, files_of, reads_of, streams_of, refusal_of}
use Rattle.mage_planner.proofs.BegunLemmas.{nothing_begun}
use Rattle.mage_planner.proofs.PerformLemmas.{back_faults, back_files, none_back, none_closed}

-- the status of a refusal is none of Ok
answers : (steady : Bool) (outcome : Result Done Refusal) (before after : DeskTold) (why : Refusal)
    → AnswersRefusal steady outcome (status_of why) before after why
    → Answers steady outcome (status_of why) before after
answers steady outcome before after refusal.Words h = (refusal.Words, h)
answers steady outcome before after (refusal.Language kind line column) h =
    (refusal.Language kind line column, h)
answers steady outcome before after (refusal.Limits worker tight) h =
    (refusal.Limits worker tight, h)
answers steady outcome before after (refusal.InputLine party line) h =
    (refusal.InputLine party line, h)
answers steady outcome before after (refusal.InputTooLong party) h = (refusal.InputTooLong party, h)
answers steady outcome before after refusal.InputSeed h = (refusal.InputSeed, h)
answers steady outcome before after (refusal.InputLabels worker) h = (refusal.InputLabels worker, h)
answers steady outcome before after (refusal.MemoryProgram fault) h = (refusal.MemoryProgram fault, h)
answers steady outcome before after (refusal.CheckNo worker directive) h = (refusal.CheckNo worker directive, h)
answers steady outcome before after (refusal.Store worker) h = (refusal.Store worker, h)
answers steady outcome before after (refusal.Damaged worker damage) h = (refusal.Damaged worker damage, h)
answers steady outcome before after (refusal.Stream worker fault) h = (refusal.Stream worker fault, h)
answers steady outcome before after refusal.Desk h = (refusal.Desk, h)
answers steady outcome before after refusal.Memory h = (refusal.Memory, h)

-- files that stay
others_stay : (written : List NewFile) (files : Option Files) → OthersStay written files files
others_stay written None = refl
others_stay written (Some files) = λ name other. refl

-- a refusal other than the desk's fault leaves what want of memory leaves
stops : (outcome : Result Done Refusal) (why : Refusal) (before after : DeskTold)
    → (why ≡ refusal.Desk → ⊥)
    → Leaves outcome why before after → Stops outcome before after
stops outcome refusal.Desk before after other leaves = absurd (other refl)
stops outcome refusal.Memory before after other leaves = leaves
stops outcome (refusal.Store worker) before after other breaks = record {
  shelves = breaks.shelves;
  between = breaks.between;
  returns = breaks.returns;
  stopped = breaks.stopped;
  ceases = breaks.ceases;
  closes = breaks.closes;
  fronts = breaks.fronts;
}
stops outcome (refusal.Damaged worker damage) before after other damages = record {
  shelves = damages.shelves;
  between = damages.between;
  returns = damages.returns;
  stopped = damages.stopped;
  ceases = damages.ceases;
  closes = damages.closes;
  fronts = damages.fronts;
}
stops outcome (refusal.Stream worker fault) before after other misreads = record {
  shelves = misreads.shelves;
  between = misreads.between;
  returns = misreads.returns;
  stopped = misreads.between;
  ceases = record { files = others_stay (files_of outcome) misreads.between.files; rest = refl };
  closes = record { rises = misreads.rises; calm = λ none unread. let reads = misreads.reads in absurd (cc); rest = misreads.rest };
  fronts = nothing_begun outcome before after misreads.shelves
      (ap (λ (desk : DeskTold). desk.files) misreads.rest ∙ back_files misreads.shelves before misreads.between misreads.returns.given);
}
stops outcome why before after other leaves = rw leaves (record {
  shelves = [];
  between = before;
  returns = record { few = omega arith; given = none_back before };
  stopped = before;
  ceases = record { files = others_stay (files_of outcome) before.files; rest = refl };
  closes = none_closed (streams_of outcome) (reads_of outcome) before;
  fronts = nothing_begun outcome before before [] refl;
})

store_status : (why : Refusal) → IsNotDesk why → status_of why ≡ status.Store → ⊥
store_status (refusal.Store worker) not e = not
store_status why not e = cc

damage_status : (why : Refusal) → IsNotDesk why → status_of why ≡ status.Damaged → ⊥
damage_status (refusal.Damaged worker damage) not e = not
damage_status why not e = cc

stream_status : (why : Refusal) → IsNotDesk why → status_of why ≡ status.Stream → ⊥
stream_status (refusal.Stream worker fault) not e = not
stream_status why not e = cc

not_desk : (why : Refusal) → IsNotDesk why → why ≡ refusal.Desk → ⊥
not_desk refusal.Desk not same = not
not_desk why not same = cc

desk_status : (why : Refusal) → status_of why ≡ status.Desk → why ≡ refusal.Desk
desk_status refusal.Desk e = refl
desk_status why e = cc

-- there is room for the line of a refusal other than the desk's fault
own_fits : (steady : Bool) (outcome : Result Done Refusal) (desk : DeskTold) (own : Refusal)
    → ComesFrom steady outcome own → IsNotDesk own → HasRoom desk outcome
    → length (line_of refusal.Memory) ≤ desk.warn_room → length (line_of own) ≤ desk.warn_room
own_fits steady outcome desk refusal.Desk comes not has memory = absurd not
own_fits steady outcome desk (refusal.Store worker) comes not has memory = absurd not
own_fits steady outcome desk (refusal.Damaged worker damage) comes not has memory = absurd not
own_fits steady outcome desk (refusal.Stream worker fault) comes not has memory = absurd not
own_fits steady outcome desk refusal.Memory comes not has memory = memory
own_fits steady outcome desk own comes not has memory = rw comes at has

-- Below: the work was refused between two states of the desk, and then a line was warned.
module _ (steady : Bool) (own warned : Refusal) (answer : Status) (is : answer ≡ status_of warned)
    (same : IsOrMemory own warned) (before between after : DeskTold)
    (warns : WarnsLine (line_of warned) between after)
  where
    pub answered : (outcome : Result Done Refusal)
        → Works {T = Unit {0}} steady outcome (Err own) before between
        → Answers steady outcome answer before after
    answered outcome works = answered_as outcome same works where
      answered_as : (outcome : Result Done Refusal) → IsOrMemory own warned
          → Works {T = Unit {0}} steady outcome (Err own) before between
          → Answers steady outcome answer before after
      answered_as outcome (inl same) works =
          rw is (answers steady outcome before after warned (record {
            answered = refl;
            comes = rw same works.0;
            between = between;
            leaves = rw same works.1;
            warns = warns;
          }))
      answered_as outcome (inr memory) works =
          rw (is, memory.0) (answers steady outcome before after refusal.Memory (record {
            answered = refl;
            comes = tt;
            between = between;
            leaves = stops outcome own before between memory.1 works.1;
            warns = rw memory.0 at warns;
          }))

    -- where the files are told
    pub answered_files : (files : Option Files) (outcome : Files → Result Done Refusal)
        → IfSome files (λ files.
        Works {T = Unit {0}} steady (outcome files) (Err own) before between)
        → IfSome files (λ files. Answers steady (outcome files) answer before after)
    answered_files files outcome works =
        IfSome_then files
        {P = λ files. Works {T = Unit {0}} steady (outcome files) (Err own) before between} works
        (λ files works. answered (outcome files) works)

    -- there is room for the line
    fits : IsOrMemory own warned → (outcome : Result Done Refusal)
        → ComesFrom steady outcome own → IsNotDesk own → HasRoom before outcome
        → length (line_of refusal.Memory) ≤ before.warn_room
        → length (line_of warned) ≤ before.warn_room
    fits (inl same) outcome comes not has memory =
        rw same (own_fits steady outcome before own comes not has memory)
    fits (inr memory_is) outcome comes not has memory = rw memory_is.0 memory

    -- the line's refusal isn't a fault of the desk or of its stores
    warned_not_desk : IsOrMemory own warned → IsNotDesk own → IsNotDesk warned
    warned_not_desk (inl e) not = rw e not
    warned_not_desk (inr e) not = rw e.0 tt

    -- a steady desk with the files and the room doesn't fail, and nor do its stores
    pub steady_files : (files : Option Files) (outcome : Files → Result Done Refusal)
        → IsTrue before.steady
        → between.steady ≡ before.steady
        → between.warn_room ≡ before.warn_room
        → (IsNotDesk own → StoresAreSound before between)
        → IfSome files (λ files.
        IsNoDeskFault (outcome files) → HasRoom before (outcome files) → TellsStores before (outcome files) → StreamsAreRight (outcome files)
        → IsNotDesk own × (between.faults ≡ before.faults))
        → IfSome files (λ files.
        Works {T = Unit {0}} steady (outcome files) (Err own) before between)
        → IfSome files (λ files. IsNoDeskFault (outcome files) → HasRoom before (outcome files)
        → TellsStores before (outcome files) → StreamsAreRight (outcome files)
        → length (line_of refusal.Memory) ≤ before.warn_room
        → (after.faults ≡ before.faults) × StoresAreSound before after
        × (answer ≢ status.Desk) × (answer ≢ status.Store) × (answer ≢ status.Damaged) × (answer ≢ status.Stream))
    steady_files None outcome holds stays room sound is_not works = tt
    steady_files (Some files) outcome holds stays room sound is_not works = λ found has tells fine memory.
        let calm = is_not found has tells fine in
        let not = calm.0 in
        let not_warned = warned_not_desk same not in
        let returned : after.returned ≡ between.returned = ap (λ (desk : DeskTold). desk.returned) warns.rest in (
          (warns.steady (rw stays holds) (rw room (fits same (outcome files) works.0 not has memory))).0
              ∙ calm.1,
          λ worker. subst (λ (r : ℕ → Returned). (r worker).faults ≤ (before.returned worker).faults) (sym returned) (sound not worker),
          λ desk. not_desk warned not_warned (desk_status warned (sym is ∙ desk)),
          λ store. store_status warned not_warned (sym is ∙ store),
          λ damaged. damage_status warned not_warned (sym is ∙ damaged),
          λ stream. stream_status warned not_warned (sym is ∙ stream),
        )

    -- where nothing is refused and no count of faults rose, only want of memory is left, or damage that isn't told
    complete : (outcome : Result Done Refusal) → Works {T = Unit {0}} steady outcome (Err own) before between
        → refusal_of outcome ≡ None
        → (Rose before.faults after.faults → ⊥)
        → ((worker : ℕ) → Rose (before.returned worker).faults (after.returned worker).faults → ⊥)
        → IsComplete before.stores_tell_pages (reads_of outcome) answer
    complete outcome works none calm sound = rw is (by_line same) where
      by_line : IsOrMemory own warned → IsComplete before.stores_tell_pages (reads_of outcome) (status_of warned)
      by_line (inr memory) = rw memory.0 tt
      by_line (inl e) = rw e (by_own own works none calm) where
        by_own : (why : Refusal) → Works {T = Unit {0}} steady outcome (Err why) before between → refusal_of outcome ≡ None
            → (Rose before.faults after.faults → ⊥) → IsComplete before.stores_tell_pages (reads_of outcome) (status_of why)
        by_own refusal.Desk works none calm =
            let faults = back_faults works.1.shelves before works.1.between works.1.returns.given in
            let rose : Rose before.faults between.faults = rw faults at works.1.breaks.rose in
            let rises = warns.rises in
            absurd (calm (omega (arith, rose, rises)))
        by_own refusal.Memory works none calm = tt
        by_own (refusal.Store worker) works none calm =
            let returned : after.returned ≡ between.returned = ap (λ (desk : DeskTold). desk.returned) warns.rest in
            absurd (sound worker (subst (λ (r : ℕ → Returned). Rose (before.returned worker).faults (r worker).faults) (sym returned) works.1.rose))
        by_own (refusal.Damaged worker damage) works none calm = works.1.damaged.untold
        by_own (refusal.Stream worker fault) works none calm = works.1.reads
        by_own why works none calm = let e = works.0 in absurd (cc)

    pub complete_files : (files : Option Files) (outcome : Files → Result Done Refusal)
        → IfSome files (λ files. Works {T = Unit {0}} steady (outcome files) (Err own) before between)
        → IfSome files (λ files. refusal_of (outcome files) ≡ None
        → (Rose before.faults after.faults → ⊥)
        → ((worker : ℕ) → Rose (before.returned worker).faults (after.returned worker).faults → ⊥)
        → IsComplete before.stores_tell_pages (reads_of (outcome files)) answer)
    complete_files None outcome works = tt
    complete_files (Some files) outcome works = complete (outcome files) works
