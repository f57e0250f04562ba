-- What a run that evaluates answers.
use Rattle.std.proofs.Common.{◌≡◌, ◌<◌, ◌⊎◌, inl, inr, ℕ, true, false, List, [], ◌∷◌, ◌++◌, length, map, replicate, Option, None, Some, Result, Ok, Err, slice_get, refl, sym, ap, ◌∙◌, subst}
use Rattle.std.proofs.lemmas.List.Elements.{All-head}
use Rattle.std.specs.List.{All}
use Rattle.std.proofs.lemmas.List.{length-map, reverse-reverse}
use Rattle.std.specs.Prelude.{IfSome, IfErr, IsSome, IsTrue, Vec, reverse}
use Rattle.std.specs.Global.{Global}
use Rattle.mage_base.specs.declared.failure.Damage.{Damage}
use Rattle.mage_base.specs.Source.{SourceTold}
use Rattle.mage_base.specs.Store.{StoreTold}
use Rattle.mage_instr.specs.declared.fault.DriverFault.{DriverFault}
use Rattle.mage_instr.specs.declared.fault.DriverFault.TheVariants as broken
use Rattle.mage_instr.specs.declared.directive.MemProgram.{MemProgram}
use Rattle.mage_directives.specs.Directives.{IsMemProgram}
use Rattle.mage_driver.specs.Calls.{Told}
use Rattle.mage_label.specs.declared.labels.Label.{Label}
use Rattle.mage_linked.specs.declared.emitted.Emitted.{Emitted}
use Rattle.mage_linked.specs.Emission.{program_of}
use Rattle.mage_linked.specs.Workers.{list_at}
use Rattle.mage_verify.specs.Faults.{fault_of}
use Rattle.mage_verify.specs.Parts.{WorkerPart, parts_of}
use Rattle.mage_eval.specs.Rule.{Evaluating, eval_rules}
use Rattle.mage_carried.specs.Laws.{CanRun, Carries}
use Rattle.mage_carried.proofs.Starting.{carried_so}
use Rattle.mage_garbled_runs.specs.Runs.{AreWhole}
use Rattle.mage_core.specs.Answered.{AreStates, AreTold}
use Rattle.mage_core.specs.Begun.{BeginsJoint}
use Rattle.mage_core.specs.Joined.{RunsJoint, WasDeceived}
use Rattle.mage_core.specs.Made.{shelves}
use Rattle.mage_core.specs.Results.{starts_of, ComesTo}
use Rattle.mage_core.specs.Steady.{IsNotOfStore}
use Rattle.mage_core.specs.declared.fault.RunFault.{RunFault}
use Rattle.mage_core.specs.declared.fault.RunFault.TheVariants as fault
use Rattle.mage_solo.specs.Stores.{told_by, AllSuffice, SufficesFor, WereDeceived}
use Rattle.mage_solo.specs.Evaluating.{AllTellLeft, AllSteady, Drawn, NoneFailed, HasStopped, EvalStops, IsOfNoStore, IsOfAStream, IsForItsStream, stream_fault, source_at, no_source, decoded_by, evaluators_of, evaluator_openings, labels_in, outputs_of, AreClosed, GivesBack, AreMadeFor}
use Rattle.mage_solo.proofs.Lists.{if_found, found_below, get_within, index_found, Ones, ones_of, mapped_ones}
use Rattle.mage_solo.proofs.Workers.{broken_ones, damaged_ones, undamaged}
use Rattle.mage_solo.proofs.Streaming.{same_map}
use Rattle.mage_solo.proofs.Drawing.{faults_of, closed_faults, none_failed, opened_faults, made_all}
use Rattle.mage_solo.proofs.Evaluation.{evaluator_openings_count, are_told, are_states, stopped_so, unfailed_so, said_so, wrong_so}
use Rattle.mage_solo.proofs.Plainly.{parts_count}

-- what is known of a run whose drivers were made and taken apart
pub record Ran (parts : List WorkerPart) (labels : List (List Label)) (sources : List SourceTold) (drivers now : List (Told Evaluating))
    (sources' : List SourceTold) (before after : List (List StoreTold)) : Type 0 where
  pub long_l : length labels ≡ length parts
  pub long_s : length sources ≡ length parts
  pub made : drivers ≡ evaluator_openings 0 parts labels sources
  pub counted : length drivers ≡ length parts
  pub kept : length now ≡ length parts
  pub closed : AreClosed now sources'
  pub b : Ones before (length parts)
  pub a : Ones after (length parts)

module _ (parts : List WorkerPart) (labels : List (List Label)) (sources : List SourceTold) (drivers now : List (Told Evaluating))
    (sources' : List SourceTold) (before after : List (List StoreTold)) (r : Ran parts labels sources drivers now sources' before after) where
  carry_over : (P : List (Told Evaluating) → List (List StoreTold) → List (List StoreTold) → Type 0) →
      P (evaluator_openings 0 parts labels sources) (ones_of r.b.each) (ones_of r.a.each) → P drivers before after
  carry_over P h =
      subst (λ (ds : List (Told Evaluating)). P ds before after) (sym r.made)
      (subst (λ (x : List (List StoreTold)). P (evaluator_openings 0 parts labels sources) x after) (sym r.b.is)
      (subst (λ (y : List (List StoreTold)). P (evaluator_openings 0 parts labels sources) (ones_of r.b.each) y) (sym r.a.is) h))

  pub told_end : AllTellLeft sources → AreTold (starts_of parts drivers before)
  told_end = carry_over (λ ds x y. AllTellLeft sources → AreTold (starts_of parts ds x))
      (are_told parts labels sources r.b.each r.long_l r.long_s)

  stopped_end : (w : ℕ) (f : DriverFault) → ComesTo (starts_of parts drivers before) now after (Some (fault.Driver w f)) → HasStopped sources sources' w f
  stopped_end w f = carry_over (λ ds x y. ComesTo (starts_of parts ds x) now y (Some (fault.Driver w f)) → HasStopped sources sources' w f)
      (stopped_so parts labels sources r.b.each r.long_l r.long_s now r.a.each r.kept r.b.long r.a.long sources' r.closed w f)

  pub unfailed_end : ComesTo (starts_of parts drivers before) now after None → NoneFailed sources sources'
  unfailed_end = carry_over (λ ds x y. ComesTo (starts_of parts ds x) now y None → NoneFailed sources sources')
      (unfailed_so parts labels sources r.b.each r.long_l r.long_s now r.a.each r.kept r.b.long r.a.long sources' r.closed)

  -- drivers that came back as they were made
  pub unmoved : now ≡ drivers → NoneFailed sources sources'
  unmoved same = none_failed sources sources'
      (closed_faults now sources' r.closed ∙ ap faults_of (same ∙ r.made) ∙ opened_faults 0 parts labels sources (sym r.long_s) (r.long_l ∙ sym r.long_s))

  pub back_count : length sources' ≡ length parts
  back_count = sym (length-map sources' (λ (s : SourceTold). s.faults)) ∙ ap length (closed_faults now sources' r.closed) ∙ length-map now (λ (d : Told Evaluating). d.faults) ∙ r.kept

  pub eval_stops : (found : RunFault) → ComesTo (starts_of parts drivers before) now after (Some found) →
      ((w : ℕ) (damage : Damage) → Some found ≡ Some (fault.Damaged w damage) → IfSome (slice_get (starts_of parts drivers before) w) (λ start. start.store.pages ≡ None)) →
      EvalStops parts before after sources sources' found
  eval_stops (fault.Store w) came untold = broken_ones parts drivers now before after r.counted r.kept r.b r.a w came
  eval_stops (fault.Driver w f) came untold = stopped_end w f came
  eval_stops (fault.Damaged w damage) came untold =
      damaged_ones parts drivers now before after r.counted r.kept r.b r.a w damage came (untold w damage refl)
  eval_stops fault.Memory came untold = tt

  -- no store stops a run whose stores suffice
  pub eval_spared : AllSuffice parts before → (found : RunFault) → ComesTo (starts_of parts drivers before) now after (Some found) →
      ((w : ℕ) (damage : Damage) → Some found ≡ Some (fault.Damaged w damage) → IfSome (slice_get (starts_of parts drivers before) w) (λ start. start.store.pages ≡ None)) →
      IsNotOfStore (Some found) → IsOfNoStore found
  eval_spared all (fault.Store w) came untold no_store = absurd no_store
  eval_spared all (fault.Driver w f) came untold no_store = tt
  eval_spared all (fault.Damaged w damage) came untold no_store =
      absurd (undamaged parts drivers now before after r.counted r.kept r.b r.a all w damage came (untold w damage refl))
  eval_spared all fault.Memory came untold no_store = tt

  never_steady : (w : ℕ) (source : Drawn sources sources' w) → AllSteady sources' → source.new.steady ≡ false → ⊥
  never_steady w source all unsteady =
      let steady : source.new.steady ≡ true = if_found (λ (s : SourceTold). IsTrue s.steady) (slice_get sources' w) source.new source.new_so (all w) in
      let never : true ≡ false = sym steady ∙ unsteady in cc

  never_unsteady : (w : ℕ) → w < length sources → AllSteady sources → (source_at sources w).steady ≡ false → ⊥
  never_unsteady w within all unsteady =
      let found = found_below sources w within in
      let steady : found.0.steady ≡ true = if_found (λ (s : SourceTold). IsTrue s.steady) (slice_get sources w) found.0 found.1 (all w) in
      let never : true ≡ false = sym steady ∙ sym (ap (λ (s : SourceTold). s.steady) (index_found sources w found.0 no_source found.1)) ∙ unsteady in cc

  -- a store that suffices tells its pages
  never_deceived : AllSuffice parts before → WereDeceived parts before after → ⊥
  never_deceived all was =
      let part = was.worker.part in
      let old = was.worker.old in
      let shelf = if_found (λ (p : WorkerPart). IfSome (slice_get before was.number) (All (SufficesFor p))) (slice_get parts was.number) part was.worker.part_so (all was.number) in
      let one = if_found (All (SufficesFor part)) (slice_get before was.number) (old ∷ []) was.worker.old_so shelf in
      let told : IsSome old.pages = (All-head (SufficesFor part) old [] one).told in
      never old.pages told was.untold
    where
      never : {X : Type 0} (o : Option X) → IsSome o → o ≡ None → ⊥
      never None h e = absurd cc
      never (Some x) h e = absurd cc

  -- and where the sources are steady, only a stream does
  pub eval_steady : AllSteady sources' → (found : RunFault) → IsOfNoStore found → EvalStops parts before after sources sources' found → IsOfAStream found
  eval_steady all (fault.Store w) spared stops = spared
  eval_steady all (fault.Driver w broken.Source) spared stops = never_steady w stops.0 all stops.1.2
  eval_steady all (fault.Driver w broken.Sink) spared stops = stops.1
  eval_steady all (fault.Driver w (broken.Short at)) spared stops = tt
  eval_steady all (fault.Driver w (broken.Long at)) spared stops = tt
  eval_steady all (fault.Driver w (broken.Colour at)) spared stops = tt
  eval_steady all (fault.Damaged w damage) spared stops = spared
  eval_steady all fault.Memory spared stops = tt

  module _ (count : ℕ) (emitted : List Emitted) (plan : MemProgram) (fine : IsMemProgram plan) (is : parts ≡ parts_of plan) (none : fault_of plan ≡ None)
      (carried : Carries count emitted plan) (can : CanRun count emitted) (whole : (w : ℕ) → AreWhole (list_at labels w)) where
    pub said_end : ((states : ℕ → Evaluating) → AreStates (starts_of parts drivers before) states →
        RunsJoint eval_rules plan states (starts_of parts drivers before) now after ⊎ WasDeceived (starts_of parts drivers before) now after) →
        ((outputs_of now ≡ decoded_by (program_of count emitted) labels sources count)
        × ((w : ℕ) → w < count → stream_fault (program_of count emitted) labels sources w ≡ None)) ⊎ WereDeceived parts before after
    said_end = carry_over (λ ds x y. ((states : ℕ → Evaluating) → AreStates (starts_of parts ds x) states →
        RunsJoint eval_rules plan states (starts_of parts ds x) now y ⊎ WasDeceived (starts_of parts ds x) now y) →
        ((outputs_of now ≡ decoded_by (program_of count emitted) labels sources count)
        × ((w : ℕ) → w < count → stream_fault (program_of count emitted) labels sources w ≡ None)) ⊎ WereDeceived parts x y)
        (λ joint. said_so parts labels sources now r.b.each r.a.each count emitted plan fine is none carried can whole
        r.long_l r.long_s r.kept r.b.long r.a.long (joint (evaluators_of (program_of count emitted) labels sources)
        (are_states parts labels sources now r.b.each r.a.each count emitted plan fine is none carried can whole)))

    workers : length now ≡ count
    workers = r.kept ∙ ap length is ∙ parts_count plan ∙ (carried_so count emitted plan carried).workers

    wrong_driver : (w : ℕ) (f : DriverFault) → w < count → ((states : ℕ → Evaluating) → AreStates (starts_of parts drivers before) states →
        BeginsJoint eval_rules plan states (starts_of parts drivers before) now after (Some (fault.Driver w f)) ⊎ WasDeceived (starts_of parts drivers before) now after) →
        IsForItsStream (program_of count emitted) labels sources (fault.Driver w f) ⊎ WereDeceived parts before after
    wrong_driver w f within = carry_over (λ ds x y. ((states : ℕ → Evaluating) → AreStates (starts_of parts ds x) states →
        BeginsJoint eval_rules plan states (starts_of parts ds x) now y (Some (fault.Driver w f)) ⊎ WasDeceived (starts_of parts ds x) now y) →
        IsForItsStream (program_of count emitted) labels sources (fault.Driver w f) ⊎ WereDeceived parts x y)
        (λ begins. wrong_so parts labels sources now r.b.each r.a.each count emitted plan fine is none carried can whole
        r.long_l r.long_s r.kept r.b.long r.a.long w f within (begins (evaluators_of (program_of count emitted) labels sources)
        (are_states parts labels sources now r.b.each r.a.each count emitted plan fine is none carried can whole)))

    -- why a run stopped
    pub wrong_end : (found : RunFault) → ComesTo (starts_of parts drivers before) now after (Some found) →
        ((found ≡ fault.Memory → ⊥) → (states : ℕ → Evaluating) → AreStates (starts_of parts drivers before) states →
        BeginsJoint eval_rules plan states (starts_of parts drivers before) now after (Some found) ⊎ WasDeceived (starts_of parts drivers before) now after) →
        IsForItsStream (program_of count emitted) labels sources found ⊎ WereDeceived parts before after
    wrong_end (fault.Store w) came begins = inl tt
    wrong_end (fault.Driver w f) came begins =
        wrong_driver w f (subst (λ n. w < n) workers (get_within now w came.0.driver came.0.driver_so)) (begins (λ e. absurd cc))
    wrong_end (fault.Damaged w damage) came begins = inl tt
    wrong_end fault.Memory came begins = inl tt

    -- where nothing is wrong with the streams, the sources are steady and the stores suffice
    pub runs_end : AllSuffice parts before → AllSteady sources → ((w : ℕ) → w < count → stream_fault (program_of count emitted) labels sources w ≡ None) →
        (found : RunFault) → ComesTo (starts_of parts drivers before) now after (Some found) → IsOfNoStore found →
        IsForItsStream (program_of count emitted) labels sources found ⊎ WereDeceived parts before after → found ≡ fault.Memory
    runs_end all steady right (fault.Store w) came spared wrong = absurd spared
    runs_end all steady right (fault.Damaged w damage) came spared wrong = absurd spared
    runs_end all steady right fault.Memory came spared wrong = refl
    runs_end all steady right (fault.Driver w f) came spared (inr deceived) = absurd (never_deceived all deceived)
    runs_end all steady right (fault.Driver w f) came spared (inl (inl source)) =
        let within : w < length sources = subst (λ n. w < n) (r.kept ∙ sym r.long_s) (get_within now w came.0.driver came.0.driver_so) in
        absurd (never_unsteady w within steady source.1)
    runs_end all steady right (fault.Driver w f) came spared (inl (inr due)) =
        let none = right w (subst (λ n. w < n) workers (get_within now w came.0.driver came.0.driver_so)) in
        absurd (let never : None ≡ Some f = sym none ∙ due in cc)

-- the same of what the call has in hand
module _ {I S : Type 0} (tells : I → SourceTold) (store_tells : S → StoreTold) (parts slice : List WorkerPart) (labels : List (Vec Label Global))
    (sources left : List I) (made turned : List (Told Evaluating)) (long_l : length labels ≡ length parts) (long_s : length sources ≡ length parts)
    (same_parts : slice ≡ parts) (none : left ≡ []) (turned_so : turned ≡ reverse made) (for_all : AreMadeFor tells slice labels sources left (reverse made)) where
  pub opened_so : turned ≡ evaluator_openings 0 parts (labels_in labels) (map tells sources)
  opened_so = turned_so ∙ made_all tells slice labels sources left (reverse made) for_all none
      ∙ ap (λ (ps : List WorkerPart). evaluator_openings 0 ps (labels_in labels) (map tells sources)) same_parts

  pub opened_count : length turned ≡ length parts
  opened_count = ap length opened_so ∙ evaluator_openings_count 0 parts (labels_in labels) (map tells sources)
      (length-map labels (λ v. v.items) ∙ long_l) (length-map sources tells ∙ long_s)

  pub ran_so : (now : List I) (stores stores' : List (Vec S Global)) (ended back : List (Told Evaluating)) → length ended ≡ length turned → back ≡ reverse ended →
      GivesBack tells (reverse back) left now → map (λ (shelf : List S). length shelf) (shelves stores) ≡ replicate (length parts) 1 →
      map (λ (shelf : List S). length shelf) (shelves stores') ≡ map (λ (shelf : List S). length shelf) (shelves stores) →
      Ran parts (labels_in labels) (map tells sources) (map (λ d. d) turned) (map (λ d. d) ended) (map tells now) (told_by store_tells stores) (told_by store_tells stores')
  ran_so now stores stores' ended back many back_so given ones same_ones = record {
    long_l = length-map labels (λ v. v.items) ∙ long_l;
    long_s = length-map sources tells ∙ long_s;
    made = same_map turned ∙ opened_so;
    counted = ap length (same_map turned) ∙ opened_count;
    kept = ap length (same_map ended) ∙ many ∙ opened_count;
    closed = subst (λ (l : List I). AreClosed (map (λ d. d) ended) (map tells l)) (sym (given.whole ∙ ap (λ (l : List I). l ++ given.back) none))
        (subst (λ (l : List (Told Evaluating)). AreClosed l (map tells given.back)) (ap reverse back_so ∙ reverse-reverse ended ∙ sym (same_map ended)) given.closed);
    b = mapped_ones store_tells (shelves stores) (length parts) ones;
    a = mapped_ones store_tells (shelves stores') (length parts) (same_ones ∙ ones);
  }

-- what the drivers that came back put out
pub outputs_so : (lists : List (Vec ℕ Global)) (ended back : List (Told Evaluating)) → back ≡ reverse ended → map (λ v. v.items) lists ≡ outputs_of (reverse back) →
    map (λ v. v.items) lists ≡ outputs_of (map (λ d. d) ended)
outputs_so lists ended back back_so put = put ∙ ap outputs_of (ap reverse back_so ∙ reverse-reverse ended ∙ sym (same_map ended))

-- the same of an answer
pub first_so : {X P Q : Type 0} {x y z : X} → x ≡ y → ((y ≡ z) × P) ⊎ Q → ((x ≡ z) × P) ⊎ Q
first_so e (inl h) = inl (e ∙ h.0, h.1)
first_so e (inr h) = inr h

-- what follows from two facts of an error
pub both_err : {T : Type 0} (P Q R : RunFault → Type 0) (x : Result T RunFault) → ((f : RunFault) → P f → Q f → R f) → IfErr x P → IfErr x Q → IfErr x R
both_err P Q R (Ok v) h p q = tt
both_err P Q R (Err f) h p q = h f p q
