-- Sinks that are opened one after the other, and closed again.
use Rattle.std.proofs.Common.{◌≡◌, ◌≤◌, ◌<◌, ◌+◌, ◌++◌, ◌∷◌, ℕ, zero, suc, List, [], length, get_or, take, map, Option, Some, None, IfSome, Result, Ok, Err, String, refl, sym, ap, ap₂, subst, ◌∙◌, length-append, arith}
use Rattle.std.specs.Prelude.{OnOk, IsOk, IsTrue, string_bytes}
use Rattle.std.specs.Global.{Global}
use Rattle.std.proofs.lemmas.Bool.{false≢true}
use Rattle.std.proofs.lemmas.List.{take_more, take_all, map-append, length-map}
use Rattle.std.specs.List.{All}
use Rattle.std.proofs.lemmas.List.Elements.{All-cons, All-nil}
use Rattle.mage_base.specs.declared.failure.DeskError.{DeskError}
use Rattle.mage_base.specs.declared.failure.DeskError.TheVariants as errors
use Rattle.mage_base.specs.Desk.{DeskTold, Files, HandsSink, files_with, FaultCounted, IsNoFault}
use Rattle.mage_base.specs.Sink.{SinkTold}
use Rattle.mage_lending.specs.Sinks.{with_all, with_empty, HaveFiles, AreOpened, AreFronts, ClosesAll}
use Rattle.mage_lending.specs.Names.{worker_file, worker_files, spelled}
use Rattle.mage_lending.proofs.Files.{told_before, NoContents, emptied_again, emptied_there, files_next, files_count, empty_more}
use Rattle.mage_lending.proofs.Closing.{fronts_of}

pub opened_more : (desk : DeskTold) (rooms : List ℕ) (sinks : List SinkTold) (room : ℕ) (sink : SinkTold) → AreOpened desk rooms sinks → HandsSink desk room sink →
    AreOpened desk (rooms ++ room ∷ []) (sinks ++ sink ∷ [])
opened_more desk [] [] room sink opened one = (one, tt)
opened_more desk [] (s ∷ sinks) room sink opened one = absurd opened
opened_more desk (r ∷ rooms) [] room sink opened one = absurd opened
opened_more desk (r ∷ rooms) (s ∷ sinks) room sink opened one = (opened.0, opened_more desk rooms sinks room sink opened.1 one)

-- a sink that was opened after others
pub hands_later : (before now : DeskTold) (names : List (List ℕ)) (room : ℕ) (sink : SinkTold) → now.files ≡ with_empty before.files names →
    now.steady ≡ before.steady → HandsSink now room sink → HandsSink before room sink
hands_later before now names room sink files steady hands = record {
  taken = told_before (sink.taken ≡ Some []) before.files names (subst (λ (f : Option Files). IfSome f (λ _. sink.taken ≡ Some [])) files hands.taken);
  no_fault = hands.no_fault;
  steady = λ calm. hands.steady (steady ∙ calm);
}

pub no_faults : {S : Type 0} (tells : S → SinkTold) (desk : DeskTold) (rooms : List ℕ) (sinks : List S) → AreOpened desk rooms (map tells sinks) →
    All (λ sink. (tells sink).faults ≡ 0) sinks
no_faults {S} tells desk [] [] opened = All-nil (λ (sink : S). (tells sink).faults ≡ 0)
no_faults tells desk [] (s ∷ sinks) opened = absurd opened
no_faults tells desk (r ∷ rooms) [] opened = absurd opened
no_faults {S} tells desk (r ∷ rooms) (s ∷ sinks) opened =
    All-cons (λ (sink : S). (tells sink).faults ≡ 0) s sinks opened.0.no_fault (no_faults tells desk rooms sinks opened.1)

-- ---- what is closed again is empty

take_none : (n : ℕ) → take {A = ℕ} n [] ≡ []
take_none zero = refl
take_none (suc n) = refl

abbrev TookNothing : List SinkTold → Type 0
TookNothing [] = Unit {0}
TookNothing (sink ∷ sinks) = (sink.taken ≡ Some []) × TookNothing sinks

no_contents : (sinks : List SinkTold) (contents : List (List ℕ)) → TookNothing sinks → AreFronts sinks contents → NoContents contents
no_contents [] [] nothing fronts = tt
no_contents [] (bytes ∷ contents) nothing fronts = absurd fronts
no_contents (sink ∷ sinks) [] nothing fronts = absurd fronts
no_contents (sink ∷ sinks) (bytes ∷ contents) nothing fronts =
    let front = subst (λ (o : Option (List ℕ)). IfSome o (λ t. (n : ℕ) × (bytes ≡ take n t))) nothing.0 fronts.0 in
    (front.1 ∙ take_none front.0, no_contents sinks contents nothing.1 fronts.1)

all_nothing : (desk : DeskTold) (files : Files) (rooms : List ℕ) (sinks : List SinkTold) → desk.files ≡ Some files → AreOpened desk rooms sinks → TookNothing sinks
all_nothing desk files [] [] told opened = tt
all_nothing desk files [] (s ∷ sinks) told opened = absurd opened
all_nothing desk files (r ∷ rooms) [] told opened = absurd opened
all_nothing desk files (r ∷ rooms) (s ∷ sinks) told opened =
    (subst (λ (f : Option Files). IfSome f (λ _. s.taken ≡ Some [])) told opened.0.taken, all_nothing desk files rooms sinks told opened.1)

empty_contents : (desk : DeskTold) (rooms : List ℕ) (sinks : List SinkTold) (contents : List (List ℕ)) → AreOpened desk rooms sinks → AreFronts sinks contents →
    IfSome desk.files (λ _. NoContents contents)
empty_contents desk rooms sinks contents opened fronts = by_told desk.files refl
  where
    by_told : (files : Option Files) → desk.files ≡ files → IfSome files (λ _. NoContents contents)
    by_told None told = tt
    by_told (Some files) told = no_contents sinks contents (all_nothing desk files rooms sinks told opened) fronts

module _ (before between after : DeskTold) (names : List (List ℕ)) (rooms : List ℕ) (sinks : List SinkTold)
    (opened : AreOpened before rooms sinks) (opens : between ≡ record before { files = with_empty before.files names; faults = between.faults }) where
  again : (contents : List (List ℕ)) → AreFronts sinks contents → after ≡ record between { files = with_all between.files names contents; faults = after.faults } →
      after ≡ record before { files = with_empty before.files names; faults = after.faults }
  again contents fronts is =
      is ∙ ap (λ (d : DeskTold). record d { files = with_all d.files names contents; faults = after.faults }) opens
      ∙ ap (λ (f : Option Files). record before { files = f; faults = after.faults }) (emptied_again before.files names contents (empty_contents before rooms sinks contents opened fronts))

  pub closed_again : {E : Type 0} (r : Result (Unit {0}) E) → ClosesAll between after names sinks r → after ≡ record before { files = with_empty before.files names; faults = after.faults }
  closed_again (Ok x) closed =
      again closed.0 (fronts_of sinks closed.0 closed.1)
      (closed.2 ∙ ap (λ (n : ℕ). record between { files = with_all between.files names closed.0; faults = n }) (sym (ap (λ (d : DeskTold). d.faults) closed.2)))
  closed_again (Err e) closed = again closed.0 closed.1 closed.2

-- ---- why it ends

pub no_fault_so : (T U : Type 0) (e : DeskError) → IsNoFault {T = T} (Err e) → IsNoFault {T = U} (Err e)
no_fault_so T U errors.Fault h = h
no_fault_so T U errors.TooLong h = tt
no_fault_so T U errors.Memory h = tt

pub not_risen : (T : Type 0) (before between : ℕ) (e : DeskError) → IsNoFault {T = T} (Err e) → FaultCounted {T = T} before between (Err e) → between ≡ before
not_risen T before between errors.Fault none counted = absurd none
not_risen T before between errors.TooLong none counted = counted
not_risen T before between errors.Memory none counted = counted

-- a close that was done left the count
pub left_so : {E : Type 0} (r : Result (Unit {0}) E) (old new : ℕ) → IsOk r → OnOk r (new ≡ old) → new ≡ old
left_so (Ok x) old new ok left = left
left_so (Err e) old new ok left = absurd (false≢true ok)

-- ---- one more is opened

-- what is known after so many files were opened
pub record Open {S : Type 0} (tells : S → SinkTold) (before now : DeskTold) (prefix : List ℕ) (rooms : List ℕ) (names : List (String Global)) (sinks : List S) (worker : ℕ) : Type 0 where
  pub named : length names ≡ worker
  pub names_are : spelled names ≡ worker_files prefix 0 worker
  pub count : length sinks ≡ worker
  pub opened : AreOpened before (take worker rooms) (map tells sinks)
  pub rest : now ≡ record before { files = with_empty before.files (worker_files prefix 0 worker) }

pub open_none : {S : Type 0} (tells : S → SinkTold) (before : DeskTold) (prefix rooms : List ℕ) (names : List (String Global)) (sinks : List S) → names ≡ [] → sinks ≡ [] →
    Open tells before before prefix rooms names sinks 0
open_none {S} tells before prefix rooms names sinks no_name no_sink = record {
  named = ap (λ (l : List (String Global)). length l) no_name;
  names_are = ap spelled no_name;
  count = ap (λ (l : List S). length l) no_sink;
  opened = subst (λ (l : List S). AreOpened before (take 0 rooms) (map tells l)) (sym no_sink) tt;
  rest = refl;
}

pub open_next : {S : Type 0} (tells : S → SinkTold) (before old new : DeskTold) (prefix rooms : List ℕ) (names names' : List (String Global)) (sinks sinks' : List S) (worker default : ℕ)
    (name : String Global) (text : List ℕ) (sink : S) → worker < length rooms → Open tells before old prefix rooms names sinks worker →
    string_bytes name ≡ worker_file prefix worker → text ≡ string_bytes name → HandsSink old (get_or rooms worker default) (tells sink) →
    new ≡ record old { files = files_with old.files text [] } → names' ≡ names ++ name ∷ [] → sinks' ≡ sinks ++ sink ∷ [] →
    Open tells before new prefix rooms names' sinks' (worker + 1)
open_next {S} tells before old new prefix rooms names names' sinks sinks' worker default name text sink within so is spells hands opens push_name push_sink = record {
  named = ap (λ (l : List (String Global)). length l) push_name ∙ length-append names (name ∷ []) ∙ ap (λ (n : ℕ). n + 1) so.named;
  names_are = ap spelled push_name ∙ map-append string_bytes names (name ∷ []) ∙ ap (λ (l : List (List ℕ)). l ++ string_bytes name ∷ []) so.names_are
      ∙ ap (λ (n : List ℕ). worker_files prefix 0 worker ++ n ∷ []) is ∙ sym (files_next prefix worker);
  count = ap (λ (l : List S). length l) push_sink ∙ length-append sinks (sink ∷ []) ∙ ap (λ (n : ℕ). n + 1) so.count;
  opened = subst (λ (l : List S). AreOpened before (take (worker + 1) rooms) (map tells l)) (sym push_sink)
      (subst (λ (l : List SinkTold). AreOpened before (take (worker + 1) rooms) l) (sym (map-append tells sinks (sink ∷ [])))
      (subst (λ (l : List ℕ). AreOpened before l (map tells sinks ++ tells sink ∷ [])) (sym taken)
      (opened_more before (take worker rooms) (map tells sinks) (get_or rooms worker default) (tells sink) so.opened
      (hands_later before old (worker_files prefix 0 worker) (get_or rooms worker default) (tells sink) (ap (λ (d : DeskTold). d.files) so.rest) (ap (λ (d : DeskTold). d.steady) so.rest) hands))));
  rest = opens ∙ ap (λ (d : DeskTold). record d { files = files_with d.files text [] }) so.rest
      ∙ ap (λ (t : List ℕ). record before { files = files_with (with_empty before.files (worker_files prefix 0 worker)) t [] }) (spells ∙ is)
      ∙ ap (λ (f : Option Files). record before { files = f }) (sym (ap (with_empty before.files) (files_next prefix worker) ∙ empty_more before.files (worker_files prefix 0 worker) (worker_file prefix worker)));
}
  where
    taken : take (worker + 1) rooms ≡ take worker rooms ++ get_or rooms worker default ∷ []
    taken = take_more rooms worker default within

-- ---- all of them, or none

pub opened_all : (desk : DeskTold) (rooms : List ℕ) (sinks : List SinkTold) (count : ℕ) → count ≡ length rooms → AreOpened desk (take count rooms) sinks → AreOpened desk rooms sinks
opened_all desk rooms sinks count all opened = subst (λ (l : List ℕ). AreOpened desk l sinks) (take_all count rooms (omega (arith, all))) opened

pub there_now : (before after : DeskTold) (prefix : List ℕ) (count workers : ℕ) → count ≡ workers →
    after ≡ record before { files = with_empty before.files (worker_files prefix 0 count); faults = after.faults } → HaveFiles after.files (worker_files prefix 0 workers)
there_now before after prefix count workers all is =
    subst (λ (n : ℕ). HaveFiles after.files (worker_files prefix 0 n)) all
    (subst (λ (f : Option Files). HaveFiles f (worker_files prefix 0 count)) (sym (ap (λ (d : DeskTold). d.files) is)) (emptied_there before.files (worker_files prefix 0 count)))

pub opens_all : (before after : DeskTold) (prefix : List ℕ) (count workers : ℕ) → count ≡ workers → after.faults ≡ before.faults →
    after ≡ record before { files = with_empty before.files (worker_files prefix 0 count); faults = after.faults } →
    after ≡ record before { files = with_empty before.files (worker_files prefix 0 workers) }
opens_all before after prefix count workers all same is =
    is ∙ ap₂ (λ (n f : ℕ). record before { files = with_empty before.files (worker_files prefix 0 n); faults = f }) all same

pub named_count : (prefix : List ℕ) (names : List (String Global)) (n : ℕ) → spelled names ≡ worker_files prefix 0 n → length names ≡ n
named_count prefix names n is = sym (length-map names string_bytes) ∙ ap (λ (l : List (List ℕ)). length l) is ∙ files_count prefix 0 n

-- what is known where opening stopped, and what was opened is closed again
module _ {S : Type 0} (tells : S → SinkTold) (before between after : DeskTold) (prefix rooms : List ℕ) (names : List (String Global)) (sinks : List S)
    (opened : AreOpened before (take (length sinks) rooms) (map tells sinks)) (named : spelled names ≡ worker_files prefix 0 (length sinks))
    (opens : between ≡ record before { files = with_empty before.files (worker_files prefix 0 (length sinks)); faults = between.faults }) where
  pub there_again : HaveFiles between.files (spelled names)
  there_again =
      subst (λ (l : List (List ℕ)). HaveFiles between.files l) (sym named)
      (there_now before between prefix (length sinks) (length sinks) refl opens)

  pub stopped_opening : {E : Type 0} (r : Result (Unit {0}) E) (workers : ℕ) → length sinks ≤ workers → ClosesAll between after (spelled names) (map tells sinks) r →
      (count : ℕ) × (count ≤ workers) × (after ≡ record before { files = with_empty before.files (worker_files prefix 0 count); faults = after.faults })
  stopped_opening r workers few closed = (
    length sinks,
    few,
    closed_again before between after (worker_files prefix 0 (length sinks)) (take (length sinks) rooms) (map tells sinks) opened opens r
        (subst (λ (l : List (List ℕ)). ClosesAll between after l (map tells sinks) r) named closed),
  )

  pub steady_still : {E : Type 0} (T : Type 0) (r : Result (Unit {0}) E) (e : DeskError) → IsTrue before.steady → IsNoFault {T = T} (Err e) → FaultCounted {T = T} before.faults between.faults (Err e) →
      (IsTrue between.steady → IsOk r) → (All (λ sink. (tells sink).faults ≡ 0) sinks → OnOk r (after.faults ≡ between.faults)) → after.faults ≡ before.faults
  steady_still T r e calm none counted ok quiet =
      left_so r between.faults after.faults (ok (ap (λ (d : DeskTold). d.steady) opens ∙ calm)) (quiet (no_faults tells before (take (length sinks) rooms) sinks opened))
      ∙ not_risen T before.faults between.faults e none counted
