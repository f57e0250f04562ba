-- Sources that are opened one after the other, and closed.
use Rattle.std.proofs.Common.{◌≡◌, ◌<◌, ◌+◌, ◌++◌, ◌∷◌, ℕ, zero, suc, List, [], length, get_or, map, Option, Some, None, IfSome, Err, String, refl, sym, ap, subst, ◌∙◌, length-append, arith}
use Rattle.std.specs.Prelude.{IsSome, IsTrue, string_bytes}
use Rattle.std.specs.List.{All}
use Rattle.std.specs.Global.{Global}
use Rattle.std.proofs.lemmas.List.{map-append}
use Rattle.mage_base.specs.declared.failure.DeskError.{DeskError}
use Rattle.mage_base.specs.declared.failure.DeskError.TheVariants as errors
use Rattle.mage_base.specs.Desk.{DeskTold, Files, HandsSource, Finds, FaultCounted, IsNoFault}
use Rattle.mage_base.specs.Faults.{count_after}
use Rattle.mage_base.specs.Source.{SourceTold}
use Rattle.mage_lending.specs.Names.{worker_file, worker_files, spelled}
use Rattle.mage_lending.proofs.Files.{files_next, files_count}
use Rattle.mage_lending.specs.Sources.{AreSources, NoneHaveFailed, with_source_faults}

pub sources_more : (desk : DeskTold) (names : List (List ℕ)) (sources : List SourceTold) (name : List ℕ) (source : SourceTold) →
    AreSources desk names sources → HandsSource desk name source → AreSources desk (names ++ name ∷ []) (sources ++ source ∷ [])
sources_more desk [] [] name source are one = (one, tt)
sources_more desk [] (s ∷ sources) name source are one = absurd are
sources_more desk (n ∷ names) [] name source are one = absurd are
sources_more desk (n ∷ names) (s ∷ sources) name source are one = (are.0, sources_more desk names sources name source are.1 one)

-- sources that were just opened have not failed
pub none_have_failed : (desk : DeskTold) (names : List (List ℕ)) (sources : List SourceTold) → AreSources desk names sources → NoneHaveFailed sources
none_have_failed desk [] [] are = tt
none_have_failed desk [] (s ∷ sources) are = absurd are
none_have_failed desk (n ∷ names) [] are = absurd are
none_have_failed desk (n ∷ names) (s ∷ sources) are = (are.0.no_fault, none_have_failed desk names sources are.1)

-- a count that stays as what was opened is closed
pub read_counted : (T U : Type 0) (before between after : ℕ) (e : DeskError) → FaultCounted {T = T} before between (Err e) → after ≡ between → FaultCounted {T = U} before after (Err e)
read_counted T U before between after e counted same = subst (λ (n : ℕ). FaultCounted {T = U} before n (Err e)) (sym same) (so e counted) where
  so : (e : DeskError) → FaultCounted {T = T} before between (Err e) → FaultCounted {T = U} before between (Err e)
  so errors.Fault counted = counted
  so errors.TooLong counted = counted
  so errors.Memory counted = counted

-- ---- names that are there

files_at : (prefix : List ℕ) (first count k : ℕ) (d : List ℕ) → k < count → get_or (worker_files prefix first count) k d ≡ worker_file prefix (first + k)
files_at prefix first zero k d within = absurd (omega (arith, within))
files_at prefix first (suc count) zero d within = ap (worker_file prefix) (omega (arith))
files_at prefix first (suc count) (suc k) d within =
    files_at prefix (first + 1) count k d (omega (arith, within)) ∙ ap (worker_file prefix) (omega (arith))

file_there : (prefix : List ℕ) (workers worker : ℕ) (files : Files) → worker < workers → All (λ name. IsSome (files name)) (worker_files prefix 0 workers) →
    length (worker_files prefix 0 workers) ≡ workers → IsSome (files (worker_file prefix worker))
file_there prefix workers worker files within all long =
    let at : 0 + worker ≡ worker = omega (arith) in
    subst (λ (n : List ℕ). IsSome (files n)) (files_at prefix 0 workers worker [] within ∙ ap (worker_file prefix) at) (all worker [] (omega (arith, within, long)))

-- where each worker's file is there, a steady desk finds this one
finds_so : (T U : Type 0) (prefix : List ℕ) (workers worker : ℕ) (files : Option Files) (e : DeskError) → worker < workers →
    length (worker_files prefix 0 workers) ≡ workers →
    IfSome files (λ files. IsSome (files (worker_file prefix worker)) → IsNoFault {T = T} (Err e)) →
    IfSome files (λ files. All (λ name. IsSome (files name)) (worker_files prefix 0 workers) → IsNoFault {T = U} (Err e))
finds_so T U prefix workers worker None e within long finds = tt
finds_so T U prefix workers worker (Some files) e within long finds = λ all. so e (finds (file_there prefix workers worker files within all long))
  where
    so : (e : DeskError) → IsNoFault {T = T} (Err e) → IsNoFault {T = U} (Err e)
    so errors.Fault h = h
    so errors.TooLong h = tt
    so errors.Memory h = tt

pub steady_so : (T U : Type 0) (before old : DeskTold) (prefix : List ℕ) (workers worker : ℕ) (text : List ℕ) (e : DeskError) → worker < workers → old ≡ before →
    text ≡ worker_file prefix worker → Finds {T = T} old text (Err e) → IsTrue before.steady →
    IfSome before.files (λ files. All (λ name. IsSome (files name)) (worker_files prefix 0 workers) → IsNoFault {T = U} (Err e))
steady_so T U before old prefix workers worker text e within same is finds calm =
    finds_so T U prefix workers worker before.files e within (files_count prefix 0 workers)
    (subst (λ (t : List ℕ). IfSome before.files (λ files. IsSome (files t) → IsNoFault {T = T} (Err e))) is
    (subst (λ (d : DeskTold). Finds {T = T} d text (Err e)) same finds calm))

-- ---- one more is opened

-- what is known after so many files were opened
pub record Reads {S : Type 0} (tells : S → SourceTold) (before now : DeskTold) (prefix : List ℕ) (names : List (String Global)) (sources : List S) (worker : ℕ) : Type 0 where
  pub named : length names ≡ worker
  pub names_are : spelled names ≡ worker_files prefix 0 worker
  pub count : length sources ≡ worker
  pub opened : AreSources before (worker_files prefix 0 worker) (map tells sources)
  pub rest : now ≡ before

pub reads_none : {S : Type 0} (tells : S → SourceTold) (before : DeskTold) (prefix : List ℕ) (names : List (String Global)) (sources : List S) → names ≡ [] → sources ≡ [] →
    Reads tells before before prefix names sources 0
reads_none {S} tells before prefix names sources no_name no_source = record {
  named = ap (λ (l : List (String Global)). length l) no_name;
  names_are = ap spelled no_name;
  count = ap (λ (l : List S). length l) no_source;
  opened = subst (λ (l : List S). AreSources before (worker_files prefix 0 0) (map tells l)) (sym no_source) tt;
  rest = refl;
}

pub reads_next : {S : Type 0} (tells : S → SourceTold) (before old new : DeskTold) (prefix : List ℕ) (names names' : List (String Global)) (sources sources' : List S) (worker : ℕ)
    (name : String Global) (text : List ℕ) (source : S) → Reads tells before old prefix names sources worker →
    string_bytes name ≡ worker_file prefix worker → text ≡ string_bytes name → HandsSource old text (tells source) →
    new ≡ record old { faults = new.faults } → new.faults ≡ old.faults → names' ≡ names ++ name ∷ [] → sources' ≡ sources ++ source ∷ [] →
    Reads tells before new prefix names' sources' (worker + 1)
reads_next {S} tells before old new prefix names names' sources sources' worker name text source so is spells hands rest counted push_name push_source = record {
  named = ap (λ (l : List (String Global)). length l) push_name ∙ length-append names (name ∷ []) ∙ ap (λ (n : ℕ). n + 1) so.named;
  names_are = ap spelled push_name ∙ map-append string_bytes names (name ∷ []) ∙ ap (λ (l : List (List ℕ)). l ++ string_bytes name ∷ []) so.names_are
      ∙ ap (λ (n : List ℕ). worker_files prefix 0 worker ++ n ∷ []) is ∙ sym (files_next prefix worker);
  count = ap (λ (l : List S). length l) push_source ∙ length-append sources (source ∷ []) ∙ ap (λ (n : ℕ). n + 1) so.count;
  opened = subst (λ (l : List S). AreSources before (worker_files prefix 0 (worker + 1)) (map tells l)) (sym push_source)
      (subst (λ (l : List SourceTold). AreSources before (worker_files prefix 0 (worker + 1)) l) (sym (map-append tells sources (source ∷ [])))
      (subst (λ (l : List (List ℕ)). AreSources before l (map tells sources ++ tells source ∷ [])) (sym (files_next prefix worker))
      (sources_more before (worker_files prefix 0 worker) (map tells sources) (worker_file prefix worker) (tells source) so.opened
      (subst (λ (d : DeskTold). HandsSource d (worker_file prefix worker) (tells source)) so.rest
      (subst (λ (t : List ℕ). HandsSource old t (tells source)) (spells ∙ is) hands)))));
  rest = rest ∙ ap (λ (n : ℕ). record old { faults = n }) counted ∙ so.rest;
}

-- ---- they are closed

-- what the desk tells after sources were closed
abbrev pub after_sources : DeskTold → List SourceTold → DeskTold
after_sources desk sources = record desk { faults = with_source_faults desk.faults sources }

pub sources_begin : {S : Type 0} (tells : S → SourceTold) (before : DeskTold) (sources rest : List S) → rest ≡ sources →
    after_sources before (map tells rest) ≡ after_sources before (map tells sources)
sources_begin {S} tells before sources rest is = ap (λ (l : List S). after_sources before (map tells l)) is

pub sources_next : {S : Type 0} (tells : S → SourceTold) (old new whole : DeskTold) (rest others : List S) (source : S) → rest ≡ source ∷ others →
    new ≡ record old { faults = count_after old.faults (tells source).faults } → after_sources old (map tells rest) ≡ whole → after_sources new (map tells others) ≡ whole
sources_next {S} tells old new whole rest others source is closed leads =
    ap (λ (d : DeskTold). after_sources d (map tells others)) closed ∙ sym (ap (λ (l : List S). after_sources old (map tells l)) is) ∙ leads

pub sources_end : {S : Type 0} (tells : S → SourceTold) (now whole : DeskTold) (rest : List S) → length rest ≡ 0 → after_sources now (map tells rest) ≡ whole → now ≡ whole
sources_end tells now whole [] none leads = leads
sources_end tells now whole (source ∷ others) none leads = absurd (omega (arith, none))

-- and what is known of the count where none has failed
pub quiet_begin : {S : Type 0} (tells : S → SourceTold) (sources rest : List S) (faults : ℕ) → rest ≡ sources → NoneHaveFailed (map tells sources)
    → NoneHaveFailed (map tells rest) × (faults ≡ faults)
quiet_begin {S} tells sources rest faults is none = (subst (λ (l : List S). NoneHaveFailed (map tells l)) (sym is) none, refl)

pub quiet_next : {S : Type 0} (tells : S → SourceTold) (rest others : List S) (source : S) (before old new : ℕ) → rest ≡ source ∷ others → ((tells source).faults ≡ 0 → new ≡ old)
    → NoneHaveFailed (map tells rest) × (old ≡ before) → NoneHaveFailed (map tells others) × (new ≡ before)
quiet_next {S} tells rest others source before old new is stays so =
    let none = subst (λ (l : List S). NoneHaveFailed (map tells l)) is so.0 in (none.1, stays none.0 ∙ so.1)
