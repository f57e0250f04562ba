-- Files that are emptied, filled, and found.
use Rattle.std.proofs.Common.{◌≡◌, ◌<◌, ◌+◌, ◌++◌, ◌∷◌, ℕ, zero, suc, Bool, true, false, List, [], length, get_or, take, Option, Some, None, IfSome, refl, sym, ap, subst, ◌∙◌, arith, String}
use Rattle.std.specs.Prelude.{string_bytes, IsSome, if◌then◌else◌}
use Rattle.std.specs.Str.{bytes_eq}
use Rattle.std.specs.List.{All}
use Rattle.std.specs.Global.{Global}
use Rattle.std.proofs.lemmas.List.{take_more, map-append}
use Rattle.std.proofs.lemmas.List.Elements.{All-cons, All-nil}
use Rattle.std.proofs.lemmas.Slice.Eq.{bytes_eq-Decides}
use mathlib.Core.Path.{fun_ext}
use Rattle.mage_base.specs.Desk.{Files, with_file, files_with}
use Rattle.mage_lending.specs.Names.{worker_file, worker_files, spelled}
use Rattle.mage_lending.specs.Sinks.{with_all, with_empty, HaveFiles}

-- ---- names

pub files_more : (prefix : List ℕ) (first count : ℕ) → worker_files prefix first (count + 1) ≡ worker_files prefix first count ++ worker_file prefix (first + count) ∷ []
files_more prefix first zero = ap (λ (w : ℕ). worker_file prefix w ∷ []) (omega (arith))
files_more prefix first (suc count) =
    let next : first + 1 + count ≡ first + suc count = omega (arith) in
    let one : suc count + 1 ≡ suc (count + 1) = omega (arith) in
    ap (worker_files prefix first) one
    ∙ ap (λ (l : List (List ℕ)). worker_file prefix first ∷ l) (files_more prefix (first + 1) count)
    ∙ ap (λ (w : ℕ). worker_file prefix first ∷ (worker_files prefix (first + 1) count ++ worker_file prefix w ∷ [])) next

pub files_next : (prefix : List ℕ) (count : ℕ) → worker_files prefix 0 (count + 1) ≡ worker_files prefix 0 count ++ worker_file prefix count ∷ []
files_next prefix count =
    let at : 0 + count ≡ count = omega (arith) in
    files_more prefix 0 count ∙ ap (λ (w : ℕ). worker_files prefix 0 count ++ worker_file prefix w ∷ []) at

pub files_count : (prefix : List ℕ) (first count : ℕ) → length (worker_files prefix first count) ≡ count
files_count prefix first zero = refl
files_count prefix first (suc count) = ap suc (files_count prefix (first + 1) count)

pub spelled_more : (names : List (String Global)) (k : ℕ) (name : String Global) → k < length names → name ≡ get_or names k name →
    spelled (take (k + 1) names) ≡ spelled (take k names) ++ string_bytes name ∷ []
spelled_more names k name within is =
    ap spelled (take_more names k name within) ∙ map-append string_bytes (take k names) (get_or names k name ∷ [])
    ∙ ap (λ (n : String Global). spelled (take k names) ++ string_bytes n ∷ []) (sym is)

-- ---- files that are emptied

pub empty_more : (files : Option Files) (names : List (List ℕ)) (name : List ℕ) → with_empty files (names ++ name ∷ []) ≡ files_with (with_empty files names) name []
empty_more files [] name = refl
empty_more files (first ∷ names) name = empty_more (files_with files first []) names name

pub empty_untold : (names : List (List ℕ)) → with_empty None names ≡ None
empty_untold [] = refl
empty_untold (name ∷ names) = empty_untold names

-- what is told stays told
pub told_before : (P : Type 0) (files : Option Files) (names : List (List ℕ)) → IfSome (with_empty files names) (λ _. P) → IfSome files (λ _. P)
told_before P None names h = tt
told_before P (Some files) [] h = h
told_before P (Some files) (name ∷ names) h = told_before P (Some (with_file files name [])) names h

abbrev pub emptied : Files → List (List ℕ) → Files
emptied files [] = files
emptied files (name ∷ names) = emptied (with_file files name []) names

empty_told : (files : Files) (names : List (List ℕ)) → with_empty (Some files) names ≡ Some (emptied files names)
empty_told files [] = refl
empty_told files (name ∷ names) = empty_told (with_file files name []) names

abbrev AreEmpty : Files → List (List ℕ) → Type 0
AreEmpty files [] = Unit {0}
AreEmpty files (name ∷ names) = (files name ≡ Some []) × AreEmpty files names

put_here : (files : Files) (name : List ℕ) → with_file files name [] name ≡ Some []
put_here files name = ap (λ (b : Bool). if b then Some [] else files name) ((bytes_eq-Decides name name).1 refl)

stays_empty : (files : Files) (names : List (List ℕ)) (name : List ℕ) → files name ≡ Some [] → emptied files names name ≡ Some []
stays_empty files [] name is = is
stays_empty files (other ∷ names) name is = stays_empty (with_file files other []) names name (step (bytes_eq other name))
  where
    step : (b : Bool) → (if b then Some [] else files name) ≡ Some []
    step true = refl
    step false = is

are_empty : (files : Files) (names : List (List ℕ)) → AreEmpty (emptied files names) names
are_empty files [] = tt
are_empty files (name ∷ names) = (stays_empty (with_file files name []) names name (put_here files name), are_empty (with_file files name []) names)

same_file : (files : Files) (name : List ℕ) → files name ≡ Some [] → with_file files name [] ≡ files
same_file files name is = fun_ext (λ other. step other (bytes_eq name other) refl)
  where
    step : (other : List ℕ) (b : Bool) → bytes_eq name other ≡ b → (if b then Some [] else files other) ≡ files other
    step other true e = sym is ∙ ap files ((bytes_eq-Decides name other).0 e)
    step other false e = refl

-- all of some contents are empty
abbrev pub NoContents : List (List ℕ) → Type 0
NoContents [] = Unit {0}
NoContents (bytes ∷ contents) = (bytes ≡ []) × NoContents contents

all_untold : (names contents : List (List ℕ)) → with_all None names contents ≡ None
all_untold [] contents = refl
all_untold (name ∷ names) [] = refl
all_untold (name ∷ names) (bytes ∷ contents) = all_untold names contents

all_same : (files : Files) (names contents : List (List ℕ)) → AreEmpty files names → NoContents contents → with_all (Some files) names contents ≡ Some files
all_same files [] contents empty none = refl
all_same files (name ∷ names) [] empty none = refl
all_same files (name ∷ names) (bytes ∷ contents) empty none =
    ap (λ (b : List ℕ). with_all (Some (with_file files name b)) names contents) none.0
    ∙ ap (λ (f : Files). with_all (Some f) names contents) (same_file files name empty.0)
    ∙ all_same files names contents empty.1 none.1

-- files that were emptied, and are given nothing
pub emptied_again : (files : Option Files) (names contents : List (List ℕ)) → IfSome files (λ _. NoContents contents) →
    with_all (with_empty files names) names contents ≡ with_empty files names
emptied_again None names contents none =
    ap (λ (f : Option Files). with_all f names contents) (empty_untold names) ∙ all_untold names contents ∙ sym (empty_untold names)
emptied_again (Some files) names contents none =
    ap (λ (f : Option Files). with_all f names contents) (empty_told files names)
    ∙ all_same (emptied files names) names contents (are_empty files names) none ∙ sym (empty_told files names)

found_all : (files : Files) (names : List (List ℕ)) → AreEmpty files names → All (λ name. IsSome (files name)) names
found_all files [] empty = All-nil (λ (name : List ℕ). IsSome (files name))
found_all files (name ∷ names) empty =
    All-cons (λ (n : List ℕ). IsSome (files n)) name names (subst (λ (o : Option (List ℕ)). IsSome o) (sym empty.0) refl) (found_all files names empty.1)

-- each file that was emptied is there
pub emptied_there : (files : Option Files) (names : List (List ℕ)) → HaveFiles (with_empty files names) names
emptied_there None names = subst (λ (f : Option Files). HaveFiles f names) (sym (empty_untold names)) tt
emptied_there (Some files) names = subst (λ (f : Option Files). HaveFiles f names) (sym (empty_told files names)) (found_all (emptied files names) names (are_empty files names))

-- ---- files that are filled

pub all_more : (files : Option Files) (names contents : List (List ℕ)) (name bytes : List ℕ) → length names ≡ length contents →
    with_all files (names ++ name ∷ []) (contents ++ bytes ∷ []) ≡ files_with (with_all files names contents) name bytes
all_more files [] [] name bytes long = refl
all_more files [] (b ∷ contents) name bytes long = absurd (omega (arith, long))
all_more files (n ∷ names) [] name bytes long = absurd (omega (arith, long))
all_more files (n ∷ names) (b ∷ contents) name bytes long = all_more (files_with files n b) names contents name bytes (omega (arith, long))

-- a file that is there stays there
pub there_still : (told : Option Files) (name bytes : List ℕ) (names : List (List ℕ)) → HaveFiles told names → HaveFiles (files_with told name bytes) names
there_still None name bytes names there = tt
there_still (Some files) name bytes names there = λ k d within. step (get_or names k d) (bytes_eq name (get_or names k d)) (there k d within)
  where
    step : (other : List ℕ) (b : Bool) → IsSome (files other) → IsSome (if b then Some bytes else files other)
    step other true found = refl
    step other false found = found

pub there_at : (told : Option Files) (names : List (List ℕ)) (k : ℕ) (name : List ℕ) → k < length names → name ≡ get_or names k name →
    HaveFiles told names → IfSome told (λ files. IsSome (files name))
there_at None names k name within is there = tt
there_at (Some files) names k name within is there = subst (λ (n : List ℕ). IsSome (files n)) (sym is) (there k name within)
