-- Reading and writing one thing after another, as a loop does.
use Rattle.std.proofs.Common.{◌≡◌, ℕ, suc, ◌-◌, ◌+◌, ◌≤◌, ◌<◌, List, [], ◌∷◌, ◌++◌, Result, Ok, Err, map, refl, sym, ap, subst, ◌∙◌, append_assoc, arith}
use Rattle.std.proofs.lemmas.List.{append-nil, map-append}
use Rattle.mage_instr.specs.declared.replaced.Limits.{Limits}
use Rattle.mage_instr.specs.declared.directive.Directive.{Directive}
use Rattle.mage_instr.specs.declared.directive.MemProgram.{MemProgram}
use Rattle.mage_file.specs.declared.fault.FileFault.{FileFault}
use Rattle.mage_file.specs.declared.fault.FileFault.TheVariants as faults
use Rattle.mage_file.specs.declared.section.Section.{Section}
use Rattle.mage_file.specs.Formats.{Rest, after, Format, read_all, Fails}
use Rattle.mage_file.specs.Grammar.{program_of}

-- what was read before, and what is still read
abbrev pub with_front : {X : Type 0} → List X → Result (List X × Rest) FileFault → Result (List X × Rest) FileFault
with_front front read = after read (λ xs left. Ok (front ++ xs, left))

pub nothing_before : {X : Type 0} (read : Result (List X × Rest) FileFault) → with_front [] read ≡ read
nothing_before (Ok x) = refl
nothing_before (Err f) = refl

-- one thing in front of others
abbrev pub then_others : {X : Type 0} → Result (X × Rest) FileFault → (Rest → Result (List X × Rest) FileFault) → Result (List X × Rest) FileFault
then_others read others = after read (λ x left. after (others left) (λ xs behind. Ok (x ∷ xs, behind)))

regroup : {X : Type 0} (front : List X) (x : X) (read : Result (List X × Rest) FileFault)
    → with_front front (after read (λ xs behind. Ok (x ∷ xs, behind))) ≡ with_front (front ++ x ∷ []) read
regroup {X} front x (Ok y) = ap (λ (xs : List X). Ok (xs, y.1)) (sym (append_assoc front (x ∷ []) y.0))
regroup front x (Err f) = refl

-- the fault of the first is that of all
fault_of_all : {A B : Type 0} (fault : FileFault) (read : Result (A × Rest) FileFault) (f : A → Rest → Result (B × Rest) FileFault) → Fails fault read → Fails fault (after read f)
fault_of_all faults.Memory read f e = tt
fault_of_all {A} faults.Long read f e = ap (λ (z : Result (A × Rest) FileFault). after z f) e
fault_of_all {A} faults.Magic read f e = ap (λ (z : Result (A × Rest) FileFault). after z f) e
fault_of_all {A} faults.Version read f e = ap (λ (z : Result (A × Rest) FileFault). after z f) e
fault_of_all {A} (faults.Short at_place) read f e = ap (λ (z : Result (A × Rest) FileFault). after z f) e
fault_of_all {A} (faults.Field at_place) read f e = ap (λ (z : Result (A × Rest) FileFault). after z f) e
fault_of_all {A} (faults.Extra at_place) read f e = ap (λ (z : Result (A × Rest) FileFault). after z f) e

-- The i-th of `count` things is read; `total` is what is read of all of them.
module _ (X : Type 0) (each : ℕ → Format X) (count i : ℕ) (front : List X) (rest : Rest) (total : Result (List X × Rest) FileFault)
    (so_far : with_front front (read_all each i (count - i) rest) ≡ total) where
  next_is : i < count → read_all each i (count - i) rest ≡ then_others ((each i).read rest) (read_all each (i + 1) (count - (i + 1)))
  unfolding read_all
  next_is lt = let k : count - i ≡ suc (count - (i + 1)) = omega arith in rw k refl

  pub reads_on : (x : X) (next : Rest) → i < count → (each i).read rest ≡ Ok (x, next)
      → with_front (front ++ x ∷ []) (read_all each (i + 1) (count - (i + 1)) next) ≡ total
  reads_on x next lt e =
      sym (regroup front x (read_all each (i + 1) (count - (i + 1)) next))
      ∙ ap (λ (z : Result (X × Rest) FileFault). with_front front (then_others z (read_all each (i + 1) (count - (i + 1))))) (sym e)
      ∙ ap (with_front front) (sym (next_is lt)) ∙ so_far

  pub reading_fails : (fault : FileFault) → i < count → Fails fault ((each i).read rest) → Fails fault total
  reading_fails fault lt e =
      let same : with_front front (then_others ((each i).read rest) (read_all each (i + 1) (count - (i + 1)))) ≡ total =
      ap (with_front front) (sym (next_is lt)) ∙ so_far in
      subst (λ (z : Result (List X × Rest) FileFault). Fails fault z) same
      (fault_of_all fault (then_others ((each i).read rest) (read_all each (i + 1) (count - (i + 1)))) (λ xs left. Ok (front ++ xs, left))
      (fault_of_all fault ((each i).read rest) (λ x left. after (read_all each (i + 1) (count - (i + 1)) left) (λ xs behind. Ok (x ∷ xs, behind))) e))

  pub reads_all : count ≤ i → total ≡ Ok (front, rest)
  unfolding read_all
  reads_all le =
      let k : count - i ≡ 0 = omega arith in
      let last : with_front front (read_all each i (count - i) rest) ≡ Ok (front, rest) = rw k (ap (λ (xs : List X). Ok (xs, rest)) (append-nil front)) in
      sym so_far ∙ last

-- sections so far, in two lists
pub record AreSplit (front : List Section) (stores : List ℕ) (workers : List (List Directive)) : Type 0 where
  pub pages : stores ≡ map (λ s. s.pages) front
  pub directives : workers ≡ map (λ s. s.directives) front

pub split_on : (front : List Section) (stores : List ℕ) (workers : List (List Directive)) (s : Section) → AreSplit front stores workers
    → AreSplit (front ++ s ∷ []) (stores ++ s.pages ∷ []) (workers ++ s.directives ∷ [])
split_on front stores workers s split = record {
  pages = ap (λ (ns : List ℕ). ns ++ s.pages ∷ []) split.pages ∙ sym (map-append (λ s. s.pages) front (s ∷ []));
  directives = ap (λ (ds : List (List Directive)). ds ++ s.directives ∷ []) split.directives ∙ sym (map-append (λ s. s.directives) front (s ∷ []));
}

pub program_is : (bounds : Limits) (front : List Section) (stores : List ℕ) (workers : List (List Directive)) → AreSplit front stores workers
    → program_of bounds front ≡ record { limits = bounds; stores = stores; workers = workers }
program_is bounds front stores workers split = rw (split.pages, split.directives) refl

abbrev pub makes : Limits → List Section → Rest → Result (MemProgram × Rest) FileFault
makes bounds sections rest = Ok (program_of bounds sections, rest)

pub program_fails : (bounds : Limits) (fault : FileFault) (total : Result (List Section × Rest) FileFault) → Fails fault total → Fails fault (after total (makes bounds))
program_fails bounds fault total e = fault_of_all fault total (makes bounds) e
