-- Plans of residency: which pages are in memory at each step, and how many of them are read.
use Rattle.std.specs.Prelude.{◌≡◌, ◌≤◌, ◌+◌, ◌&&◌, ℕ, List, [], ◌∷◌, ◌++◌, Bool, true, false, not, if◌then◌else◌, length, nat_eq}
use Rattle.std.specs.List.{list_any, list_all}

-- whether a page is among some
abbrev pub is_in : ℕ → List ℕ → Bool
is_in page pages = list_any (nat_eq page) pages

-- no page stands twice
abbrev pub AreDistinct : List ℕ → Type 0
AreDistinct [] = Unit {0}
AreDistinct (page ∷ pages) = (is_in page pages ≡ false) × AreDistinct pages

-- how many pages pass a test
abbrev pub how_many : (ℕ → Bool) → List ℕ → ℕ
how_many test [] = 0
how_many test (page ∷ pages) = (if test page then 1 else 0) + how_many test pages

-- a set of pages in memory, with those of the step, in this many frames
pub record Holds (set pages : List ℕ) (frames : ℕ) : Type 0 where
  pub distinct : AreDistinct set
  pub has : list_all (λ page. is_in page set) pages ≡ true
  pub fits : length set ≤ frames

-- A plan has one set of pages for each step of a trace, and each set is one for its step.
abbrev pub Serves : (plan trace : List (List ℕ)) → (frames : ℕ) → Type 0
Serves [] [] frames = Unit {0}
Serves (set ∷ plan) (pages ∷ trace) frames = Holds set pages frames × Serves plan trace frames
Serves [] (pages ∷ trace) frames = ⊥
Serves (set ∷ plan) [] frames = ⊥

-- what comes in at a step has to be read where a step before it had the page
abbrev pub comes_back : (seen before : List ℕ) → ℕ → Bool
comes_back seen before page = is_in page seen && not (is_in page before)

-- the reads of a plan, where the steps before had the pages `seen`, and the last of them left
-- `before` in memory
abbrev pub reads_from : (seen before : List ℕ) (plan trace : List (List ℕ)) → ℕ
reads_from seen before (set ∷ plan) (pages ∷ trace) =
    how_many (comes_back seen before) set + reads_from (seen ++ pages) set plan trace
reads_from seen before [] trace = 0
reads_from seen before (set ∷ plan) [] = 0

-- the reads of a plan: at first nothing is in memory
abbrev pub reads_of : (plan trace : List (List ℕ)) → ℕ
reads_of plan trace = reads_from [] [] plan trace
