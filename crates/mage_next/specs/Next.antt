-- The next use of a page after a step.
use Rattle.std.specs.Prelude.{◌≡◌, ◌≢◌, ◌<◌, ◌≤◌, ◌+◌, ℕ, List, [], ◌∷◌, Bool, if◌then◌else◌, length, nat_lt, nat_eq, slice_get, slice_index, slice_index_or, IfSome}
use Rattle.std.specs.List.{list_any}
use Rattle.mage_instr.specs.declared.instr.TheConstants.{NEVER}
use Rattle.mage_instr.specs.declared.instr.Step.{Step}
use Rattle.mage_instr.specs.Trace.{pages_of, Has}

-- u is the least step after t that has the page, or NEVER where there is none
pub record IsNextUse (trace : List Step) (t page u : ℕ) : Type 0 where
  pub later : u ≢ NEVER → (t < u) × Has trace u page
  pub least : (s : ℕ) → t < s → s < u → ¬ Has trace s page

-- what a step with index t has as its four next uses: one for each page, and then NEVER
pub record AreUsesOf (trace : List Step) (t : ℕ) (step : Step) (uses : List ℕ) : Type 0 where
  pub next : (k : ℕ) → k < step.count → IsNextUse trace t (slice_index step.pages k) (slice_index uses k)
  pub past : (k : ℕ) → step.count ≤ k → k < 4 → slice_index uses k ≡ NEVER

-- each step has its next uses
pub record AreNextUses (trace : List Step) (uses : List (List ℕ)) : Type 0 where
  pub count : length uses ≡ length trace
  pub each : (t : ℕ) → IfSome (slice_get trace t) (λ step. AreUsesOf trace t step (slice_index_or uses t []))

-- whether a step has a page
abbrev pub has_page : Step → ℕ → Bool
has_page step page = list_any (nat_eq page) (pages_of step)

-- the number of the first of some steps that has the page, where they are numbered from n
abbrev pub first_use : List Step → (n page : ℕ) → ℕ
first_use [] n page = NEVER
first_use (step ∷ steps) n page = if has_page step page then n else first_use steps (n + 1) page

-- the next use of page k of a step, where the next use of each page is known
abbrev pub use_of : Step → (ℕ → ℕ) → (k : ℕ) → ℕ
use_of step next_of k = if nat_lt k step.count then next_of (slice_index step.pages k) else NEVER

-- the next use of each page before step n, where the next use after it is known
abbrev pub use_noted : Step → (n : ℕ) → (ℕ → ℕ) → (page : ℕ) → ℕ
use_noted step n next_of page = if has_page step page then n else next_of page
