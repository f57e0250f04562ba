-- The workers' files that are read.
use Rattle.std.specs.Prelude.{◌≡◌, ℕ, List, [], ◌∷◌}
use Rattle.mage_base.specs.Desk.{DeskTold, HandsSource}
use Rattle.mage_base.specs.Faults.{count_after}
use Rattle.mage_base.specs.Source.{SourceTold}

-- each source is that of the file with its name
abbrev pub AreSources : DeskTold → (names : List (List ℕ)) → List SourceTold → Type 0
AreSources desk [] [] = Unit {0}
AreSources desk [] (source ∷ sources) = ⊥
AreSources desk (name ∷ names) [] = ⊥
AreSources desk (name ∷ names) (source ∷ sources) = HandsSource desk name source × AreSources desk names sources

-- no source has failed yet
abbrev pub NoneHaveFailed : List SourceTold → Type 0
NoneHaveFailed [] = Unit {0}
NoneHaveFailed (source ∷ sources) = (source.faults ≡ 0) × NoneHaveFailed sources

-- a count of faults, and those of the sources
abbrev pub with_source_faults : ℕ → List SourceTold → ℕ
with_source_faults faults [] = faults
with_source_faults faults (source ∷ sources) = with_source_faults (count_after faults source.faults) sources
