-- What `solo` and `stats` find of what `gen` wrote.
use Rattle.std.specs.Prelude.{◌≡◌, Some}
use Rattle.mage_base.specs.Desk.{Files}
use Rattle.mage_words.specs.Words.{Solo, Stats, GenRequest, GenIsInRange}
use Rattle.mage_planner.specs.Answer.{with_files}
use Rattle.mage_planner.specs.Outcome.{found_for_gen, generated_files, solo_for, stats_for}
use Rattle.mage_planner.specs.Found.{found_in}

-- On the files that `gen` leaves, `solo` that names them finds just the source and the input texts that were generated, and so what it
-- says is what `gen` said behind the summary; and `stats` finds the source.
abbrev pub GeneratedFilesAreFound : Type 0
GeneratedFilesAreFound =
    (files after : Files) (gen : GenRequest) → GenIsInRange gen → with_files (Some files) (generated_files gen) ≡ Some after
    → (found_in after (Solo (solo_for gen)) ≡ found_for_gen gen)
    × ((found_in after (Stats (stats_for gen))).source ≡ (found_for_gen gen).source)
