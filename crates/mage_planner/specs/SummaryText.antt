-- The text of a summary: a line for each worker.
use Rattle.std.specs.Prelude.{ℕ, ◌+◌, List, [], ◌∷◌, ◌++◌, codes}
use Rattle.std.specs.List.{concat}
use Rattle.std.specs.Fmt.{decimal}
use Rattle.mage_pipe.specs.declared.stats.WorkerStats.{WorkerStats}

-- the line of a worker
abbrev pub summary_line : (worker : ℕ) → WorkerStats → List ℕ
summary_line worker stats = concat (
    codes "worker " ∷ decimal worker
    ∷ codes " instructions " ∷ decimal stats.instructions
    ∷ codes " pages " ∷ decimal stats.pages
    ∷ codes " needs " ∷ decimal stats.needs
    ∷ codes " reads " ∷ decimal stats.reads
    ∷ codes " writes " ∷ decimal stats.writes
    ∷ codes "\n" ∷ [])

-- the lines of the workers from this one on
abbrev pub lines_from : (worker : ℕ) → List WorkerStats → List ℕ
lines_from worker [] = []
lines_from worker (stats ∷ others) = summary_line worker stats ++ lines_from (worker + 1) others

abbrev pub summary_text : List WorkerStats → List ℕ
summary_text workers = lines_from 0 workers
