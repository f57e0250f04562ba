use Rattle.std.proofs.Common.{List, ◌-◌}
use Rattle.mage_texts.specs.Lists.{lists_of}
use Rattle.mage_planner.specs.Outcome.{NewFile, label_files}
use Rattle.mage_planner.specs.Work.{dealt_by}
use Rattle.mage_planner.proofs.WritingLemmas.{SoFar}
use Rattle.mage_planner.proofs.labels.write_labels.Given as goal

-- the files so far are written, in front of those of the other workers
abbrev pub invariant-loop-worker : goal.invariant-loop-worker
invariant-loop-worker g l = (first : List NewFile)
    × SoFar first (dealt_by l.dealing).files
    (label_files l.dealing.labels.now l.dealing.program l.dealing.seed (lists_of l.dealing.evaluator.items) l.worker (l.count - l.worker))
    (g.D.Desk.tells l.initial.desk) (g.D.Desk.tells l.desk)
