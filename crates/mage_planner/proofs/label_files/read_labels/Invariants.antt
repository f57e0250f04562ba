use Rattle.std.proofs.Common.{◌≡◌, ℕ, Ok, take}
use Rattle.std.specs.Option.{IfSome}
use Rattle.mage_lending.specs.Names.{worker_file}
use Rattle.mage_planner.specs.Outcome.{labels_of}
use Rattle.mage_planner.specs.Found.{File, whole_file}
use Rattle.mage_solo.specs.Evaluating.{labels_in}
use Rattle.mage_planner.proofs.label_files.read_labels.Given as goal

-- the labels of the workers so far are those that are due, and nothing changed of what the desk tells
abbrev pub invariant-loop-instrs : goal.invariant-loop-instrs
invariant-loop-instrs g l = record {
  number : l.worker ≡ l.instrs-index;
  desk : g.D.Desk.tells l.desk ≡ g.D.Desk.tells l.initial.desk;
  told : IfSome (g.D.Desk.tells l.initial.desk).files (λ files.
      labels_of (λ worker. whole_file (files (worker_file l.stem worker))) 0 (take l.instrs-index l.program.workers) ≡ Ok (labels_in l.labels.items));
  some : (files : ℕ → File) × (labels_of files 0 (take l.instrs-index l.program.workers) ≡ Ok (labels_in l.labels.items));
}
