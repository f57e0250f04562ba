-- How far the machines of a run are, as laws of progress see it.
use Rattle.std.specs.Prelude.{◌≡◌, ℕ, zero, suc, List, [], ◌∷◌, map}
use Rattle.mage_driver.specs.Rules.{Rules}
use Rattle.mage_link.specs.Queues.{QueueState}
use Rattle.mage_verify.specs.Parts.{WorkerPart}
use Rattle.mage_engine.specs.Seen.{Seen}
use Rattle.mage_progress.specs.Stands.{Stand, at_first, IsReached}
use Rattle.mage_progress.specs.Machines.{stand_of, lying}
use Rattle.mage_core.specs.Going.{Start, AllGo, NoOthersSend}

-- the parts of machines
abbrev pub parts_in : {S : Type 0} → List (Seen S) → List WorkerPart
parts_in machines = map (λ machine. machine.part) machines

-- how far the machine of each worker is
abbrev pub stands_in : {S : Type 0} → List (Seen S) → ℕ → Stand
stands_in [] worker = at_first
stands_in (machine ∷ machines) zero = stand_of machine
stands_in (machine ∷ machines) (suc worker) = stands_in machines worker

-- What holds between two turns.
pub record GoOn {W : Type 0} (rules : Rules W) (starts : List (Start rules.State)) (parts : List WorkerPart)
    (machines : List (Seen rules.State)) (links : QueueState) : Type 0 where
  pub gone : AllGo rules starts machines links
  pub parts_are : parts_in machines ≡ parts
  pub reached : IsReached parts (stands_in machines) (lying links)
  pub capacity : links.capacity ≡ 64
  pub quiet : NoOthersSend rules starts links
