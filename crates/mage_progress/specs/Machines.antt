-- Machines, and queues, as what they are worth to progress.
use Rattle.std.specs.Prelude.{length}
use Rattle.mage_link.specs.Queues.{QueueState, lies_in}
use Rattle.mage_engine.specs.Seen.{Seen, is_finished}
use Rattle.mage_progress.specs.Stands.{Stand, Held}

-- how far a machine is
abbrev pub stand_of : {S : Type 0} → Seen S → Stand
stand_of machine = record {
  place = machine.place;
  wire = machine.wire;
  finished = is_finished machine.driver.standing;
}

-- how many wires lie on each link of some queues
abbrev pub lying : QueueState → Held
lying queues source target = length (lies_in queues source target)
