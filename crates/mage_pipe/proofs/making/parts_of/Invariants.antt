-- The parts so far and those of the rest make the memory program, and so it is with the costs; the instructions so far have their
-- arguments.
use Rattle.std.proofs.Common.{◌≡◌, ◌<◌, ℕ, [], drop, get_or}
use Rattle.mage_residency.specs.Carried.{HaveArguments}
use Rattle.mage_pipe.specs.Fronts.{in_front}
use Rattle.mage_pipe.specs.MemoryProgram.{parts_from, joined, memory_program_of}
use Rattle.mage_pipe.specs.Summary.{stats_from}
use Rattle.mage_pipe.proofs.making.parts_of.Given as goal

abbrev pub invariant-loop-worker : goal.invariant-loop-worker
invariant-loop-worker l = record {
  joins : joined l.limits l.stores l.parts (parts_from l.limits l.worker (drop l.worker l.workers)) ≡ memory_program_of l.limits l.workers;
  costs : in_front l.all.items (stats_from l.limits l.worker (drop l.worker l.workers)) ≡ stats_from l.limits 0 l.workers;
  have : (k : ℕ) → k < l.worker → HaveArguments (get_or l.workers k []);
}
