use Rattle.std.proofs.Common.{◌≡◌, take, map}
use Rattle.mage_stream_length.specs.Length.{length_of}
use Rattle.mage_planner.proofs.garble.rooms_of.Given as goal

abbrev pub invariant-loop-instrs : goal.invariant-loop-instrs
invariant-loop-instrs l = l.rooms.items ≡ map length_of (take l.instrs-index l.program.workers)
