use Rattle.std.proofs.Common.{rules}
use Rattle.mage_base.specs.Bounded.{room_left}
use Rattle.mage_base.proofs.mem_sink.MemSinkSink.put.Goals as goal
use Rattle.mage_base.proofs.mem_sink.MemSinkSink.put.Goals.{then-begin-via-then-begin, then-begin-via-else-begin+then-not-add}

pub returns-then-begin-clause-puts : goal.returns-then-begin-clause-puts
returns-then-begin-clause-puts c =
    elim c.then-begin.branch [ then-begin-via-then-begin w ↦ (0, search rules) | then-begin-via-else-begin+then-not-add w ↦ (room_left c.args.self.now.taken, search rules) ]
