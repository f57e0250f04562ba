use Rattle.std.proofs.Common.{ap}
use Rattle.mage_port.specs.Port.{AskedRead, is_idle, is_asked_write, with_state}
use Rattle.mage_store_tests.proofs.RestLemmas.{same_after_read, state_here, only_read}
use Rattle.mage_store_tests.proofs.caller.read_back.Goals as goal

pub try_take-requires-clause-asked : goal.try_take-requires-clause-asked
try_take-requires-clause-asked g c =
    let here = state_here (g.P.SwapPort.tells c.args.port.now) (AskedRead c.args.page) c.requires.rest in
    rw c.ask_read.ensures (record { asked = ap is_idle here; no_write = ap is_asked_write here })

pub returns-in-Ok-clause-rest : goal.returns-in-Ok-clause-rest
returns-in-Ok-clause-rest g c =
    let port = g.P.SwapPort.tells c.args.port.now in
    let after = g.P.SwapPort.tells c.try_take.new.self in
    let brings = only_read (g.P.SwapPort.tells c.ask_read.new.self) (with_state port 0 (AskedRead c.args.page)) after 0 c.args.page c.args.into.now.items c.try_take.new.into.items c.in-Ok.field-0 c.ask_read.ensures (state_here port (AskedRead c.args.page) c.requires.rest) c.in-Ok.ensures.answer in
    same_after_read port after c.args.page c.try_take.new.into.items c.requires.rest brings
