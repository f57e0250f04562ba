use Rattle.std.proofs.Common.{ap}
use Rattle.mage_port.specs.Port.{AskedWrite, is_idle, with_state}
use Rattle.mage_store_tests.proofs.RestLemmas.{rest_writes, rest_reads, same_after_write, state_here, only_wrote}
use Rattle.mage_store_tests.proofs.caller.written.Goals as goal

pub give_write-requires : goal.give_write-requires
give_write-requires g c =
    rest_writes (g.P.SwapPort.tells c.args.port.now) c.args.page c.args.from.now.items c.requires.rest c.requires.taken c.requires.whole

pub try_finish-requires-clause-asked : goal.try_finish-requires-clause-asked
try_finish-requires-clause-asked g c =
    rw c.give_write.ensures.asked (ap is_idle (state_here (g.P.SwapPort.tells c.args.port.now) (AskedWrite c.args.page c.args.from.now.items) c.requires.rest))

pub returns-in-Ok-clause-rest : goal.returns-in-Ok-clause-rest
returns-in-Ok-clause-rest g c =
    let port = g.P.SwapPort.tells c.args.port.now in
    let after = g.P.SwapPort.tells c.try_finish.new.self in
    let state = AskedWrite c.args.page c.args.from.now.items in
    let saves = only_wrote (g.P.SwapPort.tells c.give_write.new.self) (with_state port 0 state) after 0 c.args.page c.args.from.now.items _ c.try_finish.new.into c.in-Ok.field-0 c.give_write.ensures.asked (state_here port state c.requires.rest) c.in-Ok.ensures.answer in
    same_after_write port after c.args.page c.args.from.now.items c.requires.rest saves

pub returns-in-Ok-clause-held : goal.returns-in-Ok-clause-held
returns-in-Ok-clause-held g c =
    let port = g.P.SwapPort.tells c.args.port.now in
    let after = g.P.SwapPort.tells c.try_finish.new.self in
    let state = AskedWrite c.args.page c.args.from.now.items in
    let saves = only_wrote (g.P.SwapPort.tells c.give_write.new.self) (with_state port 0 state) after 0 c.args.page c.args.from.now.items _ c.try_finish.new.into c.in-Ok.field-0 c.give_write.ensures.asked (state_here port state c.requires.rest) c.in-Ok.ensures.answer in
    rest_reads port after c.args.page c.args.from.now.items c.requires.rest c.requires.taken saves
