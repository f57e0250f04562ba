use Rattle.std.proofs.Common.{length}
use Rattle.mage_planner.proofs.WritingLemmas.{hands_on, writes_one}
use Rattle.mage_planner.proofs.files.write_file.Goals as goal

pub returns-clause-writes : goal.returns-clause-writes
returns-clause-writes g c =
    let opened = c.in_ok-sink.ensures.opens in
    let hands = hands_on (g.D.Desk.tells c.args.desk.now) (g.D.Desk.tells c.open.new.desk) c.args.name.now (length c.args.bytes.now) _ opened c.in_ok-sink.ensures.sink in
    writes_one c.args.name.now c.args.bytes.now c.fill.result _ _ _ opened (c.fill.ensures.fills hands)
