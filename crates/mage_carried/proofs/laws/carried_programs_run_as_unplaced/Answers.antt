use Rattle.mage_carried.proofs.Carried.{carried_is_orderly, carried_runs}
use Rattle.mage_carried.proofs.Wired.{makes_wires}
use Rattle.mage_carried.proofs.laws.carried_programs_run_as_unplaced.Goals as goal

pub returns-clause-orderly : goal.returns-clause-orderly
returns-clause-orderly g c count emitted plan carried = carried_is_orderly count emitted plan carried

pub returns-clause-runs : goal.returns-clause-runs
returns-clause-runs g c count emitted plan drivers fine gives all_fine can carried =
    carried_runs g.D.Driver.rules g.met.D.Driver.lawful fine
    (makes_wires g.D.Driver.rules g.met.D.Driver.lawful fine gives) plan count emitted drivers all_fine can carried
