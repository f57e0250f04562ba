use Rattle.mage_driver.proofs.Making.{went_runs}
use Rattle.bench_circuits.proofs.task.repeat.Goals as goal

pub loop-turn-preserved : goal.loop-turn-preserved
loop-turn-preserved c = went_runs _ _ _ _ _ c.in-Ok.ensures.circuit
