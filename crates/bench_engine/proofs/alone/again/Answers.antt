use Rattle.mage_driver.proofs.Making.{went_runs}
use Rattle.bench_engine.proofs.alone.again.Goals as goal

pub loop-turn-preserved : goal.loop-turn-preserved
loop-turn-preserved g c = went_runs _ _ _ _ _ c.in-Ok.ensures.circuit
