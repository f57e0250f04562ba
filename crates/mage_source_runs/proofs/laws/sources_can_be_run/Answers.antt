use Rattle.mage_source_runs.proofs.Running.{sources_can_be_run}
use Rattle.mage_source_runs.proofs.laws.sources_can_be_run.Goals as goal

pub returns : goal.returns
returns c = sources_can_be_run
