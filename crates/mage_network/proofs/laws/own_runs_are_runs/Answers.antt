use Rattle.mage_network.proofs.OwnRuns.{own_run_leads, own_run_computes}
use Rattle.mage_network.proofs.laws.own_runs_are_runs.Goals as goal

pub returns-clause-leads : goal.returns-clause-leads
returns-clause-leads g c = own_run_leads

pub returns-clause-computed : goal.returns-clause-computed
returns-clause-computed g c = own_run_computes
