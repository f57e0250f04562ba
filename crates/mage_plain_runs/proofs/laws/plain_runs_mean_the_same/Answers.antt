use Rattle.mage_plain_runs.proofs.Carrying.{unplaced_means, carried_means}
use Rattle.mage_plain_runs.proofs.laws.plain_runs_mean_the_same.Goals as goal

pub returns-clause-unplaced : goal.returns-clause-unplaced
returns-clause-unplaced c = unplaced_means

pub returns-clause-carried : goal.returns-clause-carried
returns-clause-carried c = carried_means
