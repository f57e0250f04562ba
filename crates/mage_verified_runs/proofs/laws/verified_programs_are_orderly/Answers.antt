use Rattle.mage_verified_runs.proofs.Orderliness.{verified_is_orderly}
use Rattle.mage_verified_runs.proofs.laws.verified_programs_are_orderly.Goals as goal

pub returns : goal.returns
returns c = verified_is_orderly
