use Rattle.mage_core.proofs.Issuing.{program_finishes}
use Rattle.mage_core.proofs.laws.parts_finish_what_they_issue.Goals as goal

pub returns : goal.returns
returns c plan fine none = program_finishes plan none
