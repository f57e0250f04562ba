use Rattle.mage_carry.proofs.Walks.{each_job_does_next, all_are_done}
use Rattle.mage_carry.proofs.laws.laws_of_carrying.Goals as goal

pub returns-clause-each : goal.returns-clause-each
returns-clause-each c = each_job_does_next

pub returns-clause-all : goal.returns-clause-all
returns-clause-all c = all_are_done
