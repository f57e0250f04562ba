use Rattle.mage_accepted.proofs.Together.{carrying_plans_have_no_fault}
use Rattle.mage_accepted.proofs.laws.carrying_plans_have_no_fault.Goals as goal

pub returns : goal.returns
returns c = carrying_plans_have_no_fault
