use Rattle.mage_rehome.proofs.Passed.{earlier_plans_come_to_todays}
use Rattle.mage_rehome.proofs.laws.earlier_plans_come_to_todays.Goals as goal

pub returns : goal.returns
returns c = earlier_plans_come_to_todays
