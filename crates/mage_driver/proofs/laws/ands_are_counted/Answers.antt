use Rattle.mage_driver.proofs.AndCounts.{all_ands}
use Rattle.mage_driver.proofs.laws.ands_are_counted.Goals as goal

pub returns : goal.returns
returns g c = all_ands g.D.Driver.rules
