use Rattle.std.proofs.Common.{refl}
use Rattle.mage_label.specs.Labels.{blank}
use Rattle.mage_garble.proofs.driver.GarbleDriverDriver.constant.Goals as goal

pub returns-else-bit : goal.returns-else-bit
unfolding blank
returns-else-bit g c = rw c.if-bit.false refl
