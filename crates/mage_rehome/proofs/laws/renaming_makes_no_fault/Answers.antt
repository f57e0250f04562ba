use Rattle.mage_rehome.proofs.Faultless.{renaming_makes_no_fault}
use Rattle.mage_rehome.proofs.laws.renaming_makes_no_fault.Goals as goal

pub returns : goal.returns
returns c = renaming_makes_no_fault
