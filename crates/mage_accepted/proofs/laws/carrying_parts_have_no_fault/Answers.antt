use Rattle.mage_accepted.proofs.Own.{carrying_parts_have_no_fault}
use Rattle.mage_accepted.proofs.laws.carrying_parts_have_no_fault.Goals as goal

pub returns : goal.returns
returns c = carrying_parts_have_no_fault
