use Rattle.mage_next.proofs.OneNext.{one_list_of_uses}
use Rattle.mage_next.proofs.laws.next_uses_are_determined.Goals as goal

pub returns : goal.returns
returns c = one_list_of_uses
