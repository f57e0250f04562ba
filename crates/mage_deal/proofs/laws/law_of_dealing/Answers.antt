use Rattle.mage_deal.proofs.Dealt.{dealt_alone}
use Rattle.mage_deal.proofs.laws.law_of_dealing.Goals as goal

pub returns : goal.returns
returns c = dealt_alone
