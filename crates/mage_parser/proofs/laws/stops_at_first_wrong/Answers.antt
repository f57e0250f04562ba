use Rattle.mage_parser.proofs.FirstWrong as law
use Rattle.mage_parser.proofs.laws.stops_at_first_wrong.Goals as goal

pub returns : goal.returns
returns c tokens depth left e = law.first_wrong depth tokens left e
