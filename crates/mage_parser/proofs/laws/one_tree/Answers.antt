use Rattle.mage_parser.proofs.OneTree as law
use Rattle.mage_parser.proofs.laws.one_tree.Goals as goal

pub returns : goal.returns
returns c tokens = law.one_tree tokens
