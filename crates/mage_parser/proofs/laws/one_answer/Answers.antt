use Rattle.mage_parser.proofs.OneFault as law
use Rattle.mage_parser.proofs.laws.one_answer.Goals as goal

pub returns : goal.returns
returns c tokens = law.one_answer tokens
