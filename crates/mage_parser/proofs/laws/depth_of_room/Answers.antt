use Rattle.mage_parser.proofs.OneFault as law
use Rattle.mage_parser.proofs.laws.depth_of_room.Goals as goal

pub returns : goal.returns
returns c tokens = law.depth_of_room tokens
