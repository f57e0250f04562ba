use Rattle.mage_garble.proofs.Saying.{says_the_stream}
use Rattle.mage_garble.proofs.laws.law_of_streams.Goals as goal

pub returns : goal.returns
returns c = says_the_stream
