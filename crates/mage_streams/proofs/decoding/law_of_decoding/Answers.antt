use Rattle.mage_streams.proofs.Decoded.{decoding_gives_the_value}
use Rattle.mage_streams.proofs.decoding.law_of_decoding.Goals as goal

pub returns : goal.returns
returns c = decoding_gives_the_value
