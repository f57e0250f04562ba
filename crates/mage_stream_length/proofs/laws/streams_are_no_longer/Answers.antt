use Rattle.mage_stream_length.proofs.Walking.{streams_are_no_longer}
use Rattle.mage_stream_length.proofs.laws.streams_are_no_longer.Goals as goal

pub returns : goal.returns
returns c = streams_are_no_longer
