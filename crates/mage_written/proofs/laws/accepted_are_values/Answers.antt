use Rattle.mage_written.proofs.Values.{accepted_are_values}
use Rattle.mage_written.proofs.laws.accepted_are_values.Goals as goal

pub returns : goal.returns
returns c = accepted_are_values
