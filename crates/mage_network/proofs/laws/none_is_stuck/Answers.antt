use Rattle.mage_network.proofs.Stuck.{stopped_or_enabled, done_or_enabled}
use Rattle.mage_network.proofs.laws.none_is_stuck.Goals as goal

pub returns-clause-stopped : goal.returns-clause-stopped
returns-clause-stopped g c = stopped_or_enabled

pub returns-clause-done : goal.returns-clause-done
returns-clause-done g c = done_or_enabled
