use Rattle.mage_network.proofs.Meeting.{together_keeps}
use Rattle.mage_network.proofs.OwnRuns.{own_run_computes}
use Rattle.mage_network.proofs.Turns.{network_accounts}
use Rattle.mage_network.specs.Laws.{network_after}
use Rattle.mage_network.proofs.laws.each_is_on_its_own_run.Goals as goal

pub returns-clause-workers : goal.returns-clause-workers
returns-clause-workers g c next starts capacity schedule n =
    own_run_computes (next n) (starts n) ((network_after next starts capacity schedule).workers n)
    ((network_accounts next starts capacity schedule).alone n)

pub returns-clause-links : goal.returns-clause-links
returns-clause-links g c next starts capacity schedule =
    (network_accounts next starts capacity schedule).rest

pub returns-clause-together : goal.returns-clause-together
returns-clause-together g c next starts turns =
    (together_keeps next starts (λ workers. Unit {0}) (λ workers turn h kept. tt) tt turns).0.alone
