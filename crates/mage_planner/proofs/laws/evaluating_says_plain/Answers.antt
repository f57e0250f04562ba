use Rattle.mage_planner.proofs.SaysPlainLemmas.{evaluating_says_plain}
use Rattle.mage_planner.proofs.laws.evaluating_says_plain.Goals as goal

pub returns : goal.returns
returns c = evaluating_says_plain
