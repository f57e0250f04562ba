use Rattle.mage_schedulable.proofs.Bringing.{rule_lists_bring_once}
use Rattle.mage_schedulable.proofs.laws.rule_lists_bring_once.Goals as goal

pub returns : goal.returns
returns c = rule_lists_bring_once
