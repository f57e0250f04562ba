use Rattle.mage_schedulable.proofs.Entries.{rule_lists_are_replaced}
use Rattle.mage_schedulable.proofs.laws.rule_lists_are_replaced.Goals as goal

pub returns : goal.returns
returns c = rule_lists_are_replaced
