use Rattle.mage_schedulable.proofs.Entries.{rule_lists_find_places}
use Rattle.mage_schedulable.proofs.laws.rule_lists_find_places.Goals as goal

pub returns : goal.returns
returns c = rule_lists_find_places
