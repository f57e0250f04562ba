use Rattle.mage_place.proofs.LeastPowers.{IsLeastPower-from_next, class_of_width-from_least}
use Rattle.mage_place.proofs.classes.class_of.Goals as goal

pub returns-clause-least : goal.returns-clause-least
returns-clause-least c = let e = c.next_power_of_two.ensures in
    IsLeastPower-from_next c.args.width c.next_power_of_two.result e.power.0 c.requires.0 e.power.1 e.lower_bound e.upper_bound

pub returns-clause-value : goal.returns-clause-value
returns-clause-value c = let e = c.next_power_of_two.ensures in
    class_of_width-from_least c.args.width c.next_power_of_two.result c.requires.0 c.requires.1
    (IsLeastPower-from_next c.args.width c.next_power_of_two.result e.power.0 c.requires.0 e.power.1 e.lower_bound e.upper_bound)
