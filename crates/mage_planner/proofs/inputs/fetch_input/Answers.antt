use Rattle.std.proofs.Common.{refl}
use Rattle.mage_planner.specs.Found.{Held}
use Rattle.mage_planner.proofs.inputs.fetch_input.Goals as goal

pub returns-in_default-clause-some : goal.returns-in_default-clause-some
returns-in_default-clause-some g c = (Held c.new.result.items, refl)

pub returns-in-Ok-clause-some : goal.returns-in-Ok-clause-some
returns-in-Ok-clause-some g c = (Held c.in-Ok.bytes.items, refl)
