use Rattle.std.proofs.Common.{refl}
use Rattle.mage_planner.specs.Found.{Held}
use Rattle.mage_planner.proofs.sources.fetch_source.Goals as goal

pub returns-in-Ok-clause-some : goal.returns-in-Ok-clause-some
returns-in-Ok-clause-some g c = (Held c.in-Ok.bytes.items, refl)
