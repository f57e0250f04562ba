use Rattle.std.proofs.Common.{refl}
use Rattle.mage_planner.specs.Found.{Held}
use Rattle.mage_planner.proofs.label_files.fetch_labels.Goals as goal

pub returns-in-Ok-fetch-clause-some : goal.returns-in-Ok-fetch-clause-some
returns-in-Ok-fetch-clause-some g c = (Held c.in-Ok-fetch.bytes.items, refl)
