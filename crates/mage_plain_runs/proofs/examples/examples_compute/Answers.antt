use Rattle.std.proofs.Common.{refl}
use Rattle.mage_plain_runs.proofs.examples.examples_compute.Goals as goal

pub returns-clause-swapped : goal.returns-clause-swapped
returns-clause-swapped c = refl

pub returns-clause-moved : goal.returns-clause-moved
returns-clause-moved c = refl
