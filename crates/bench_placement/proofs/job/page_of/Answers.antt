use Rattle.std.proofs.Common.{lit≤, refl}
use Rattle.bench_placement.proofs.job.page_of.Goals as goal

pub returns-in-Ok-eq4096 : goal.returns-in-Ok-eq4096
returns-in-Ok-eq4096 c = (12, lit≤ tt, lit≤ tt, refl)
