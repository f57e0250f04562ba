use Rattle.std.proofs.Common.{sym, subst}
use Rattle.mage_bank.specs.Bank.{contents}
use Rattle.mage_bank.specs.Jobs.{JobLies}
use Rattle.mage_bank.proofs.Fitting.{job_lies}
use Rattle.mage_bank_tests.proofs.Jobs.{job_fits}
use Rattle.mage_bank_tests.proofs.doing.made.Goals as goal

pub compute-requires-clause-lies : goal.compute-requires-clause-lies
compute-requires-clause-lies g c κs within =
    let r = c.requires in
    let frames = contents c.args.bank.now in
    subst (λ n. JobLies n frames c.args.job) (sym r.size) (job_lies 1 2 64 frames c.args.job r.bank (job_fits c.args.job r.result r.first r.second r.third))
