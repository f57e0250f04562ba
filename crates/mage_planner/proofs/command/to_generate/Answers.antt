use Rattle.std.proofs.Common.{Err}
use Rattle.mage_planner.specs.Work.{IsGenerationOf}
use Rattle.mage_planner.proofs.GeneratedLemmas.{gives_any}
use Rattle.mage_planner.proofs.command.to_generate.Goals as goal

pub returns-in-Err-clause-gives : goal.returns-in-Err-clause-gives
returns-in-Err-clause-gives c = λ steady outcome gives. gives_any steady IsGenerationOf (Err c.in-Err.refusal) outcome (rw c.in-Err.is at gives)
