use Rattle.mage_eval.proofs.incoming.Stream.begin.Goals as goal

pub returns-in-Err-clause-fails : goal.returns-in-Err-clause-fails
returns-in-Err-clause-fails g c = c.in-Err.ensures.fails _
