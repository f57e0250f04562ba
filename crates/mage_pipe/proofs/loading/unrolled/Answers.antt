use Rattle.mage_pipe.proofs.Few.{few_answer}
use Rattle.mage_pipe.proofs.loading.unrolled.Goals as goal

pub returns-clause-few : goal.returns-clause-few
returns-clause-few c = few_answer c.unroll.result c.args.source.now.workers c.args.source.now.body c.unroll.ensures.program
