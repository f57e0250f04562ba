-- What is evaluated.
use Rattle.mage_words.specs.Words.{Eval, SoloRequest}
use Rattle.mage_planner.specs.declared.eval.EvalRequest.{EvalRequest}

-- what the words ask for that ask for this
abbrev pub evaluation_asked : EvalRequest → SoloRequest
evaluation_asked request = record {
  source = request.source.now;
  driver = Eval request.stream.now request.labels.now;
  limits = request.limits;
}
