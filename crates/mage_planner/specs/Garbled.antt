-- What is garbled.
use Rattle.std.specs.Option.{option_map}
use Rattle.mage_words.specs.Words.{Garble, SoloRequest}
use Rattle.mage_planner.specs.declared.garble.GarbleRequest.{GarbleRequest}

-- what the words ask for that ask for this
abbrev pub asked_by : GarbleRequest → SoloRequest
asked_by request = record {
  source = request.source.now;
  driver = Garble (option_map (λ name. name.now) request.garbler) request.seed.now request.stream.now;
  limits = request.limits;
}
