-- What the code keeps while it evaluates, as the moment of the definitions.
use Rattle.std.specs.Prelude.{map}
use Rattle.mage_scopes.specs.Scopes.{scopes_of}
use Rattle.mage_meaning.specs.declared.run.Run.{Run}
use Rattle.mage_meaning.specs.Value.{Moment}

-- the moment that a run is at
unfoldable pub moment_of : Run → Moment
moment_of run =
    record {
      worker = run.worker;
      scopes = scopes_of run.names;
      garbler = map (λ own. own.now) run.garbler.items;
      evaluator = map (λ own. own.now) run.evaluator.items;
      outputs = map (λ own. own.items) run.outputs.items;
    }
