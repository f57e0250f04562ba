use Rattle.std.proofs.Common.{refl}
use Rattle.mage_eval.proofs.Failing.{fell_output}
use Rattle.mage_eval.proofs.driver.EvalDriverDriver.output.Goals as goal

pub returns-in-Err : goal.returns-in-Err
returns-in-Err g c =
    rw (← c.self.view_is)
    (fell_output c.args.wires.now _ _ c.self.inside.stream c.read_value.new.stream c.in-Err.fault c.in-Err.ensures.fails refl refl refl refl c.read_value.ensures.told refl refl)
