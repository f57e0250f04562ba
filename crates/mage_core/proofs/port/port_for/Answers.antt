use Rattle.std.proofs.Common.{◌∙◌, ap}
use Rattle.mage_store.specs.SerialPort.{port_told}
use Rattle.mage_core.specs.Ports.{pages_moved}
use Rattle.mage_core.proofs.Naming.{takes_so}
use Rattle.mage_core.proofs.port.port_for.Goals as goal

pub returns-in-Ok-make-2-clause-takes : goal.returns-in-Ok-make-2-clause-takes
returns-in-Ok-make-2-clause-takes g c =
    takes_so c.args.part.now c.as_slice.result.now _ (port_told g.S.Store.tells c.in-Ok-make.port) c.in-Ok-make-2.ensures.port
    (c.as_slice.ensures.value ∙ c.in-Ok.ensures ∙ ap pages_moved c.directives.ensures.value)
