use Rattle.std.proofs.lemmas.Result.{err_from_is_err_and}
use Rattle.std.specs.List.{zip}
use Rattle.mage_driver.specs.Operations.{each, less, choose_bit}
use Rattle.mage_driver.proofs.Making.{fell_first}
use Rattle.mage_circuit.proofs.Loops.{leaves_followed}
use Rattle.mage_circuit.proofs.comparisons.least.Goals as goal

pub returns-in_err-less : goal.returns-in_err-less
returns-in_err-less g c =
    let p = err_from_is_err_and c.from_residual.result c.from_residual.ensures.1 in
    let pairs = zip c.args.a.now c.args.b.now in
    rw (p.1, p.2) (fell_first g.D.Driver.rules (less g.D.Driver.rules pairs) (λ is_less. each g.D.Driver.rules (choose_bit g.D.Driver.rules is_less) pairs) (g.D.Driver.tells c.args.driver.now) (g.D.Driver.tells c.is_less.new.driver) c.in_err-less.field-0.0 c.in_err-less.ensures)

pub returns : goal.returns
returns g c =
    let pairs = zip c.args.a.now c.args.b.now in
    leaves_followed g.D.Driver.rules (less g.D.Driver.rules pairs) (λ is_less. each g.D.Driver.rules (choose_bit g.D.Driver.rules is_less) pairs) (g.D.Driver.tells c.args.driver.now) (g.D.Driver.tells c.is_less.new.driver) (g.D.Driver.tells c.choose_each.new.driver) c.in_ok-less.less (λ _. c.choose_each.new.out) c.choose_each.result
    c.in_ok-less.ensures c.choose_each.ensures
