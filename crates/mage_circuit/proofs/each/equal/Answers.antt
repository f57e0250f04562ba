use Rattle.std.proofs.Common.{[], ◌∷◌, sym, arith}
use Rattle.std.specs.List.{zip}
use Rattle.mage_driver.specs.Circuits.{formed}
use Rattle.mage_driver.specs.Operations.{equal}
use Rattle.mage_driver.proofs.Making.{went_formed, went_to}
use Rattle.mage_circuit.proofs.Ends.{first_written}
use Rattle.mage_circuit.proofs.each.equal.Goals as goal

pub returns : goal.returns
returns g c =
    let pairs = zip c.args.a.now c.args.b.now in
    let before = g.D.Driver.tells c.args.driver.now in
    let after = g.D.Driver.tells c.equal_of.new.driver in
    let out = c.args.out.now in
    went_to g.D.Driver.rules (formed g.D.Driver.rules (λ same. same ∷ []) (equal g.D.Driver.rules pairs)) before after (c.in_ok-same.same ∷ []) _
    (went_formed g.D.Driver.rules (λ same. same ∷ []) (equal g.D.Driver.rules pairs) before after c.in_ok-same.same c.in_ok-same.ensures)
    (sym (first_written out c.in_ok-same.same (omega arith)))
