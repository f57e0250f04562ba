use Rattle.std.proofs.Common.{◌≡◌, ◌-◌, ◌++◌, ◌∷◌, [], length, take, drop, sym, arith}
use Rattle.std.proofs.lemmas.List.{length-take, length-drop}
use Rattle.mage_driver.specs.Circuits.{folded}
use Rattle.mage_driver.specs.Operations.{count_up, starting, with_carry}
use Rattle.mage_driver.proofs.Making.{went_formed, went_to}
use Rattle.mage_circuit.specs.Numbers.{grown, with_top}
use Rattle.mage_circuit.proofs.Ends.{top_written}
use Rattle.mage_circuit.proofs.counts.count_full.Goals as goal

pub returns : goal.returns
returns g c =
    let old = c.args.number.now in
    let last = length old - 1 in
    let new = c.count_up.new.number in
    let before = (g.D.Driver.tells c.args.driver.now) in
    let after = (g.D.Driver.tells c.count_up.new.driver) in
    let carry = c.in_ok-carry.carry in
    let fold = folded g.D.Driver.rules (count_up g.D.Driver.rules) (starting g.D.Driver.rules c.args.bit) (take last old) in
    let long : length new ≡ last = omega (arith, length-take last old) in
    let one : length (drop last old) ≡ 1 = omega (arith, length-drop last old) in
    went_to g.D.Driver.rules (grown g.D.Driver.rules c.args.bit (take last old)) before after (new ++ carry ∷ []) _
    (went_formed g.D.Driver.rules with_top fold before after (with_carry g.D.Driver.rules carry new) c.in_ok-carry.ensures)
    (sym (top_written new (drop last old) last carry long one))
