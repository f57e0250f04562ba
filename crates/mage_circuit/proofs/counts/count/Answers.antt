use Rattle.std.proofs.Common.{◌≡◌, ◌-◌, false, length, take, drop, replicate, ap, refl, ◌∙◌, arith}
use Rattle.std.proofs.lemmas.List.{length-take, length-drop}
use Rattle.mage_driver.specs.Operations.{counted}
use Rattle.mage_driver.proofs.Making.{went_runs}
use Rattle.mage_driver.specs.Circuits.{formed}
use Rattle.mage_circuit.specs.Numbers.{bits_of}
use Rattle.mage_circuit.proofs.Counting.{zeros_above, resized_went}
use Rattle.mage_circuit.proofs.counts.count.Goals as goal

pub returns : goal.returns
returns g c =
    let a = c.args.a.now in
    let number = c.count_bits.new.number in
    let k = c.in_ok-count.count in
    let w = length a in
    let before = (g.D.Driver.tells c.args.driver.now) in
    let after = (g.D.Driver.tells c.count_bits.new.driver) in
    let zero = g.D.Driver.rules.constant after.state false in
    let m = length number - k in
    let found = take k number in
    let went = c.in_ok-count.ensures.circuit in
    let within = c.in_ok-count.ensures.within in
    let runs = went_runs g.D.Driver.rules (formed g.D.Driver.rules bits_of (counted g.D.Driver.rules a)) before after found went in
    let size : length (take m (drop k number)) ≡ m = omega (arith, length-take m (drop k number), length-drop k number) in
    resized_went g.D.Driver.rules a _ found w before after went runs
    (zeros_above found number c.clear.new.out zero k w m refl (omega arith) within (omega arith) (c.clear.ensures ∙ ap (λ n. replicate n zero) size))
