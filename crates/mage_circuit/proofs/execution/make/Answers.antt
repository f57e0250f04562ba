use Rattle.std.proofs.Common.{◌≡◌, false, length, get_or, take, sym, ap, ◌∙◌, arith}
use Rattle.std.specs.List.{zip}
use Rattle.std.proofs.lemmas.List.{take_all}
use Rattle.mage_driver.specs.Operations.{each, and_bit, or_bit, choose_bit}
use Rattle.mage_circuit.proofs.Loops.{leaves_as, leaves_at}
use Rattle.mage_circuit.proofs.Moving.{default}
use Rattle.mage_circuit.proofs.execution.make.Goals as goal

pub returns-in-And : goal.returns-in-And
returns-in-And g c =
    let n = length c.args.out.now in
    let new = c.and_each.new.out in
    rw c.in-And.is (leaves_as g.D.Driver.rules (each g.D.Driver.rules (and_bit g.D.Driver.rules) (zip c.args.a.now c.args.b.now)) (g.D.Driver.tells c.args.driver.now) (g.D.Driver.tells c.and_each.new.driver) (λ _. new) (λ _. take n new) c.and_each.result (λ _. sym (take_all n new (omega arith))) c.and_each.ensures)

pub returns-in-Or : goal.returns-in-Or
returns-in-Or g c =
    let n = length c.args.out.now in
    let new = c.or_each.new.out in
    rw c.in-Or.is (leaves_as g.D.Driver.rules (each g.D.Driver.rules (or_bit g.D.Driver.rules) (zip c.args.a.now c.args.b.now)) (g.D.Driver.tells c.args.driver.now) (g.D.Driver.tells c.or_each.new.driver) (λ _. new) (λ _. take n new) c.or_each.result (λ _. sym (take_all n new (omega arith))) c.or_each.ensures)

pub returns-in-Mux : goal.returns-in-Mux
returns-in-Mux g c =
    let n = length c.args.out.now in
    let new = c.choose_each.new.out in
    let pairs = zip c.args.b.now c.args.c.now in
    let before = (g.D.Driver.tells c.args.driver.now) in
    let after = (g.D.Driver.tells c.choose_each.new.driver) in
    let a = c.args.a.now in
    let x = c.index-a-0.result in
    let zero = g.D.Driver.rules.constant before.state false in
    let long : length a ≡ 1 = rw c.in-Mux.is at c.requires.a in
    let same : x ≡ get_or a 0 zero = c.index-a-0.is ∙ default a 0 x zero (omega arith) in
    rw c.in-Mux.is (leaves_at g.D.Driver.rules (each g.D.Driver.rules (choose_bit g.D.Driver.rules x) pairs) (λ s. each g.D.Driver.rules (choose_bit g.D.Driver.rules (get_or a 0 (g.D.Driver.rules.constant s false))) pairs s) before after (λ _. take n new) c.choose_each.result
    (ap (λ w. each g.D.Driver.rules (choose_bit g.D.Driver.rules w) pairs before.state) same)
    (leaves_as g.D.Driver.rules (each g.D.Driver.rules (choose_bit g.D.Driver.rules x) pairs) before after (λ _. new) (λ _. take n new) c.choose_each.result (λ _. sym (take_all n new (omega arith))) c.choose_each.ensures))
