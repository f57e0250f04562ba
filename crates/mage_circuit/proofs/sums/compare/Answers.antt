use Rattle.std.proofs.Common.{◌≡◌, ◌-◌, ◌∷◌, length, take, drop, sym, ap, subst, ◌∙◌, arith}
use Rattle.std.proofs.lemmas.Result.{err_from_is_err_and}
use Rattle.std.specs.List.{zip}
use Rattle.std.proofs.lemmas.List.{length-drop, take_all}
use Rattle.std.proofs.lemmas.Slice.Zip.{length-zip}
use Rattle.mage_driver.specs.Circuits.{Went, folded}
use Rattle.mage_driver.specs.Operations.{compared, subtract_bit, starting, with_carry}
use Rattle.mage_driver.proofs.Making.{FellIn, went_to}
use Rattle.mage_circuit.proofs.Loops.{pair_next}
use Rattle.mage_circuit.proofs.Ends.{written_lowest, compared_went, compared_falls_first, compared_falls}
use Rattle.mage_circuit.proofs.sums.compare.Goals as goal

pub returns-in_err-first : goal.returns-in_err-first
returns-in_err-first g c =
    let p = err_from_is_err_and c.from_residual.result c.from_residual.ensures.1 in
    let a = c.args.a.now in
    let b = c.args.b.now in
    let pairs = zip a b in
    let x = c.index-a-0.result in
    let y = c.index-b-0.result in
    let split = pair_next a b 0 x y (omega arith) c.requires.same c.index-a-0.is c.index-b-0.is in
    rw (p.1, p.2) (compared_falls_first g.D.Driver.rules (g.D.Driver.tells c.args.driver.now) (g.D.Driver.tells c.first_carry.new.driver) c.in_err-first.field-0.0 pairs (drop 1 pairs) x y split c.in_err-first.ensures)

pub returns-in_err-carry : goal.returns-in_err-carry
returns-in_err-carry g c =
    let p = err_from_is_err_and c.from_residual-in_err-carry.result c.from_residual-in_err-carry.ensures.1 in
    let a = c.args.a.now in
    let b = c.args.b.now in
    let pairs = zip a b in
    let x = c.index-a-0.result in
    let y = c.index-b-0.result in
    let split = pair_next a b 0 x y (omega arith) c.requires.same c.index-a-0.is c.index-b-0.is in
    let whole : take (length a - 1) (drop 1 pairs) ≡ drop 1 pairs = take_all (length a - 1) (drop 1 pairs) (omega (arith, length-drop 1 pairs, length-zip a b)) in
    let mid = (g.D.Driver.tells c.first_carry.new.driver) in
    let after = (g.D.Driver.tells c.subtract_middle.new.driver) in
    rw (p.1, p.2) (compared_falls g.D.Driver.rules (g.D.Driver.tells c.args.driver.now) mid after c.in_err-carry.field-0.0 pairs (drop 1 pairs) x y c.in_ok-first.first split
    c.in_ok-first.ensures (subst (λ ps. FellIn g.D.Driver.rules (folded g.D.Driver.rules (subtract_bit g.D.Driver.rules) (starting g.D.Driver.rules c.in_ok-first.first) ps) mid after c.in_err-carry.field-0.0) whole c.in_err-carry.ensures))

pub returns : goal.returns
returns g c =
    let a = c.args.a.now in
    let b = c.args.b.now in
    let pairs = zip a b in
    let x = c.index-a-0.result in
    let y = c.index-b-0.result in
    let split = pair_next a b 0 x y (omega arith) c.requires.same c.index-a-0.is c.index-b-0.is in
    let whole : take (length a - 1) (drop 1 pairs) ≡ drop 1 pairs = take_all (length a - 1) (drop 1 pairs) (omega (arith, length-drop 1 pairs, length-zip a b)) in
    let out = c.subtract_middle.new.out in
    let carry = c.in_ok-carry.carry in
    let before = (g.D.Driver.tells c.args.driver.now) in
    let mid = (g.D.Driver.tells c.first_carry.new.driver) in
    let after = (g.D.Driver.tells c.subtract_middle.new.driver) in
    let bits = take (length a - 1) (drop 1 out) in
    let long : length a ≡ length out = omega arith in
    let went = compared_went g.D.Driver.rules before mid after pairs (drop 1 pairs) x y c.in_ok-first.first (with_carry g.D.Driver.rules carry bits) split
    c.in_ok-first.ensures (subst (λ ps. Went g.D.Driver.rules (folded g.D.Driver.rules (subtract_bit g.D.Driver.rules) (starting g.D.Driver.rules c.in_ok-first.first) ps) mid after (with_carry g.D.Driver.rules carry bits)) whole c.in_ok-carry.ensures) in
    went_to g.D.Driver.rules (compared g.D.Driver.rules pairs) before after _ _ went
    (ap (λ v. with_carry g.D.Driver.rules carry (v ∷ bits)) (sym c.xor-lowest.ensures)
    ∙ ap (λ n. with_carry g.D.Driver.rules carry (c.xor-lowest.result ∷ take (n - 1) (drop 1 out))) long
    ∙ ap (λ ws. with_carry g.D.Driver.rules carry ws) (sym (written_lowest out c.xor-lowest.result (omega arith))))
