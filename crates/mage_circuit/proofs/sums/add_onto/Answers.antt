use Rattle.std.proofs.Common.{◌≡◌, ◌+◌, ◌-◌, ◌++◌, ◌∷◌, [], length, take, drop, sym, ap, ◌∙◌, arith}
use Rattle.std.proofs.lemmas.Result.{err_from_is_err_and}
use Rattle.std.specs.List.{zip}
use Rattle.std.proofs.lemmas.List.{length-drop}
use Rattle.std.proofs.lemmas.Slice.Zip.{length-zip}
use Rattle.mage_driver.specs.Operations.{added, sum_bit, with_carry}
use Rattle.mage_driver.proofs.Making.{went_to}
use Rattle.mage_circuit.proofs.Loops.{pair_next, pairs_end, kept_item}
use Rattle.mage_circuit.proofs.Ends.{written_ends, last_behind, added_went, added_falls_first, added_falls}
use Rattle.mage_circuit.proofs.sums.add_onto.Goals as goal

pub returns-in_err-first : goal.returns-in_err-first
returns-in_err-first g c =
    let p = err_from_is_err_and c.from_residual.result c.from_residual.ensures.1 in
    let a = c.args.sum.now in
    let b = c.args.line.now in
    let pairs = zip a b in
    let x = c.index-sum-0.result in
    let y = c.index-line-0.result in
    let split = pair_next a b 0 x y (omega arith) c.requires.same c.index-sum-0.is c.index-line-0.is in
    rw (p.1, p.2) (added_falls_first g.D.Driver.rules (g.D.Driver.tells c.args.driver.now) (g.D.Driver.tells c.both_of.new.driver) c.in_err-first.field-0.0 pairs (drop 1 pairs) x y split (omega (arith, length-drop 1 pairs, length-zip a b)) c.in_err-first.ensures)

pub returns-in_err-carry : goal.returns-in_err-carry
returns-in_err-carry g c =
    let p = err_from_is_err_and c.from_residual-in_err-carry.result c.from_residual-in_err-carry.ensures.1 in
    let a = c.args.sum.now in
    let b = c.args.line.now in
    let pairs = zip a b in
    let last = length b - 1 in
    let x = c.index-sum-0.result in
    let y = c.index-line-0.result in
    let split = pair_next a b 0 x y (omega arith) c.requires.same c.index-sum-0.is c.index-line-0.is in
    rw (p.1, p.2) (added_falls g.D.Driver.rules (g.D.Driver.tells c.args.driver.now) (g.D.Driver.tells c.both_of.new.driver) (g.D.Driver.tells c.add_middle.new.driver) c.in_err-carry.field-0.0 pairs (drop 1 pairs) x y c.in_ok-first.first (last - 1) split (omega (arith, length-drop 1 pairs, length-zip a b))
    c.in_ok-first.ensures c.in_err-carry.ensures.circuit)

pub returns : goal.returns
returns g c =
    let a = c.args.sum.now in
    let b = c.args.line.now in
    let pairs = zip a b in
    let last = length b - 1 in
    let mid = c.add_middle.new.sum in
    let x = c.index-sum-0.result in
    let y = c.index-line-0.result in
    let q = c.index-sum-last.result in
    let r = c.index-line-last.result in
    let carry = c.in_ok-carry.carry in
    let before = (g.D.Driver.tells c.args.driver.now) in
    let after = (g.D.Driver.tells c.add_middle.new.driver) in
    let bits = take (last - 1) (drop 1 mid) in
    let split = pair_next a b 0 x y (omega arith) c.requires.same c.index-sum-0.is c.index-line-0.is in
    let here = kept_item mid a last q c.in_ok-carry.ensures.others c.index-sum-last.is in
    let end : drop last pairs ≡ (q, r) ∷ [] = pair_next a b last q r (omega arith) c.requires.same here c.index-line-last.is ∙ ap (λ ps. (q, r) ∷ ps) (pairs_end a b (last + 1) (omega arith)) in
    let went = added_went g.D.Driver.rules before (g.D.Driver.tells c.both_of.new.driver) after pairs (drop 1 pairs) x y q r c.in_ok-first.first (with_carry g.D.Driver.rules carry bits) (last - 1)
    split (omega (arith, length-drop 1 pairs, length-zip a b)) (last_behind pairs last (q, r) (omega arith) end) c.in_ok-first.ensures c.in_ok-carry.ensures.circuit in
    went_to g.D.Driver.rules (added g.D.Driver.rules pairs) before after _ _ went
    (ap (λ v. v ∷ bits ++ sum_bit g.D.Driver.rules q r carry ∷ []) (sym c.xor-lowest.ensures) ∙ ap (λ v. c.xor-lowest.result ∷ bits ++ v ∷ []) (sym c.sum_of.ensures)
    ∙ sym (written_ends mid last c.xor-lowest.result c.sum_of.result (omega arith) (omega arith)))
