use Rattle.std.proofs.Common.{◌≡◌, ◌+◌, ◌-◌, ◌++◌, [], length, take, drop, ap, subst, ◌∙◌, arith}
use Rattle.std.proofs.lemmas.Result.{err_from_is_err_and}
use Rattle.std.specs.List.{zip}
use Rattle.std.proofs.lemmas.List.{append-nil, drop_all, take_all, take_at, length-take, length-drop}
use Rattle.mage_driver.specs.Circuits.{Went, folded}
use Rattle.mage_driver.specs.Operations.{added, multiply_bit}
use Rattle.mage_driver.proofs.Making.{FellIn, goes_turn, goes_falls, goes_end, went_to}
use Rattle.mage_circuit.proofs.Loops.{item_next}
use Rattle.mage_circuit.proofs.Multiplying.{summed_in, multiply_turn, multiply_falls_row, multiply_falls_sum, multiplied_went, multiplied_falls_first, multiplied_falls}
use Rattle.mage_circuit.proofs.products.multiply.Goals as goal

pub returns-in_err-row_of : goal.returns-in_err-row_of
returns-in_err-row_of g c =
    let p = err_from_is_err_and c.from_residual.result c.from_residual.ensures.1 in
    let a = c.args.a.now in
    let b = c.args.b.now in
    let width = length a in
    let first = item_next b 0 c.index-b-0.result (omega arith) c.index-b-0.is in
    let before = (g.D.Driver.tells c.args.driver.now) in
    let mid = (g.D.Driver.tells c.row_of.new.driver) in
    let line = c.row_of.new.out in
    rw (p.1, p.2) (multiplied_falls_first g.D.Driver.rules a b (drop 1 b) c.index-b-0.result before mid c.in_err-row_of.field-0.0 first c.in_err-row_of.ensures)

pub returns-in_err-row_of-2 : goal.returns-in_err-row_of-2
returns-in_err-row_of-2 g c =
    let p = err_from_is_err_and c.from_residual-in_err-row_of-2.result c.from_residual-in_err-row_of-2.ensures.1 in
    let a = c.args.a.now in
    let b = c.args.b.now in
    let width = length a in
    let first = item_next b 0 c.index-b-0.result (omega arith) c.index-b-0.is in
    let before = (g.D.Driver.tells c.args.driver.now) in
    let mid = (g.D.Driver.tells c.row_of.new.driver) in
    let line = c.row_of.new.out in
    let l = c.loop-i in
    let told = (g.D.Driver.tells l.driver) in
    let x = c.index-b-i.result in
    let next = item_next b l.i x (omega arith) c.index-b-i.is in
    let row_told = (g.D.Driver.tells c.row_of-in-loop-i.new.driver) in
    let f = c.in_err-row_of-2.field-0.0 in
    rw (p.1, p.2) (multiplied_falls g.D.Driver.rules a b (drop 1 b) c.index-b-0.result line before mid row_told f first c.in_ok-row_of.ensures
    (goes_falls g.D.Driver.rules (multiply_bit g.D.Driver.rules a) (summed_in 0 line) mid (drop 1 b) (summed_in (l.i - 1) l.out) told row_told f x (drop l.i b) (drop (l.i + 1) b) l.invariant next
    (multiply_falls_row g.D.Driver.rules a l.out l.i width x told row_told f (omega arith) (omega arith) (omega arith) c.in_err-row_of-2.ensures)))

pub returns-in_err-add_onto : goal.returns-in_err-add_onto
returns-in_err-add_onto g c =
    let p = err_from_is_err_and c.from_residual-in_err-add_onto.result c.from_residual-in_err-add_onto.ensures.1 in
    let a = c.args.a.now in
    let b = c.args.b.now in
    let width = length a in
    let first = item_next b 0 c.index-b-0.result (omega arith) c.index-b-0.is in
    let before = (g.D.Driver.tells c.args.driver.now) in
    let mid = (g.D.Driver.tells c.row_of.new.driver) in
    let line = c.row_of.new.out in
    let l = c.loop-i in
    let told = (g.D.Driver.tells l.driver) in
    let x = c.index-b-i.result in
    let next = item_next b l.i x (omega arith) c.index-b-i.is in
    let row_told = (g.D.Driver.tells c.row_of-in-loop-i.new.driver) in
    let n = width - l.i in
    let new = c.row_of-in-loop-i.new.out in
    let new_long : length new ≡ n = omega (arith, length-take n l.line, length-take n a) in
    let sum_is : take n (drop l.i l.out) ≡ drop l.i l.out = take_all n (drop l.i l.out) (omega (arith, length-drop l.i l.out)) in
    let line_is : take n (new ++ drop n l.line) ≡ new = take_at new (drop n l.line) n new_long in
    let f = c.in_err-add_onto.field-0.0 in
    let after = (g.D.Driver.tells c.add_onto.new.driver) in
    let fell = subst (λ ws. FellIn g.D.Driver.rules (added g.D.Driver.rules (zip (drop l.i l.out) ws)) row_told after f) line_is (subst (λ ws. FellIn g.D.Driver.rules (added g.D.Driver.rules (zip ws (take n (new ++ drop n l.line)))) row_told after f) sum_is c.in_err-add_onto.ensures) in
    rw (p.1, p.2) (multiplied_falls g.D.Driver.rules a b (drop 1 b) c.index-b-0.result line before mid after f first c.in_ok-row_of.ensures
    (goes_falls g.D.Driver.rules (multiply_bit g.D.Driver.rules a) (summed_in 0 line) mid (drop 1 b) (summed_in (l.i - 1) l.out) told after f x (drop l.i b) (drop (l.i + 1) b) l.invariant next
    (multiply_falls_sum g.D.Driver.rules a l.out new l.i width x told row_told after f (omega arith) (omega arith) (omega arith) c.in_ok-row_of-2.ensures fell)))

pub loop-i-preserved : goal.loop-i-preserved
loop-i-preserved g c =
    let a = c.args.a.now in
    let b = c.args.b.now in
    let width = length a in
    let first = item_next b 0 c.index-b-0.result (omega arith) c.index-b-0.is in
    let before = (g.D.Driver.tells c.args.driver.now) in
    let mid = (g.D.Driver.tells c.row_of.new.driver) in
    let line = c.row_of.new.out in
    let l = c.loop-i in
    let told = (g.D.Driver.tells l.driver) in
    let x = c.index-b-i.result in
    let next = item_next b l.i x (omega arith) c.index-b-i.is in
    let row_told = (g.D.Driver.tells c.row_of-in-loop-i.new.driver) in
    let n = width - l.i in
    let new = c.row_of-in-loop-i.new.out in
    let new_long : length new ≡ n = omega (arith, length-take n l.line, length-take n a) in
    let sum_is : take n (drop l.i l.out) ≡ drop l.i l.out = take_all n (drop l.i l.out) (omega (arith, length-drop l.i l.out)) in
    let line_is : take n (new ++ drop n l.line) ≡ new = take_at new (drop n l.line) n new_long in
    let after = (g.D.Driver.tells c.add_onto.new.driver) in
    let sum = c.add_onto.new.sum in
    let went = subst (λ ws. Went g.D.Driver.rules (added g.D.Driver.rules (zip (drop l.i l.out) ws)) row_told after sum) line_is (subst (λ ws. Went g.D.Driver.rules (added g.D.Driver.rules (zip ws (take n (new ++ drop n l.line)))) row_told after sum) sum_is c.in_ok-add_onto.ensures) in
    let none : drop n (drop l.i l.out) ≡ [] = drop_all n (drop l.i l.out) (omega (arith, length-drop l.i l.out)) in
    let out = take l.i l.out ++ (sum ++ drop n (drop l.i l.out)) in
    let same : out ≡ take l.i l.out ++ sum = ap (λ ys. take l.i l.out ++ (sum ++ ys)) none ∙ ap (λ ys. take l.i l.out ++ ys) (append-nil sum) in
    goes_turn g.D.Driver.rules (multiply_bit g.D.Driver.rules a) (summed_in 0 line) mid (drop 1 b) (summed_in (l.i - 1) l.out) (summed_in (l.i + 1 - 1) out) told after x (drop l.i b) (drop (l.i + 1) b) l.invariant next
    (multiply_turn g.D.Driver.rules a l.out new sum out l.i width x told row_told after (omega arith) (omega arith) (omega arith) c.in_ok-row_of-2.ensures went same)

pub returns : goal.returns
returns g c =
    let a = c.args.a.now in
    let b = c.args.b.now in
    let width = length a in
    let first = item_next b 0 c.index-b-0.result (omega arith) c.index-b-0.is in
    let before = (g.D.Driver.tells c.args.driver.now) in
    let mid = (g.D.Driver.tells c.row_of.new.driver) in
    let line = c.row_of.new.out in
    let l = c.loop-i in
    let told = (g.D.Driver.tells l.driver) in
    let end : l.i - 1 ≡ length l.out - 1 = omega arith in
    multiplied_went g.D.Driver.rules a b (drop 1 b) c.index-b-0.result line l.out before mid told first c.in_ok-row_of.ensures
    (went_to g.D.Driver.rules (folded g.D.Driver.rules (multiply_bit g.D.Driver.rules a) (summed_in 0 line) (drop 1 b)) mid told _ _
    (goes_end g.D.Driver.rules (multiply_bit g.D.Driver.rules a) (summed_in 0 line) mid (drop 1 b) (summed_in (l.i - 1) l.out) told (drop l.i b) l.invariant (drop_all l.i b (omega arith)))
    (ap (λ k. summed_in k l.out) end))
