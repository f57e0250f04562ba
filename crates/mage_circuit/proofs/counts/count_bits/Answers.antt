use Rattle.std.proofs.Common.{◌≡◌, ◌+◌, ◌*◌, ◌^◌, ◌==◌, true, false, length, set, take, drop, sym, ap, subst, refl, ◌∙◌, arith}
use Rattle.std.proofs.lemmas.Result.{err_from_is_err_and}
use Rattle.std.proofs.lemmas.Bool.{eq-eqb}
use Rattle.std.proofs.lemmas.List.{drop_all, length-take, length-set, take_at}
use Rattle.mage_driver.specs.Circuits.{Went}
use Rattle.mage_driver.specs.Operations.{count_bit}
use Rattle.mage_driver.proofs.Making.{FellIn, Goes, goes_turn, goes_same, goes_falls, goes_end}
use Rattle.mage_circuit.specs.Numbers.{grown}
use Rattle.mage_circuit.proofs.Loops.{item_next}
use Rattle.mage_circuit.proofs.Ends.{first_written}
use Rattle.mage_circuit.proofs.Counting.{counted_to, pow_next, test_fails, front_of, count_full_step, count_more_step, count_full_falls, count_more_falls, counted_went, counted_falls}
use Rattle.mage_circuit.proofs.counts.count_bits.Goals.{then-i-full+in_ok-count_full, else-i-full+in_ok-count_more}
use Rattle.mage_circuit.proofs.counts.count_bits.Goals as goal

pub returns-in_err-count_full-clause-circuit : goal.returns-in_err-count_full-clause-circuit
returns-in_err-count_full-clause-circuit g c =
    let p = err_from_is_err_and c.from_residual.result c.from_residual.ensures.1 in
    let l = c.loop-i in
    let a = c.args.a.now in
    let before = (g.D.Driver.tells c.args.driver.now) in
    let told = (g.D.Driver.tells l.driver) in
    let first = item_next a 0 c.index-a-0.result (omega arith) c.index-a-0.is in
    let begun = take 1 (set c.args.number.now 0 c.index-a-0.result) in
    let start = first_written c.args.number.now c.index-a-0.result (omega arith) in
    let number_long : length l.number ≡ length c.args.number.now = omega (arith, length-set c.args.number.now 0 c.index-a-0.result) in
    let within = l.invariant.within in
    let bits = take l.length l.number in
    let bits_long : length bits ≡ l.length = omega (arith, length-take l.length l.number) in
    let after = (g.D.Driver.tells c.count_full.new.driver) in
    let x = c.index-a-i.result in
    let f = c.in_err-count_full.field-0.0 in
    let next = item_next a l.i x (omega arith) c.index-a-i.is in
    let test : (l.i + 1 == 2 ^ length bits) ≡ true = eq-eqb (l.i + 1) (2 ^ length bits) (c.if-i-full.true ∙ l.invariant.full ∙ ap (λ k. 2 ^ k) (sym bits_long)) in
    let fell = subst (λ ds. FellIn g.D.Driver.rules (grown g.D.Driver.rules x ds) told after f) (front_of l.number l.length (omega arith)) c.in_err-count_full.ensures in
    rw (p.1, p.2) (counted_falls g.D.Driver.rules a (drop 1 a) begun c.index-a-0.result before after f first start
    (goes_falls g.D.Driver.rules (count_bit g.D.Driver.rules) (counted_to 1 begun) before (drop 1 a) (counted_to l.i bits) told after f x (drop l.i a) (drop (l.i + 1) a) l.invariant.goes next
    (count_full_falls g.D.Driver.rules l.i bits x told after f test fell)))

pub returns-in_err-count_more-clause-circuit : goal.returns-in_err-count_more-clause-circuit
returns-in_err-count_more-clause-circuit g c =
    let p = err_from_is_err_and c.from_residual-in_err-count_more.result c.from_residual-in_err-count_more.ensures.1 in
    let l = c.loop-i in
    let a = c.args.a.now in
    let before = (g.D.Driver.tells c.args.driver.now) in
    let told = (g.D.Driver.tells l.driver) in
    let first = item_next a 0 c.index-a-0.result (omega arith) c.index-a-0.is in
    let begun = take 1 (set c.args.number.now 0 c.index-a-0.result) in
    let start = first_written c.args.number.now c.index-a-0.result (omega arith) in
    let number_long : length l.number ≡ length c.args.number.now = omega (arith, length-set c.args.number.now 0 c.index-a-0.result) in
    let within = l.invariant.within in
    let bits = take l.length l.number in
    let bits_long : length bits ≡ l.length = omega (arith, length-take l.length l.number) in
    let after = (g.D.Driver.tells c.count_more.new.driver) in
    let x = c.index-a-i-else-i-full.result in
    let f = c.in_err-count_more.field-0.0 in
    let next = item_next a l.i x (omega arith) c.index-a-i-else-i-full.is in
    let apart = c.if-i-full.false in
    let full = l.invariant.full in
    let power : 2 ^ length bits ≡ 2 ^ l.length = ap (λ k. 2 ^ k) bits_long in
    let test : (l.i + 1 == 2 ^ length bits) ≡ false = test_fails (l.i + 1) (2 ^ length bits) (λ same. apart (same ∙ power ∙ sym full)) in
    rw (p.1, p.2) (counted_falls g.D.Driver.rules a (drop 1 a) begun c.index-a-0.result before after f first start
    (goes_falls g.D.Driver.rules (count_bit g.D.Driver.rules) (counted_to 1 begun) before (drop 1 a) (counted_to l.i bits) told after f x (drop l.i a) (drop (l.i + 1) a) l.invariant.goes next
    (count_more_falls g.D.Driver.rules l.i bits x told after f test c.in_err-count_more.ensures)))

pub loop-i-preserved : goal.loop-i-preserved
loop-i-preserved g c =
    let l = c.loop-i in
    let a = c.args.a.now in
    let before = (g.D.Driver.tells c.args.driver.now) in
    let told = (g.D.Driver.tells l.driver) in
    let first = item_next a 0 c.index-a-0.result (omega arith) c.index-a-0.is in
    let begun = take 1 (set c.args.number.now 0 c.index-a-0.result) in
    let start = first_written c.args.number.now c.index-a-0.result (omega arith) in
    let number_long : length l.number ≡ length c.args.number.now = omega (arith, length-set c.args.number.now 0 c.index-a-0.result) in
    let within = l.invariant.within in
    let bits = take l.length l.number in
    let bits_long : length bits ≡ l.length = omega (arith, length-take l.length l.number) in
    let full = l.invariant.full in
    let power : 2 ^ length bits ≡ 2 ^ l.length = ap (λ k. 2 ^ k) bits_long in
    let items = drop 1 a in
    let left = drop (l.i + 1) a in
    let join = c.if-i-full in
    elim c.if-i-full.branch [
      | then-i-full+in_ok-count_full w ↦
          (let new = w.count_full.new.number in
          let after = (g.D.Driver.tells w.count_full.new.driver) in
          let x = w.index-a-i.result in
          let next = item_next a l.i x (omega arith) w.index-a-i.is in
          let test : (l.i + 1 == 2 ^ length bits) ≡ true = eq-eqb (l.i + 1) (2 ^ length bits) (w.if-i-full.true ∙ full ∙ sym power) in
          let went = subst (λ ds. Went g.D.Driver.rules (grown g.D.Driver.rules x ds) told after new) (front_of l.number l.length (omega arith)) w.in_ok-count_full.ensures in
          let turned = goes_turn g.D.Driver.rules (count_bit g.D.Driver.rules) (counted_to 1 begun) before items (counted_to l.i bits) (counted_to (l.i + 1) new) told after x (drop l.i a) left l.invariant.goes next
          (count_full_step g.D.Driver.rules l.i bits new x told after test went) in
          let new_long : length new ≡ l.length + 1 = omega (arith, length-take (l.length + 1) l.number) in
          let found : new ≡ take join.length join.number =
          sym (ap (λ k. take k join.number) w.length-is ∙ ap (λ ds. take (l.length + 1) ds) w.number-is ∙ take_at new (drop (l.length + 1) l.number) (l.length + 1) new_long) in
          let goes = goes_same g.D.Driver.rules (count_bit g.D.Driver.rules) (counted_to 1 begun) before items (counted_to (l.i + 1) new) (counted_to (l.i + 1) (take join.length join.number)) after left left turned
          (ap (λ ds. counted_to (l.i + 1) ds) found) refl in
          record {
            goes = subst (λ d. Goes g.D.Driver.rules (count_bit g.D.Driver.rules) (counted_to 1 begun) before items (counted_to (l.i + 1) (take join.length join.number)) (g.D.Driver.tells d) left) (sym w.driver-is) goes;
            full = w.full-is ∙ ap (λ n. n * 2) full ∙ sym (pow_next l.length) ∙ ap (λ k. 2 ^ k) (sym w.length-is);
            some = omega (arith, w.length-is);
            within = omega (arith, w.length-is);
            below = omega (arith, w.full-is, w.if-i-full.true);
            few = omega (arith, w.full-is, w.if-i-full.true);
          })
      | else-i-full+in_ok-count_more w ↦
          (let new = w.count_more.new.number in
          let after = (g.D.Driver.tells w.count_more.new.driver) in
          let x = w.index-a-i-else-i-full.result in
          let next = item_next a l.i x (omega arith) w.index-a-i-else-i-full.is in
          let apart = w.if-i-full.false in
          let test : (l.i + 1 == 2 ^ length bits) ≡ false = test_fails (l.i + 1) (2 ^ length bits) (λ same. apart (same ∙ power ∙ sym full)) in
          let turned = goes_turn g.D.Driver.rules (count_bit g.D.Driver.rules) (counted_to 1 begun) before items (counted_to l.i bits) (counted_to (l.i + 1) new) told after x (drop l.i a) left l.invariant.goes next
          (count_more_step g.D.Driver.rules l.i bits new x told after test w.in_ok-count_more.ensures) in
          let new_long : length new ≡ l.length = omega (arith, length-take l.length l.number) in
          let found : new ≡ take join.length join.number =
          sym (ap (λ k. take k join.number) w.length-is ∙ ap (λ ds. take l.length ds) w.number-is ∙ take_at new (drop l.length l.number) l.length new_long) in
          let goes = goes_same g.D.Driver.rules (count_bit g.D.Driver.rules) (counted_to 1 begun) before items (counted_to (l.i + 1) new) (counted_to (l.i + 1) (take join.length join.number)) after left left turned
          (ap (λ ds. counted_to (l.i + 1) ds) found) refl in
          record {
            goes = subst (λ d. Goes g.D.Driver.rules (count_bit g.D.Driver.rules) (counted_to 1 begun) before items (counted_to (l.i + 1) (take join.length join.number)) (g.D.Driver.tells d) left) (sym w.driver-is) goes;
            full = w.full-is ∙ full ∙ ap (λ k. 2 ^ k) (sym w.length-is);
            some = omega (arith, w.length-is);
            within = omega (arith, w.length-is);
            below = omega (arith, w.full-is, w.if-i-full.false);
            few = omega (arith, w.full-is);
          })
    ]

pub returns-clause-circuit : goal.returns-clause-circuit
returns-clause-circuit g c =
    let l = c.loop-i in
    let a = c.args.a.now in
    let before = (g.D.Driver.tells c.args.driver.now) in
    let told = (g.D.Driver.tells l.driver) in
    let first = item_next a 0 c.index-a-0.result (omega arith) c.index-a-0.is in
    let begun = take 1 (set c.args.number.now 0 c.index-a-0.result) in
    let start = first_written c.args.number.now c.index-a-0.result (omega arith) in
    let number_long : length l.number ≡ length c.args.number.now = omega (arith, length-set c.args.number.now 0 c.index-a-0.result) in
    let within = l.invariant.within in
    let bits = take l.length l.number in
    let bits_long : length bits ≡ l.length = omega (arith, length-take l.length l.number) in
    counted_went g.D.Driver.rules a (drop 1 a) begun c.index-a-0.result before told (counted_to l.i bits) first start
    (goes_end g.D.Driver.rules (count_bit g.D.Driver.rules) (counted_to 1 begun) before (drop 1 a) (counted_to l.i bits) told (drop l.i a) l.invariant.goes (drop_all l.i a (omega arith)))
