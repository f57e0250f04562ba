use Rattle.std.proofs.Common.{◌≡◌, ◌+◌, ◌++◌, ◌∷◌, [], length, ap, arith, length-append}
use Rattle.std.proofs.lemmas.Grind.{common_steps}
use Rattle.mage_solo.proofs.Drawing.{closing_none, closing_more, closing_back, closing_put}
use Rattle.mage_solo.proofs.evaluating.close_all.Goals as goal

pub loop-driver-init : goal.loop-driver-init
loop-driver-init g c = record {
  closing = closing_none g.I.Source.tells c.args.drivers.now.items c.args.sources.now.items c.args.outputs.now.items c.requires.none;
  room = c.requires.room;
  space = (let none : length c.args.outputs.now.items ≡ 0 = ap length c.requires.none in let space = c.requires.space in omega (arith, none, space));
}

pub loop-driver-preserved : goal.loop-driver-preserved
loop-driver-preserved g c =
    let more : length c.push_reserved.new.self.items ≡ length (c.loop-driver.sources.items ++ c.close-source.result.0 ∷ []) = ap length c.push_reserved.ensures.items in
    let one : length (c.loop-driver.sources.items ++ c.close-source.result.0 ∷ []) ≡ length c.loop-driver.sources.items + 1 =
    length-append c.loop-driver.sources.items (c.close-source.result.0 ∷ []) in
    let put : length c.push_reserved-in-Some.new.self.items ≡ length (c.loop-driver.outputs.items ++ c.close-source.result.1 ∷ []) = ap length c.push_reserved-in-Some.ensures.items in
    let one_put : length (c.loop-driver.outputs.items ++ c.close-source.result.1 ∷ []) ≡ length c.loop-driver.outputs.items + 1 =
    length-append c.loop-driver.outputs.items (c.close-source.result.1 ∷ []) in
    let last : length c.loop-driver.drivers.items ≡ length (c.pop.new.self.items ++ c.in-Some.driver ∷ []) = ap length c.in-Some.ensures.items in
    let less : length (c.pop.new.self.items ++ c.in-Some.driver ∷ []) ≡ length c.pop.new.self.items + 1 = length-append c.pop.new.self.items (c.in-Some.driver ∷ []) in
    let room = c.loop-driver.invariant.room in
    let space = c.loop-driver.invariant.space in
    let same = c.push_reserved.ensures.capacity in
    let same_put = c.push_reserved-in-Some.ensures.capacity in
    record {
      closing = closing_more g.I.Source.tells c.args.drivers.now.items c.loop-driver.drivers.items c.pop.new.self.items c.in-Some.driver
          c.args.sources.now.items c.loop-driver.sources.items c.push_reserved.new.self.items c.close-source.result.0
          c.loop-driver.outputs.items c.push_reserved-in-Some.new.self.items c.close-source.result.1 c.loop-driver.invariant.closing
          c.in-Some.ensures.items c.push_reserved.ensures.items c.push_reserved-in-Some.ensures.items (record { faults = c.close-source.ensures.faults; failed = c.close-source.ensures.failed }) c.close-source.ensures.outputs;
      room = omega (arith, more, one, last, less, room, same);
      space = omega (arith, put, one_put, last, less, space, same_put);
    }

pub returns-clause-back : goal.returns-clause-back
returns-clause-back g c =
    closing_back g.I.Source.tells c.args.drivers.now.items c.loop-driver.drivers.items c.args.sources.now.items c.loop-driver.sources.items c.loop-driver.outputs.items
    c.loop-driver.invariant.closing (grind (arith, common_steps))

pub returns-clause-outputs : goal.returns-clause-outputs
returns-clause-outputs g c =
    closing_put g.I.Source.tells c.args.drivers.now.items c.loop-driver.drivers.items c.args.sources.now.items c.loop-driver.sources.items c.loop-driver.outputs.items
    c.loop-driver.invariant.closing (grind (arith, common_steps))
