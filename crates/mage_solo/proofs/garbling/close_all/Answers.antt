use Rattle.std.proofs.Common.{◌≡◌, ◌+◌, ◌++◌, ◌∷◌, [], length, ap, arith, length-append}
use Rattle.std.proofs.lemmas.Grind.{common_steps}
use Rattle.mage_solo.proofs.Handing.{closing_none, closing_more, closing_all}
use Rattle.mage_solo.proofs.garbling.close_all.Goals as goal

pub loop-driver-init : goal.loop-driver-init
loop-driver-init g c = record {
  closing = closing_none g.K.Sink.tells c.args.drivers.now.items c.args.sinks.now.items;
  room = c.requires.room;
}

pub loop-driver-preserved : goal.loop-driver-preserved
loop-driver-preserved g c =
    let more : length c.push_reserved.new.self.items ≡ length (c.loop-driver.sinks.items ++ c.close.result ∷ []) = ap length c.push_reserved.ensures.items in
    let one : length (c.loop-driver.sinks.items ++ c.close.result ∷ []) ≡ length c.loop-driver.sinks.items + 1 = length-append c.loop-driver.sinks.items (c.close.result ∷ []) in
    let last : length c.loop-driver.drivers.items ≡ length (c.pop.new.self.items ++ c.in-Some.driver ∷ []) = ap length c.in-Some.ensures.items in
    let less : length (c.pop.new.self.items ++ c.in-Some.driver ∷ []) ≡ length c.pop.new.self.items + 1 = length-append c.pop.new.self.items (c.in-Some.driver ∷ []) in
    let room = c.loop-driver.invariant.room in
    let same = c.push_reserved.ensures.capacity in
    record {
      closing = closing_more g.K.Sink.tells c.args.drivers.now.items c.loop-driver.drivers.items c.pop.new.self.items c.in-Some.driver
          c.args.sinks.now.items c.loop-driver.sinks.items c.push_reserved.new.self.items c.close.result c.loop-driver.invariant.closing
          c.in-Some.ensures.items c.push_reserved.ensures.items
          (record { stream = c.close.ensures.stream; told = c.close.ensures.told; faults = c.close.ensures.faults; failing = c.close.ensures.sink });
      room = omega (arith, more, one, last, less, room, same);
    }

pub returns-clause-back : goal.returns-clause-back
returns-clause-back g c =
    closing_all g.K.Sink.tells c.args.drivers.now.items c.loop-driver.drivers.items c.args.sinks.now.items c.loop-driver.sinks.items c.loop-driver.invariant.closing
    (grind (arith, common_steps))
