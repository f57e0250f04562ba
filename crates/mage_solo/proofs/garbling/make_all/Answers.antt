use Rattle.std.proofs.Common.{◌≡◌, ◌+◌, ◌++◌, ◌∷◌, [], length, refl, ap, ◌∙◌, arith, length-append}
use Rattle.mage_solo.proofs.Handing.{making_none, making_more}
use Rattle.mage_solo.proofs.garbling.make_all.Goals as goal

pub loop-sink-init : goal.loop-sink-init
loop-sink-init g c = record {
  making = making_none g.K.Sink.tells c.args.seed c.args.garbler.items c.args.sinks.now.items c.args.drivers.now.items c.requires.values c.requires.none;
  capacity = refl;
  room = (let none : length c.args.drivers.now.items ≡ 0 = ap length c.requires.none in let room = c.requires.room in omega (arith, none, room));
  count = (let none : length c.args.drivers.now.items ≡ 0 = ap length c.requires.none in omega (arith, none));
  values = c.requires.values;
  few = c.requires.few;
}

pub loop-sink-preserved : goal.loop-sink-preserved
loop-sink-preserved g c =
    let i = c.loop-sink.invariant in
    let sinks : length c.loop-sink.sinks.items ≡ length (c.pop.new.self.items ++ c.in-Some.sink ∷ []) = ap length c.in-Some.ensures.items in
    let fewer : length (c.pop.new.self.items ++ c.in-Some.sink ∷ []) ≡ length c.pop.new.self.items + 1 = length-append c.pop.new.self.items (c.in-Some.sink ∷ []) in
    let values : length c.loop-sink.garbler.items ≡ length (c.pop-in-Some.new.self.items ++ c.in-Some-pop.values ∷ []) = ap length c.in-Some-pop.ensures.items in
    let less : length (c.pop-in-Some.new.self.items ++ c.in-Some-pop.values ∷ []) ≡ length c.pop-in-Some.new.self.items + 1 =
    length-append c.pop-in-Some.new.self.items (c.in-Some-pop.values ∷ []) in
    let drivers : length c.push_reserved-in-Ok.new.self.items ≡ length (c.loop-sink.drivers.items ++ c.in-Ok.driver ∷ []) = ap length c.push_reserved-in-Ok.ensures.items in
    let more : length (c.loop-sink.drivers.items ++ c.in-Ok.driver ∷ []) ≡ length c.loop-sink.drivers.items + 1 =
    length-append c.loop-sink.drivers.items (c.in-Ok.driver ∷ []) in
    let room = i.room in
    let count = i.count in
    let together = i.values in
    let few = i.few in
    let same = c.push_reserved-in-Ok.ensures.capacity in
    record {
      making = making_more g.K.Sink.tells c.args.seed c.args.garbler.items c.args.sinks.now.items c.loop-sink.sinks.items c.pop.new.self.items c.in-Some.sink
          c.loop-sink.garbler.items c.pop-in-Some.new.self.items c.in-Some-pop.values c.loop-sink.drivers.items c.push_reserved-in-Ok.new.self.items c.in-Ok.driver
          c.len.result i.making c.in-Some.ensures.items c.in-Some-pop.ensures.items (c.len.ensures ∙ c.pop.new.self.ok.0) c.in-Ok.ensures.made
          c.push_reserved-in-Ok.ensures.items;
      capacity = c.pop.ensures.capacity ∙ i.capacity;
      room = omega (arith, sinks, fewer, drivers, more, room, same);
      count = omega (arith, sinks, fewer, drivers, more, count);
      values = omega (arith, sinks, fewer, values, less, together);
      few = omega (arith, sinks, fewer, few);
    }
