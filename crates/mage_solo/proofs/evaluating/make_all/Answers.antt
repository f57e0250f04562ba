use Rattle.std.proofs.Common.{◌≡◌, ◌<◌, ◌+◌, ◌++◌, ◌∷◌, [], length, refl, ap, ◌∙◌, arith, length-append}
use Rattle.mage_solo.proofs.Drawing.{making_none, making_more}
use Rattle.mage_solo.proofs.evaluating.make_all.Goals as goal

pub loop-source-init : goal.loop-source-init
loop-source-init g c = record {
  making = making_none g.I.Source.tells c.args.parts.now c.args.labels.items c.args.sources.now.items c.args.drivers.now.items c.requires.labels c.requires.none;
  capacity = refl;
  room = (let none : length c.args.drivers.now.items ≡ 0 = ap length c.requires.none in let room = c.requires.room in omega (arith, none, room));
  count = (let none : length c.args.drivers.now.items ≡ 0 = ap length c.requires.none in omega (arith, none));
  labels = c.requires.labels;
  few = c.requires.few;
}

pub loop-source-preserved : goal.loop-source-preserved
loop-source-preserved g c =
    let i = c.loop-source.invariant in
    let sources : length c.loop-source.sources.items ≡ length (c.pop.new.self.items ++ c.in-Some.source ∷ []) = ap length c.in-Some.ensures.items in
    let fewer : length (c.pop.new.self.items ++ c.in-Some.source ∷ []) ≡ length c.pop.new.self.items + 1 = length-append c.pop.new.self.items (c.in-Some.source ∷ []) in
    let labels : length c.loop-source.labels.items ≡ length (c.pop-in-Some.new.self.items ++ c.in-Some-pop.own ∷ []) = ap length c.in-Some-pop.ensures.items in
    let less : length (c.pop-in-Some.new.self.items ++ c.in-Some-pop.own ∷ []) ≡ length c.pop-in-Some.new.self.items + 1 =
    length-append c.pop-in-Some.new.self.items (c.in-Some-pop.own ∷ []) in
    let drivers : length c.push_reserved-in-Ok.new.self.items ≡ length (c.loop-source.drivers.items ++ c.in-Ok.driver ∷ []) = ap length c.push_reserved-in-Ok.ensures.items in
    let more : length (c.loop-source.drivers.items ++ c.in-Ok.driver ∷ []) ≡ length c.loop-source.drivers.items + 1 =
    length-append c.loop-source.drivers.items (c.in-Ok.driver ∷ []) in
    let room = i.room in
    let count = i.count in
    let together = i.labels in
    let few = i.few in
    let parts = c.requires.parts in
    let same = c.push_reserved-in-Ok.ensures.capacity in
    let within : length c.pop.new.self.items < length c.args.parts.now = omega (arith, sources, fewer, count, parts) in
    record {
      making = making_more g.I.Source.tells c.args.parts.now c.args.labels.items c.args.sources.now.items c.loop-source.sources.items c.pop.new.self.items c.in-Some.source
          c.loop-source.labels.items c.pop-in-Some.new.self.items c.in-Some-pop.own c.loop-source.drivers.items c.push_reserved-in-Ok.new.self.items c.in-Ok.driver
          c.index-parts-worker.result c.len-worker.result i.making c.in-Some.ensures.items c.in-Some-pop.ensures.items (c.len-worker.ensures ∙ c.pop.new.self.ok.0) within
          c.index-parts-worker.is c.in-Ok.ensures.made c.push_reserved-in-Ok.ensures.items;
      capacity = c.pop.ensures.capacity ∙ i.capacity;
      room = omega (arith, sources, fewer, drivers, more, room, same);
      count = omega (arith, sources, fewer, drivers, more, count);
      labels = omega (arith, sources, fewer, labels, less, together);
      few = omega (arith, sources, fewer, few);
    }
