use Rattle.std.proofs.Common.{◌≡◌, ◌+◌, ◌++◌, ◌∷◌, [], length, ap, ◌∙◌, arith, length-append}
use Rattle.mage_driver.specs.declared.standing.Standing.TheVariants as standing
use Rattle.mage_core.specs.Made.{IsNew, HasStoreOf}
use Rattle.mage_core.proofs.Holding.{more_so, still_so, suits_so, parts_so, all_more, all_front}
use Rattle.mage_core.proofs.making.make_all.Goals as goal

pub loop-part-preserved : goal.loop-part-preserved
loop-part-preserved g c =
    let at = c.len.ensures ∙ c.pop-in-Some.new.self.ok.0 in
    let drivers : length c.loop-part.drivers.items ≡ length (c.pop-in-Some.new.self.items ++ c.in-Some-pop.driver ∷ []) = ap length c.in-Some-pop.ensures.items in
    let fewer : length (c.pop-in-Some.new.self.items ++ c.in-Some-pop.driver ∷ []) ≡ length c.pop-in-Some.new.self.items + 1 =
    length-append c.pop-in-Some.new.self.items (c.in-Some-pop.driver ∷ []) in
    let parts : length c.loop-part.parts.items ≡ length (c.pop.new.self.items ++ c.in-Some.part ∷ []) = ap length c.in-Some.ensures.items in
    let less : length (c.pop.new.self.items ++ c.in-Some.part ∷ []) ≡ length c.pop.new.self.items + 1 = length-append c.pop.new.self.items (c.in-Some.part ∷ []) in
    let machines : length c.push_reserved.new.self.items ≡ length (c.loop-part.machines.items ++ c.in-Ok.machine ∷ []) = ap length c.push_reserved.ensures.items in
    let more : length (c.loop-part.machines.items ++ c.in-Ok.machine ∷ []) ≡ length c.loop-part.machines.items + 1 =
    length-append c.loop-part.machines.items (c.in-Ok.machine ∷ []) in
    let count = c.loop-part.invariant.count in
    let room = c.loop-part.invariant.room in
    let same = c.push_reserved.ensures.capacity in
    let both : length c.pop-in-Some.new.self.items ≡ length c.pop.new.self.items = omega (arith, drivers, fewer, parts, less, count) in
    record {
      hold = more_so c.loop-part.drivers.items c.pop-in-Some.new.self.items c.in-Some-pop.driver c.loop-part.stores.items c.len.result c.loop-part.machines.items
          c.push_reserved.new.self.items c.in-Ok.machine c.index_mut.result.now c.machine_for.new.shelf _ _ c.loop-part.invariant.hold c.in-Some-pop.ensures.items at
          c.index_mut.ensures.value c.in-Ok.ensures.driver c.in-Ok.ensures.store c.in-Ok.ensures.emptied c.push_reserved.ensures.items;
      parts = parts_so (λ machine. machine.part) c.loop-part.parts.items c.pop.new.self.items c.args.parts.items c.in-Some.part c.loop-part.machines.items
          c.push_reserved.new.self.items c.in-Ok.machine c.loop-part.invariant.parts c.in-Some.ensures.items c.in-Ok.ensures.part c.push_reserved.ensures.items;
      new = all_more (IsNew g.D.Driver.rules g.D.Driver.tells g.S.Store.tells) c.loop-part.machines.items c.push_reserved.new.self.items c.in-Ok.machine
          c.loop-part.invariant.new c.in-Ok.ensures.new c.push_reserved.ensures.items;
      count = both;
      capacity = c.pop-in-Some.ensures.capacity ∙ c.loop-part.invariant.capacity;
      room = omega (arith, parts, less, machines, more, room, same);
      running = all_front (λ driver. (g.D.Driver.tells driver).standing ≡ standing.Running) c.loop-part.drivers.items c.pop-in-Some.new.self.items _
          c.loop-part.invariant.running c.pop-in-Some.ensures.rest;
      suits = suits_so c.loop-part.parts.items c.pop.new.self.items c.in-Some.part c.loop-part.stores.items c.len.result c.machine_for.new.shelf
          (λ part shelf. HasStoreOf g.D.Driver.WIRE_BYTES g.S.Store.tells part shelf.items) c.in-Some.ensures.items (at ∙ both) c.loop-part.invariant.suits;
    }

pub returns-in-Err-clause-hold : goal.returns-in-Err-clause-hold
returns-in-Err-clause-hold g c =
    still_so c.loop-part.drivers.items c.pop-in-Some.new.self.items c.push_reserved-in-Err.new.self.items c.in-Some-pop.driver c.in-Err.driver c.loop-part.stores.items
    c.len.result c.loop-part.machines.items c.index_mut.result.now c.machine_for.new.shelf _ _ c.loop-part.invariant.hold c.in-Some-pop.ensures.items
    c.push_reserved-in-Err.ensures.items c.in-Err.ensures.back.0 (c.len.ensures ∙ c.pop-in-Some.new.self.ok.0) c.index_mut.ensures.value c.in-Err.ensures.back.1
