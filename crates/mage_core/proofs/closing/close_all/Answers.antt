use Rattle.std.proofs.Common.{◌≡◌, ◌+◌, ◌++◌, ◌∷◌, [], length, ap, ◌∙◌, arith, length-append}
use Rattle.std.proofs.lemmas.Grind.{common_steps}
use Rattle.mage_core.proofs.Holding.{less_so, next_shelf, has_room, holds_given}
use Rattle.mage_core.proofs.Porting.{came_so, left_more, left_none, left_all}
use Rattle.mage_core.proofs.closing.close_all.Goals as goal

pub loop-machine-init : goal.loop-machine-init
loop-machine-init g c = record {
  hold = holds_given c.args.drivers.now.items c.args.stores.now.items c.args.machines.now.items c.requires.count c.requires.emptied;
  room = c.requires.room;
  left = left_none g.S.Store.tells c.args.machines.now.items;
}

pub push_reserved-requires : goal.push_reserved-requires
push_reserved-requires g c =
    has_room c.index_mut.result.now
    (next_shelf c.loop-machine.drivers.items c.loop-machine.stores.items c.len.result c.loop-machine.machines.items c.pop.new.self.items c.in-Some.machine c.index_mut.result.now
    _ _ c.loop-machine.invariant.hold c.in-Some.ensures.items (c.len.ensures ∙ c.loop-machine.drivers.ok.0) c.index_mut.ensures.value)

pub loop-machine-preserved : goal.loop-machine-preserved
loop-machine-preserved g c =
    let at = c.len.ensures ∙ c.loop-machine.drivers.ok.0 in
    let shelf = next_shelf c.loop-machine.drivers.items c.loop-machine.stores.items c.len.result c.loop-machine.machines.items c.pop.new.self.items c.in-Some.machine
    c.index_mut.result.now _ _ c.loop-machine.invariant.hold c.in-Some.ensures.items at c.index_mut.ensures.value in
    let more : length (c.loop-machine.drivers.items ++ c.close-driver.result.0 ∷ []) ≡ length c.loop-machine.drivers.items + 1 =
    length-append c.loop-machine.drivers.items (c.close-driver.result.0 ∷ []) in
    let less : length (c.pop.new.self.items ++ c.in-Some.machine ∷ []) ≡ length c.pop.new.self.items + 1 = length-append c.pop.new.self.items (c.in-Some.machine ∷ []) in
    let drivers : length c.push_reserved-in-Some.new.self.items ≡ length (c.loop-machine.drivers.items ++ c.close-driver.result.0 ∷ []) =
    ap length c.push_reserved-in-Some.ensures.items in
    let machines : length c.loop-machine.machines.items ≡ length (c.pop.new.self.items ++ c.in-Some.machine ∷ []) = ap length c.in-Some.ensures.items in
    let room = c.loop-machine.invariant.room in
    let same = c.push_reserved-in-Some.ensures.capacity in
    record {
      hold = less_so c.loop-machine.drivers.items c.push_reserved-in-Some.new.self.items c.loop-machine.stores.items c.len.result c.loop-machine.machines.items
          c.pop.new.self.items c.in-Some.machine c.close-driver.result.0 c.close-in-Some.result c.index_mut.result.now c.push_reserved.new.self
          _ _ c.loop-machine.invariant.hold c.in-Some.ensures.items at c.push_reserved-in-Some.ensures.items c.close-driver.ensures.driver shelf.empty
          c.push_reserved.ensures.items
          (c.close-in-Some.ensures.store ∙ ap (λ p. p.store) c.close.ensures.port ∙ ap (λ p. p.port.store) c.close-driver.ensures.port);
      room = omega (arith, more, less, drivers, machines, room, same);
      left = left_more g.S.Store.tells c.loop-machine.machines.items c.pop.new.self.items c.args.machines.now.items c.in-Some.machine c.loop-machine.invariant.left
          c.in-Some.ensures.items
          (came_so g.S.Store.tells c.in-Some.machine c.close-driver.result.1 c.close.result c.close-driver.ensures.port c.close.ensures.port c.close.ensures.over
          c.close-in-Some.ensures.came);
    }

pub returns-clause-came : goal.returns-clause-came
returns-clause-came g c =
    left_all g.S.Store.tells c.loop-machine.machines.items c.args.machines.now.items c.loop-machine.invariant.left (grind (arith, common_steps))
