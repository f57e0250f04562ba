use Rattle.std.proofs.Common.{map, refl, ◌∙◌}
use Rattle.mage_core.specs.Turns.{sights}
use Rattle.mage_core.specs.Going.{start_of}
use Rattle.mage_core.proofs.Reaching.{goes_first, turned_on, turned_last}
use Rattle.mage_core.proofs.turns.run.Goals as goal

pub loop-fault-init : goal.loop-fault-init
loop-fault-init g c = record {
  go = goes_first g.D.Driver.rules g.D.Driver.tells g.S.Store.tells c.args.machines.now.items c.args.link.now c.requires.new c.requires.verified c.requires.links c.requires.unused;
  count = refl;
}

pub loop-fault-smaller : goal.loop-fault-smaller
loop-fault-smaller g c =
    (turned_on g.D.Driver.rules (map (start_of g.D.Driver.tells g.S.Store.tells) c.args.machines.now.items) (map (λ machine. machine.part) c.args.machines.now.items)
    c.requires.verified (sights g.D.Driver.tells g.S.Store.tells c.loop-fault.machines.items) (sights g.D.Driver.tells g.S.Store.tells c.turn.new.machines.items)
    c.loop-fault.link c.turn.new.link c.loop-fault.invariant.go (rw c.in-Ok-true.field-0-test at c.in-Ok-true.ensures.turns)).1

pub loop-fault-preserved : goal.loop-fault-preserved
loop-fault-preserved g c = record {
  go = (turned_on g.D.Driver.rules (map (start_of g.D.Driver.tells g.S.Store.tells) c.args.machines.now.items) (map (λ machine. machine.part) c.args.machines.now.items)
      c.requires.verified (sights g.D.Driver.tells g.S.Store.tells c.loop-fault.machines.items) (sights g.D.Driver.tells g.S.Store.tells c.turn.new.machines.items)
      c.loop-fault.link c.turn.new.link c.loop-fault.invariant.go (rw c.in-Ok-true.field-0-test at c.in-Ok-true.ensures.turns)).0;
  count = c.in-Ok-true.ensures.count ∙ c.loop-fault.invariant.count;
}

pub returns-in-Ok-false-clause-ends : goal.returns-in-Ok-false-clause-ends
returns-in-Ok-false-clause-ends g c =
    turned_last g.D.Driver.rules (map (start_of g.D.Driver.tells g.S.Store.tells) c.args.machines.now.items) (map (λ machine. machine.part) c.args.machines.now.items)
    c.requires.verified (sights g.D.Driver.tells g.S.Store.tells c.loop-fault.machines.items) (sights g.D.Driver.tells g.S.Store.tells c.turn.new.machines.items)
    c.loop-fault.link c.turn.new.link c.loop-fault.invariant.go (rw c.in-Ok-false.field-0-test at c.in-Ok-false.ensures.turns)
