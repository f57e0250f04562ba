use Rattle.std.proofs.Common.{◌+◌, List, length, ap, ◌∙◌, subst, reverse}
use Rattle.mage_core.specs.Turns.{sights}
use Rattle.mage_core.specs.Going.{Start, EndsAs}
use Rattle.mage_core.proofs.Finishing.{started, held_total}
use Rattle.mage_core.proofs.serial.run_all.Goals as goal

pub returns-in-Ok-clause-ran : goal.returns-in-Ok-clause-ran
returns-in-Ok-clause-ran g c not = (
  c.in-Ok.ensures.all,
  subst (λ (starts : List (Start g.D.Driver.rules.State)). EndsAs g.D.Driver.rules starts
      (sights g.D.Driver.tells g.S.Store.tells (reverse c.run_from_last.new.machines.items)) c.run_from_last.new.link c.run_from_last.result)
      (started g.D.Driver.rules g.D.Driver.tells g.S.Store.tells c.make_all.new.machines.items c.args.parts.items c.make_all.new.drivers.items c.make_all.new.stores.items
      _ _ c.in-Ok.ensures.new c.in-Ok.ensures.parts c.in-Ok.ensures.all c.in-Ok.ensures.hold)
      c.run_from_last.ensures.ends,
)

pub returns-in-Ok-clause-total : goal.returns-in-Ok-clause-total
returns-in-Ok-clause-total g c =
    ap (λ n. length c.make_all.new.drivers.items + n) c.run_from_last.ensures.count
    ∙ held_total g.D.Driver.rules g.D.Driver.tells g.S.Store.tells c.make_all.new.drivers.items c.make_all.new.stores.items c.make_all.new.machines.items _ _ c.in-Ok.ensures.hold

pub returns-in-Err-clause-total : goal.returns-in-Err-clause-total
returns-in-Err-clause-total g c =
    held_total g.D.Driver.rules g.D.Driver.tells g.S.Store.tells c.make_all.new.drivers.items c.make_all.new.stores.items c.make_all.new.machines.items _ _ c.make_all.ensures.hold
