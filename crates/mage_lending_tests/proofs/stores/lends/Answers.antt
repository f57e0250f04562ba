use Rattle.std.proofs.Common.{ℕ, ◌++◌, sym, ap, ◌∙◌}
use Rattle.mage_base.specs.Desk.{DeskTold}
use Rattle.mage_lending.specs.Stores.{own_stores}
use Rattle.mage_lending_tests.proofs.stores.lends.Goals as goal

pub give_stores_back-requires-clause-lent : goal.give_stores_back-requires-clause-lent
give_stores_back-requires-clause-lent g c κs within =
    let before = (g.D.Desk.tells c.args.desk.now).lent in (
      before,
      ap (λ (d : DeskTold). d.lent) c.in-Ok.ensures.rest ∙ ap (λ (n : ℕ). before ++ own_stores 0 n) (sym c.in-Ok.ensures.count),
    )
