use Rattle.std.proofs.Common.{length, take, ap, refl}
use Rattle.mage_base.specs.Desk.{DeskTold}
use Rattle.mage_lending.proofs.Giving.{begun_none, all_one, none_lent_so}
use Rattle.mage_lending.proofs.stores.lend_stores.Goals as goal

pub returns-in_default-clause-rest : goal.returns-in_default-clause-rest
returns-in_default-clause-rest g c = begun_none (g.D.Desk.tells c.args.desk.now) (g.D.Desk.tells c.args.desk.now) (length c.args.orders.now) refl

pub give_stores_back-requires-clause-one : goal.give_stores_back-requires-clause-one
give_stores_back-requires-clause-one g c κs within =
    all_one g.D.Pages.Store.tells (g.D.Desk.tells c.args.desk.now) (take (length c.lend_shelves.new.stores.items) c.args.orders.now) c.lend_shelves.new.stores.items
    c.lend_shelves.ensures.lent

pub returns-in-Err-clause-rest : goal.returns-in-Err-clause-rest
returns-in-Err-clause-rest g c =
    let before = g.D.Desk.tells c.args.desk.now in
    let lent = ap (λ (d : DeskTold). d.lent) c.lend_shelves.ensures.rest in
    none_lent_so g.D.Pages.Store.tells before (g.D.Desk.tells c.lend_shelves.new.desk) (g.D.Desk.tells c.give_stores_back.new.desk) (take (length c.lend_shelves.new.stores.items) c.args.orders.now) c.lend_shelves.new.stores.items
    (length c.args.orders.now) c.lend_shelves.ensures.some c.lend_shelves.ensures.lent c.lend_shelves.ensures.rest (c.give_stores_back.ensures before.lent lent)

pub returns-in-Ok-lend_shelves-clause-one : goal.returns-in-Ok-lend_shelves-clause-one
returns-in-Ok-lend_shelves-clause-one g c =
    all_one g.D.Pages.Store.tells (g.D.Desk.tells c.args.desk.now) (take (length c.lend_shelves.new.stores.items) c.args.orders.now) c.lend_shelves.new.stores.items
    c.lend_shelves.ensures.lent
