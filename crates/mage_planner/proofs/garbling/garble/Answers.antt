use Rattle.std.proofs.Common.{ap, refl, ◌∙◌}
use Rattle.std.proofs.lemmas.Result.{err_from_is_err_and}
use Rattle.mage_planner.specs.Ran.{orders_of}
use Rattle.mage_planner.proofs.RanLemmas.{few_orders, has_lent, lent_so, nothing_done, pages_fit, unlent, unlent_is_sound}
use Rattle.mage_planner.proofs.HaltedLemmas.{halted}
use Rattle.mage_planner.proofs.GarbledLemmas.{garbled_count}
use Rattle.mage_planner.proofs.SteadyLemmas.{unlent_calm}
use Rattle.mage_planner.proofs.garbling.garble.Goals as goal

pub orders_of-requires-clause-pages : goal.orders_of-requires-clause-pages
orders_of-requires-clause-pages g c = rw c.deref.ensures.value (pages_fit c.args.garbling.parts.items c.requires.verified)

pub lend-requires-clause-few : goal.lend-requires-clause-few
lend-requires-clause-few g c κs within =
    few_orders 16 c.args.garbling.parts.items c.deref-2.result.now c.requires.verified (c.deref-2.ensures.value ∙ c.in_ok-orders.ensures.orders ∙ ap (orders_of 16) c.deref.ensures.value)

pub returns-in_err-orders-clause-performs : goal.returns-in_err-orders-clause-performs
returns-in_err-orders-clause-performs g c = λ done is.
    let p = err_from_is_err_and c.from_residual.result c.from_residual.ensures.1 in
    rw (p.1, p.2, c.in_err-orders.ensures.memory) (halted done _ _ _ (nothing_done done _))

pub returns-in_err-stores-clause-performs : goal.returns-in_err-stores-clause-performs
returns-in_err-stores-clause-performs g c = λ done is.
    let p = err_from_is_err_and c.from_residual-in_err-stores.result c.from_residual-in_err-stores.ensures.1 in
    rw (p.1, p.2) (halted done _ _ _ (unlent (Unit {0}) 16 c.args.garbling.parts.items done c.deref-2.result.now c.in_err-stores.field-0.0 _ _ (garbled_count c.args.garbling done is)
    (c.deref-2.ensures.value ∙ c.in_ok-orders.ensures.orders ∙ ap (orders_of 16) c.deref.ensures.value) c.in_err-stores.ensures.leaves))

pub returns-in_err-stores-clause-sound : goal.returns-in_err-stores-clause-sound
returns-in_err-stores-clause-sound g c =
    let p = err_from_is_err_and c.from_residual-in_err-stores.result c.from_residual-in_err-stores.ensures.1 in
    rw (p.1, p.2) (unlent_is_sound (Unit {0}) _ c.in_err-stores.field-0.0 (g.D.Desk.tells c.args.desk.now) (g.D.Desk.tells c.lend.new.desk) c.in_err-stores.ensures.leaves)

pub garble_over-requires-clause-lent : goal.garble_over-requires-clause-lent
garble_over-requires-clause-lent g c κs within =
    lent_so 16 _ _ c.args.garbling.parts.items _
    (has_lent 16 _ _ c.args.garbling.parts.items c.deref-2.result.now _ (c.deref-2.ensures.value ∙ c.in_ok-orders.ensures.orders ∙ ap (orders_of 16) c.deref.ensures.value) c.in_ok-stores.ensures.stores c.in_ok-stores.ensures.leaves)

pub returns-clause-performs : goal.returns-clause-performs
returns-clause-performs g c = λ done is.
    let has = has_lent 16 _ _ c.args.garbling.parts.items c.deref-2.result.now _ (c.deref-2.ensures.value ∙ c.in_ok-orders.ensures.orders ∙ ap (orders_of 16) c.deref.ensures.value) c.in_ok-stores.ensures.stores c.in_ok-stores.ensures.leaves in
    c.garble_over.ensures.performs done _ is has

pub returns-clause-sound : goal.returns-clause-sound
returns-clause-sound g c = λ none.
    let has = has_lent 16 _ _ c.args.garbling.parts.items c.deref-2.result.now _ (c.deref-2.ensures.value ∙ c.in_ok-orders.ensures.orders ∙ ap (orders_of 16) c.deref.ensures.value) c.in_ok-stores.ensures.stores c.in_ok-stores.ensures.leaves in
    c.garble_over.ensures.sound _ has none

pub returns-in_err-orders-clause-steady : goal.returns-in_err-orders-clause-steady
returns-in_err-orders-clause-steady g c = λ done is steady tells told.
    let p = err_from_is_err_and c.from_residual.result c.from_residual.ensures.1 in
    rw (p.1, p.2, c.in_err-orders.ensures.memory) (tt, refl)

pub returns-in_err-stores-clause-steady : goal.returns-in_err-stores-clause-steady
returns-in_err-stores-clause-steady g c = λ done is steady tells told.
    let p = err_from_is_err_and c.from_residual-in_err-stores.result c.from_residual-in_err-stores.ensures.1 in
    rw (p.1, p.2) (unlent_calm (Unit {0}) _ c.in_err-stores.field-0.0 _ _ c.in_err-stores.ensures.leaves (c.in_err-stores.ensures.steady steady))

pub returns-clause-steady : goal.returns-clause-steady
returns-clause-steady g c = λ done is.
    let has = has_lent 16 _ _ c.args.garbling.parts.items c.deref-2.result.now _ (c.deref-2.ensures.value ∙ c.in_ok-orders.ensures.orders ∙ ap (orders_of 16) c.deref.ensures.value) c.in_ok-stores.ensures.stores c.in_ok-stores.ensures.leaves in
    c.garble_over.ensures.steady done _ is has
