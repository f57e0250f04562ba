use Rattle.std.proofs.Common.{ap, arith, length, map, refl, ◌∙◌}
use Rattle.mage_base.specs.Desk.{DeskTold}
use Rattle.mage_lending.specs.declared.sources.WorkerSources.{WorkerSources}
use Rattle.mage_lending.specs.Names.{spelled}
use Rattle.mage_lending.specs.Stores.{told_on}
use Rattle.mage_planner.proofs.RanLemmas.{few_parts, one_on_each, lent_count}
use Rattle.mage_planner.proofs.EvaluatingLemmas.{finds_streams, has_streams, lent_unread, streams_so, unopened_calm, unopened_ends, unopened_sound}
use Rattle.mage_planner.proofs.evaluating.evaluate_lent.Goals as goal

pub workers_of-workers-requires : goal.workers_of-workers-requires
workers_of-workers-requires g c =
    let few = few_parts c.args.evaluating.parts.items c.requires.can.verified in
    let parts = ap (λ l. length l) c.deref.ensures.value in
    omega (arith, few, parts)

pub evaluate_over-requires-clause-opened : goal.evaluate_over-requires-clause-opened
evaluate_over-requires-clause-opened g c κs within =
    let has = c.requires.lent in
    streams_so has.0 _ c.args.evaluating _ _ _
    (has_streams has.0 _ _ c.args.evaluating (told_on g.D.Pages.Store.tells c.args.stores.items) (spelled c.in-Ok.streams.names.items)
    (map g.D.Input.Source.tells c.in-Ok.streams.sources.items) _ (c.workers_of-workers.ensures ∙ ap (λ l. length l) c.deref.ensures.value) has.1 c.in-Ok.ensures.names
    c.in-Ok.ensures.sources c.in-Ok.ensures.rest c.in-Ok.ensures.cause)

pub returns-in-Ok-clause-ran : goal.returns-in-Ok-clause-ran
returns-in-Ok-clause-ran g c = λ done before is has.
    c.said.ensures.ran done before _ (c.evaluate_over.ensures.ends done before is
    (has_streams before _ _ c.args.evaluating (told_on g.D.Pages.Store.tells c.args.stores.items) (spelled c.in-Ok.streams.names.items)
    (map g.D.Input.Source.tells c.in-Ok.streams.sources.items) _ (c.workers_of-workers.ensures ∙ ap (λ l. length l) c.deref.ensures.value) has c.in-Ok.ensures.names
    c.in-Ok.ensures.sources c.in-Ok.ensures.rest c.in-Ok.ensures.cause))

pub returns-in-Ok-clause-sound : goal.returns-in-Ok-clause-sound
returns-in-Ok-clause-sound g c = λ before has none.
    c.evaluate_over.ensures.sound before
    (has_streams before _ _ c.args.evaluating (told_on g.D.Pages.Store.tells c.args.stores.items) (spelled c.in-Ok.streams.names.items)
    (map g.D.Input.Source.tells c.in-Ok.streams.sources.items) _ (c.workers_of-workers.ensures ∙ ap (λ l. length l) c.deref.ensures.value) has c.in-Ok.ensures.names
    c.in-Ok.ensures.sources c.in-Ok.ensures.rest c.in-Ok.ensures.cause) (c.said.ensures.stopped none)

pub returns-in-Ok-clause-steady : goal.returns-in-Ok-clause-steady
returns-in-Ok-clause-steady g c = λ done before is has steady tells_pages files own right.
    let calm = c.evaluate_over.ensures.steady done before is
    (has_streams before _ _ c.args.evaluating (told_on g.D.Pages.Store.tells c.args.stores.items) (spelled c.in-Ok.streams.names.items)
    (map g.D.Input.Source.tells c.in-Ok.streams.sources.items) _ (c.workers_of-workers.ensures ∙ ap (λ l. length l) c.deref.ensures.value) has c.in-Ok.ensures.names
    c.in-Ok.ensures.sources c.in-Ok.ensures.rest c.in-Ok.ensures.cause) steady tells_pages files own right in
    (c.said.ensures.unstopped calm.0, calm.1)

pub give_stores_back-requires-clause-few : goal.give_stores_back-requires-clause-few
give_stores_back-requires-clause-few g c =
    let has = c.requires.lent in
    let many = lent_count g.D.Pages.Store.tells 16 has.0 c.args.evaluating.parts.items c.args.stores.items has.1.stores in
    let few = few_parts c.args.evaluating.parts.items c.requires.can.verified in
    omega (arith, many, few)

pub give_stores_back-requires-clause-one : goal.give_stores_back-requires-clause-one
give_stores_back-requires-clause-one g c κs within =
    let has = c.requires.lent in one_on_each g.D.Pages.Store.tells 16 has.0 _ c.args.evaluating.parts.items c.args.stores.items c.args.stores.items has.1 refl

pub give_stores_back-requires-clause-lent : goal.give_stores_back-requires-clause-lent
give_stores_back-requires-clause-lent g c κs within =
    let has = c.requires.lent in (
      has.0.lent,
      lent_unread has.0 _ _ c.args.evaluating _ has.1 c.in-Err.ensures.rest (length c.args.stores.items)
          (lent_count g.D.Pages.Store.tells 16 has.0 c.args.evaluating.parts.items c.args.stores.items has.1.stores),
    )

pub returns-in-Err-clause-ran : goal.returns-in-Err-clause-ran
returns-in-Err-clause-ran g c = λ done before is has.
    let tells = g.D.Pages.Store.tells in
    let back = c.give_stores_back.ensures before.lent (lent_unread before _ _ c.args.evaluating (told_on tells c.args.stores.items) has c.in-Err.ensures.rest (length c.args.stores.items)
    (lent_count tells 16 before c.args.evaluating.parts.items c.args.stores.items has.stores)) in
    rw c.unopened.ensures
    (unopened_ends c.args.evaluating before _ _ _ (told_on tells c.args.stores.items) has c.in-Err.ensures.rest back done is (WorkerSources g.row.D-Input.Denot)
    c.in-Err.error c.in-Err.ensures.short c.in-Err.ensures.cause)

pub returns-in-Err-clause-sound : goal.returns-in-Err-clause-sound
returns-in-Err-clause-sound g c = λ before has none.
    let tells = g.D.Pages.Store.tells in
    let back = c.give_stores_back.ensures before.lent (lent_unread before _ _ c.args.evaluating (told_on tells c.args.stores.items) has c.in-Err.ensures.rest (length c.args.stores.items)
    (lent_count tells 16 before c.args.evaluating.parts.items c.args.stores.items has.stores)) in
    unopened_sound c.args.evaluating before _ _ _ (told_on tells c.args.stores.items) has c.in-Err.ensures.rest back

pub returns-in-Err-clause-steady : goal.returns-in-Err-clause-steady
returns-in-Err-clause-steady g c = λ done before is has steady tells_pages files own right.
    let tells = g.D.Pages.Store.tells in
    let back = c.give_stores_back.ensures before.lent (lent_unread before _ _ c.args.evaluating (told_on tells c.args.stores.items) has c.in-Err.ensures.rest (length c.args.stores.items)
    (lent_count tells 16 before c.args.evaluating.parts.items c.args.stores.items has.stores)) in
    let none = finds_streams c.args.evaluating done is before (g.D.Desk.tells c.args.desk.now) _ _ (c.workers_of-workers.ensures ∙ ap (λ l. length l) c.deref.ensures.value)
    (ap (λ (desk : DeskTold). desk.files) has.rest) files own right
    (c.in-Err.ensures.steady (rw (ap (λ (desk : DeskTold). desk.steady) has.rest) steady)) in
    rw c.unopened.ensures
    (unopened_calm c.args.evaluating before _ _ _ (told_on tells c.args.stores.items) has c.in-Err.ensures.rest back (WorkerSources g.row.D-Input.Denot)
    c.in-Err.error none c.in-Err.ensures.short c.in-Err.ensures.cause)
