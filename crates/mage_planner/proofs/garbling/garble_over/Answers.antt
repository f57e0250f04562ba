use Rattle.std.proofs.Common.{ap, arith, length, map, refl, ◌∙◌, ℕ, List}
use Rattle.mage_base.specs.Desk.{DeskTold}
use Rattle.mage_lending.specs.declared.sinks.WorkerSinks.{WorkerSinks}
use Rattle.mage_lending.specs.Names.{spelled}
use Rattle.mage_lending.specs.Stores.{told_on}
use Rattle.mage_planner.proofs.RanLemmas.{few_parts, one_on_each, lent_count}
use Rattle.mage_planner.proofs.SteadyLemmas.{unopened_calm}
use Rattle.mage_planner.proofs.GarblingLemmas.{faults_back, has_opened, lent_unopened, opened_so, unopened_ends, unopened_sound}
use Rattle.mage_planner.proofs.garbling.garble_over.Goals as goal

pub garble_into-requires-clause-opened : goal.garble_into-requires-clause-opened
garble_into-requires-clause-opened g c κs within =
    let has = c.requires.lent in
    opened_so has.0 _ c.args.garbling _ _ _
    (has_opened has.0 _ _ c.args.garbling (told_on g.D.Pages.Store.tells c.args.stores.items) (spelled c.in-Ok.streams.names.items)
    (map g.D.Output.Sink.tells c.in-Ok.streams.sinks.items) _ c.deref.ensures.value has.1 c.in-Ok.ensures.names c.in-Ok.ensures.sinks
    c.in-Ok.ensures.there c.in-Ok.ensures.rest)

pub returns-in-Ok-clause-performs : goal.returns-in-Ok-clause-performs
returns-in-Ok-clause-performs g c = λ done before is has.
    c.garble_into.ensures.performs done before is
    (has_opened before _ _ c.args.garbling (told_on g.D.Pages.Store.tells c.args.stores.items) (spelled c.in-Ok.streams.names.items)
    (map g.D.Output.Sink.tells c.in-Ok.streams.sinks.items) _ c.deref.ensures.value has c.in-Ok.ensures.names c.in-Ok.ensures.sinks
    c.in-Ok.ensures.there c.in-Ok.ensures.rest)

pub returns-in-Ok-clause-sound : goal.returns-in-Ok-clause-sound
returns-in-Ok-clause-sound g c = λ before has none.
    c.garble_into.ensures.sound before
    (has_opened before _ _ c.args.garbling (told_on g.D.Pages.Store.tells c.args.stores.items) (spelled c.in-Ok.streams.names.items)
    (map g.D.Output.Sink.tells c.in-Ok.streams.sinks.items) _ c.deref.ensures.value has c.in-Ok.ensures.names c.in-Ok.ensures.sinks
    c.in-Ok.ensures.there c.in-Ok.ensures.rest) none

pub returns-in-Ok-clause-steady : goal.returns-in-Ok-clause-steady
returns-in-Ok-clause-steady g c = λ done before is has.
    c.garble_into.ensures.steady done before is
    (has_opened before _ _ c.args.garbling (told_on g.D.Pages.Store.tells c.args.stores.items) (spelled c.in-Ok.streams.names.items)
    (map g.D.Output.Sink.tells c.in-Ok.streams.sinks.items) _ c.deref.ensures.value has c.in-Ok.ensures.names c.in-Ok.ensures.sinks
    c.in-Ok.ensures.there c.in-Ok.ensures.rest)

pub open_sinks-requires-after_bounds : goal.open_sinks-requires-after_bounds
open_sinks-requires-after_bounds g c κs within =
    let few = few_parts c.args.garbling.parts.items c.requires.can.verified in
    let rooms = ap (λ (l : List ℕ). length l) c.deref.ensures.value in
    let many = c.requires.can.rooms in
    omega (arith, few, rooms, many)

pub give_stores_back-requires-clause-few : goal.give_stores_back-requires-clause-few
give_stores_back-requires-clause-few g c =
    let has = c.requires.lent in
    let many = lent_count g.D.Pages.Store.tells 16 has.0 c.args.garbling.parts.items c.args.stores.items has.1.stores in
    let few = few_parts c.args.garbling.parts.items c.requires.can.verified in
    omega (arith, many, few)

pub give_stores_back-requires-clause-one : goal.give_stores_back-requires-clause-one
give_stores_back-requires-clause-one g c κs within =
    let has = c.requires.lent in one_on_each g.D.Pages.Store.tells 16 has.0 _ c.args.garbling.parts.items c.args.stores.items c.args.stores.items has.1 refl

pub give_stores_back-requires-clause-lent : goal.give_stores_back-requires-clause-lent
give_stores_back-requires-clause-lent g c κs within =
    let has = c.requires.lent in (
      has.0.lent,
      lent_unopened has.0 _ _ c.args.garbling _ has.1 _ c.in-Err.ensures.rest.2 (length c.args.stores.items)
          (lent_count g.D.Pages.Store.tells 16 has.0 c.args.garbling.parts.items c.args.stores.items has.1.stores),
    )

pub returns-in-Err-clause-performs : goal.returns-in-Err-clause-performs
returns-in-Err-clause-performs g c = λ done before is has.
    let tells = g.D.Pages.Store.tells in
    let rest = c.in-Err.ensures.rest in
    let within = rest.1 in
    let rooms = ap (λ (l : List ℕ). length l) c.deref.ensures.value in
    let back = c.give_stores_back.ensures before.lent (lent_unopened before _ _ c.args.garbling (told_on tells c.args.stores.items) has _ rest.2 (length c.args.stores.items)
    (lent_count tells 16 before c.args.garbling.parts.items c.args.stores.items has.stores)) in
    rw c.unopened.ensures
    (unopened_ends c.args.garbling before _ _ _ (told_on tells c.args.stores.items) has rest.0 (omega (arith, within, rooms)) rest.2 back done is (WorkerSinks g.row.D-Output.Denot) c.requires.can
    c.in-Err.error c.in-Err.ensures.cause)

pub returns-in-Err-clause-sound : goal.returns-in-Err-clause-sound
returns-in-Err-clause-sound g c = λ before has none.
    let tells = g.D.Pages.Store.tells in
    let rest = c.in-Err.ensures.rest in
    let within = rest.1 in
    let rooms = ap (λ (l : List ℕ). length l) c.deref.ensures.value in
    let back = c.give_stores_back.ensures before.lent (lent_unopened before _ _ c.args.garbling (told_on tells c.args.stores.items) has _ rest.2 (length c.args.stores.items)
    (lent_count tells 16 before c.args.garbling.parts.items c.args.stores.items has.stores)) in
    unopened_sound c.args.garbling before _ _ _ (told_on tells c.args.stores.items) has rest.0 (omega (arith, within, rooms)) rest.2 back

pub returns-in-Err-clause-steady : goal.returns-in-Err-clause-steady
returns-in-Err-clause-steady g c = λ done before is has steady tells_pages told.
    let tells = g.D.Pages.Store.tells in
    let rest = c.in-Err.ensures.rest in
    let within = rest.1 in
    let rooms = ap (λ (l : List ℕ). length l) c.deref.ensures.value in
    let back = c.give_stores_back.ensures before.lent (lent_unopened before _ _ c.args.garbling (told_on tells c.args.stores.items) has _ rest.2 (length c.args.stores.items)
    (lent_count tells 16 before c.args.garbling.parts.items c.args.stores.items has.stores)) in
    let calm = c.in-Err.ensures.steady (rw (ap (λ (desk : DeskTold). desk.steady) has.rest) steady) in (
      rw c.unopened.ensures (unopened_calm (WorkerSinks g.row.D-Output.Denot) c.in-Err.error _ _ calm.0 c.in-Err.ensures.cause),
      faults_back c.args.garbling before _ _ _ (told_on tells c.args.stores.items) has rest.0 (omega (arith, within, rooms)) rest.2 back
          ∙ calm.1 ∙ ap (λ (desk : DeskTold). desk.faults) has.rest,
    )
