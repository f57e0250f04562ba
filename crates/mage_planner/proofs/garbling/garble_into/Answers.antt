use Rattle.std.proofs.Common.{ap, arith, length, map, subst, sym, ◌∙◌, List, Option, String}
use Rattle.std.specs.Global.{Global}
use Rattle.std.proofs.lemmas.List.{length-map}
use Rattle.mage_base.specs.Desk.{DeskTold, Files}
use Rattle.mage_lending.specs.Names.{spelled}
use Rattle.mage_lending.specs.Sinks.{HaveFiles}
use Rattle.mage_lending.specs.Stores.{told_on}
use Rattle.mage_planner.proofs.RanLemmas.{suits, lent_count, few_parts, same_shape, one_on_each, as_many_back}
use Rattle.mage_planner.proofs.StreamLemmas.{none_have_failed, opened_count}
use Rattle.mage_planner.proofs.GarbledLemmas.{garbling_ends, garbling_sound, source}
use Rattle.mage_planner.proofs.GarblingLemmas.{lent_still, lent_then, names_long}
use Rattle.mage_planner.proofs.SteadyLemmas.{none_failed, ok_so, only_memory, still_counted, still_steady, stores_suffice, streams_fit, told_taken}
use Rattle.mage_planner.proofs.garbling.garble_into.Goals as goal

pub run_garbling-fault-requires-clause-sinks : goal.run_garbling-fault-requires-clause-sinks
run_garbling-fault-requires-clause-sinks g c =
    let has = c.requires.opened in
    let count = opened_count has.0 c.args.garbling.rooms.items (map g.D.Output.Sink.tells c.args.streams.sinks.items) has.1.handed in
    sym (length-map c.args.streams.sinks.items g.D.Output.Sink.tells) ∙ count ∙ c.requires.can.rooms

pub run_garbling-fault-requires-clause-stores : goal.run_garbling-fault-requires-clause-stores
run_garbling-fault-requires-clause-stores g c =
    let has = c.requires.opened in lent_count g.D.Pages.Store.tells 16 has.0 c.args.garbling.parts.items c.args.stores.items has.1.stores

pub run_garbling-fault-requires-clause-suits : goal.run_garbling-fault-requires-clause-suits
run_garbling-fault-requires-clause-suits g c =
    let has = c.requires.opened in suits g.D.Pages.Store.tells 16 has.0 c.args.garbling.parts.items c.args.stores.items has.1.stores

pub give_stores_back-requires-clause-few : goal.give_stores_back-requires-clause-few
give_stores_back-requires-clause-few g c =
    let has = c.requires.opened in
    let lent = lent_then has.0 _ c.args.garbling _ _ _ has.1 in
    let many = as_many_back g.D.Pages.Store.tells 16 has.0 _ c.args.garbling.parts.items c.args.stores.items c.run_garbling-fault.result.stores.items lent c.run_garbling-fault.ensures.shape in
    let few = few_parts c.args.garbling.parts.items c.requires.can.verified in
    omega (arith, many, few)

pub give_stores_back-requires-clause-one : goal.give_stores_back-requires-clause-one
give_stores_back-requires-clause-one g c κs within =
    let has = c.requires.opened in
    one_on_each g.D.Pages.Store.tells 16 has.0 _ c.args.garbling.parts.items c.args.stores.items c.run_garbling-fault.result.stores.items (lent_then has.0 _ c.args.garbling _ _ _ has.1) c.run_garbling-fault.ensures.shape

pub give_stores_back-requires-clause-lent : goal.give_stores_back-requires-clause-lent
give_stores_back-requires-clause-lent g c κs within =
    let has = c.requires.opened in (
      has.0.lent,
      lent_still has.0 _ c.args.garbling _ _ _ has.1 (length c.run_garbling-fault.result.stores.items)
          (as_many_back g.D.Pages.Store.tells 16 has.0 _ c.args.garbling.parts.items c.args.stores.items c.run_garbling-fault.result.stores.items (lent_then has.0 _ c.args.garbling _ _ _ has.1) c.run_garbling-fault.ensures.shape),
    )

pub returns-clause-performs : goal.returns-clause-performs
returns-clause-performs g c = λ done before is has.
    let tells = g.D.Pages.Store.tells in
    let sinks = g.D.Output.Sink.tells in
    let run = c.run_garbling-fault.result in
    let lent = lent_then before _ c.args.garbling _ _ _ has in
    let many = as_many_back tells 16 before _ c.args.garbling.parts.items c.args.stores.items run.stores.items lent c.run_garbling-fault.ensures.shape in
    let now = lent_still before _ c.args.garbling _ _ _ has (length run.stores.items) many in
    let count = length-map run.sinks.items sinks ∙ c.run_garbling-fault.ensures.sinks ∙ sym (length-map c.args.streams.sinks.items sinks) in
    rw c.ended.ensures
    (garbling_ends c.args.garbling done is c.requires.can before (g.D.Desk.tells c.args.desk.now) (g.D.Desk.tells c.give_stores_back.new.desk)
    (g.D.Desk.tells c.close_sinks-closed.new.desk) (told_on tells c.args.stores.items) (told_on tells run.stores.items)
    (spelled c.args.streams.names.items) (map sinks c.args.streams.sinks.items) (map sinks run.sinks.items) has
    (same_shape tells 16 before _ c.args.garbling.parts.items c.args.stores.items run.stores.items lent c.run_garbling-fault.ensures.shape)
    c.run_garbling-fault.ensures.grown (c.give_stores_back.ensures before.lent now) count c.close_sinks-closed.ensures.rises
    run.fault c.close_sinks-closed.result (rw c.as_slice.ensures.value at c.close_sinks-closed.ensures.closed)
    (λ none. c.close_sinks-closed.ensures.quiet
    (none_have_failed sinks before c.args.garbling.rooms.items (map sinks c.args.streams.sinks.items) run.sinks.items has.handed
    (c.run_garbling-fault.ensures.sinks ∙ sym (length-map c.args.streams.sinks.items sinks)) (c.run_garbling-fault.ensures.quiet none)))
    c.run_garbling-fault.ensures.count c.run_garbling-fault.ensures.comes
    (λ none plan number emitted fine parts carries runs told. c.run_garbling-fault.ensures.streams plan number emitted fine parts carries runs told none)
    (λ other plan number emitted fine parts carries runs told. c.run_garbling-fault.ensures.fronts plan number emitted fine parts carries runs told other)
    (λ memory. (c.run_garbling-fault.ensures.memory memory).1))

pub returns-clause-steady : goal.returns-clause-steady
returns-clause-steady g c = λ done before is has steady tells_pages told.
    let tells = g.D.Pages.Store.tells in
    let sinks = g.D.Output.Sink.tells in
    let run = c.run_garbling-fault.result in
    let lent = lent_then before _ c.args.garbling _ _ _ has in
    let many = as_many_back tells 16 before _ c.args.garbling.parts.items c.args.stores.items run.stores.items lent c.run_garbling-fault.ensures.shape in
    let now = lent_still before _ c.args.garbling _ _ _ has (length run.stores.items) many in
    let back = c.give_stores_back.ensures before.lent now in
    let shape = same_shape tells 16 before _ c.args.garbling.parts.items c.args.stores.items run.stores.items lent c.run_garbling-fault.ensures.shape in
    let own = source c.args.garbling done is in
    let suffice = stores_suffice c.args.garbling c.requires.can before _ _ _ _ _ _ has shape c.run_garbling-fault.ensures.grown back steady tells_pages in
    let calm = still_steady c.args.garbling c.requires.can before _ _ _ _ _ _ has shape c.run_garbling-fault.ensures.grown back in
    let counted = still_counted c.args.garbling c.requires.can before _ _ _ _ _ _ has shape c.run_garbling-fault.ensures.grown back in
    let memory = c.run_garbling-fault.ensures.roomy is.plan own.count own.emitted own.accepted.fields is.parts own.carries own.runs
    (told_taken before c.args.garbling.rooms.items (map sinks c.args.streams.sinks.items) told has.handed) suffice
    (streams_fit c.args.garbling done is before (map sinks c.args.streams.sinks.items) has.handed steady) in
    let closed = c.close_sinks-closed.ensures.steady (rw calm steady) in
    let quiet = c.close_sinks-closed.ensures.quiet
    (none_have_failed sinks before c.args.garbling.rooms.items (map sinks c.args.streams.sinks.items) run.sinks.items has.handed
    (c.run_garbling-fault.ensures.sinks ∙ sym (length-map c.args.streams.sinks.items sinks))
    (none_failed (map sinks c.args.streams.sinks.items) (map sinks run.sinks.items) run.fault memory c.run_garbling-fault.ensures.quiet
    (λ memory. (c.run_garbling-fault.ensures.memory memory).1))) in
    rw c.ended.ensures (only_memory run.fault c.close_sinks-closed.result closed memory, ok_so _ c.close_sinks-closed.result closed quiet ∙ counted)

pub returns-clause-sound : goal.returns-clause-sound
returns-clause-sound g c = λ before has unbroken.
    let tells = g.D.Pages.Store.tells in
    let sinks = g.D.Output.Sink.tells in
    let run = c.run_garbling-fault.result in
    let lent = lent_then before _ c.args.garbling _ _ _ has in
    let many = as_many_back tells 16 before _ c.args.garbling.parts.items c.args.stores.items run.stores.items lent c.run_garbling-fault.ensures.shape in
    let now = lent_still before _ c.args.garbling _ _ _ has (length run.stores.items) many in
    garbling_sound c.args.garbling before (g.D.Desk.tells c.args.desk.now) (g.D.Desk.tells c.give_stores_back.new.desk) (told_on tells c.args.stores.items) (told_on tells run.stores.items)
    (spelled c.args.streams.names.items) (map sinks c.args.streams.sinks.items) has (c.give_stores_back.ensures before.lent now)
    (g.D.Desk.tells c.close_sinks-closed.new.desk) (map sinks run.sinks.items)
    (same_shape tells 16 before _ c.args.garbling.parts.items c.args.stores.items run.stores.items lent c.run_garbling-fault.ensures.shape)
    c.run_garbling-fault.ensures.grown run.fault c.close_sinks-closed.result (rw c.as_slice.ensures.value at c.close_sinks-closed.ensures.closed) c.run_garbling-fault.ensures.count
    (λ memory. ap (λ (all : List (List g.row.D-Pages.Denot)). map (λ shelf. map tells shelf) all) (c.run_garbling-fault.ensures.memory memory).0)
    (rw c.ended.ensures at unbroken)

pub close_sinks-closed-requires-clause-count : goal.close_sinks-closed-requires-clause-count
close_sinks-closed-requires-clause-count g c κs within =
    let has = c.requires.opened in
    let named = names_long has.0 _ c.args.garbling _ _ _ has.1 in
    let told = length-map c.args.streams.names.items _ in
    let value = ap (λ (names : List (String Global)). length names) c.as_slice.ensures.value in
    let given = length-map c.args.streams.sinks.items g.D.Output.Sink.tells in
    value ∙ sym told ∙ named ∙ given ∙ sym c.run_garbling-fault.ensures.sinks

pub close_sinks-closed-requires-clause-there : goal.close_sinks-closed-requires-clause-there
close_sinks-closed-requires-clause-there g c κs within =
    let has = c.requires.opened in
    let run = c.run_garbling-fault.result in
    let lent = lent_then has.0 _ c.args.garbling _ _ _ has.1 in
    let many = as_many_back g.D.Pages.Store.tells 16 has.0 _ c.args.garbling.parts.items c.args.stores.items run.stores.items lent c.run_garbling-fault.ensures.shape in
    let back = c.give_stores_back.ensures has.0.lent (lent_still has.0 _ c.args.garbling _ _ _ has.1 (length run.stores.items) many) in
    rw c.as_slice.ensures.value
    (subst (λ (f : Option Files). HaveFiles f (spelled c.args.streams.names.items)) (sym (ap (λ (desk : DeskTold). desk.files) back.rest)) has.1.there)
