use Rattle.std.proofs.Common.{ap, arith, length, map, sym, ◌∙◌, List, String}
use Rattle.std.specs.Global.{Global}
use Rattle.std.proofs.lemmas.List.{length-map}
use Rattle.mage_base.specs.Desk.{DeskTold}
use Rattle.mage_lending.specs.Names.{spelled}
use Rattle.mage_lending.specs.Stores.{told_on}
use Rattle.mage_planner.proofs.RanLemmas.{suits, lent_count, few_parts, same_shape, one_on_each, as_many_back, lent_now, lent_pair}
use Rattle.mage_planner.proofs.StreamFaultLemmas.{sources_count}
use Rattle.mage_planner.proofs.EvaluatedLemmas.{evaluating_calm, evaluating_ends, evaluating_sound, stores_told}
use Rattle.mage_planner.proofs.EvaluatingLemmas.{names_long}
use Rattle.mage_planner.proofs.evaluating.evaluate_over.Goals as goal

pub run_evaluating-outcome-requires-clause-sources : goal.run_evaluating-outcome-requires-clause-sources
run_evaluating-outcome-requires-clause-sources g c =
    let has = c.requires.opened in
    sym (length-map c.args.streams.sources.items g.D.Input.Source.tells)
    ∙ sources_count has.0 c.args.evaluating.stream.now 0 (length c.args.evaluating.parts.items) (map g.D.Input.Source.tells c.args.streams.sources.items) has.1.handed

pub run_evaluating-outcome-requires-clause-stores : goal.run_evaluating-outcome-requires-clause-stores
run_evaluating-outcome-requires-clause-stores g c =
    let has = c.requires.opened in lent_count g.D.Pages.Store.tells 16 has.0 c.args.evaluating.parts.items c.args.stores.items has.1.lent.stores

pub run_evaluating-outcome-requires-clause-suits : goal.run_evaluating-outcome-requires-clause-suits
run_evaluating-outcome-requires-clause-suits g c =
    let has = c.requires.opened in suits g.D.Pages.Store.tells 16 has.0 c.args.evaluating.parts.items c.args.stores.items has.1.lent.stores

pub give_stores_back-requires-clause-few : goal.give_stores_back-requires-clause-few
give_stores_back-requires-clause-few g c =
    let has = c.requires.opened in
    let many = as_many_back g.D.Pages.Store.tells 16 has.0 _ c.args.evaluating.parts.items c.args.stores.items c.run_evaluating-outcome.result.stores.items has.1.lent c.run_evaluating-outcome.ensures.shape in
    let few = few_parts c.args.evaluating.parts.items c.requires.can.verified in
    omega (arith, many, few)

pub give_stores_back-requires-clause-one : goal.give_stores_back-requires-clause-one
give_stores_back-requires-clause-one g c κs within =
    let has = c.requires.opened in
    one_on_each g.D.Pages.Store.tells 16 has.0 _ c.args.evaluating.parts.items c.args.stores.items c.run_evaluating-outcome.result.stores.items has.1.lent c.run_evaluating-outcome.ensures.shape

pub give_stores_back-requires-clause-lent : goal.give_stores_back-requires-clause-lent
give_stores_back-requires-clause-lent g c κs within =
    let has = c.requires.opened in
    lent_pair g.D.Pages.Store.tells 16 has.0 _ c.args.evaluating.parts.items c.args.stores.items c.run_evaluating-outcome.result.stores.items has.1.lent c.run_evaluating-outcome.ensures.shape

pub close_sources-requires-after_bounds : goal.close_sources-requires-after_bounds
close_sources-requires-after_bounds g c κs within =
    let has = c.requires.opened in
    let named = names_long c.args.evaluating has.0 _ _ _ _ has.1 in
    let told = length-map c.args.streams.names.items _ in
    let value = ap (λ (names : List (String Global)). length names) c.as_slice.ensures.value in
    let given = length-map c.args.streams.sources.items g.D.Input.Source.tells in
    value ∙ sym told ∙ named ∙ given ∙ sym c.run_evaluating-outcome.ensures.sources

pub returns-clause-ends : goal.returns-clause-ends
returns-clause-ends g c = λ done before is has.
    let tells = g.D.Pages.Store.tells in
    let sources = g.D.Input.Source.tells in
    let run = c.run_evaluating-outcome.result in
    let now = lent_now tells 16 before _ c.args.evaluating.parts.items c.args.stores.items run.stores.items has.lent c.run_evaluating-outcome.ensures.shape in
    evaluating_ends c.args.evaluating done is c.requires.can before (g.D.Desk.tells c.args.desk.now) (g.D.Desk.tells c.give_stores_back.new.desk)
    (g.D.Desk.tells c.close_sources.new.desk) (told_on tells c.args.stores.items) (told_on tells run.stores.items)
    (spelled c.args.streams.names.items) (map sources c.args.streams.sources.items) (map sources run.sources.items) has
    (same_shape tells 16 before _ c.args.evaluating.parts.items c.args.stores.items run.stores.items has.lent c.run_evaluating-outcome.ensures.shape)
    c.run_evaluating-outcome.ensures.grown (c.give_stores_back.ensures before.lent now)
    (length-map run.sources.items sources ∙ c.run_evaluating-outcome.ensures.sources ∙ sym (length-map c.args.streams.sources.items sources))
    c.close_sources.ensures.counted c.close_sources.ensures.rises c.close_sources.ensures.quiet
    run.outcome c.run_evaluating-outcome.ensures.unfailed c.run_evaluating-outcome.ensures.count c.run_evaluating-outcome.ensures.comes
    c.run_evaluating-outcome.ensures.said c.run_evaluating-outcome.ensures.wrong

pub returns-clause-sound : goal.returns-clause-sound
returns-clause-sound g c = λ before has unstopped.
    let tells = g.D.Pages.Store.tells in
    let sources = g.D.Input.Source.tells in
    let run = c.run_evaluating-outcome.result in
    let now = lent_now tells 16 before _ c.args.evaluating.parts.items c.args.stores.items run.stores.items has.lent c.run_evaluating-outcome.ensures.shape in
    evaluating_sound c.args.evaluating before (g.D.Desk.tells c.args.desk.now) (g.D.Desk.tells c.give_stores_back.new.desk)
    (told_on tells c.args.stores.items) (told_on tells run.stores.items) (spelled c.args.streams.names.items) (map sources c.args.streams.sources.items) has
    (same_shape tells 16 before _ c.args.evaluating.parts.items c.args.stores.items run.stores.items has.lent c.run_evaluating-outcome.ensures.shape)
    c.run_evaluating-outcome.ensures.grown (c.give_stores_back.ensures before.lent now) (g.D.Desk.tells c.close_sources.new.desk) run.outcome
    (ap (λ (desk : DeskTold). desk.returned) c.close_sources.ensures.counted) c.run_evaluating-outcome.ensures.count
    (stores_told _ tells c.args.stores.items run.stores.items run.outcome c.run_evaluating-outcome.ensures.memory) unstopped

pub returns-clause-steady : goal.returns-clause-steady
returns-clause-steady g c = λ done before is has steady tells_pages files own right.
    let tells = g.D.Pages.Store.tells in
    let sources = g.D.Input.Source.tells in
    let run = c.run_evaluating-outcome.result in
    let now = lent_now tells 16 before _ c.args.evaluating.parts.items c.args.stores.items run.stores.items has.lent c.run_evaluating-outcome.ensures.shape in
    evaluating_calm c.args.evaluating done is c.requires.can before (g.D.Desk.tells c.args.desk.now) (g.D.Desk.tells c.give_stores_back.new.desk)
    (g.D.Desk.tells c.close_sources.new.desk) (told_on tells c.args.stores.items) (told_on tells run.stores.items)
    (spelled c.args.streams.names.items) (map sources c.args.streams.sources.items) (map sources run.sources.items) has
    (same_shape tells 16 before _ c.args.evaluating.parts.items c.args.stores.items run.stores.items has.lent c.run_evaluating-outcome.ensures.shape)
    c.run_evaluating-outcome.ensures.grown (c.give_stores_back.ensures before.lent now)
    (length-map run.sources.items sources ∙ c.run_evaluating-outcome.ensures.sources ∙ sym (length-map c.args.streams.sources.items sources))
    c.close_sources.ensures.counted c.close_sources.ensures.rises c.close_sources.ensures.quiet
    _ run.outcome c.run_evaluating-outcome.ensures.unfailed c.run_evaluating-outcome.ensures.memory c.run_evaluating-outcome.ensures.runs steady tells_pages own right
