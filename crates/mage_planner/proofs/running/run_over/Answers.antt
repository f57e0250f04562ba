use Rattle.std.proofs.Common.{arith}
use Rattle.mage_lending.specs.Stores.{told_on}
use Rattle.mage_planner.proofs.RanLemmas.{ends, suits, lent_count, few_parts, same_shape, one_on_each, as_many_back, lent_now, lent_pair, back_before, sound_over, unbroken_so}
use Rattle.mage_planner.proofs.RunLemmas.{all_suffice}
use Rattle.mage_planner.proofs.running.run_over.Goals as goal

pub run_plain-outcome-requires-clause-stores : goal.run_plain-outcome-requires-clause-stores
run_plain-outcome-requires-clause-stores g c =
    let has = c.requires.lent in lent_count g.D.Pages.Store.tells 1 has.0 c.args.running.parts.items c.args.stores.items has.1.stores

pub run_plain-outcome-requires-clause-suits : goal.run_plain-outcome-requires-clause-suits
run_plain-outcome-requires-clause-suits g c =
    let has = c.requires.lent in suits g.D.Pages.Store.tells 1 has.0 c.args.running.parts.items c.args.stores.items has.1.stores

pub give_stores_back-requires-clause-few : goal.give_stores_back-requires-clause-few
give_stores_back-requires-clause-few g c =
    let has = c.requires.lent in
    let many = as_many_back g.D.Pages.Store.tells 1 has.0 _ c.args.running.parts.items c.args.stores.items c.run_plain-outcome.result.stores.items has.1 c.run_plain-outcome.ensures.shape in
    let few = few_parts c.args.running.parts.items c.requires.can.verified in
    omega (arith, many, few)

pub give_stores_back-requires-clause-one : goal.give_stores_back-requires-clause-one
give_stores_back-requires-clause-one g c κs within =
    let has = c.requires.lent in
    one_on_each g.D.Pages.Store.tells 1 has.0 _ c.args.running.parts.items c.args.stores.items c.run_plain-outcome.result.stores.items has.1 c.run_plain-outcome.ensures.shape

pub give_stores_back-requires-clause-lent : goal.give_stores_back-requires-clause-lent
give_stores_back-requires-clause-lent g c κs within =
    let has = c.requires.lent in
    lent_pair g.D.Pages.Store.tells 1 has.0 _ c.args.running.parts.items c.args.stores.items c.run_plain-outcome.result.stores.items has.1 c.run_plain-outcome.ensures.shape

pub returns-clause-ends : goal.returns-clause-ends
returns-clause-ends g c = λ done before is has.
    let tells = g.D.Pages.Store.tells in
    let now = lent_now tells 1 before _ c.args.running.parts.items c.args.stores.items c.run_plain-outcome.result.stores.items has c.run_plain-outcome.ensures.shape in
    let back = back_before tells 1 before _ c.args.running.parts.items c.args.stores.items c.run_plain-outcome.result.stores.items has c.run_plain-outcome.ensures.shape _ (c.give_stores_back.ensures before.lent now) in
    ends c.args.running done is before _ (told_on tells c.args.stores.items) (told_on tells c.run_plain-outcome.result.stores.items) has.stores
    (same_shape tells 1 before _ c.args.running.parts.items c.args.stores.items c.run_plain-outcome.result.stores.items has c.run_plain-outcome.ensures.shape)
    c.run_plain-outcome.ensures.grown back c.run_plain-outcome.result.outcome c.requires.can.verified c.run_plain-outcome.ensures.count c.run_plain-outcome.ensures.comes c.run_plain-outcome.ensures.said

pub returns-clause-sound : goal.returns-clause-sound
returns-clause-sound g c = λ before has unbroken.
    let tells = g.D.Pages.Store.tells in
    let now = lent_now tells 1 before _ c.args.running.parts.items c.args.stores.items c.run_plain-outcome.result.stores.items has c.run_plain-outcome.ensures.shape in
    sound_over tells 1 before _ c.args.running.parts.items c.args.stores.items c.run_plain-outcome.result.stores.items has c.run_plain-outcome.ensures.shape _
    c.run_plain-outcome.ensures.grown (c.give_stores_back.ensures before.lent now) c.run_plain-outcome.result.outcome c.run_plain-outcome.ensures.count c.run_plain-outcome.ensures.memory c.run_plain-outcome.ensures.comes unbroken

pub returns-clause-steady : goal.returns-clause-steady
returns-clause-steady g c = λ before has steady tells_pages.
    let tells = g.D.Pages.Store.tells in
    let now = lent_now tells 1 before _ c.args.running.parts.items c.args.stores.items c.run_plain-outcome.result.stores.items has c.run_plain-outcome.ensures.shape in
    let back = back_before tells 1 before _ c.args.running.parts.items c.args.stores.items c.run_plain-outcome.result.stores.items has c.run_plain-outcome.ensures.shape _ (c.give_stores_back.ensures before.lent now) in
    unbroken_so c.run_plain-outcome.result.outcome (c.run_plain-outcome.ensures.steady
    (all_suffice 1 before _ c.args.running.parts.items (told_on tells c.args.stores.items) (told_on tells c.run_plain-outcome.result.stores.items) has.stores
    (same_shape tells 1 before _ c.args.running.parts.items c.args.stores.items c.run_plain-outcome.result.stores.items has c.run_plain-outcome.ensures.shape)
    c.run_plain-outcome.ensures.grown back c.requires.can.verified steady tells_pages))
