use Rattle.std.proofs.Common.{ap, ◌∙◌}
use Rattle.mage_place.specs.Placing.{places_of, trace_of}
use Rattle.mage_place.proofs.Determined.{one_list_of_places}
use Rattle.mage_place.proofs.PlacesComputed.{ArePlaces-computed}
use Rattle.mage_place.proofs.Stepped.{IsTrace-from_steps}
use Rattle.mage_place.proofs.placing.place.Goals as goal

pub returns-clause-trace : goal.returns-clause-trace
returns-clause-trace c = IsTrace-from_steps c.args.instrs.now _ c.in_ok-trace.trace.items c.requires.sound c.in_ok-trace.ensures.steps

pub returns-clause-placed : goal.returns-clause-placed
returns-clause-placed c =
    let instrs = c.args.instrs.now in
    one_list_of_places instrs c.args.page c.in_ok-places.places.items (places_of instrs c.args.page) c.in_ok-places.ensures.places (ArePlaces-computed instrs c.args.page)

pub returns-clause-traced : goal.returns-clause-traced
returns-clause-traced c =
    let instrs = c.args.instrs.now in
    c.in_ok-trace.ensures.traced ∙ ap (trace_of instrs) (c.deref.ensures.value ∙ returns-clause-placed c)
