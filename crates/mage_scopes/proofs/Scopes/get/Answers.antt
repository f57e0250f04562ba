use Rattle.std.proofs.Common.{List, length, get_or, ◌∙◌, sym, ap, arith}
use Rattle.mage_scopes.specs.Scopes.{scopes_of, meaning_of}
use Rattle.mage_scopes.proofs.Walks.{passed_more, passed_all, found_here}
use Rattle.mage_scopes.proofs.Scopes.get.Goals as goal

pub returns-in-Some : goal.returns-in-Some
unfolding scopes_of
returns-in-Some g c =
    let item = c.map-item.result in
    let items = c.deref-map-items.ensures.value in
    sym (found_here meaning_of c.args.self.now.maps.items c.loop-map.map-index item c.args.name.now c.in-Some.value.now (omega (arith, ap length items)) (c.map-item.is ∙ ap (λ (r : List _). get_or r c.loop-map.map-index item) items) c.loop-map.invariant (sym c.in-Some.ensures.value))

pub loop-map-preserved : goal.loop-map-preserved
loop-map-preserved g c =
    let item = c.map-item.result in
    let items = c.deref-map-items.ensures.value in
    passed_more meaning_of c.args.self.now.maps.items c.loop-map.map-index item c.args.name.now (omega (arith, ap length items)) (c.map-item.is ∙ ap (λ (r : List _). get_or r c.loop-map.map-index item) items) c.loop-map.invariant (sym c.in_default.ensures.value)

pub returns : goal.returns
unfolding scopes_of
returns g c =
    sym (passed_all meaning_of c.args.self.now.maps.items c.loop-map.map-index c.args.name.now (omega (arith, ap length c.deref-map-items.ensures.value)) c.loop-map.invariant)
