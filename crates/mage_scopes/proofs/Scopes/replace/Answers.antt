use Rattle.std.proofs.Common.{◌≡◌, ◌+◌, List, length, map, take, get_or, Some, is_some, ap, sym, ◌∙◌, arith}
use Rattle.std.proofs.Math.ListN.{set}
use Rattle.std.proofs.lemmas.List.{set-get_or}
use Rattle.mage_scopes.specs.Scopes.{scopes_of, meaning_of, found, declared, replaced}
use Rattle.mage_scopes.proofs.Laws.{replaced-absent}
use Rattle.mage_scopes.proofs.Maps.{declared_from_updates, written, written_none}
use Rattle.mage_scopes.proofs.Walks.{passed_more, passed_all, found_here, replaced_here}
use Rattle.mage_scopes.proofs.Scopes.replace.Goals as goal

pub returns-in-Some-clause-was : goal.returns-in-Some-clause-was
unfolding scopes_of
returns-in-Some-clause-was g c =
    let items = c.loop-map.map-items in
    let index = c.loop-map.map-index in
    let item = get_or items index c.map-item.result in
    ap Some c.replace.ensures.value
    ∙ sym (found_here meaning_of items index item c.args.name.now c.in-Some.held.now (omega arith) (ap (get_or items index) c.map-item.is) c.loop-map.invariant.passed (sym c.in-Some.ensures.value))
    ∙ ap (λ (r : List _). found (map meaning_of r) c.args.name.now) c.loop-map.invariant.same

pub returns-in-Some-clause-now : goal.returns-in-Some-clause-now
unfolding scopes_of
returns-in-Some-clause-now g c =
    let items = c.loop-map.map-items in
    let index = c.loop-map.map-index in
    let item = get_or items index c.map-item.result in
    let maps = c.args.self.now.maps in
    let name = c.args.name.now in
    let after = c.get_mut.follows.lender c.replace.new.dest in
    let some = sym (ap is_some c.in-Some.ensures.value) in
    let now : meaning_of after ≡ declared (meaning_of item) name c.args.value =
    declared_from_updates name item after c.replace.new.dest ((c.get_mut.follows.holds c.replace.new.dest).3 some)
    ∙ ap (declared (meaning_of item) name) c.replace.ensures.after in
    ap (map meaning_of) (written maps.items items maps.len index after (ap length c.loop-map.invariant.same ∙ sym maps.ok.0))
    ∙ replaced_here meaning_of items index item after name c.in-Some.held.now c.args.value (omega arith) (ap (get_or items index) c.map-item.is) c.loop-map.invariant.passed (sym c.in-Some.ensures.value) now
    ∙ ap (λ (r : List _). replaced (map meaning_of r) name c.args.value) c.loop-map.invariant.same

pub loop-map-preserved : goal.loop-map-preserved
loop-map-preserved g c =
    let items = c.loop-map.map-items in
    let index = c.loop-map.map-index in
    let item = get_or items index c.map-item.result in
    let stays = ap (set items index) c.get_mut.follows.holds-at-none ∙ set-get_or items index c.map-item.result in
    record {
      same = stays ∙ c.loop-map.invariant.same;
      passed =
          ap (λ (r : List _). found (map meaning_of (take (index + 1) r)) c.args.name.now) stays
          ∙ passed_more meaning_of items index item c.args.name.now (omega arith) (ap (get_or items index) c.map-item.is) c.loop-map.invariant.passed (sym c.in_default.ensures.value);
    }

pub returns-clause-was : goal.returns-clause-was
unfolding scopes_of
returns-clause-was g c =
    sym (passed_all meaning_of c.loop-map.map-items c.loop-map.map-index c.args.name.now (omega arith) c.loop-map.invariant.passed)
    ∙ ap (λ (r : List _). found (map meaning_of r) c.args.name.now) c.loop-map.invariant.same

pub returns-clause-now : goal.returns-clause-now
unfolding scopes_of
returns-clause-now g c =
    let maps = c.args.self.now.maps in
    let none =
    ap (λ (r : List _). found (map meaning_of r) c.args.name.now) (sym c.loop-map.invariant.same)
    ∙ passed_all meaning_of c.loop-map.map-items c.loop-map.map-index c.args.name.now (omega arith) c.loop-map.invariant.passed in
    ap (map meaning_of) (written_none maps.items c.loop-map.map-items maps.len (sym maps.ok.0) c.loop-map.invariant.same)
    ∙ sym (replaced-absent (map meaning_of maps.items) c.args.name.now c.args.value none)
