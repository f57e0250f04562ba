use Rattle.std.proofs.Common.{◌-◌, ◌∙◌, ap, sym, refl}
use Rattle.std.proofs.Math.Seq.{map-set_same}
use Rattle.mage_scopes.specs.Scopes.{scopes_of, meaning_of}
use Rattle.mage_scopes.proofs.Maps.{declared_from_updates, same_from_unchanged, on_err}
use Rattle.mage_scopes.proofs.Walks.{declared_last}
use Rattle.mage_scopes.proofs.Scopes.declare.Goals as goal

pub returns-clause-ok : goal.returns-clause-ok
unfolding scopes_of
returns-clause-ok g c =
    let maps = c.args.self.now.maps in
    declared_last meaning_of maps.items maps.len c.in-Some.map.now c.insert.new.self c.args.name.now c.args.value (sym maps.ok.0) (c.in-Some.ensures.variant.0 refl) c.in-Some.ensures.value
    (declared_from_updates c.args.name.now c.in-Some.map.now c.insert.new.self c.args.value c.in_ok-insert.ensures.updates)

pub returns-in_err-insert-clause-err : goal.returns-in_err-insert-clause-err
unfolding scopes_of
returns-in_err-insert-clause-err g c =
    let maps = c.args.self.now.maps in
    on_err c.from_residual.result
    (map-set_same meaning_of maps.items (maps.len - 1) c.insert.new.self c.in-Some.map.now
    (same_from_unchanged c.in-Some.map.now c.insert.new.self c.in_err-insert.ensures.err ∙ ap meaning_of c.in-Some.ensures.value))
