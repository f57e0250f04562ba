use Rattle.std.proofs.Common.{sym, ap, ◌∙◌, Some}
use Rattle.mage_scopes.specs.Scopes.{scopes_of}
use Rattle.mage_meaning.specs.declared.known.Known.TheVariants as known
use Rattle.mage_meaning.proofs.EffectLemmas.{set_item-is}
use Rattle.mage_meaning.proofs.effects.set_item.Goals as goal

pub returns-in-Some-Array : goal.returns-in-Some-Array
returns-in-Some-Array c =
    let nothing = known.Array (record { width = c.new.result; values = c.new-2.result }) in
    let here = sym c.replace.ensures.was ∙ c.in-Some-Array.is ∙ ap Some c.in-Some-Array.field-0-is in
    set_item-is (scopes_of c.args.names.now) (scopes_of c.replace.new.self) (scopes_of c.replace-in-Some-Array.new.self) c.args.name.now nothing c.in-Some-Array.row c.set_entry-row.result c.args.position c.args.value c.replace.ensures.now c.replace-in-Some-Array.ensures.now c.set_entry-row.ensures here
