use Rattle.std.proofs.Common.{◌≡◌, length, Some, sym, ◌∙◌, ap, refl, arith}
use Rattle.std.specs.Prelude.{slice_get}
use Rattle.std.proofs.lemmas.Option.{slice_get_read}
use Rattle.mage_carry.specs.declared.transfer.Transfer.TheVariants as transfer
use Rattle.mage_carry.specs.Views.{pages_in, state_of}
use Rattle.mage_carry.proofs.Freeing.{got_is}
use Rattle.mage_carry.proofs.Tables.{finish_out_goes}
use Rattle.mage_carry.proofs.walk.Walk.finish_out.Goals as goal

pub returns-in_ok-insert-in-Write : goal.returns-in_ok-insert-in-Write
unfolding state_of
returns-in_ok-insert-in-Write c =
    let s = c.args.self.now in
    let within = c.in-Some.ensures.variant.0 refl in
    let found : slice_get s.slots.items c.from.result ≡ Some c.in-Some.transfer.now = slice_get_read s.slots.items (length s.slots.items) c.from.result c.in-Some.transfer.now refl (omega (arith, within, s.slots.ok.0)) c.in-Some.ensures.value in
    let what : c.in-Some.transfer.now ≡ transfer.Write c.in-Write.page c.in-Write.held = sym c.replace.ensures.value ∙ c.in-Write.is in
    finish_out_goes s.frames.items s.slots.items (pages_in s) s.next c.args.slot c.in-Write.page c.from.result c.in-Write.held c.replace.new.dest (pages_in (record s { pages = c.insert.new.self })) c.from.ensures c.replace.ensures.after
    (ap (slice_get s.slots.items) (sym c.from.ensures) ∙ found ∙ ap Some what)
    (got_is s.pages c.insert.new.self c.in-Write.page c.in-Write.held c.in_ok-insert-in-Write.ensures.updates)
