use Rattle.std.proofs.Common.{◌≡◌, ℕ, length, Some, sym, ◌∙◌, ap, refl, arith}
use Rattle.std.specs.Prelude.{slice_get}
use Rattle.std.proofs.lemmas.Option.{slice_get_read}
use Rattle.mage_carry.specs.Steps.{is_within}
use Rattle.mage_carry.specs.Views.{pages_in, state_of}
use Rattle.mage_carry.proofs.Tables.{result_goes}
use Rattle.mage_carry.proofs.walk.Walk.result_at.Goals as goal

pub returns-clause-goes : goal.returns-clause-goes
unfolding state_of
returns-clause-goes c =
    let s = c.args.self.now in
    let held = c.index_mut-held.result.now in
    let found : slice_get s.frames.items c.from-2.result ≡ Some held = slice_get_read s.frames.items (length s.frames.items) c.from-2.result held refl (omega (arith, s.frames.ok.0, c.from.ensures, c.from-2.ensures, c.len.ensures, c.if-from-len.false)) c.index_mut-held.ensures.value in
    let within = c.is_within.ensures ∙ ap (λ (w : ℕ). is_within c.args.wires w c.args.spot) c.from-else-from-len.ensures in
    result_goes s.frames.items s.slots.items (pages_in s) s.next c.args.instrs.now c.args.wires c.args.width c.from-2.result c.args.spot held c.place.new.self c.from-2.ensures
    (ap (slice_get s.frames.items) (sym c.from-2.ensures) ∙ found)
    (sym within ∙ c.if-not-is_within.false)
    c.in_ok-place.ensures
