use Rattle.std.proofs.Common.{◌≡◌, ◌<◌, ◌+◌, ◌++◌, ◌∷◌, [], length, get_or, arith, ap, ◌∙◌, subst}
use Rattle.std.proofs.lemmas.List.{length_push}
use Rattle.std.proofs.lemmas.Option.{slice_get-get_or}
use Rattle.mage_instr.specs.Opcodes.{has_result, width_of_result}
use Rattle.mage_place.specs.Live.{class_of_result}
use Rattle.mage_place.specs.Pools.{ArePages}
use Rattle.mage_place.proofs.SoundFacts.{no_instr, sound_at}
use Rattle.mage_place.proofs.Placed.{Kept-start, Kept-more, values_more, given_pages, class_pos, page_bounds, ArePlaces-from_Kept}
use Rattle.mage_place.proofs.TooWideLemmas.{fits_at}
use Rattle.mage_place.proofs.placing.places_of.Goals as goal

pub loop-t-init : goal.loop-t-init
loop-t-init c = record {
  pool = c.in_ok-pool.ensures.pool;
  wires = c.in_ok-pool.ensures.wires;
  kept = rw (c.in_ok-places.ensures.items, c.in_ok-pool.ensures.pages) (Kept-start c.args.instrs.now c.args.page c.in_ok-last.last.items);
}

pub place_result-requires-clause-width : goal.place_result-requires-clause-width
place_result-requires-clause-width c =
    let t = c.loop-t.t in let instrs = c.args.instrs.now in let i = get_or instrs t no_instr in
    let is = slice_get-get_or instrs t no_instr (omega arith) in
    let s = sound_at instrs t i c.requires.sound is in (s.0.0, s.0.1)

pub place_result-requires-clause-fits : goal.place_result-requires-clause-fits
place_result-requires-clause-fits c =
    let t = c.loop-t.t in let instrs = c.args.instrs.now in let i = get_or instrs t no_instr in
    rw c.loop-t.invariant.wires (fits_at c.args.page instrs t i c.requires.fits (slice_get-get_or instrs t no_instr (omega arith)))

pub place_result-requires-clause-wires : goal.place_result-requires-clause-wires
place_result-requires-clause-wires c = rw c.loop-t.invariant.wires (page_bounds c.args.page c.requires.page).1

pub place_result-requires-clause-few : goal.place_result-requires-clause-few
place_result-requires-clause-few c = omega (arith, c.loop-t.invariant.kept.few, c.requires.sound.count)

pub free_ended-requires-clause-values : goal.free_ended-requires-clause-values
free_ended-requires-clause-values c =
    let t = c.loop-t.t in let instrs = c.args.instrs.now in let i = get_or instrs t no_instr in
    let is = slice_get-get_or instrs t no_instr (omega arith) in
    let kept = c.loop-t.invariant.kept in let old = c.loop-t.pool in let mid = c.place_result.new.pool in let place = c.in_ok-place.place in
    let pos : 0 < class_of_result i = class_pos (width_of_result i.op i.width) in
    let given = given_pages (has_result i.op) old mid c.args.page (class_of_result i) place c.loop-t.invariant.wires c.in_ok-place.ensures.given in
    let all = subst (λ w. ArePages w old.pages.items) c.loop-t.invariant.wires c.loop-t.invariant.pool.pages in
    let more = values_more instrs c.args.page c.in_ok-last.last.items c.requires.sound c.in_ok-last.ensures.last t i is c.loop-t.places.items place old.pages.items mid.pages.items kept all pos given in
    let size : length (c.loop-t.places.items ++ place ∷ []) ≡ t + 1 = length_push c.loop-t.places.items place ∙ ap (λ n. n + 1) kept.count in
    rw (c.deref.ensures.value, c.in_ok-push.ensures.items, c.deref-in-loop-t.ensures.value) (λ v among. let w = more v among in (omega (arith, w.0, size), omega (arith, w.0, c.in_ok-last.ensures.count), w.1))

pub loop-t-preserved : goal.loop-t-preserved
loop-t-preserved c =
    let t = c.loop-t.t in let instrs = c.args.instrs.now in let i = get_or instrs t no_instr in
    let is = slice_get-get_or instrs t no_instr (omega arith) in
    let kept = c.loop-t.invariant.kept in let old = c.loop-t.pool in let mid = c.place_result.new.pool in let place = c.in_ok-place.place in
    let pos : 0 < class_of_result i = class_pos (width_of_result i.op i.width) in
    let given = given_pages (has_result i.op) old mid c.args.page (class_of_result i) place c.loop-t.invariant.wires c.in_ok-place.ensures.given in
    let all = subst (λ w. ArePages w old.pages.items) c.loop-t.invariant.wires c.loop-t.invariant.pool.pages in
    let frees = rw (c.deref.ensures.value, c.in_ok-push.ensures.items, c.deref-in-loop-t.ensures.value) at c.in_ok-free_ended.ensures.freed in
    record {
      pool = c.in_ok-free_ended.ensures.pool;
      wires = c.in_ok-free_ended.ensures.wires ∙ c.in_ok-place.ensures.wires ∙ c.loop-t.invariant.wires;
      kept = rw c.in_ok-push.ensures.items (Kept-more instrs c.args.page c.in_ok-last.last.items c.requires.sound c.in_ok-last.ensures.last t i is c.loop-t.places.items place old.pages.items mid.pages.items kept all pos given c.free_ended.new.pool.pages.items frees);
    }

pub returns-clause-places : goal.returns-clause-places
returns-clause-places c = ArePlaces-from_Kept c.args.instrs.now c.args.page c.in_ok-last.last.items c.loop-t.t c.loop-t.places.items c.loop-t.pool.pages.items (omega arith) c.loop-t.invariant.kept
