-- The next byte of the slice is the next of the text.
use Rattle.std.proofs.Common.{◌+◌, ◌-◌, ◌<◌, length, drop, length-drop, arith}
use Rattle.std.proofs.lemmas.List.{length-take}
use Rattle.mage_lex.proofs.PlaceLemmas.{place_moved, slice_at}
use Rattle.mage_lex.proofs.place.moved.Goals as goal

pub loop-byte-preserved : goal.loop-byte-preserved
loop-byte-preserved c =
    let text = c.args.text.now in
    let start = c.args.from.start in
    let size = c.args.size in
    let index = c.loop-byte.byte-index in
    let read = slice_at text start size index c.loop-byte-test.true in
    let within : start + index < length text = omega (arith, c.loop-byte-test.true, length-take (start + size - start) (drop start text), length-drop start text) in
    place_moved text c.loop-byte.place c.next_place-place.result start index _ c.next_place-place.ensures c.loop-byte.invariant read within
