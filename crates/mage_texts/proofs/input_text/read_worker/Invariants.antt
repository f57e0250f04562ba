use Rattle.std.proofs.Common.{◌≡◌, ◌<◌, ◌+◌, ◌^◌, length, take}
use Rattle.mage_texts.specs.Reading.{IsFront}
use Rattle.mage_texts.proofs.input_text.read_worker.Given as goal

-- the numbers of the widths so far come first, and then those of the lines that are left
abbrev pub invariant-loop-width : goal.invariant-loop-width
invariant-loop-width l =
    (l.left.number + length l.left.rest.now < 2 ^ 64)
    × (length l.numbers.items ≡ l.width-index)
    × IsFront l.fn.lines.number l.fn.lines.rest.now (take l.width-index l.widths) l.numbers.items l.left.number l.left.rest.now
