use Rattle.std.proofs.Common.{◌≡◌, ◌<◌, ◌+◌, ◌^◌, length, take, map}
use Rattle.std.specs.List.{concat}
use Rattle.mage_texts.specs.Lists.{lists_of}
use Rattle.mage_texts.specs.Reading.{IsFront}
use Rattle.mage_texts.proofs.input_text.read_inputs.Given as goal

-- the numbers of the workers so far come first, as many as each has widths, and then those of the lines that are left
abbrev pub invariant-loop-own : goal.invariant-loop-own
invariant-loop-own l =
    (l.left.number + length l.left.rest.now < 2 ^ 64)
    × IsFront 1 l.text (concat (lists_of (take l.own-index l.widths))) (concat (lists_of l.numbers.items)) l.left.number l.left.rest.now
    × (map length (lists_of l.numbers.items) ≡ map length (lists_of (take l.own-index l.widths)))
