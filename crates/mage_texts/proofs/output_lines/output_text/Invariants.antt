use Rattle.std.proofs.Common.{◌≡◌, take}
use Rattle.std.specs.String.{string_bytes}
use Rattle.mage_texts.specs.Lists.{lists_of}
use Rattle.mage_texts.specs.OutputText.{text_of}
use Rattle.mage_texts.proofs.output_lines.output_text.Given as goal

-- the text of the workers so far
abbrev pub invariant-loop-worker : goal.invariant-loop-worker
invariant-loop-worker l = string_bytes l.text ≡ text_of (lists_of (take l.worker-index l.outputs))
