use Rattle.std.proofs.Common.{◌≡◌, ◌++◌, take}
use Rattle.std.specs.String.{string_bytes}
use Rattle.mage_texts.specs.OutputText.{lines_of_outputs}
use Rattle.mage_texts.proofs.output_lines.add_outputs.Given as goal

-- the lines of the outputs so far are added
abbrev pub invariant-loop-output : goal.invariant-loop-output
invariant-loop-output l = string_bytes l.text ≡ string_bytes l.initial.text ++ lines_of_outputs (take l.output-index l.outputs)
