use Rattle.std.proofs.Common.{◌∙◌}
use Rattle.mage_file.specs.Formats.{chain, done, field, number}
use Rattle.mage_file.specs.Grammar.{limits}
use Rattle.mage_file.proofs.writing.put_limits.Goals as goal

pub returns : goal.returns
unfolding chain done field number limits
returns c = λ more. c.in_ok-put_u32-4.ensures more ∙ c.in_ok-put_u32-3.ensures _ ∙ c.in_ok-put_u32-2.ensures _ ∙ c.in_ok-put_u32.ensures _
