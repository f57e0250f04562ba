use Rattle.std.proofs.Common.{◌∙◌}
use Rattle.mage_file.specs.Formats.{chain, done, field, number}
use Rattle.mage_file.specs.Grammar.{spot}
use Rattle.mage_file.proofs.writing.put_spot.Goals as goal

pub returns : goal.returns
unfolding chain done field number spot
returns c = λ more. c.in_ok-put_u16-2.ensures more ∙ c.in_ok-put_u16.ensures _
