use Rattle.std.proofs.Common.{◌∙◌}
use Rattle.mage_file.specs.Formats.{chain, done, field, number}
use Rattle.mage_file.specs.Grammar.{spot, constant}
use Rattle.mage_file.proofs.writing.put_constant.Goals as goal

pub returns : goal.returns
unfolding chain done field number spot constant
returns c = λ more. c.in_ok-put_spot-2.ensures more ∙ c.in_ok-put_u64.ensures _ ∙ c.in_ok-put_spot.ensures _ ∙ c.in_ok-put_u16.ensures _
