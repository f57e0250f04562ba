use Rattle.std.proofs.Common.{◌∙◌}
use Rattle.mage_file.specs.Formats.{chain, done, field, number}
use Rattle.mage_file.specs.Grammar.{row}
use Rattle.mage_file.proofs.writing.put_row.Goals as goal

pub returns : goal.returns
unfolding chain done field number row
returns c = λ more.
    c.in_ok-put_u32-3.ensures more ∙ c.in_ok-put_u32-2.ensures _ ∙ c.in_ok-put_u32.ensures _ ∙ c.in_ok-put_u16-3.ensures _
    ∙ c.in_ok-put_u16-2.ensures _ ∙ c.in_ok-put_u16.ensures _ ∙ c.in_ok-put_u8.ensures _
