use Rattle.std.proofs.Common.{◌∙◌, sym}
use Rattle.mage_texts.proofs.Digits.{number_of_line-wide}
use Rattle.mage_texts.proofs.input_text.number_of.Goals as goal

pub returns-in_err-value : goal.returns-in_err-value
returns-in_err-value c = c.from_residual.ensures ∙ sym (number_of_line-wide c.args.width c.args.line.now c.requires.1 c.in_err-value.ensures)
