-- Each byte that was taken passed.
use Rattle.std.specs.Char.{is_ascii_digit}
use Rattle.mage_lex.proofs.Fronts.{taken_passes}
use Rattle.mage_lex.proofs.front.digits_at.Goals as goal

pub returns-clause-digits : goal.returns-clause-digits
returns-clause-digits c = taken_passes is_ascii_digit c.args.text.now c.digits_len.result c.digits_len.ensures
