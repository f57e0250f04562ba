use Rattle.std.proofs.Common.{sym, arith}
use Rattle.mage_meaning.proofs.Wrapping.{right_beyond}
use Rattle.mage_meaning.proofs.arithmetic.shifted_right.Goals as goal

pub returns-else-amount-lt128 : goal.returns-else-amount-lt128
returns-else-amount-lt128 c = sym (right_beyond c.args.a c.args.amount (omega arith) (omega arith))
