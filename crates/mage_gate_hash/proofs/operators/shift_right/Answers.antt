use Rattle.mage_gate_hash.proofs.LaneLemmas.{shifts}
use Rattle.mage_gate_hash.proofs.operators.shift_right.Goals as goal

pub returns : goal.returns
returns c = shifts c.args.by c.args.a c.fits-a.0
