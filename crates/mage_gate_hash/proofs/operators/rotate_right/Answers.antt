use Rattle.mage_gate_hash.proofs.LaneLemmas.{shifts_rotate}
use Rattle.mage_gate_hash.proofs.operators.rotate_right.Goals as goal

pub returns : goal.returns
returns c = shifts_rotate c.args.by c.requires.0 c.requires.1 c.args.a c.fits-a.0
