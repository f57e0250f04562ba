use Rattle.std.proofs.Common.{rules}
use Rattle.mage_verify.proofs.Frames.{all_true}
use Rattle.mage_verify.proofs.leaving.all_left.Goals as goal

pub returns-clause-each : goal.returns-clause-each
returns-clause-each c = λ frame. all_true _ c.args.frames (search rules) frame
