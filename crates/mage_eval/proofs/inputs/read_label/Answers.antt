use Rattle.mage_eval.proofs.Bytes.{label_read}
use Rattle.mage_eval.proofs.inputs.read_label.Goals as goal

pub returns-clause-label : goal.returns-clause-label
returns-clause-label g c = label_read c.args.stream.now.left _ c.read.ensures.bytes c.requires.enough
