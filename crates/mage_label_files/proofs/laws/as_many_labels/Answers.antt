use Rattle.mage_label_files.proofs.Reading.{as_many_labels}
use Rattle.mage_label_files.proofs.laws.as_many_labels.Goals as goal

pub returns : goal.returns
returns c = as_many_labels
