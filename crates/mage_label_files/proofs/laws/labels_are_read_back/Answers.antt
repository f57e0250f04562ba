use Rattle.mage_label_files.proofs.Reading.{labels_are_read_back}
use Rattle.mage_label_files.proofs.laws.labels_are_read_back.Goals as goal

pub returns : goal.returns
returns c = labels_are_read_back
