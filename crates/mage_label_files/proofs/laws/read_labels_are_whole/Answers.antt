use Rattle.mage_label_files.proofs.Reading.{read_labels_are_whole}
use Rattle.mage_label_files.proofs.laws.read_labels_are_whole.Goals as goal

pub returns : goal.returns
returns c = read_labels_are_whole
