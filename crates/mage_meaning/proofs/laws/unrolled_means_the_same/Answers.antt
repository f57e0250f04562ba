use Rattle.mage_meaning.proofs.ProgramLaw as programs
use Rattle.mage_meaning.proofs.laws.unrolled_means_the_same.Goals as goal

pub returns : goal.returns
returns c = programs.unrolled_means_the_same
