use Rattle.mage_residency.proofs.Renaming.{names_dont_matter}
use Rattle.mage_residency.proofs.laws.names_of_pages_dont_matter.Goals as goal

pub returns : goal.returns
returns c = names_dont_matter
