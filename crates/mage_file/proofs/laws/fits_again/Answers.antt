use Rattle.mage_file.proofs.LengthLaws.{fits}
use Rattle.mage_file.proofs.laws.fits_again.Goals as goal

pub returns : goal.returns
returns c = fits
