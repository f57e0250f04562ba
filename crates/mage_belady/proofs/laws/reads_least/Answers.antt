use Rattle.mage_belady.proofs.Fits.{ReadsLeast-rule_of}
use Rattle.mage_belady.proofs.laws.reads_least.Goals as goal

pub returns : goal.returns
returns c = ReadsLeast-rule_of
