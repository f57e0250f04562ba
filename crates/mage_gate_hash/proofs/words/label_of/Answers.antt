use Rattle.std.proofs.Common.{rules}
use Rattle.sha2.specs.Sha256.{digest_bytes}
use Rattle.mage_gate_hash.proofs.words.label_of.Goals as goal

pub returns : goal.returns
unfolding digest_bytes
returns c = search rules
