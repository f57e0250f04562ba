use Rattle.mage_garbled_runs.proofs.Meant.{decoded_is_meant, carried_means}
use Rattle.mage_garbled_runs.proofs.laws.decoding_gives_what_is_meant.Goals as goal

pub returns-clause-decoded : goal.returns-clause-decoded
returns-clause-decoded c = decoded_is_meant

pub returns-clause-carried : goal.returns-clause-carried
returns-clause-carried c = carried_means
