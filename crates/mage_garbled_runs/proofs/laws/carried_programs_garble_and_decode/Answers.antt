use Rattle.mage_garbled_runs.proofs.Garbled.{carried_garbles, carried_decodes}
use Rattle.mage_garbled_runs.proofs.laws.carried_programs_garble_and_decode.Goals as goal

pub returns-clause-garbles : goal.returns-clause-garbles
returns-clause-garbles c = carried_garbles

pub returns-clause-decodes : goal.returns-clause-decodes
returns-clause-decodes c = carried_decodes
