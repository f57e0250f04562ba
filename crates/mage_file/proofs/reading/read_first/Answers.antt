use Rattle.std.proofs.Common.{arith}
use Rattle.mage_file.proofs.FileLaws.{is_found_first}
use Rattle.mage_file.proofs.reading.read_first.Goals as goal

pub returns-clause-found : goal.returns-clause-found
returns-clause-found c = is_found_first c.args.bytes.now c.program_of.result (λ i. omega (arith, c.type_inv.bytes i)) c.program_of.ensures
