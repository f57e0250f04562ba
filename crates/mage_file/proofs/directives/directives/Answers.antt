use Rattle.std.proofs.Common.{arith}
use Rattle.mage_file.proofs.FileLaws.{small_list}
use Rattle.mage_file.proofs.directives.directives.Goals as goal

pub returns-clause-small : goal.returns-clause-small
returns-clause-small c =
    small_list c.args.workers c.args.own (record { bytes = c.args.bytes.now; total = c.args.total }) c.args.count c.list_of.result
    (λ i. omega (arith, c.type_inv.bytes i)) c.list_of.ensures
