use Rattle.mage_verify.specs.Faults.{own_fault, lowest}
use Rattle.mage_verify.specs.Parts.{parts_of}
use Rattle.mage_verify.proofs.Tests.{none_first}
use Rattle.mage_verify.proofs.Walked.{AreSafe-from_none}
use Rattle.mage_verify.proofs.verifying.seal.Goals as goal

pub parts_of-requires-clause-safe : goal.parts_of-requires-clause-safe
parts_of-requires-clause-safe c =
    rw c.as_slice.ensures (AreSafe-from_none c.args.plan c.requires.in_range (none_first (lowest own_fault (parts_of c.args.plan)) _ c.requires.none))
