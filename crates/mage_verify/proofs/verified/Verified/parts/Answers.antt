use Rattle.std.proofs.Common.{◌≡◌, List, None, map, subst}
use Rattle.mage_verify.specs.Faults.{own_fault, lowest, joint_fault, fault_in}
use Rattle.mage_verify.specs.Parts.{WorkerPart}
use Rattle.mage_verify.proofs.Tests.{none_second}
use Rattle.mage_verify.proofs.Together.{RunTogether-from_none}
use Rattle.mage_verify.proofs.verified.Verified.parts.Goals as goal

pub returns-clause-together : goal.returns-clause-together
returns-clause-together c =
    let none : fault_in c.args.self ≡ None = subst (λ (ps : List WorkerPart). fault_in ps ≡ None) c.self.view_is c.self.invariant.none in
    RunTogether-from_none (map (λ part. part.directives) c.args.self)
    (none_second (lowest own_fault c.args.self) (joint_fault (map (λ part. part.directives) c.args.self)) none)
