use Rattle.std.proofs.Common.{◌≡◌, ◌∙◌, ◌⊎◌, None, Some, inl, inr, ⊎_elim}
use Rattle.std.specs.Prelude.{OnOk, IfErr}
use Rattle.std.proofs.lemmas.Result.{err_from_is_err_and, on_ok_weaker, IfErr-weaker}
use Rattle.mage_verify.specs.declared.fault.VerifyFault.TheVariants as wrong
use Rattle.mage_verify.specs.Faults.{own_fault, lowest, joint_fault, fault_of}
use Rattle.mage_verify.specs.Parts.{parts_of}
use Rattle.mage_verify.proofs.Walked.{own_first, joint_next}
use Rattle.mage_verify.proofs.verifying.check_all.Goals as goal

pub check_parts-requires-clause-counted : goal.check_parts-requires-clause-counted
check_parts-requires-clause-counted c = rw (c.as_slice.ensures, c.as_slice-workers.ensures) c.requires.counted

pub check_parts-requires-clause-parts : goal.check_parts-requires-clause-parts
check_parts-requires-clause-parts c = rw c.as_slice-workers.ensures c.requires.parts

pub check_joint-requires-clause-parts : goal.check_joint-requires-clause-parts
check_joint-requires-clause-parts c = rw c.as_slice-workers.ensures c.requires.parts

pub returns-in_err-check_parts-clause-fault : goal.returns-in_err-check_parts-clause-fault
returns-in_err-check_parts-clause-fault c =
    let p = err_from_is_err_and c.from_residual.result c.from_residual.ensures.1 in
    let found = rw (c.as_slice.ensures, c.as_slice-workers.ensures) at c.in_err-check_parts.ensures.fault in
    rw (p.1, p.2) (⊎_elim (λ e. inl e) (λ e. inr (own_first c.args.plan.now _ e)) found)

pub returns-clause-none : goal.returns-clause-none
returns-clause-none c =
    let own : lowest own_fault (parts_of c.args.plan.now) ≡ None = rw (c.as_slice.ensures, c.as_slice-workers.ensures) at c.in_ok-check_parts.ensures.none in
    let joint : OnOk c.check_joint.result (joint_fault c.args.plan.now.workers ≡ None) = rw c.as_slice-workers.ensures at c.check_joint.ensures.none in
    on_ok_weaker c.check_joint.result (λ e. joint_next c.args.plan.now own ∙ e) joint

pub returns-clause-fault : goal.returns-clause-fault
returns-clause-fault c =
    let own : lowest own_fault (parts_of c.args.plan.now) ≡ None = rw (c.as_slice.ensures, c.as_slice-workers.ensures) at c.in_ok-check_parts.ensures.none in
    let joint : IfErr c.check_joint.result (λ fault. (fault ≡ wrong.Memory) ⊎ (joint_fault c.args.plan.now.workers ≡ Some fault)) = rw c.as_slice-workers.ensures at c.check_joint.ensures.fault in
    IfErr-weaker c.check_joint.result (λ fault. (fault ≡ wrong.Memory) ⊎ (joint_fault c.args.plan.now.workers ≡ Some fault)) (λ fault. (fault ≡ wrong.Memory) ⊎ (fault_of c.args.plan.now ≡ Some fault))
    (λ fault. ⊎_elim (λ e. inl e) (λ e. inr (joint_next c.args.plan.now own ∙ e))) joint
