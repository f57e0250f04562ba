use Rattle.std.proofs.Common.{◌≡◌, ◌<◌, List, None, length, map, ap, sym, ◌∙◌, arith, subst}
use Rattle.std.proofs.lemmas.Grind.{common_steps}
use Rattle.std.proofs.lemmas.Result.{IfOk-weaker}
use Rattle.mage_instr.specs.declared.directive.MemProgram.{MemProgram}
use Rattle.mage_directives.specs.Directives.{IsMemProgram}
use Rattle.mage_schedulable.specs.Planning.{program_of}
use Rattle.mage_verify.specs.Faults.{fault_of}
use Rattle.mage_verify.specs.Parts.{WorkerPart}
use Rattle.mage_rehome.specs.Rehomed.{homed_parts, rehomed_of}
use Rattle.mage_rehome.proofs.Whole.{some_part, first_is, as_many, whole_homed, fields_homed, none_whole}
use Rattle.mage_rehome.proofs.rehoming.rehome.Goals as goal

pub index-requires : goal.index-requires
index-requires c =
    let some = some_part c.args.plan c.parts-parts.ensures.verified in
    let long : length c.parts-parts.result.items ≡ length c.args.plan = ap length c.parts-parts.ensures.parts in
    let there : 0 < length c.parts-parts.result.items = omega (arith, some, long) in
    grind (arith, common_steps, there)

pub returns-clause-plan : goal.returns-clause-plan
returns-clause-plan c = λ whole e.
    let some = some_part c.args.plan c.parts-parts.ensures.verified in
    let long : length c.parts-parts.result.items ≡ length c.args.plan = ap length c.parts-parts.ensures.parts in
    let limits = c.limits-limits.ensures ∙ first_is whole c.parts-parts.result.items c.index.result.now (omega (arith, some, long)) c.index.ensures (c.parts-parts.ensures.parts ∙ e) in
    let same : c.as_slice.result.now ≡ c.args.plan = c.as_slice.ensures.value ∙ c.parts-parts.ensures.parts in
    IfOk-weaker c.renamed.result (λ renamed. renamed ≡ program_of c.limits-limits.result (homed_parts c.as_slice.result.now)) (λ renamed. renamed ≡ rehomed_of whole)
    (λ renamed is. is ∙ ap (λ (parts : List WorkerPart). program_of c.limits-limits.result (homed_parts parts)) same ∙ whole_homed whole c.args.plan c.limits-limits.result e limits)
    c.renamed.ensures

pub returns-clause-fields : goal.returns-clause-fields
returns-clause-fields c =
    let some = some_part c.args.plan c.parts-parts.ensures.verified in
    let long : length c.parts-parts.result.items ≡ length c.args.plan = ap length c.parts-parts.ensures.parts in
    let there : 0 < length c.parts-parts.result.items = omega (arith, some, long) in
    let same : c.as_slice.result.now ≡ c.args.plan = c.as_slice.ensures.value ∙ c.parts-parts.ensures.parts in
    let fields = fields_homed c.args.plan c.limits-limits.result c.parts-parts.ensures.verified
    (λ whole e. c.limits-limits.ensures ∙ first_is whole c.parts-parts.result.items c.index.result.now there c.index.ensures (c.parts-parts.ensures.parts ∙ e)) in
    IfOk-weaker c.renamed.result (λ renamed. renamed ≡ program_of c.limits-limits.result (homed_parts c.as_slice.result.now)) IsMemProgram
    (λ renamed is. subst IsMemProgram (sym (is ∙ ap (λ (parts : List WorkerPart). program_of c.limits-limits.result (homed_parts parts)) same)) fields)
    c.renamed.ensures

pub returns-clause-none : goal.returns-clause-none
returns-clause-none c =
    let some = some_part c.args.plan c.parts-parts.ensures.verified in
    let long : length c.parts-parts.result.items ≡ length c.args.plan = ap length c.parts-parts.ensures.parts in
    let there : 0 < length c.parts-parts.result.items = omega (arith, some, long) in
    let same : c.as_slice.result.now ≡ c.args.plan = c.as_slice.ensures.value ∙ c.parts-parts.ensures.parts in
    let none = none_whole c.args.plan c.limits-limits.result c.parts-parts.ensures.verified
    (λ whole e. c.limits-limits.ensures ∙ first_is whole c.parts-parts.result.items c.index.result.now there c.index.ensures (c.parts-parts.ensures.parts ∙ e)) in
    let Faultless : MemProgram → Type 0 = λ plan. fault_of plan ≡ None in
    IfOk-weaker c.renamed.result (λ renamed. renamed ≡ program_of c.limits-limits.result (homed_parts c.as_slice.result.now)) Faultless
    (λ renamed is. subst Faultless (sym (is ∙ ap (λ (parts : List WorkerPart). program_of c.limits-limits.result (homed_parts parts)) same)) none)
    c.renamed.ensures

pub returns-clause-counts : goal.returns-clause-counts
returns-clause-counts c = λ whole e.
    IfOk-weaker c.renamed.result (λ renamed. renamed ≡ rehomed_of whole) (λ renamed. map length renamed.workers ≡ map length whole.workers)
    (λ renamed is. ap (λ (plan : MemProgram). map length plan.workers) is ∙ as_many whole.workers)
    (returns-clause-plan c whole e)
