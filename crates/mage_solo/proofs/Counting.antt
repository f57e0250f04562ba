-- A part that carries instructions puts out as many values as they do.
use Rattle.std.proofs.Common.{◌≡◌, ◌<◌, ◌≤◌, ◌+◌, ℕ, zero, suc, List, [], ◌∷◌, length, map, take, Option, None, Some, slice_get, refl, sym, ap, ap₂, ◌∙◌, subst, arith, if◌then◌else◌}
use Rattle.std.specs.Prelude.{IsSomeAnd}
use Rattle.mage_instr.specs.declared.instr.Instr.{Instr}
use Rattle.mage_instr.specs.declared.op.Op.{Op}
use Rattle.mage_instr.specs.declared.replaced.Job.{Job}
use Rattle.mage_instr.specs.declared.directive.Directive.{Directive}
use Rattle.mage_instr.specs.declared.directive.Directive.TheVariants as entry
use Rattle.mage_instr.specs.declared.directive.MemProgram.{MemProgram}
use Rattle.mage_linked.specs.declared.emitted.Emitted.{Emitted}
use Rattle.mage_linked.specs.Emission.{own_instrs, program_of}
use Rattle.mage_linked.specs.Workers.{below}
use Rattle.mage_carry.specs.Jobs.{jobs_of, Does}
use Rattle.mage_carry.proofs.Walks.{each_job_does_next, all_are_done}
use Rattle.mage_carried.specs.Laws.{Carries}
use Rattle.mage_carried.proofs.Starting.{at_below, below_long, map_long, carried_so}
use Rattle.mage_plain_runs.specs.Plainly.{is_output, outputs_in}
use Rattle.mage_steps.specs.Core.{directives_of}
use Rattle.mage_solo.specs.Plain.{outputs_done}
use Rattle.mage_solo.proofs.Lists.{found_below, index_found}

-- each instruction is done in turn, by its opcode
abbrev pub DoesEach : List Directive → List Instr → Type 0
DoesEach part instrs = (d : ℕ) (job : Job) → slice_get part d ≡ Some (entry.Do job) →
    IsSomeAnd (slice_get instrs (jobs_of (take d part))) (λ i. job.op ≡ i.op)

behind_one : (job : Job) (part : List Directive) (i : Instr) (instrs : List Instr) → DoesEach (entry.Do job ∷ part) (i ∷ instrs) → DoesEach part instrs
behind_one job part i instrs each d next e =
    let n : ℕ = jobs_of (take d part) in
    let more : 1 + n ≡ suc n = omega arith in
    subst (λ (k : ℕ). IsSomeAnd (slice_get (i ∷ instrs) k) (λ x. next.op ≡ x.op)) more (each (suc d) next e)

more_outputs : (one other : Op) (done left : ℕ) → one ≡ other → done ≡ left →
    (if is_output one then 1 else 0) + done ≡ (if is_output other then 1 else 0) + left
more_outputs one other done left same rest = ap₂ (λ (o : Op) (n : ℕ). (if is_output o then 1 else 0) + n) same rest

pub outputs_same : (part : List Directive) (instrs : List Instr) → DoesEach part instrs → jobs_of part ≡ length instrs →
    outputs_done part ≡ outputs_in instrs
outputs_same [] [] each long = refl
outputs_same [] (i ∷ instrs) each long = absurd (omega (arith, long))
outputs_same (entry.Do job ∷ part) [] each long = absurd (each zero job refl)
outputs_same (entry.Do job ∷ part) (i ∷ instrs) each long =
    more_outputs job.op i.op (outputs_done part) (outputs_in instrs) (each zero job refl)
    (outputs_same part instrs (behind_one job part i instrs each) (omega (arith, long)))
outputs_same (entry.Fresh frame page ∷ part) instrs each long =
    let rest = outputs_same part instrs (λ d job e. each (suc d) job e) long in omega (arith, rest)
outputs_same (entry.IssueIn slot page ∷ part) instrs each long =
    let rest = outputs_same part instrs (λ d job e. each (suc d) job e) long in omega (arith, rest)
outputs_same (entry.FinishIn slot frame ∷ part) instrs each long =
    let rest = outputs_same part instrs (λ d job e. each (suc d) job e) long in omega (arith, rest)
outputs_same (entry.IssueOut slot frame page ∷ part) instrs each long =
    let rest = outputs_same part instrs (λ d job e. each (suc d) job e) long in omega (arith, rest)
outputs_same (entry.FinishOut slot ∷ part) instrs each long =
    let rest = outputs_same part instrs (λ d job e. each (suc d) job e) long in omega (arith, rest)

if_some_and : {X : Type 0} (P Q : X → Type 0) (o : Option X) → ((x : X) → P x → Q x) → IsSomeAnd o P → IsSomeAnd o Q
if_some_and P Q None f h = absurd h
if_some_and P Q (Some x) f h = f x h

-- a worker of a carried program puts out as many values as its instructions do
pub carried_outputs : (count : ℕ) (emitted : List Emitted) (plan : MemProgram) → Carries count emitted plan → (n : ℕ) → n < count →
    outputs_done (directives_of plan n) ≡ outputs_in (own_instrs emitted n)
carried_outputs count emitted plan carried n within =
    let many : length (map (own_instrs emitted) (below count)) ≡ count = map_long (own_instrs emitted) (below count) ∙ below_long count in
    let own = found_below (map (own_instrs emitted) (below count)) n (subst (λ k. n < k) (sym many) within) in
    let own_is : own.0 ≡ own_instrs emitted n =
    sym (index_found (map (own_instrs emitted) (below count)) n own.0 [] own.1) ∙ at_below (own_instrs emitted) count n [] within in
    let own_so : slice_get (program_of count emitted).workers n ≡ Some (own_instrs emitted n) = own.1 ∙ ap (λ (x : List Instr). Some x) own_is in
    let part = found_below plan.workers n (subst (λ k. n < k) (sym (carried_so count emitted plan carried).workers) within) in
    let part_is : part.0 ≡ directives_of plan n = sym (index_found plan.workers n part.0 [] part.1) in
    let part_so : slice_get plan.workers n ≡ Some (directives_of plan n) = part.1 ∙ ap (λ (x : List Directive). Some x) part_is in
    outputs_same (directives_of plan n) (own_instrs emitted n)
    (λ d job e.
    let does = each_job_does_next (program_of count emitted) plan n d (own_instrs emitted n) (directives_of plan n) job carried own_so part_so e in
    if_some_and (Does does.state.frames job) (λ i. job.op ≡ i.op) (slice_get (own_instrs emitted n) (jobs_of (take d (directives_of plan n))))
    (λ i h. h.op) does.does)
    (all_are_done (program_of count emitted) plan n (own_instrs emitted n) (directives_of plan n) carried own_so part_so)

-- it has room for them
pub room_enough : (count : ℕ) (emitted : List Emitted) (plan : MemProgram) → Carries count emitted plan → (n : ℕ) → n < count →
    outputs_in (own_instrs emitted n) ≤ outputs_done (directives_of plan n)
room_enough count emitted plan carried n within =
    let same = carried_outputs count emitted plan carried n within in omega (arith, same)
