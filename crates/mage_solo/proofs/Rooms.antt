-- How many values each worker of a carried program puts out.
use Rattle.std.proofs.Common.{◌≡◌, ◌<◌, ◌≤◌, ℕ, List, [], length, map, refl, sym, ap, ◌∙◌, subst, arith, Bool, true, false, nat_lt}
use Rattle.std.proofs.lemmas.Bool.Decides.{nat_tests}
use Rattle.mage_instr.specs.declared.directive.MemProgram.{MemProgram}
use Rattle.mage_linked.specs.declared.emitted.Emitted.{Emitted}
use Rattle.mage_linked.specs.Emission.{own_instrs, program_of}
use Rattle.mage_linked.specs.Workers.{below, list_at}
use Rattle.mage_carried.specs.Laws.{Carries}
use Rattle.mage_carried.proofs.Starting.{at_below, below_long, map_long, carried_so}
use Rattle.mage_plain_runs.specs.Plainly.{outputs_in}
use Rattle.mage_steps.specs.Core.{directives_of}
use Rattle.mage_solo.specs.Plain.{outputs_done}
use Rattle.mage_solo.specs.Evaluating.{rooms_of}
use Rattle.mage_solo.proofs.Lists.{found_below, index_found, list_found, list_past, index_past}
use Rattle.mage_solo.proofs.Counting.{carried_outputs}

pub own_at : (count : ℕ) (emitted : List Emitted) (n : ℕ) → n < count → list_at (program_of count emitted).workers n ≡ own_instrs emitted n
own_at count emitted n within =
    let many : length (map (own_instrs emitted) (below count)) ≡ count = map_long (own_instrs emitted) (below count) ∙ below_long count in
    let own = found_below (map (own_instrs emitted) (below count)) n (subst (λ k. n < k) (sym many) within) in
    list_found (map (own_instrs emitted) (below count)) n own.0 own.1
    ∙ sym (index_found (map (own_instrs emitted) (below count)) n own.0 [] own.1) ∙ at_below (own_instrs emitted) count n [] within

-- the same of every worker, also where there is none
pub rooms_same : (count : ℕ) (emitted : List Emitted) (plan : MemProgram) → Carries count emitted plan → (n : ℕ) →
    rooms_of (program_of count emitted) n ≡ outputs_done (directives_of plan n)
rooms_same count emitted plan carried n = go (nat_lt n count) refl
  where
    go : (b : Bool) → nat_lt n count ≡ b → rooms_of (program_of count emitted) n ≡ outputs_done (directives_of plan n)
    go true e =
        let within : n < count = grind (arith, nat_tests) in
        ap outputs_in (own_at count emitted n within) ∙ sym (carried_outputs count emitted plan carried n within)
    go false e =
        let past : count ≤ n = grind (arith, nat_tests) in
        let many : length (map (own_instrs emitted) (below count)) ≡ count = map_long (own_instrs emitted) (below count) ∙ below_long count in
        let workers = (carried_so count emitted plan carried).workers in
        ap outputs_in (list_past (program_of count emitted).workers n (subst (λ k. k ≤ n) (sym many) past))
        ∙ sym (ap outputs_done (index_past plan.workers n [] (subst (λ k. k ≤ n) (sym workers) past)))
