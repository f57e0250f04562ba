-- The program that a source unrolls to means what the source means.
use Rattle.std.proofs.Common.{◌≡◌, ℕ, zero, suc, ◌<◌, List, [], ◌∷◌, ◌++◌, map, length, Option, Some, None, Ok, refl, sym, ap, ◌∙◌, subst}
use Rattle.std.specs.Prelude.{replicate}
use Rattle.std.proofs.Math.Numerals.{add-one}
use Rattle.std.proofs.lemmas.List.{replicate_more, map-append}
use Rattle.mage_chains.proofs.Ends.{then_ok, same_Ok}
use Rattle.mage_lex.specs.declared.token.Token.{Token}
use Rattle.mage_linked.specs.Emission.{own_instrs, program_of}
use Rattle.mage_linked.specs.Linked.{AreLinked}
use Rattle.mage_linked.specs.Workers.{below}
use Rattle.mage_linked.specs.declared.emitted.Emitted.{Emitted}
use Rattle.mage_linked.proofs.EmissionLemmas.{emission_of-program_of}
use Rattle.mage_linked.proofs.LinkedLemmas.{AreLinked-below}
use Rattle.mage_linked.proofs.WorkerLemmas.{length-map_below}
use Rattle.mage_tree.specs.declared.tree.Stmt.{Stmt}
use Rattle.mage_unroll.specs.Statements.{all_acts, executed}
use Rattle.mage_unroll.specs.Unrolled as unroll
use Rattle.mage_unroll.proofs.SoundPrograms.{written, parts_of}
use Rattle.mage_meaning.specs.Given.{Given}
use Rattle.mage_meaning.specs.Laws.{UnrolledMeansTheSame}
use Rattle.mage_meaning.specs.Means.{run_all, start, means_of}
use Rattle.mage_meaning.specs.Value as value
use Rattle.mage_meaning.specs.Value.{all_changes, change_of, value_of, worker_count}
use Rattle.mage_meaning.proofs.Agree.{Agree}
use Rattle.mage_meaning.proofs.Runs.{ran}
use Rattle.mage_meaning.proofs.StatementLaw.{all_executed-Law}

abbrev none_out : ℕ → List ℕ
none_out worker = []

no_outputs : (workers : ℕ) → map none_out (below workers) ≡ replicate workers []
no_outputs zero = refl
no_outputs (suc n) =
    map-append none_out (below n) (n ∷ []) ∙ ap (λ (l : List (List ℕ)). l ++ [] ∷ []) (no_outputs n)
    ∙ replicate_more n [] ∙ ap (λ k. replicate {A = List ℕ} k []) (add-one n)

opening-Agree : (given : Given) (workers : ℕ) → 0 < workers → Agree given workers (unroll.opening workers) (value.opening workers given)
opening-Agree given workers h =
    record {
      worker = refl;
      within = h;
      count = refl;
      names = (λ name. tt, tt);
      follows = record { garbler_left = refl; evaluator_left = refl; outputs_so_far = no_outputs workers; nothing_sent = λ from to. refl };
    }

-- the state at the end agrees with the moment at the end
at_end : (workers : ℕ) (body : List Stmt) (emitted : List Emitted) (given : Given) → 0 < workers → unroll.emitted_by workers body ≡ Ok emitted → map (ran given emitted).outputs (below workers) ≡ (all_changes (map change_of body) (value.opening workers given)).outputs
unfolding unroll.emitted_by
at_end workers body emitted given some h =
    let after = then_ok (all_acts (map executed body) (unroll.opening workers)) _ emitted h in
    let agree = all_executed-Law given workers body (unroll.opening workers) after.0 (value.opening workers given) (opening-Agree given workers some) after.1 in
    let outputs = (all_changes (map change_of body) (value.opening workers given)).outputs in
    subst (λ p. map (ran given p).outputs (below workers) ≡ outputs) (same_Ok after.0.program emitted after.2) agree.follows.outputs_so_far

-- a program runs as it was emitted
means_of-is : (given : Given) (workers : ℕ) (emitted : List Emitted) → AreLinked workers emitted → means_of (program_of workers emitted) given ≡ map (ran given emitted).outputs (below workers)
unfolding means_of
means_of-is given workers emitted linked =
    let order = emission_of-program_of workers emitted (AreLinked-below workers emitted linked) in
    let size = length-map_below (own_instrs emitted) workers in
    ap (λ (l : List Emitted). map (run_all l (start given)).outputs (below (length (program_of workers emitted).workers))) order
    ∙ ap (λ n. map (ran given emitted).outputs (below n)) size

same_count : (count : Option Token) → written count ≡ worker_count count
same_count None = refl
same_count (Some number) = refl

pub unrolled_means_the_same : UnrolledMeansTheSame
unfolding value_of
unrolled_means_the_same count body program given h =
    let parts = parts_of count body program h in
    let count_is = sym parts.count_is ∙ same_count count in
    ap (λ p. means_of p given) (sym parts.program_is)
    ∙ means_of-is given parts.workers parts.emitted parts.are.linked
    ∙ at_end parts.workers body parts.emitted given parts.some parts.emitted_is
    ∙ ap (λ n. (all_changes (map change_of body) (value.opening n given)).outputs) count_is
