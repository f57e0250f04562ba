-- From worker to worker.
use Rattle.std.proofs.Common.{◌≡◌, ◌<◌, ◌≤◌, ◌+◌, ◌∙◌, ap, sym, ℕ, List, [], ◌∷◌, ◌++◌, length, drop, get_or, append_assoc, Result, Ok, Err, refl}
use Rattle.std.proofs.lemmas.List.{at_drop_more, at_drop_all, append-nil}
use Rattle.mage_chains.specs.Chains.{◌>>=◌}
use Rattle.mage_instr.specs.declared.instr.Instr.{Instr}
use Rattle.mage_instr.specs.declared.replaced.Limits.{Limits}
use Rattle.mage_lex.specs.declared.fault.LangFault.TheVariants as language
use Rattle.mage_pipe.specs.declared.fault.PlanFault.{PlanFault}
use Rattle.mage_pipe.specs.declared.fault.PlanFault.TheVariants as faults
use Rattle.mage_pipe.specs.declared.stats.WorkerStats.{WorkerStats}
use Rattle.mage_pipe.specs.Answer.{Fails}
use Rattle.mage_pipe.specs.Fronts.{in_front}
use Rattle.mage_pipe.specs.Summary.{tight_at, worker_stats_of, stats_from, stats_of}

-- one more item in front
one_more : {T : Type 0} (items : List T) (x : T) (rest : Result (List T) PlanFault) → in_front items (rest >>= (λ others. Ok (x ∷ others))) ≡ in_front (items ++ x ∷ []) rest
one_more items x (Ok others) = ap Ok (sym (append_assoc items (x ∷ []) others))
one_more items x (Err fault) = refl

none_before : {T : Type 0} (rest : Result (List T) PlanFault) → in_front [] rest ≡ rest
none_before (Ok others) = refl
none_before (Err fault) = refl

-- Below, `all` has what the workers before worker i cost, whose instructions are `own`.
module _ (limits : Limits) (workers : List (List Instr)) (all : List WorkerStats) (i : ℕ) (own : List Instr) (within : i < length workers) (is : own ≡ get_or workers i own) (kept : in_front all (stats_from limits i (drop i workers)) ≡ stats_from limits 0 workers) where
  turn : in_front all (tight_at i (worker_stats_of limits own) >>= (λ stats. stats_from limits (i + 1) (drop (i + 1) workers) >>= (λ others. Ok (stats ∷ others)))) ≡ stats_from limits 0 workers
  unfolding stats_from
  turn = ap (λ xs. in_front all (stats_from limits i (xs ∷ drop (i + 1) workers))) is ∙ sym (at_drop_more (λ xs. in_front all (stats_from limits i xs)) workers i own within) ∙ kept

  -- what worker i costs comes behind them
  pub turn_taken : (stats : WorkerStats) → tight_at i (worker_stats_of limits own) ≡ Ok stats → in_front (all ++ stats ∷ []) (stats_from limits (i + 1) (drop (i + 1) workers)) ≡ stats_from limits 0 workers
  turn_taken stats h = sym (one_more all stats (stats_from limits (i + 1) (drop (i + 1) workers))) ∙ (rw h at turn)

  turn_ended : (fault : PlanFault) → tight_at i (worker_stats_of limits own) ≡ Err fault → stats_of limits workers ≡ Err fault
  unfolding stats_of
  turn_ended fault h = sym (rw h at turn)

  -- a fault of worker i is that of the program
  pub turn_failed : (fault : PlanFault) → Fails fault (tight_at i (worker_stats_of limits own)) → Fails fault (stats_of limits workers)
  turn_failed (faults.Lang (language.At kind line column)) h = turn_ended (faults.Lang (language.At kind line column)) h
  turn_failed (faults.Lang language.Memory) h = absurd h
  turn_failed (faults.Tight worker tight) h = turn_ended (faults.Tight worker tight) h
  turn_failed faults.Memory h = tt

-- behind the last worker there is nothing
pub turns_end : (limits : Limits) (workers : List (List Instr)) (all : List WorkerStats) (i : ℕ) → length workers ≤ i → in_front all (stats_from limits i (drop i workers)) ≡ stats_from limits 0 workers → stats_of limits workers ≡ Ok all
unfolding stats_of stats_from
turns_end limits workers all i past kept = sym kept ∙ at_drop_all (λ xs. in_front all (stats_from limits i xs)) workers i past ∙ ap Ok (append-nil all)

-- before the first there is nothing
pub turns_begin : (limits : Limits) (workers : List (List Instr)) (all : List WorkerStats) → all ≡ [] → in_front all (stats_from limits 0 workers) ≡ stats_from limits 0 workers
turns_begin limits workers all e = ap (λ (xs : List WorkerStats). in_front xs (stats_from limits 0 workers)) e ∙ none_before (stats_from limits 0 workers)
