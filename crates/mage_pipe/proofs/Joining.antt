-- From worker to worker: the parts so far and those of the rest make the memory program.
use Rattle.std.proofs.Common.{◌≡◌, ◌<◌, ◌≤◌, ◌+◌, ◌∙◌, ◌⊎◌, inl, inr, ap, sym, subst, ℕ, List, [], ◌∷◌, ◌++◌, length, drop, get_or, append_assoc, Some, IfSome, Result, Ok, Err, refl, arith}
use Rattle.std.specs.Prelude.{slice_get}
use Rattle.std.specs.List.{All}
use Rattle.std.proofs.lemmas.Bool.{cases_eq, cases_lt}
use Rattle.std.proofs.lemmas.List.{at_drop_more, at_drop_all, append-nil, get_or_default}
use Rattle.std.proofs.lemmas.Option.{slice_get-get_or, slice_get_past}
use Rattle.mage_chains.specs.Chains.{◌>>=◌}
use Rattle.mage_instr.specs.declared.instr.Instr.{Instr}
use Rattle.mage_instr.specs.declared.directive.Directive.{Directive}
use Rattle.mage_instr.specs.declared.directive.MemProgram.{MemProgram}
use Rattle.mage_instr.specs.declared.replaced.Limits.{Limits}
use Rattle.mage_lex.specs.declared.fault.LangFault.TheVariants as language
use Rattle.mage_residency.specs.Carried.{HaveArguments}
use Rattle.mage_sched.specs.Homes.{Homed}
use Rattle.mage_schedulable.specs.Planning.{program_of}
use Rattle.mage_pipe.specs.declared.fault.PlanFault.{PlanFault}
use Rattle.mage_pipe.specs.declared.fault.PlanFault.TheVariants as faults
use Rattle.mage_pipe.specs.Answer.{Fails}
use Rattle.mage_pipe.specs.MemoryProgram.{worker_directives_of, parts_from, joined, memory_program_of}
use Rattle.mage_pipe.specs.Summary.{tight_at}

same_program : (limits : Limits) (a b : List ℕ) (xs ys : List (List Directive)) → a ≡ b → xs ≡ ys
    → ◌≡◌ {A = Result MemProgram PlanFault} (Ok (record { limits = limits; stores = a; workers = xs })) (Ok (record { limits = limits; stores = b; workers = ys }))
same_program limits a b xs ys e f = cc

-- one more worker in front
one_part : (limits : Limits) (stores : List ℕ) (lists : List (List Directive)) (part : Homed) (rest : Result (List Homed) PlanFault)
    → joined limits stores lists (rest >>= (λ others. Ok (part ∷ others))) ≡ joined limits (stores ++ part.count ∷ []) (lists ++ part.directives ∷ []) rest
one_part limits stores lists part (Ok others) =
    same_program limits _ _ _ _ (sym (append_assoc stores (part.count ∷ []) (program_of limits others).stores)) (sym (append_assoc lists (part.directives ∷ []) (program_of limits others).workers))
one_part limits stores lists part (Err fault) = refl

-- Below, `stores` and `lists` are of the workers before worker i, whose instructions are `own`.
module _ (limits : Limits) (workers : List (List Instr)) (stores : List ℕ) (lists : List (List Directive)) (i : ℕ) (own : List Instr) (within : i < length workers) (is : own ≡ get_or workers i own)
    (kept : joined limits stores lists (parts_from limits i (drop i workers)) ≡ memory_program_of limits workers) where
  turn : joined limits stores lists (tight_at i (worker_directives_of limits own) >>= (λ part. parts_from limits (i + 1) (drop (i + 1) workers) >>= (λ others. Ok (part ∷ others)))) ≡ memory_program_of limits workers
  unfolding parts_from
  turn = ap (λ xs. joined limits stores lists (parts_from limits i (xs ∷ drop (i + 1) workers))) is ∙ sym (at_drop_more (λ xs. joined limits stores lists (parts_from limits i xs)) workers i own within) ∙ kept

  -- what worker i does comes behind them
  pub part_taken : (part : Homed) → tight_at i (worker_directives_of limits own) ≡ Ok part
      → joined limits (stores ++ part.count ∷ []) (lists ++ part.directives ∷ []) (parts_from limits (i + 1) (drop (i + 1) workers)) ≡ memory_program_of limits workers
  part_taken part h = sym (one_part limits stores lists part (parts_from limits (i + 1) (drop (i + 1) workers))) ∙ (rw h at turn)

  part_ended : (fault : PlanFault) → tight_at i (worker_directives_of limits own) ≡ Err fault → memory_program_of limits workers ≡ Err fault
  part_ended fault h = sym (rw h at turn)

  -- a fault of worker i is that of the program
  pub part_failed : (fault : PlanFault) → Fails fault (tight_at i (worker_directives_of limits own)) → Fails fault (memory_program_of limits workers)
  part_failed (faults.Lang (language.At kind line column)) h = part_ended (faults.Lang (language.At kind line column)) h
  part_failed (faults.Lang language.Memory) h = absurd h
  part_failed (faults.Tight worker tight) h = part_ended (faults.Tight worker tight) h
  part_failed faults.Memory h = tt

-- behind the last worker there is nothing
pub parts_end : (limits : Limits) (workers : List (List Instr)) (stores : List ℕ) (lists : List (List Directive)) (i : ℕ) → length workers ≤ i
    → joined limits stores lists (parts_from limits i (drop i workers)) ≡ memory_program_of limits workers
    → memory_program_of limits workers ≡ Ok (record { limits = limits; stores = stores; workers = lists })
unfolding parts_from
parts_end limits workers stores lists i past kept =
    sym kept ∙ at_drop_all (λ xs. joined limits stores lists (parts_from limits i xs)) workers i past ∙ same_program limits _ _ _ _ (append-nil stores) (append-nil lists)

-- before the first there is nothing
pub parts_begin : (limits : Limits) (workers : List (List Instr)) (stores : List ℕ) (lists : List (List Directive)) → stores ≡ [] → lists ≡ []
    → joined limits stores lists (parts_from limits 0 workers) ≡ memory_program_of limits workers
unfolding memory_program_of
parts_begin limits workers stores lists e f =
    ap (λ (xs : List ℕ). joined limits xs lists (parts_from limits 0 workers)) e ∙ ap (λ (xs : List (List Directive)). joined limits [] xs (parts_from limits 0 workers)) f

-- one more worker, whose instructions have their arguments
pub have_more : (workers : List (List Instr)) (i : ℕ) (own : List Instr) → i < length workers → own ≡ get_or workers i own → HaveArguments own → ((k : ℕ) → k < i → HaveArguments (get_or workers k []))
    → (k : ℕ) → k < i + 1 → HaveArguments (get_or workers k [])
have_more workers i own within is have before k below = go (cases_eq k i) where
  go : (k ≡ i) ⊎ (k ≡ i → ⊥) → HaveArguments (get_or workers k [])
  go (inl e) =
      let same : own ≡ get_or workers k [] = is ∙ get_or_default workers i own [] within ∙ ap (λ (n : ℕ). get_or workers n []) (sym e) in
      subst HaveArguments same have
  go (inr n) = before k (grind (arith, below, n))

pub have_all : (workers : List (List Instr)) (i : ℕ) → length workers ≤ i → ((k : ℕ) → k < i → HaveArguments (get_or workers k [])) → All HaveArguments workers
have_all workers i past before k d within = subst HaveArguments (get_or_default workers k [] d within) (before k (omega (arith, within, past)))

-- one more instruction
pub argument_more : (instrs : List Instr) (k : ℕ) (other : Instr) → k < length instrs → length (get_or instrs k other).args ≡ 3 → ((t : ℕ) → t < k → IfSome (slice_get instrs t) (λ i. length i.args ≡ 3))
    → (t : ℕ) → t < k + 1 → IfSome (slice_get instrs t) (λ i. length i.args ≡ 3)
argument_more instrs k other within three before t below = go (cases_eq t k) where
  go : (t ≡ k) ⊎ (t ≡ k → ⊥) → IfSome (slice_get instrs t) (λ i. length i.args ≡ 3)
  go (inl e) =
      let here : slice_get instrs t ≡ Some (get_or instrs k other) = ap (slice_get instrs) e ∙ slice_get-get_or instrs k other within in
      rw here three
  go (inr n) = before t (grind (arith, below, n))

pub arguments_end : (instrs : List Instr) (k : ℕ) → length instrs ≤ k → ((t : ℕ) → t < k → IfSome (slice_get instrs t) (λ i. length i.args ≡ 3)) → HaveArguments instrs
arguments_end instrs k past before t = go (cases_lt t (length instrs)) where
  go : (t < length instrs) ⊎ (length instrs ≤ t) → IfSome (slice_get instrs t) (λ i. length i.args ≡ 3)
  go (inl within) = before t (omega (arith, within, past))
  go (inr out) = rw (slice_get_past instrs t out) tt
