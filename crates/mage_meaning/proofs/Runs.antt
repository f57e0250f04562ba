-- The run of emitted instructions, one after the other. It only adds to the values of the workers.
use Rattle.std.proofs.Common.{◌≡◌, ℕ, zero, suc, ◌+◌, Bool, true, false, cond, eqb, List, [], ◌∷◌, ◌++◌, length, Some, refl, sym, ap, ◌∙◌, subst, ⊎_elim, arith}
use Rattle.std.specs.Prelude.{slice_get}
use Rattle.std.specs.List.{filter}
use Rattle.std.proofs.lemmas.Bool.{cases_eq, cond-true, cond-false, eq-eqb, ne_eqb}
use Rattle.std.proofs.lemmas.List.{length-append}
use Rattle.mage_linked.proofs.WorkerLemmas.{with_at-same, with_at-other}
use Rattle.mage_instr.specs.declared.instr.Instr.{Instr}
use Rattle.mage_instr.specs.declared.op.Op.{Op}
use Rattle.mage_instr.specs.declared.op.Op.TheVariants as op
use Rattle.mage_linked.specs.declared.emitted.Emitted.{Emitted}
use Rattle.mage_linked.specs.Emission.{count_of}
use Rattle.mage_linked.specs.Workers.{with_at}
use Rattle.mage_meaning.specs.Given.{Given}
use Rattle.mage_meaning.specs.Means.{Running, acted, after_instr, run_all, start}

-- ---- runs

run_all-append : (es fs : List Emitted) (r : Running) → run_all (es ++ fs) r ≡ run_all fs (run_all es r)
run_all-append [] fs r = refl
run_all-append (e ∷ es) fs r = run_all-append es fs (after_instr e.worker e.instr r)

-- what is known once these instructions are done
abbrev pub ran : Given → List Emitted → Running
ran given program = run_all program (start given)

pub ran-push : (given : Given) (program : List Emitted) (e : Emitted) → ran given (program ++ e ∷ []) ≡ after_instr e.worker e.instr (ran given program)
ran-push given program e = run_all-append program (e ∷ []) (start given)

-- ---- each instruction adds one value

abbrev Adds : (worker : ℕ) → Running → Running → Type 0
Adds worker r r' = (value : ℕ) × (r'.values ≡ with_at r.values worker (r.values worker ++ value ∷ []))

cond-Adds : (test : Bool) (worker : ℕ) (r a b : Running) → Adds worker r a → Adds worker r b → Adds worker r (cond test a b)
cond-Adds true worker r a b h k = h
cond-Adds false worker r a b h k = k

acted-Adds : (o : Op) (worker : ℕ) (i : Instr) (r : Running) → Adds worker r (acted o worker i r)
acted-Adds op.Input worker i r = cond-Adds (eqb i.imm 0) worker r _ _ (_, refl) (_, refl)
acted-Adds op.Output worker i r = (_, refl)
acted-Adds op.Send worker i r = (_, refl)
acted-Adds op.Recv worker i r = (_, refl)
acted-Adds op.Const worker i r = (_, refl)
acted-Adds op.Add worker i r = (_, refl)
acted-Adds op.Sub worker i r = (_, refl)
acted-Adds op.Mul worker i r = (_, refl)
acted-Adds op.And worker i r = (_, refl)
acted-Adds op.Or worker i r = (_, refl)
acted-Adds op.Xor worker i r = (_, refl)
acted-Adds op.Not worker i r = (_, refl)
acted-Adds op.Eq worker i r = (_, refl)
acted-Adds op.Lt worker i r = (_, refl)
acted-Adds op.Mux worker i r = (_, refl)
acted-Adds op.Shl worker i r = (_, refl)
acted-Adds op.Shr worker i r = (_, refl)
acted-Adds op.Resize worker i r = (_, refl)
acted-Adds op.Div worker i r = (_, refl)
acted-Adds op.Rem worker i r = (_, refl)
acted-Adds op.Count worker i r = (_, refl)
acted-Adds op.Min worker i r = (_, refl)
acted-Adds op.Max worker i r = (_, refl)

after_instr-Adds : (worker : ℕ) (i : Instr) (r : Running) → Adds worker r (after_instr worker i r)
unfolding after_instr
after_instr-Adds worker i r = acted-Adds i.op worker i r

-- ---- how many values there are

length_one_more : (worker w : ℕ) (f : ℕ → List ℕ) (value : ℕ) → length (with_at f worker (f worker ++ value ∷ []) w) ≡ cond (eqb worker w) (suc (length (f w))) (length (f w))
length_one_more worker w f value = ⊎_elim (λ e. same e) other (cases_eq worker w)
  where
    same : worker ≡ w → length (with_at f worker (f worker ++ value ∷ []) w) ≡ cond (eqb worker w) (suc (length (f w))) (length (f w))
    same e =
        let here : length (with_at f worker (f worker ++ value ∷ []) worker) ≡ suc (length (f worker)) = rw with_at-same (omega (arith, length-append (f worker) (value ∷ []))) in
        let there = sym (cond-true (eqb worker worker) (suc (length (f worker))) (length (f worker)) (eq-eqb worker worker refl)) in
        subst (λ v. length (with_at f worker (f worker ++ value ∷ []) v) ≡ cond (eqb worker v) (suc (length (f v))) (length (f v))) e (here ∙ there)

    other : (worker ≡ w → ⊥) → length (with_at f worker (f worker ++ value ∷ []) w) ≡ cond (eqb worker w) (suc (length (f w))) (length (f w))
    other h = ap length (with_at-other f worker (f worker ++ value ∷ []) w (λ e. h (sym e))) ∙ sym (cond-false (eqb worker w) (suc (length (f w))) (length (f w)) (ne_eqb worker w h))

length_after : (e : Emitted) (r : Running) (w : ℕ) → length ((after_instr e.worker e.instr r).values w) ≡ cond (eqb e.worker w) (suc (length (r.values w))) (length (r.values w))
length_after e r w =
    let adds = after_instr-Adds e.worker e.instr r in
    ap (λ f. length (f w)) adds.1 ∙ length_one_more e.worker w r.values adds.0

count_step : (test : Bool) (e : Emitted) (n : ℕ) (own : List Emitted) → cond test (suc n) n + length own ≡ n + length (cond test (e ∷ own) own)
count_step true e n own = omega arith
count_step false e n own = refl

length_run_all : (es : List Emitted) (r : Running) (w : ℕ) → length ((run_all es r).values w) ≡ length (r.values w) + count_of w es
length_run_all [] r w = omega arith
length_run_all (e ∷ es) r w =
    length_run_all es (after_instr e.worker e.instr r) w
    ∙ ap (λ n. n + count_of w es) (length_after e r w)
    ∙ count_step (eqb e.worker w) e (length (r.values w)) (filter (λ x. eqb x.worker w) es)

-- a worker has a value for each of its instructions
pub length_ran : (given : Given) (program : List Emitted) (w : ℕ) → length ((ran given program).values w) ≡ count_of w program
length_ran given program w = length_run_all program (start given) w ∙ (omega arith)

-- ---- values that stay

abbrev pub Extends : (ℕ → List ℕ) → (ℕ → List ℕ) → Type 0
Extends before now = (worker i x : ℕ) → slice_get (before worker) i ≡ Some x → slice_get (now worker) i ≡ Some x

slice_get_append : (xs ys : List ℕ) (i x : ℕ) → slice_get xs i ≡ Some x → slice_get (xs ++ ys) i ≡ Some x
slice_get_append [] ys i x h = cc
slice_get_append (y ∷ xs) ys zero x h = h
slice_get_append (y ∷ xs) ys (suc i) x h = slice_get_append xs ys i x h

pub slice_get_last : (xs : List ℕ) (x : ℕ) → slice_get (xs ++ x ∷ []) (length xs) ≡ Some x
slice_get_last [] x = refl
slice_get_last (y ∷ xs) x = slice_get_last xs x

Extends-with_at : (f : ℕ → List ℕ) (worker value : ℕ) → Extends f (with_at f worker (f worker ++ value ∷ []))
Extends-with_at f worker value w i x h = ⊎_elim same other (cases_eq w worker)
  where
    same : w ≡ worker → slice_get (with_at f worker (f worker ++ value ∷ []) w) i ≡ Some x
    same e =
        let h' : slice_get (f worker) i ≡ Some x = subst (λ v. slice_get (f v) i ≡ Some x) e h in
        let here = ap (λ l. slice_get l i) (with_at-same f worker (f worker ++ value ∷ [])) ∙ slice_get_append (f worker) (value ∷ []) i x h' in
        subst (λ v. slice_get (with_at f worker (f worker ++ value ∷ []) v) i ≡ Some x) (sym e) here

    other : (w ≡ worker → ⊥) → slice_get (with_at f worker (f worker ++ value ∷ []) w) i ≡ Some x
    other k = ap (λ l. slice_get l i) (with_at-other f worker (f worker ++ value ∷ []) w k) ∙ h

pub Extends-ran : (given : Given) (program : List Emitted) (e : Emitted) → Extends (ran given program).values (ran given (program ++ e ∷ [])).values
Extends-ran given program e =
    let r = ran given program in
    let adds = after_instr-Adds e.worker e.instr r in
    subst (λ r'. Extends r.values r'.values) (sym (ran-push given program e))
    (subst (λ f. Extends r.values f) (sym adds.1) (Extends-with_at r.values e.worker adds.0))
