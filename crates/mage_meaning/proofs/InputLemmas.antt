-- Inputs have the values that the direct meaning takes.
use Rattle.std.proofs.Common.{◌≡◌, ℕ, zero, suc, Bool, true, false, cond, List, [], ◌∷◌, ◌++◌, map, drop, Option, Some, None, Ok, refl, sym, ap, ◌∙◌, subst}
use Rattle.std.specs.Prelude.{slice_get, slice_index, unsigned_abs}
use Rattle.std.proofs.lemmas.List.{append-nil, append_assoc}
use Rattle.mage_instr.specs.declared.op.Op.TheVariants as op
use Rattle.mage_lex.specs.declared.token.Token.{Token}
use Rattle.mage_tree.specs.declared.tree.ConstExpr.{ConstExpr}
use Rattle.mage_linked.specs.declared.emitted.Emitted.{Emitted}
use Rattle.mage_unroll.specs.declared.state.Variable.{Variable}
use Rattle.mage_constants.specs.Constants.{constant_of}
use Rattle.mage_linked.specs.Workers.{below}
use Rattle.mage_unroll.specs.State as state
use Rattle.mage_linked.specs.Emission.{count_of}
use Rattle.mage_unroll.specs.State.{State, instr_of, defined, stepped}
use Rattle.mage_unroll.specs.Statements.{party_of, inputs, input_of, length_at, named_scalar, named_array}
use Rattle.mage_meaning.specs.declared.known.Known.TheVariants as known
use Rattle.mage_linked.specs.Workers.{list_at, with_at}
use Rattle.mage_meaning.specs.Given.{Given}
use Rattle.mage_meaning.specs.Means.{Running, with_value, after_instr}
use Rattle.mage_meaning.specs.Value as value
use Rattle.mage_meaning.specs.Value.{Moment, wide, first_of, without_first, is_evaluator, taken, after_taking, with_input}
use Rattle.mage_meaning.proofs.Agree.{Stands, StandFor, StandFor-Extends, Agree, SameNames-Extends, stepped-is, Agree-bound, Agree-stepped, constant-Agree}
use Rattle.mage_unroll.proofs.SoundStates.{after_emission, defined_is}
use Rattle.mage_meaning.proofs.EmissionLemmas.{last_value}
use Rattle.mage_chains.proofs.Ends.{then_ok, same_Ok}
use Rattle.mage_constants.specs.Ranges.{size_in}
use Rattle.mage_constants.proofs.RangeLemmas.{size_in-is}
use Rattle.mage_constants.proofs.Trees.{or_fault_ok}
use Rattle.mage_meaning.proofs.Runs.{ran, ran-push, Extends, Extends-ran}
use Rattle.mage_meaning.proofs.WorkerLists.{at-without_first, list_at-without_first, without_none, without_again}

-- ---- input values of one party, the evaluator or the garbler

abbrev values_left : Bool → Moment → List ℕ
values_left test m = list_at (cond test m.evaluator m.garbler) m.worker

abbrev moment_after : Bool → ℕ → Moment → Moment
moment_after test n m = cond test (record m { evaluator = without_first n m.worker m.evaluator }) (record m { garbler = without_first n m.worker m.garbler })

none_taken : (test : Bool) (m : Moment) → moment_after test 0 m ≡ m
none_taken true m = ap (λ l. record m { evaluator = l }) (without_none m.worker m.evaluator)
none_taken false m = ap (λ l. record m { garbler = l }) (without_none m.worker m.garbler)

taken_again : (test : Bool) (n : ℕ) (m : Moment) → moment_after test n (moment_after test 1 m) ≡ moment_after test (suc n) m
taken_again true n m = ap (λ l. record m { evaluator = l }) (without_again n m.worker m.evaluator)
taken_again false n m = ap (λ l. record m { garbler = l }) (without_again n m.worker m.garbler)

worker_after : (test : Bool) (n : ℕ) (m : Moment) → (moment_after test n m).worker ≡ m.worker
worker_after true n m = refl
worker_after false n m = refl

left_after : (test : Bool) (m : Moment) → values_left test (moment_after test 1 m) ≡ drop 1 (values_left test m)
left_after true m = at-without_first 1 m.worker m.evaluator
left_after false m = at-without_first 1 m.worker m.garbler

StandFor-push : (values is xs : List ℕ) (i x : ℕ) → StandFor values is xs → slice_get values i ≡ Some x → StandFor values (is ++ i ∷ []) (xs ++ x ∷ [])
StandFor-push values [] [] i x h e = (e, tt)
StandFor-push values (j ∷ is) (y ∷ xs) i x h e = (h.0, StandFor-push values is xs i x h.1 e)
StandFor-push values [] (y ∷ xs) i x h e = absurd h
StandFor-push values (j ∷ is) [] i x h e = absurd h

module _ (given : Given) (workers : ℕ) where
  -- a state after one more input
  record Takes (test : Bool) (s s' : State) (m : Moment) (width : ℕ) (v : Variable) : Type 0 where
    agree : Agree given workers s' (moment_after test 1 m)
    stands : Stands ((ran given s'.program).values m.worker) v (wide width (slice_index (values_left test m) 0))
    kept : Extends (ran given s.program).values (ran given s'.program).values

  same_drop : (f : ℕ → List ℕ) (lists : List (List ℕ)) (w v : ℕ) → f ≡ list_at lists → w ≡ v → with_at f w (drop 1 (f w)) ≡ list_at (without_first 1 v lists)
  same_drop f lists w v p q =
      ap (λ (h : ℕ → List ℕ). with_at h w (drop 1 (h w))) p ∙ ap (λ u. with_at (list_at lists) u (drop 1 (list_at lists u))) q ∙ sym (list_at-without_first 1 v lists)

  same_first : (f : ℕ → List ℕ) (lists : List (List ℕ)) (w v : ℕ) → f ≡ list_at lists → w ≡ v → slice_index (f w) 0 ≡ slice_index (list_at lists v) 0
  same_first f lists w v p q = ap (λ (h : ℕ → List ℕ). slice_index (h w) 0) p ∙ ap (λ u. slice_index (list_at lists u) 0) q

  Takes-emission : (test : Bool) (s : State) (m : Moment) (width : ℕ) → Agree given workers s m → Takes test s (after_emission s.worker (instr_of op.Input width (0 ∷ 0 ∷ 0 ∷ []) (cond test 1 0)) s) m width (record { width = width; index = count_of s.worker s.program })
  unfolding after_instr
  Takes-emission true s m width a =
      let e : Emitted = record { worker = s.worker; instr = instr_of op.Input width (0 ∷ 0 ∷ 0 ∷ []) 1 } in
      let p = s.program in
      let r = ran given p in
      let now : Running = record r { evaluator = with_at r.evaluator s.worker (drop 1 (r.evaluator s.worker)) } in
      let first = slice_index (r.evaluator s.worker) 0 in
      let run : ran given (p ++ e ∷ []) ≡ with_value s.worker first now = ran-push given p e in
      let kept = Extends-ran given p e in
      let there = last_value given workers p e first now refl run ∙ ap Some (same_first r.evaluator m.evaluator s.worker m.worker a.follows.evaluator_left a.worker) in
      record {
        agree = record {
          worker = a.worker;
          within = a.within;
          count = a.count;
          names = SameNames-Extends given workers p (p ++ e ∷ []) s.scopes m.scopes kept a.names;
          follows = record {
            garbler_left = ap (λ (x : Running). x.garbler) run ∙ a.follows.garbler_left;
            evaluator_left = ap (λ (x : Running). x.evaluator) run ∙ same_drop r.evaluator m.evaluator s.worker m.worker a.follows.evaluator_left a.worker;
            outputs_so_far = ap (λ (x : Running). map x.outputs (below workers)) run ∙ a.follows.outputs_so_far;
            nothing_sent = λ from to. ap (λ (x : Running). x.sent from to) run ∙ a.follows.nothing_sent from to;
          };
        };
        stands = (subst (λ w. slice_get ((ran given (p ++ e ∷ [])).values w) (count_of s.worker p) ≡ Some (slice_index (list_at m.evaluator m.worker) 0)) a.worker there, refl);
        kept = kept;
      }
  Takes-emission false s m width a =
      let e : Emitted = record { worker = s.worker; instr = instr_of op.Input width (0 ∷ 0 ∷ 0 ∷ []) 0 } in
      let p = s.program in
      let r = ran given p in
      let now : Running = record r { garbler = with_at r.garbler s.worker (drop 1 (r.garbler s.worker)) } in
      let first = slice_index (r.garbler s.worker) 0 in
      let run : ran given (p ++ e ∷ []) ≡ with_value s.worker first now = ran-push given p e in
      let kept = Extends-ran given p e in
      let there = last_value given workers p e first now refl run ∙ ap Some (same_first r.garbler m.garbler s.worker m.worker a.follows.garbler_left a.worker) in
      record {
        agree = record {
          worker = a.worker;
          within = a.within;
          count = a.count;
          names = SameNames-Extends given workers p (p ++ e ∷ []) s.scopes m.scopes kept a.names;
          follows = record {
            garbler_left = ap (λ (x : Running). x.garbler) run ∙ same_drop r.garbler m.garbler s.worker m.worker a.follows.garbler_left a.worker;
            evaluator_left = ap (λ (x : Running). x.evaluator) run ∙ a.follows.evaluator_left;
            outputs_so_far = ap (λ (x : Running). map x.outputs (below workers)) run ∙ a.follows.outputs_so_far;
            nothing_sent = λ from to. ap (λ (x : Running). x.sent from to) run ∙ a.follows.nothing_sent from to;
          };
        };
        stands = (subst (λ w. slice_get ((ran given (p ++ e ∷ [])).values w) (count_of s.worker p) ≡ Some (slice_index (list_at m.garbler m.worker) 0)) a.worker there, refl);
        kept = kept;
      }

  Takes-defined : (word : Token) (test : Bool) (s s' : State) (m : Moment) (width : ℕ) (v : Variable) → Agree given workers s m → defined word (instr_of op.Input width (0 ∷ 0 ∷ 0 ∷ []) (cond test 1 0)) s ≡ Ok (v, s') → Takes test s s' m width v
  Takes-defined word test s s' m width v a h =
      let is = defined_is word (instr_of op.Input width (0 ∷ 0 ∷ 0 ∷ []) (cond test 1 0)) s s' v h in
      subst (λ v'. Takes test s s' m width v') is.2
      (subst (λ after. Takes test s after m width (record { width = width; index = count_of s.worker s.program })) is.1 (Takes-emission test s m width a))

  -- the inputs of an array
  inputs-Take : (n : ℕ) (word party : Token) (width : ℕ) (items xs items' : List ℕ) (s s' : State) (m : Moment) → Agree given workers s m → StandFor ((ran given s.program).values m.worker) items xs → inputs n word party width items s ≡ Ok (items', s') → Agree given workers s' (after_taking party n m) × StandFor ((ran given s'.program).values m.worker) items' (xs ++ taken party n m)
  inputs-Take zero word party width items xs items' s s' m a h e =
      let nothing = sym (none_taken (is_evaluator party) m) in
      subst (λ (p : List ℕ × State). Agree given workers p.1 (after_taking party 0 m) × StandFor ((ran given p.1.program).values m.worker) p.0 (xs ++ [])) (same_Ok (items, s) (items', s') e)
      (subst (λ x. Agree given workers s x) nothing a, subst (λ l. StandFor ((ran given s.program).values m.worker) items l) (sym (append-nil xs)) h)
  inputs-Take (suc n) word party width items xs items' s s' m a h e =
      let test = is_evaluator party in
      let b = then_ok (stepped word s) _ (items', s') e in
      let c = then_ok (defined word (instr_of op.Input width (0 ∷ 0 ∷ 0 ∷ []) (party_of party)) b.0) _ (items', s') b.2 in
      let h1 = subst (λ (y : State). StandFor ((ran given y.program).values m.worker) items xs) (stepped-is 1 word s b.0 b.1) h in
      let one = Takes-defined word test b.0 c.0.1 m width c.0.0 (Agree-stepped given workers 1 word s b.0 m a b.1) c.1 in
      let v = (ran given c.0.1.program).values in
      let m1 = moment_after test 1 m in
      let x = slice_index (values_left test m) 0 in
      let h2 = StandFor-push (v m.worker) items xs c.0.0.index x (StandFor-Extends _ (v m.worker) (one.kept m.worker) items xs h1) one.stands.0 in
      let h3 = subst (λ w. StandFor (v w) (items ++ c.0.0.index ∷ []) (xs ++ x ∷ [])) (sym (worker_after test 1 m)) h2 in
      let rest = inputs-Take n word party width (items ++ c.0.0.index ∷ []) (xs ++ x ∷ []) items' c.0.1 s' m1 one.agree h3 c.2 in
      let all = append_assoc xs (x ∷ []) (taken party n m1) ∙ ap (λ l. xs ++ x ∷ first_of n l) (left_after test m) in
      let rest' = subst (λ w. StandFor ((ran given s'.program).values w) items' ((xs ++ x ∷ []) ++ taken party n m1)) (worker_after test 1 m) rest.1 in
      (subst (λ y. Agree given workers s' y) (taken_again test n m) rest.0, subst (λ l. StandFor ((ran given s'.program).values m.worker) items' l) all rest')

  -- ---- the input of a scalar, and of an array

  pub length-Agree : (s : State) (m : Moment) (size : Token × ConstExpr) (n : ℕ) → Agree given workers s m → length_at size s ≡ Ok n → value.number_in size.1 m ≡ n
  unfolding length_at
  length-Agree s m size n a h =
      let z = then_ok (constant_of size.1 (state.constants_of s)) _ n h in
      ap unsigned_abs (constant-Agree given workers s m size.1 z.0 a z.1) ∙ size_in-is z.0 n (or_fault_ok _ size.0 (size_in z.0) n z.2)

  pub input_of-Agree : (size : Option (Token × ConstExpr)) (word party name : Token) (width : ℕ) (s s' : State) (m : Moment) → Agree given workers s m → input_of size word party name width s ≡ Ok s' → Agree given workers s' (with_input size party name width m)
  unfolding input_of with_input
  input_of-Agree None word party name width s s' m a h =
      let test = is_evaluator party in
      let b = then_ok (defined word (instr_of op.Input width (0 ∷ 0 ∷ 0 ∷ []) (party_of party)) s) _ s' h in
      let one = Takes-defined word test s b.0.1 m width b.0.0 a b.1 in
      let x = wide width (slice_index (values_left test m) 0) in
      let stands = subst (λ w. Stands ((ran given b.0.1.program).values w) b.0.0 x) (sym a.worker) one.stands in
      subst (λ y. Agree given workers y (with_input None party name width m)) (same_Ok (state.bound name (named_scalar s.worker b.0.0) b.0.1) s' b.2)
      (Agree-bound given workers b.0.1 (after_taking party 1 m) name (named_scalar s.worker b.0.0) (known.Number x) one.agree (a.within, stands))
  input_of-Agree (Some size) word party name width s s' m a h =
      let n = then_ok (length_at size s) _ s' h in
      let same = length-Agree s m size n.0 a n.1 in
      let items = then_ok (inputs n.0 word party width [] s) _ s' n.2 in
      let both = inputs-Take n.0 word party width [] [] items.0.0 s items.0.1 m a tt items.1 in
      let stand = subst (λ w. StandFor ((ran given items.0.1.program).values w) items.0.0 (taken party n.0 m)) (sym a.worker) both.1 in
      let bound = Agree-bound given workers items.0.1 (after_taking party n.0 m) name (named_array s.worker width items.0.0) (known.Array (record { width = width; values = taken party n.0 m })) both.0 (a.within, refl, stand) in
      subst (λ k. Agree given workers s' (value.bound name (known.Array (record { width = width; values = taken party k m })) (after_taking party k m))) (sym same)
      (subst (λ y. Agree given workers y (value.bound name (known.Array (record { width = width; values = taken party n.0 m })) (after_taking party n.0 m))) (same_Ok (state.bound name (named_array s.worker width items.0.0) items.0.1) s' items.2) bound)
