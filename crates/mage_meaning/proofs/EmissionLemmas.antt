-- An instruction that is emitted gives the value that the direct meaning has for it.
use Rattle.std.proofs.Common.{◌≡◌, ℕ, ◌<◌, List, [], ◌∷◌, ◌++◌, map, length, Some, Ok, refl, sym, ap, ◌∙◌, subst}
use Rattle.std.specs.Prelude.{slice_get, slice_index}
use Rattle.std.proofs.lemmas.Option.{get_or_from_slice_get}
use Rattle.mage_instr.specs.Opcodes.{width_of_result}
use Rattle.mage_instr.specs.declared.instr.Instr.{Instr}
use Rattle.mage_instr.specs.declared.op.Op.{Op}
use Rattle.mage_lex.specs.declared.token.Token.{Token}
use Rattle.mage_linked.specs.declared.emitted.Emitted.{Emitted}
use Rattle.mage_unroll.specs.declared.state.Variable.{Variable}
use Rattle.mage_linked.specs.Workers.{below}
use Rattle.mage_linked.specs.Emission.{count_of}
use Rattle.mage_unroll.specs.State.{State, defined}
use Rattle.mage_meaning.specs.declared.known.Wide.{Wide}
use Rattle.mage_meaning.specs.Given.{Given}
use Rattle.mage_instr.specs.Computed.{computed}
use Rattle.mage_meaning.specs.Means.{Running, with_value, acted, arg, after_instr}
use Rattle.mage_meaning.specs.Value.{Moment}
use Rattle.mage_meaning.proofs.Agree.{Stands, Follows, Agree, SameNames-Extends}
use Rattle.mage_unroll.proofs.SoundStates.{after_emission, defined_is}
use Rattle.mage_linked.proofs.WorkerLemmas.{with_at-same}
use Rattle.mage_meaning.proofs.Runs.{ran, ran-push, length_ran, slice_get_last, Extends, Extends-ran}

-- a state after the variable of a number is known
pub record Evaluates (given : Given) (workers : ℕ) (s s' : State) (m : Moment) (variable : Variable) (number : Wide) : Type 0 where
  pub agree : Agree given workers s' m
  pub stands : Stands ((ran given s'.program).values m.worker) variable number
  pub kept : Extends (ran given s.program).values (ran given s'.program).values
  pub same_scopes : s'.scopes ≡ s.scopes

-- an opcode that computes on its arguments
abbrev pub Computes : Op → Type 0
Computes o = (worker : ℕ) (i : Instr) (r : Running) → acted o worker i r ≡ with_value worker (computed o i.width i.imm (arg r worker i 0) (arg r worker i 1) (arg r worker i 2)) r

module _ (given : Given) (workers : ℕ) where
  pub then_Evaluates : (s1 s2 s3 : State) (m : Moment) (a b : Variable) (x y : Wide) → Evaluates given workers s1 s2 m a x → Evaluates given workers s2 s3 m b y → Evaluates given workers s1 s3 m b y
  then_Evaluates s1 s2 s3 m a b x y h k =
      record { agree = k.agree; stands = k.stands; kept = λ w i z e. k.kept w i z (h.kept w i z e); same_scopes = k.same_scopes ∙ h.same_scopes }

  pub Stands-Extends : (s s' : State) (worker : ℕ) (a : Variable) (x : Wide) → Extends (ran given s.program).values (ran given s'.program).values → Stands ((ran given s.program).values worker) a x → Stands ((ran given s'.program).values worker) a x
  Stands-Extends s s' worker a x kept h = (kept worker a.index x.value h.0, h.1)

  -- the value of a variable
  pub value_of_variable : (s : State) (worker : ℕ) (a : Variable) (x : Wide) → Stands ((ran given s.program).values worker) a x → slice_index ((ran given s.program).values worker) a.index ≡ x.value
  value_of_variable s worker a x h = get_or_from_slice_get ((ran given s.program).values worker) a.index x.value 0 h.0

  -- the value of the last instruction
  pub last_value : (program : List Emitted) (e : Emitted) (value : ℕ) (r : Running) → r.values ≡ (ran given program).values → ran given (program ++ e ∷ []) ≡ with_value e.worker value r → slice_get ((ran given (program ++ e ∷ [])).values e.worker) (count_of e.worker program) ≡ Some value
  last_value program e value r same h =
      let now = ap (λ (x : Running). x.values e.worker) h ∙ with_at-same r.values e.worker (r.values e.worker ++ value ∷ []) in
      let n = ap (λ (f : ℕ → List ℕ). length (f e.worker)) same ∙ length_ran given program e.worker in
      ap (λ l. slice_get l (count_of e.worker program)) now ∙ ap (λ k. slice_get (r.values e.worker ++ value ∷ []) k) (sym n) ∙ slice_get_last (r.values e.worker) value

  -- an instruction that computes keeps what is known of the inputs and the outputs
  Follows-value : (program : List Emitted) (e : Emitted) (value : ℕ) (g ev o : List (List ℕ)) → ran given (program ++ e ∷ []) ≡ with_value e.worker value (ran given program) → e.worker < workers → Follows given workers program g ev o → Follows given workers (program ++ e ∷ []) g ev o
  Follows-value program e value g ev o h in_range f =
      record {
        garbler_left = ap (λ (x : Running). x.garbler) h ∙ f.garbler_left;
        evaluator_left = ap (λ (x : Running). x.evaluator) h ∙ f.evaluator_left;
        outputs_so_far = ap (λ (x : Running). map x.outputs (below workers)) h ∙ f.outputs_so_far;
        nothing_sent = λ from to. ap (λ (x : Running). x.sent from to) h ∙ f.nothing_sent from to;
      }

  -- an instruction of the current worker that computes
  pub Evaluates-emission : (s : State) (m : Moment) (i : Instr) (x : Wide) → Agree given workers s m → Computes i.op → width_of_result i.op i.width ≡ x.width → computed i.op i.width i.imm (arg (ran given s.program) s.worker i 0) (arg (ran given s.program) s.worker i 1) (arg (ran given s.program) s.worker i 2) ≡ x.value → Evaluates given workers s (after_emission s.worker i s) m (record { width = width_of_result i.op i.width; index = count_of s.worker s.program }) x
  unfolding after_instr
  Evaluates-emission s m i x a computes width value =
      let e : Emitted = record { worker = s.worker; instr = i } in
      let r = ran given s.program in
      let run = ran-push given s.program e ∙ computes s.worker i r ∙ ap (λ n. with_value s.worker n r) value in
      let kept = Extends-ran given s.program e in
      let there = last_value s.program e x.value r refl run in
      record {
        agree = record {
          worker = a.worker;
          within = a.within;
          count = a.count;
          names = SameNames-Extends given workers s.program (s.program ++ e ∷ []) s.scopes m.scopes kept a.names;
          follows = Follows-value s.program e x.value m.garbler m.evaluator m.outputs run a.within a.follows;
        };
        stands = (subst (λ w. slice_get ((ran given (s.program ++ e ∷ [])).values w) (count_of s.worker s.program) ≡ Some x.value) a.worker there, width);
        kept = kept;
        same_scopes = refl;
      }

  pub Evaluates-defined : (word : Token) (i : Instr) (s s' : State) (m : Moment) (v : Variable) (x : Wide) → Agree given workers s m → Computes i.op → width_of_result i.op i.width ≡ x.width → computed i.op i.width i.imm (arg (ran given s.program) s.worker i 0) (arg (ran given s.program) s.worker i 1) (arg (ran given s.program) s.worker i 2) ≡ x.value → defined word i s ≡ Ok (v, s') → Evaluates given workers s s' m v x
  Evaluates-defined word i s s' m v x a computes width value h =
      let is = defined_is word i s s' v h in
      subst (λ v'. Evaluates given workers s s' m v' x) is.2
      (subst (λ after. Evaluates given workers s after m (record { width = width_of_result i.op i.width; index = count_of s.worker s.program }) x) is.1 (Evaluates-emission s m i x a computes width value))
