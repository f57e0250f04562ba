-- When a state of unrolling and a moment of the direct meaning agree: what names stand for is the
-- same, where the variables have the values that the instructions so far give.
use Rattle.std.proofs.Common.{◌≡◌, ℕ, ◌+◌, ◌<◌, List, [], ◌∷◌, map, ℤ, pos, Option, Some, None, Ok, refl, sym, ap, ◌∙◌, subst}
use Rattle.std.proofs.Math.Path.{fun_ext}
use Rattle.std.specs.Prelude.{slice_get, unwrap_or}
use Rattle.std.specs.Result.{result_ok}
use Rattle.mage_lex.specs.declared.token.Token.{Token}
use Rattle.mage_scopes.specs.Scopes.{Meaning, found}
use Rattle.mage_tree.specs.Words.{bytes_of}
use Rattle.mage_tree.specs.declared.tree.ConstExpr.{ConstExpr}
use Rattle.mage_linked.specs.declared.emitted.Emitted.{Emitted}
use Rattle.mage_unroll.specs.declared.state.Named.{Named}
use Rattle.mage_unroll.specs.declared.state.Named.TheVariants as named
use Rattle.mage_unroll.specs.declared.state.Variable.{Variable}
use Rattle.mage_constants.specs.Constants.{constant_of}
use Rattle.mage_unroll.specs.State as state
use Rattle.mage_linked.specs.Workers.{below}
use Rattle.mage_unroll.specs.State.{State, stepped_by}
use Rattle.mage_meaning.specs.declared.known.Known.{Known}
use Rattle.mage_meaning.specs.declared.known.Known.TheVariants as known
use Rattle.mage_meaning.specs.declared.known.Wide.{Wide}
use Rattle.mage_linked.specs.Workers.{list_at}
use Rattle.mage_meaning.specs.Given.{Given}
use Rattle.mage_meaning.specs.Value as value
use Rattle.mage_meaning.specs.Value.{Moment}
use Rattle.mage_chains.proofs.Ends.{cond_ok}
use Rattle.mage_meaning.proofs.Runs.{ran, Extends}
use Rattle.mage_meaning.proofs.ScopeLemmas.{Both, SameScopes, found-Both, with_name-Same, weaker-Same}

-- a variable of a worker with these values stands for a number
abbrev pub Stands : (values : List ℕ) → Variable → Wide → Type 0
Stands values variable number = (slice_get values variable.index ≡ Some number.value) × (variable.width ≡ number.width)

-- the same of some indices and their values
abbrev pub StandFor : (values indices numbers : List ℕ) → Type 0
StandFor values [] [] = Unit {0}
StandFor values (i ∷ is) (x ∷ xs) = (slice_get values i ≡ Some x) × StandFor values is xs
StandFor values [] (x ∷ xs) = ⊥
StandFor values (i ∷ is) [] = ⊥

-- what a name stands for on both sides
abbrev pub Same : (workers : ℕ) → (values : ℕ → List ℕ) → Named → Known → Type 0
Same workers values (named.Constant z) (known.Constant other) = z ≡ other
Same workers values (named.Scalar scalar) (known.Number number) = (scalar.worker < workers) × Stands (values scalar.worker) scalar.variable number
Same workers values (named.Array array) (known.Array row) = (array.worker < workers) × (array.width ≡ row.width) × StandFor (values array.worker) array.items row.values
Same workers values _ _ = ⊥

-- the run of a program comes to these inputs and outputs, with nothing on the way
pub record Follows (given : Given) (workers : ℕ) (program : List Emitted) (garbler evaluator outputs : List (List ℕ)) : Type 0 where
  pub garbler_left : (ran given program).garbler ≡ list_at garbler
  pub evaluator_left : (ran given program).evaluator ≡ list_at evaluator
  pub outputs_so_far : map (ran given program).outputs (below workers) ≡ outputs
  pub nothing_sent : (from to : ℕ) → (ran given program).sent from to ≡ []

abbrev pub SameNames : Given → (workers : ℕ) → List Emitted → List (Meaning Named) → List (Meaning Known) → Type 0
SameNames given workers program = SameScopes Named Known (Same workers (ran given program).values)

pub record Agree (given : Given) (workers : ℕ) (s : State) (m : Moment) : Type 0 where
  pub worker : s.worker ≡ m.worker
  pub within : s.worker < workers
  pub count : s.workers ≡ workers
  pub names : SameNames given workers s.program s.scopes m.scopes
  pub follows : Follows given workers s.program m.garbler m.evaluator m.outputs

-- ---- values that stay

pub StandFor-Extends : (before now : List ℕ) → ((i x : ℕ) → slice_get before i ≡ Some x → slice_get now i ≡ Some x) → (is xs : List ℕ) → StandFor before is xs → StandFor now is xs
StandFor-Extends before now kept [] [] h = tt
StandFor-Extends before now kept (i ∷ is) (x ∷ xs) h = (kept i x h.0, StandFor-Extends before now kept is xs h.1)
StandFor-Extends before now kept [] (x ∷ xs) h = absurd h
StandFor-Extends before now kept (i ∷ is) [] h = absurd h

pub Same-Extends : (workers : ℕ) (before now : ℕ → List ℕ) → Extends before now → (a : Named) (b : Known) → Same workers before a b → Same workers now a b
Same-Extends workers before now kept (named.Constant z) (known.Constant other) h = h
Same-Extends workers before now kept (named.Scalar scalar) (known.Number number) h = (h.0, (kept scalar.worker scalar.variable.index number.value h.1.0, h.1.1))
Same-Extends workers before now kept (named.Array array) (known.Array row) h =
    (h.0, h.1, StandFor-Extends (before array.worker) (now array.worker) (kept array.worker) array.items row.values h.2)
Same-Extends workers before now kept _ _ h = absurd h

pub SameNames-Extends : (given : Given) (workers : ℕ) (before now : List Emitted) (fs : List (Meaning Named)) (gs : List (Meaning Known)) → Extends (ran given before).values (ran given now).values → SameNames given workers before fs gs → SameNames given workers now fs gs
SameNames-Extends given workers before now fs gs kept h =
    weaker-Same Named Known (Same workers (ran given before).values) (Same workers (ran given now).values) (Same-Extends workers (ran given before).values (ran given now).values kept) fs gs h

-- only the steps change
pub stepped-is : (n : ℕ) (word : Token) (s s' : State) → stepped_by n word s ≡ Ok s' → record s { steps = s.steps + n } ≡ s'
stepped-is n word s s' h = (cond_ok _ (record s { steps = s.steps + n }) s' _ h).1

module _ (given : Given) (workers : ℕ) where
  -- ---- names and scopes

  pub Agree-scopes : (s : State) (m : Moment) (fs : List (Meaning Named)) (gs : List (Meaning Known)) → Agree given workers s m → SameNames given workers s.program fs gs → Agree given workers (record s { scopes = fs }) (record m { scopes = gs })
  Agree-scopes s m fs gs a h = record { worker = a.worker; within = a.within; count = a.count; names = h; follows = a.follows }

  pub Agree-bound : (s : State) (m : Moment) (name : Token) (x : Named) (y : Known) → Agree given workers s m → Same workers (ran given s.program).values x y → Agree given workers (state.bound name x s) (value.bound name y m)
  Agree-bound s m name x y a h =
      Agree-scopes s m _ _ a (with_name-Same Named Known (Same workers (ran given s.program).values) s.scopes m.scopes (bytes_of name) x y h a.names)

  pub Agree-steps : (s : State) (m : Moment) (n : ℕ) → Agree given workers s m → Agree given workers (record s { steps = n }) m
  Agree-steps s m n a = record { worker = a.worker; within = a.within; count = a.count; names = a.names; follows = a.follows }

  pub Agree-stepped : (n : ℕ) (word : Token) (s s' : State) (m : Moment) → Agree given workers s m → stepped_by n word s ≡ Ok s' → Agree given workers s' m
  Agree-stepped n word s s' m a h = subst (λ x. Agree given workers x m) (stepped-is n word s s' h) (Agree-steps s m (s.steps + n) a)

  as_constant-Both : (values : ℕ → List ℕ) (x : Option Named) (y : Option Known) → Both Named Known (Same workers values) x y → state.as_constant x ≡ value.as_constant y
  as_constant-Both values None None h = refl
  as_constant-Both values (Some (named.Constant z)) (Some (known.Constant other)) h = ap Some h
  as_constant-Both values (Some (named.Scalar scalar)) (Some (known.Number number)) h = refl
  as_constant-Both values (Some (named.Array array)) (Some (known.Array row)) h = refl
  as_constant-Both values _ _ h = absurd h

  pub same_found : (s : State) (m : Moment) (name : List ℕ) → Agree given workers s m → Both Named Known (Same workers (ran given s.program).values) (found s.scopes name) (found m.scopes name)
  same_found s m name a = found-Both Named Known (Same workers (ran given s.program).values) s.scopes m.scopes name a.names

  pub same_constants : (s : State) (m : Moment) → Agree given workers s m → state.constants_of s ≡ value.constants_of m
  same_constants s m a = fun_ext (λ name. as_constant-Both (ran given s.program).values (found s.scopes name) (found m.scopes name) (same_found s m name a))

  -- a constant is the same on both sides
  pub constant-Agree : (s : State) (m : Moment) (e : ConstExpr) (z : ℤ) → Agree given workers s m → constant_of e (state.constants_of s) ≡ Ok z → value.constant_in e m ≡ z
  constant-Agree s m e z a h =
      ap (λ names. unwrap_or (result_ok (constant_of e names)) (pos 0)) (sym (same_constants s m a)) ∙ ap (λ r. unwrap_or (result_ok r) (pos 0)) h
