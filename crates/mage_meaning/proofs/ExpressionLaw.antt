-- The variable of an expression has the expression's number.
use Rattle.std.proofs.Common.{mod-eq_of_lt, Option, Some, None, ◌≡◌, ℕ, ◌+◌, Bool, true, false, cond, eqb, List, [], ◌∷◌, map, Ok, refl, sym, ap, ◌∙◌, subst, arith}
use Rattle.std.specs.Prelude.{◌^◌, ◌<◌, min, slice_index, unsigned_abs}
use Rattle.std.proofs.lemmas.Bool.{eqb-true}
use Rattle.mage_bits.specs.Modular as modular
use Rattle.mage_instr.specs.Computed.{computed}
use Rattle.mage_instr.specs.Opcodes.{greatest_width, width_of_result}
use Rattle.mage_instr.specs.declared.op.Op.{Op}
use Rattle.mage_instr.specs.declared.op.Op.TheVariants as op
use Rattle.mage_lex.specs.Symbols.{EQUALS, SHIFT_LEFT, SHIFT_RIGHT, LESS, PLUS, MINUS, TIMES, DIVIDE, REMAINDER, AND, XOR, OR}
use Rattle.mage_lex.specs.declared.fault.LangKind.TheVariants as wrong
use Rattle.mage_lex.specs.declared.token.Token.{Token}
use Rattle.mage_tree.specs.Words.{bytes_of, callable_of}
use Rattle.mage_tree.specs.declared.class.Callable.{Callable}
use Rattle.mage_tree.specs.declared.class.Callable.TheVariants as callable
use Rattle.mage_tree.specs.declared.tree.ConstExpr.{ConstExpr}
use Rattle.mage_tree.specs.declared.tree.Expr.{Expr, map-Expr, roll-Expr}
use Rattle.mage_tree.specs.declared.tree.Expr.TheOpen.{Expr-F}
use Rattle.mage_tree.specs.declared.tree.Expr.TheFolds.{fold-roll-Expr, ind-Expr}
use Rattle.mage_unroll.specs.declared.state.Variable.{Variable}
use Rattle.mage_constants.specs.Answer.{or_fault}
use Rattle.mage_constants.specs.Tokens.{row_of}
use Rattle.mage_constants.specs.Constants.{constant_of}
use Rattle.mage_unroll.specs.State as state
use Rattle.mage_unroll.specs.State.{State, instr_of, defined, own_place, width_at, is_as_wide}
use Rattle.mage_unroll.specs.Expressions as unroll
use Rattle.mage_unroll.specs.Expressions.{ExprMeaning, op_of, shift_of, amount_in, literal_in, expr_layer, variable_of}
use Rattle.mage_meaning.specs.declared.known.Wide.{Wide}
use Rattle.mage_meaning.specs.Given.{Given}
use Rattle.mage_meaning.specs.Means.{arg}
use Rattle.mage_meaning.specs.Value as value
use Rattle.mage_meaning.specs.Value.{Moment, wide, ExprValue, value_layer, number_of_expr}
use Rattle.mage_meaning.proofs.Agree.{Stands, Agree, constant-Agree}
use Rattle.mage_meaning.proofs.EmissionLemmas.{Evaluates, Computes, then_Evaluates, Stands-Extends, value_of_variable, Evaluates-defined}
use Rattle.mage_unroll.proofs.SoundExpressions.{below_power}
use Rattle.mage_unroll.proofs.SoundPlaces.{own_place-is}
use Rattle.mage_unroll.specs.Limits.{LITERAL_BITS}
use Rattle.mage_meaning.proofs.PlaceLemmas.{place_of-Held, width_at-is}
use Rattle.mage_chains.proofs.Ends.{cond_ok, then_ok, same_Ok, same_Some, err_not_ok, none_not_some}
use Rattle.mage_constants.proofs.Trees.{or_fault_ok}
use Rattle.mage_constants.proofs.RangeLemmas.{number_below-is}
use Rattle.mage_meaning.proofs.Runs.{ran, Extends}

-- ---- the opcode of each operator

-- an opcode of this width gives this number from x, y and imm
record Fits (o : Op) (width imm x y : ℕ) (number : Wide) : Type 0 where
  computes : Computes o
  width_is : width_of_result o width ≡ number.width
  value_is : (z : ℕ) → computed o width imm x y z ≡ number.value

cond-Fits : (test : Bool) (o : Op) (other : Option Op) (width imm x y : ℕ) (a b : Wide) → Fits o width imm x y a → ((p : Op) → other ≡ Some p → Fits p width imm x y b) → (p : Op) → cond test (Some o) other ≡ Some p → Fits p width imm x y (cond test a b)
cond-Fits true o other width imm x y a b h k p e = subst (λ q. Fits q width imm x y a) (same_Some o p e) h
cond-Fits false o other width imm x y a b h k p e = k p e

op_of-Fits : (token : Token) (a b : Wide) (o : Op) → op_of token ≡ Some o → Fits o a.width 0 a.value b.value (value.combined token a b)
unfolding op_of value.combined
op_of-Fits token a b =
    let row = row_of token in
    let w = a.width in
    let x = a.value in
    let y = b.value in
    cond-Fits (eqb row PLUS) op.Add _ w 0 x y _ _ (record { computes = λ w i r. refl; width_is = refl; value_is = λ z. refl }) (
    cond-Fits (eqb row MINUS) op.Sub _ w 0 x y _ _ (record { computes = λ w i r. refl; width_is = refl; value_is = λ z. refl }) (
    cond-Fits (eqb row TIMES) op.Mul _ w 0 x y _ _ (record { computes = λ w i r. refl; width_is = refl; value_is = λ z. refl }) (
    cond-Fits (eqb row DIVIDE) op.Div _ w 0 x y _ _ (record { computes = λ w i r. refl; width_is = refl; value_is = λ z. refl }) (
    cond-Fits (eqb row REMAINDER) op.Rem _ w 0 x y _ _ (record { computes = λ w i r. refl; width_is = refl; value_is = λ z. refl }) (
    cond-Fits (eqb row AND) op.And _ w 0 x y _ _ (record { computes = λ w i r. refl; width_is = refl; value_is = λ z. refl }) (
    cond-Fits (eqb row XOR) op.Xor _ w 0 x y _ _ (record { computes = λ w i r. refl; width_is = refl; value_is = λ z. refl }) (
    cond-Fits (eqb row OR) op.Or _ w 0 x y _ _ (record { computes = λ w i r. refl; width_is = refl; value_is = λ z. refl }) (
    cond-Fits (eqb row EQUALS) op.Eq _ w 0 x y _ _ (record { computes = λ w i r. refl; width_is = refl; value_is = λ z. refl }) (
    cond-Fits (eqb row LESS) op.Lt _ w 0 x y _ _ (record { computes = λ w i r. refl; width_is = refl; value_is = λ z. refl }) (
    λ p e. absurd (none_not_some p e)))))))))))

shift_of-Fits : (token : Token) (a : Wide) (amount y : ℕ) (o : Op) → shift_of token ≡ Some o → Fits o a.width amount a.value y (value.shifted token a amount)
unfolding shift_of value.shifted
shift_of-Fits token a amount y =
    let row = row_of token in
    cond-Fits (eqb row SHIFT_LEFT) op.Shl _ a.width amount a.value y _ _ (record { computes = λ w i r. refl; width_is = refl; value_is = λ z. refl }) (
    cond-Fits (eqb row SHIFT_RIGHT) op.Shr _ a.width amount a.value y _ _ (record { computes = λ w i r. refl; width_is = refl; value_is = λ z. refl }) (
    λ p e. absurd (none_not_some p e)))

same_computed : (o : Op) (w w' imm x x' y y' z : ℕ) → w ≡ w' → x ≡ x' → y ≡ y' → computed o w imm x y z ≡ computed o w' imm x' y' z
same_computed o w w' imm x x' y y' z p q r = cc

same_choice : (x x' y y' z z' : ℕ) → x ≡ x' → y ≡ y' → z ≡ z' → cond (eqb x 1) y z ≡ cond (eqb x' 1) y' z'
same_choice x x' y y' z z' p q r = cc

cond-width : (test : Bool) (width : ℕ) (y z : Wide) → width ≡ y.width → width ≡ z.width → width ≡ (cond test y z).width
cond-width true width y z p q = p
cond-width false width y z p q = q

cond-value : (test : Bool) (y z : Wide) → (cond test y z).value ≡ cond test y.value z.value
cond-value true y z = refl
cond-value false y z = refl

-- variables stand for numbers, one for each
abbrev AllStand : (values : List ℕ) → List Variable → List Wide → Type 0
AllStand values [] [] = Unit {0}
AllStand values (v ∷ vs) (x ∷ xs) = Stands values v x × AllStand values vs xs
AllStand values [] (x ∷ xs) = ⊥
AllStand values (v ∷ vs) [] = ⊥

module _ (given : Given) (workers : ℕ) where
  -- where an expression has a variable, this has the expression's number
  abbrev pub ExprLaw : ExprMeaning → ExprValue → Type 0
  ExprLaw meaning number = (word : Token) (s s' : State) (m : Moment) (v : Variable) → Agree given workers s m → meaning word s ≡ Ok (v, s') → Evaluates given workers s s' m v (number m)

  -- the value of an argument
  arg-is : (s : State) (m : Moment) (a : Variable) (x : Wide) → Agree given workers s m → Stands ((ran given s.program).values m.worker) a x → slice_index ((ran given s.program).values s.worker) a.index ≡ x.value
  arg-is s m a x agree h = ap (λ w. slice_index ((ran given s.program).values w) a.index) agree.worker ∙ value_of_variable given workers s m.worker a x h

  -- an instruction on two variables, of which the second may be none
  applied : (o : Op) (word : Token) (a : Variable) (index imm y : ℕ) (x n : Wide) (s s' : State) (m : Moment) (v : Variable) → Agree given workers s m → Stands ((ran given s.program).values m.worker) a x → slice_index ((ran given s.program).values s.worker) index ≡ y → Fits o x.width imm x.value y n → defined word (instr_of o a.width (a.index ∷ index ∷ 0 ∷ []) imm) s ≡ Ok (v, s') → Evaluates given workers s s' m v n
  applied o word a index imm y x n s s' m v agree stands there fits h =
      let r = ran given s.program in
      let i = instr_of o a.width (a.index ∷ index ∷ 0 ∷ []) imm in
      Evaluates-defined given workers word i s s' m v n agree fits.computes (ap (width_of_result o) stands.1 ∙ fits.width_is)
      (same_computed o a.width x.width imm _ x.value _ y (arg r s.worker i 2) stands.1 (arg-is s m a x agree stands) there ∙ fits.value_is (arg r s.worker i 2)) h

  one-Evaluates : (o : Op) (word : Token) (a : Variable) (imm : ℕ) (x n : Wide) (s s' : State) (m : Moment) (v : Variable) → Agree given workers s m → Stands ((ran given s.program).values m.worker) a x → ((y : ℕ) → Fits o x.width imm x.value y n) → unroll.of_one o word a imm s ≡ Ok (v, s') → Evaluates given workers s s' m v n
  one-Evaluates o word a imm x n s s' m v agree ha fits h = applied o word a 0 imm _ x n s s' m v agree ha refl (fits _) h

  two-Evaluates : (o : Op) (word token : Token) (a b : Variable) (x y n : Wide) (s s' : State) (m : Moment) (v : Variable) → Agree given workers s m → Stands ((ran given s.program).values m.worker) a x → Stands ((ran given s.program).values m.worker) b y → Fits o x.width 0 x.value y.value n → unroll.of_two o word token a b s ≡ Ok (v, s') → Evaluates given workers s s' m v n
  unfolding unroll.of_two
  two-Evaluates o word token a b x y n s s' m v agree ha hb fits h =
      let same = then_ok (is_as_wide token a.width b.width) _ (v, s') h in
      applied o word a b.index 0 y.value x n s s' m v agree ha (arg-is s m b y agree hb) fits same.2

  combined-Evaluates : (word token : Token) (a b : Variable) (x y : Wide) (s s' : State) (m : Moment) (v : Variable) → Agree given workers s m → Stands ((ran given s.program).values m.worker) a x → Stands ((ran given s.program).values m.worker) b y → unroll.combined word token a b s ≡ Ok (v, s') → Evaluates given workers s s' m v (value.combined token x y)
  unfolding unroll.combined
  combined-Evaluates word token a b x y s s' m v agree ha hb h =
      let o = then_ok (or_fault wrong.WidthDiffers token (op_of token)) _ (v, s') h in
      let fits = op_of-Fits token x y o.0 (or_fault_ok _ token (op_of token) o.0 o.1) in
      two-Evaluates o.0 word token a b x y (value.combined token x y) s s' m v agree ha hb fits o.2

  shifted-Evaluates : (word token : Token) (amount : ConstExpr) (a : Variable) (x : Wide) (s s' : State) (m : Moment) (v : Variable) → Agree given workers s m → Stands ((ran given s.program).values m.worker) a x → unroll.shifted word token amount a s ≡ Ok (v, s') → Evaluates given workers s s' m v (value.shifted token x (value.number_in amount m))
  unfolding unroll.shifted
  shifted-Evaluates word token amount a x s s' m v agree ha h =
      let z = then_ok (constant_of amount (state.constants_of s)) _ (v, s') h in
      let places = then_ok _ _ (v, s') z.2 in
      let o = then_ok (or_fault wrong.WidthDiffers token (shift_of token)) _ (v, s') places.2 in
      let n = (number_below-is (greatest_width + 1) z.0 places.0 (or_fault_ok _ token (amount_in z.0) places.0 places.1)).0 in
      let e = ap unsigned_abs (constant-Agree given workers s m amount z.0 agree z.1) ∙ n in
      subst (λ k. Evaluates given workers s s' m v (value.shifted token x k)) (sym e)
      (one-Evaluates o.0 word a places.0 x (value.shifted token x places.0) s s' m v agree ha (λ y. shift_of-Fits token x places.0 y o.0 (or_fault_ok _ token (shift_of token) o.0 o.1)) o.2)

  -- ---- chains and choices

  Evaluates-nothing : (a : Variable) (x : Wide) (s s' : State) (m : Moment) (v : Variable) → Agree given workers s m → Stands ((ran given s.program).values m.worker) a x → ◌≡◌ {A = Variable × State} (a, s) (v, s') → Evaluates given workers s s' m v x
  Evaluates-nothing a x s s' m v agree ha same =
      subst (λ (p : Variable × State). Evaluates given workers s p.1 m p.0 x) same (record { agree = agree; stands = ha; kept = λ w i z e. e; same_scopes = refl })

  all_shifted-Evaluates : (terms : List (Token × ConstExpr)) (word : Token) (a : Variable) (x : Wide) (s s' : State) (m : Moment) (v : Variable) → Agree given workers s m → Stands ((ran given s.program).values m.worker) a x → unroll.all_shifted terms word a s ≡ Ok (v, s') → Evaluates given workers s s' m v (value.all_shifted terms x m)
  all_shifted-Evaluates [] word a x s s' m v agree ha h = Evaluates-nothing a x s s' m v agree ha (same_Ok (a, s) (v, s') h)
  all_shifted-Evaluates (term ∷ terms) word a x s s' m v agree ha h =
      let b = then_ok (unroll.shifted word term.0 term.1 a s) _ (v, s') h in
      let y = value.shifted term.0 x (value.number_in term.1 m) in
      let first = shifted-Evaluates word term.0 term.1 a x s b.0.1 m b.0.0 agree ha b.1 in
      then_Evaluates given workers s b.0.1 s' m b.0.0 v y _ first (all_shifted-Evaluates terms word b.0.0 y b.0.1 s' m v first.agree first.stands b.2)

  -- a state after the variables of some numbers are known
  record EvaluatesAll (s s' : State) (m : Moment) (vs : List Variable) (xs : List Wide) : Type 0 where
    agree : Agree given workers s' m
    stand : AllStand ((ran given s'.program).values m.worker) vs xs
    kept : Extends (ran given s.program).values (ran given s'.program).values
    same_scopes : s'.scopes ≡ s.scopes

  chosen-three : (word keyword : Token) (c a b : Variable) (x y z : Wide) (s s' : State) (m : Moment) (v : Variable) → Agree given workers s m → Stands ((ran given s.program).values m.worker) c x → Stands ((ran given s.program).values m.worker) a y → Stands ((ran given s.program).values m.worker) b z → unroll.chosen word keyword (c ∷ a ∷ b ∷ []) s ≡ Ok (v, s') → Evaluates given workers s s' m v (cond (eqb x.value 1) y z)
  unfolding unroll.chosen
  chosen-three word keyword c a b x y z s s' m v agree hc ha hb h =
      let bit = then_ok (is_as_wide keyword c.width 1) _ (v, s') h in
      let same = then_ok (is_as_wide keyword a.width b.width) _ (v, s') bit.2 in
      let e = eqb-true a.width b.width (cond_ok (eqb a.width b.width) tt same.0 _ same.1).0 in
      let r = ran given s.program in
      let i = instr_of op.Mux a.width (c.index ∷ a.index ∷ b.index ∷ []) 0 in
      let test = eqb x.value 1 in
      Evaluates-defined given workers word i s s' m v (cond test y z) agree (λ w i r. refl) (cond-width test a.width y z ha.1 (e ∙ hb.1))
      (same_choice _ x.value _ y.value _ z.value (arg-is s m c x agree hc) (arg-is s m a y agree ha) (arg-is s m b z agree hb) ∙ sym (cond-value test y z)) same.2

  chosen-Evaluates : (word keyword : Token) (vs : List Variable) (xs : List Wide) (s s' : State) (m : Moment) (v : Variable) → Agree given workers s m → AllStand ((ran given s.program).values m.worker) vs xs → unroll.chosen word keyword vs s ≡ Ok (v, s') → Evaluates given workers s s' m v (value.chosen xs)
  unfolding unroll.chosen
  chosen-Evaluates word keyword (c ∷ a ∷ b ∷ []) (x ∷ y ∷ z ∷ []) s s' m v agree all h = chosen-three word keyword c a b x y z s s' m v agree all.0 all.1.0 all.1.1.0 h
  chosen-Evaluates word keyword (c ∷ a ∷ b ∷ []) [] s s' m v agree all h = absurd all
  chosen-Evaluates word keyword (c ∷ a ∷ b ∷ []) (x ∷ []) s s' m v agree all h = absurd all.1
  chosen-Evaluates word keyword (c ∷ a ∷ b ∷ []) (x ∷ y ∷ []) s s' m v agree all h = absurd all.1.1
  chosen-Evaluates word keyword (c ∷ a ∷ b ∷ []) (x ∷ y ∷ z ∷ u ∷ xs) s s' m v agree all h = absurd all.1.1.1
  chosen-Evaluates word keyword [] xs s s' m v agree all h = absurd (err_not_ok _ (v, s') h)
  chosen-Evaluates word keyword (c ∷ []) xs s s' m v agree all h = absurd (err_not_ok _ (v, s') h)
  chosen-Evaluates word keyword (c ∷ a ∷ []) xs s s' m v agree all h = absurd (err_not_ok _ (v, s') h)
  chosen-Evaluates word keyword (c ∷ a ∷ b ∷ d ∷ vs) xs s s' m v agree all h = absurd (err_not_ok _ (v, s') h)

  -- ---- calls

  call_of_one-Evaluates : (o : Op) (which : Option Callable) (word keyword : Token) (vs : List Variable) (xs : List Wide) (s s' : State) (m : Moment) (v : Variable) → ((x : Wide) (y : ℕ) → Fits o x.width 0 x.value y (value.call_of_one which x)) → Agree given workers s m → AllStand ((ran given s.program).values m.worker) vs xs → unroll.call_of_one o word keyword vs s ≡ Ok (v, s') → Evaluates given workers s s' m v (value.call_by which xs)
  call_of_one-Evaluates o which word keyword (a ∷ []) (x ∷ []) s s' m v fits agree all h = one-Evaluates o word a 0 x (value.call_of_one which x) s s' m v agree all.0 (fits x) h
  call_of_one-Evaluates o which word keyword (a ∷ []) [] s s' m v fits agree all h = absurd all
  call_of_one-Evaluates o which word keyword (a ∷ []) (x ∷ y ∷ xs) s s' m v fits agree all h = absurd all.1
  call_of_one-Evaluates o which word keyword [] xs s s' m v fits agree all h = absurd (err_not_ok _ (v, s') h)
  call_of_one-Evaluates o which word keyword (a ∷ b ∷ vs) xs s s' m v fits agree all h = absurd (err_not_ok _ (v, s') h)

  call_of_two-Evaluates : (o : Op) (which : Option Callable) (word keyword : Token) (vs : List Variable) (xs : List Wide) (s s' : State) (m : Moment) (v : Variable) → ((x y : Wide) → Fits o x.width 0 x.value y.value (value.call_of_two which x y)) → Agree given workers s m → AllStand ((ran given s.program).values m.worker) vs xs → unroll.call_of_two o word keyword vs s ≡ Ok (v, s') → Evaluates given workers s s' m v (value.call_by which xs)
  call_of_two-Evaluates o which word keyword (a ∷ b ∷ []) (x ∷ y ∷ []) s s' m v fits agree all h = two-Evaluates o word keyword a b x y (value.call_of_two which x y) s s' m v agree all.0 all.1.0 (fits x y) h
  call_of_two-Evaluates o which word keyword (a ∷ b ∷ []) [] s s' m v fits agree all h = absurd all
  call_of_two-Evaluates o which word keyword (a ∷ b ∷ []) (x ∷ []) s s' m v fits agree all h = absurd all.1
  call_of_two-Evaluates o which word keyword (a ∷ b ∷ []) (x ∷ y ∷ z ∷ xs) s s' m v fits agree all h = absurd all.1.1
  call_of_two-Evaluates o which word keyword [] xs s s' m v fits agree all h = absurd (err_not_ok _ (v, s') h)
  call_of_two-Evaluates o which word keyword (a ∷ []) xs s s' m v fits agree all h = absurd (err_not_ok _ (v, s') h)
  call_of_two-Evaluates o which word keyword (a ∷ b ∷ d ∷ vs) xs s s' m v fits agree all h = absurd (err_not_ok _ (v, s') h)

  call_by-Evaluates : (which : Option Callable) (word keyword : Token) (vs : List Variable) (xs : List Wide) (s s' : State) (m : Moment) (v : Variable) → Agree given workers s m → AllStand ((ran given s.program).values m.worker) vs xs → unroll.call_by which word keyword vs s ≡ Ok (v, s') → Evaluates given workers s s' m v (value.call_by which xs)
  call_by-Evaluates (Some callable.Min) word keyword vs xs s s' m v agree all h = call_of_two-Evaluates op.Min (Some callable.Min) word keyword vs xs s s' m v (λ x y. record { computes = λ w i r. refl; width_is = refl; value_is = λ z. refl }) agree all h
  call_by-Evaluates (Some callable.Max) word keyword vs xs s s' m v agree all h = call_of_two-Evaluates op.Max (Some callable.Max) word keyword vs xs s s' m v (λ x y. record { computes = λ w i r. refl; width_is = refl; value_is = λ z. refl }) agree all h
  call_by-Evaluates (Some callable.Count) word keyword vs xs s s' m v agree all h = call_of_one-Evaluates op.Count (Some callable.Count) word keyword vs xs s s' m v (λ x y. record { computes = λ w i r. refl; width_is = refl; value_is = λ z. refl }) agree all h
  call_by-Evaluates None word keyword vs xs s s' m v agree all h = absurd (err_not_ok _ (v, s') h)

  called-Evaluates : (word keyword : Token) (vs : List Variable) (xs : List Wide) (s s' : State) (m : Moment) (v : Variable) → Agree given workers s m → AllStand ((ran given s.program).values m.worker) vs xs → unroll.called word keyword vs s ≡ Ok (v, s') → Evaluates given workers s s' m v (value.called keyword xs)
  unfolding unroll.called value.called
  called-Evaluates word keyword vs xs s s' m v agree all h = call_by-Evaluates (callable_of (bytes_of keyword)) word keyword vs xs s s' m v agree all h

  module _ (X : Type 0) (f : X → ExprMeaning) (g : X → ExprValue) (Y : Type 0) (base : Y → X) (law : (t : Y) → ExprLaw (f (base t)) (g (base t))) where
    chained-Evaluates : (terms : List (Token × Y)) (word : Token) (a : Variable) (x : Wide) (s s' : State) (m : Moment) (v : Variable) → Agree given workers s m → Stands ((ran given s.program).values m.worker) a x → unroll.chained (map (λ (t : Token × X). (t.0, f t.1)) (map (λ (t : Token × Y). (t.0, base t.1)) terms)) word a s ≡ Ok (v, s') → Evaluates given workers s s' m v (value.chained (map (λ (t : Token × X). (t.0, g t.1)) (map (λ (t : Token × Y). (t.0, base t.1)) terms)) x m)
    chained-Evaluates [] word a x s s' m v agree ha h = Evaluates-nothing a x s s' m v agree ha (same_Ok (a, s) (v, s') h)
    chained-Evaluates (term ∷ terms) word a x s s' m v agree ha h =
        let b = then_ok (f (base term.1) word s) _ (v, s') h in
        let c = then_ok (unroll.combined word term.0 a b.0.0 b.0.1) _ (v, s') b.2 in
        let first = law term.1 word s b.0.1 m b.0.0 agree b.1 in
        let y = g (base term.1) m in
        let second = combined-Evaluates word term.0 a b.0.0 x y b.0.1 c.0.1 m c.0.0 first.agree (Stands-Extends given workers s b.0.1 m.worker a x first.kept ha) first.stands c.1 in
        let third = chained-Evaluates terms word c.0.0 (value.combined term.0 x y) c.0.1 s' m v second.agree second.stands c.2 in
        then_Evaluates given workers s b.0.1 s' m b.0.0 v y _ first (then_Evaluates given workers b.0.1 c.0.1 s' m c.0.0 v (value.combined term.0 x y) _ second third)

    all_of-Evaluates : (args : List Y) (word : Token) (s s' : State) (m : Moment) (vs : List Variable) → Agree given workers s m → unroll.all_of (map f (map base args)) word s ≡ Ok (vs, s') → EvaluatesAll s s' m vs (map (λ (number : ExprValue). number m) (map g (map base args)))
    all_of-Evaluates [] word s s' m vs agree h =
        subst (λ (p : List Variable × State). EvaluatesAll s p.1 m p.0 []) (same_Ok ([], s) (vs, s') h) (record { agree = agree; stand = tt; kept = λ w i z e. e; same_scopes = refl })
    all_of-Evaluates (arg ∷ args) word s s' m vs agree h =
        let b = then_ok (f (base arg) word s) _ (vs, s') h in
        let c = then_ok (unroll.all_of (map f (map base args)) word b.0.1) _ (vs, s') b.2 in
        let first = law arg word s b.0.1 m b.0.0 agree b.1 in
        let rest = all_of-Evaluates args word b.0.1 c.0.1 m c.0.0 first.agree c.1 in
        let xs = map (λ (number : ExprValue). number m) (map g (map base args)) in
        subst (λ (p : List Variable × State). EvaluatesAll s p.1 m p.0 (g (base arg) m ∷ xs)) (same_Ok (b.0.0 ∷ c.0.0, c.0.1) (vs, s') c.2) (record {
          agree = rest.agree;
          stand = (Stands-Extends given workers b.0.1 c.0.1 m.worker b.0.0 (g (base arg) m) rest.kept first.stands, rest.stand);
          kept = λ w i z e. rest.kept w i z (first.kept w i z e);
          same_scopes = rest.same_scopes ∙ first.same_scopes;
        })

    layer-Law : (e : Expr-F Y) → ExprLaw (expr_layer (map-Expr X ExprMeaning f (map-Expr Y X base e))) (value_layer (map-Expr X ExprValue g (map-Expr Y X base e)))
    unfolding expr_layer value_layer
    layer-Law (Expr-F.Item item) word s s' m v agree h =
        let held = then_ok (own_place item s) _ (v, s') h in
        let is = own_place-is s item held.0 held.1 in
        let stands = (place_of-Held given workers s m item held.0 agree is.0).1 in
        let worker = is.1 ∙ agree.worker in
        Evaluates-nothing held.0.variable (value.item_at item m) s s' m v agree (subst (λ w. Stands ((ran given s.program).values w) held.0.variable (value.item_at item m)) worker stands) (same_Ok (held.0.variable, s) (v, s') held.2)
    layer-Law (Expr-F.Paren bracket inner) word s s' m v agree h = law inner word s s' m v agree h
    layer-Law (Expr-F.Chain first rest) word s s' m v agree h =
        let a = then_ok (f (base first) word s) _ (v, s') h in
        let one = law first word s a.0.1 m a.0.0 agree a.1 in
        then_Evaluates given workers s a.0.1 s' m a.0.0 v (g (base first) m) _ one (chained-Evaluates rest word a.0.0 (g (base first) m) a.0.1 s' m v one.agree one.stands a.2)
    layer-Law (Expr-F.Shift first rest) word s s' m v agree h =
        let a = then_ok (f (base first) word s) _ (v, s') h in
        let one = law first word s a.0.1 m a.0.0 agree a.1 in
        then_Evaluates given workers s a.0.1 s' m a.0.0 v (g (base first) m) _ one (all_shifted-Evaluates rest word a.0.0 (g (base first) m) a.0.1 s' m v one.agree one.stands a.2)
    layer-Law (Expr-F.Not token operand) word s s' m v agree h =
        let a = then_ok (f (base operand) word s) _ (v, s') h in
        let x = g (base operand) m in
        let one = law operand word s a.0.1 m a.0.0 agree a.1 in
        let two = one-Evaluates op.Not word a.0.0 0 x (wide x.width (modular.not_mod x.width x.value)) a.0.1 s' m v one.agree one.stands (λ y. record { computes = λ w i r. refl; width_is = refl; value_is = λ z. refl }) a.2 in
        then_Evaluates given workers s a.0.1 s' m a.0.0 v x _ one two
    layer-Law (Expr-F.Lit keyword ty e) word s s' m v agree h =
        let w = then_ok (width_at ty) _ (v, s') h in
        let z = then_ok (constant_of e (state.constants_of s)) _ (v, s') w.2 in
        let literal = then_ok _ _ (v, s') z.2 in
        let n = number_below-is (2 ^ min w.0 LITERAL_BITS) z.0 literal.0 (or_fault_ok _ keyword (literal_in w.0 z.0) literal.0 literal.1) in
        let small : literal.0 < 2 ^ w.0 = below_power literal.0 (min w.0 LITERAL_BITS) w.0 (omega arith) n.1 in
        let width = sym (width_at-is ty w.0 w.1) in
        let same = ap unsigned_abs (constant-Agree given workers s m e z.0 agree z.1) ∙ n.0 in
        let number = sym (mod-eq_of_lt small) ∙ ap (λ k. modular.resize_mod w.0 k) (sym same) ∙ ap (λ k. modular.resize_mod k (value.number_in e m)) width in
        Evaluates-defined given workers word (instr_of op.Const w.0 (0 ∷ 0 ∷ 0 ∷ []) literal.0) s s' m v (wide (value.width_or_one ty) (modular.resize_mod (value.width_or_one ty) (value.number_in e m))) agree
        (λ w i r. refl) width number literal.2
    layer-Law (Expr-F.Resize keyword ty operand) word s s' m v agree h =
        let w = then_ok (width_at ty) _ (v, s') h in
        let a = then_ok (f (base operand) word s) _ (v, s') w.2 in
        let x = g (base operand) m in
        let width = sym (width_at-is ty w.0 w.1) in
        let one = law operand word s a.0.1 m a.0.0 agree a.1 in
        let number = ap (λ n. modular.resize_mod w.0 n) (arg-is a.0.1 m a.0.0 x one.agree one.stands) ∙ ap (λ k. modular.resize_mod k x.value) width in
        let two = Evaluates-defined given workers word (instr_of op.Resize w.0 (a.0.0.index ∷ 0 ∷ 0 ∷ []) a.0.0.width) a.0.1 s' m v (wide (value.width_or_one ty) (modular.resize_mod (value.width_or_one ty) x.value)) one.agree
        (λ w i r. refl) width number a.2 in
        then_Evaluates given workers s a.0.1 s' m a.0.0 v x _ one two
    layer-Law (Expr-F.Mux keyword args) word s s' m v agree h =
        let vs = then_ok (unroll.all_of (map f (map base args)) word s) _ (v, s') h in
        let all = all_of-Evaluates args word s vs.0.1 m vs.0.0 agree vs.1 in
        let last = chosen-Evaluates word keyword vs.0.0 _ vs.0.1 s' m v all.agree all.stand vs.2 in
        record { agree = last.agree; stands = last.stands; kept = λ w i z e. last.kept w i z (all.kept w i z e); same_scopes = last.same_scopes ∙ all.same_scopes }
    layer-Law (Expr-F.Call keyword args) word s s' m v agree h =
        let vs = then_ok (unroll.all_of (map f (map base args)) word s) _ (v, s') h in
        let all = all_of-Evaluates args word s vs.0.1 m vs.0.0 agree vs.1 in
        let last = called-Evaluates word keyword vs.0.0 _ vs.0.1 s' m v all.agree all.stand vs.2 in
        record { agree = last.agree; stands = last.stands; kept = λ w i z e. last.kept w i z (all.kept w i z e); same_scopes = last.same_scopes ∙ all.same_scopes }

  roll-Law : (Y : Type 0) (base : Y → Expr) (law : (t : Y) → ExprLaw (variable_of (base t)) (number_of_expr (base t))) (e : Expr-F Y) → ExprLaw (variable_of (roll-Expr (map-Expr Y Expr base e))) (number_of_expr (roll-Expr (map-Expr Y Expr base e)))
  unfolding variable_of number_of_expr
  roll-Law Y base law e =
      let z = map-Expr Y Expr base e in
      let meaning = fold-roll-Expr ExprMeaning expr_layer z in
      let number = fold-roll-Expr ExprValue value_layer z in
      subst (λ (n : ExprValue). ExprLaw (variable_of (roll-Expr z)) n) (sym number)
      (subst (λ (v : ExprMeaning). ExprLaw v (value_layer (map-Expr Expr ExprValue number_of_expr z))) (sym meaning)
      (layer-Law Expr variable_of number_of_expr Y base law e))

  -- the law of expressions
  pub variable_of-Law : (e : Expr) → ExprLaw (variable_of e) (number_of_expr e)
  variable_of-Law = ind-Expr (λ e. ExprLaw (variable_of e) (number_of_expr e)) (λ x y is.
      subst (λ (z : Expr-F Expr). ExprLaw (variable_of (roll-Expr z)) (number_of_expr (roll-Expr z))) is (roll-Law _ (λ e. e.0) (λ e. e.1) y))
