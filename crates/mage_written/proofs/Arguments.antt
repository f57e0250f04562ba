-- Each instruction that a source unrolls to has three arguments.
use Rattle.std.proofs.Common.{◌≡◌, ◌+◌, ℕ, zero, suc, Bool, true, false, cond, eqb, List, [], ◌∷◌, ◌++◌, map, length, replicate, get_or, ℤ, pos, ◌+ℤ◌, Option, Some, None, Result, Ok, IfSome, All, refl, sym, subst}
use Rattle.std.specs.Prelude.{slice_get, nat_le}
use Rattle.std.specs.List.{filter}
use Rattle.std.proofs.lemmas.List.Elements.{All-map}
use Rattle.mage_chains.specs.Chains.{◌>>=◌}
use Rattle.mage_chains.proofs.Ends.{cond_ok, then_ok, same_Ok, err_not_ok}
use Rattle.mage_constants.specs.Answer.{or_fault}
use Rattle.mage_constants.specs.Constants.{constant_of}
use Rattle.mage_constants.specs.Ranges.{number_below, distance, holds}
use Rattle.mage_instr.specs.declared.instr.Instr.{Instr}
use Rattle.mage_instr.specs.declared.instr.Program.{Program}
use Rattle.mage_instr.specs.declared.op.Op.{Op}
use Rattle.mage_instr.specs.declared.op.Op.TheVariants as op
use Rattle.mage_lex.specs.declared.fault.LangFault.{LangFault}
use Rattle.mage_lex.specs.declared.fault.LangKind.TheVariants as wrong
use Rattle.mage_lex.specs.declared.token.Token.{Token}
use Rattle.mage_linked.specs.declared.emitted.Emitted.{Emitted}
use Rattle.mage_linked.specs.Emission.{own_instrs}
use Rattle.mage_linked.specs.Workers.{below}
use Rattle.mage_residency.specs.Carried.{HaveArguments}
use Rattle.mage_tree.specs.Words.{bytes_of, callable_of}
use Rattle.mage_tree.specs.declared.class.Callable.{Callable}
use Rattle.mage_tree.specs.declared.class.Callable.TheVariants as callable
use Rattle.mage_tree.specs.declared.tree.ConstExpr.{ConstExpr}
use Rattle.mage_tree.specs.declared.tree.Expr.{Expr, map-Expr, roll-Expr}
use Rattle.mage_tree.specs.declared.tree.Expr.TheOpen.{Expr-F}
use Rattle.mage_tree.specs.declared.tree.Expr.TheFolds.{fold-roll-Expr, ind-Expr}
use Rattle.mage_tree.specs.declared.tree.Stmt.{Stmt, map-Stmt, roll-Stmt}
use Rattle.mage_tree.specs.declared.tree.Stmt.TheOpen.{Stmt-F}
use Rattle.mage_tree.specs.declared.tree.Stmt.TheFolds.{fold-roll-Stmt, ind-Stmt}
use Rattle.mage_scopes.specs.Scopes.{found}
use Rattle.mage_unroll.specs.declared.state.Held.{Held}
use Rattle.mage_unroll.specs.declared.state.Named.{Named}
use Rattle.mage_unroll.specs.declared.state.Named.TheVariants as named
use Rattle.mage_unroll.specs.declared.state.Variable.{Variable}
use Rattle.mage_unroll.specs.Expressions.{ExprMeaning, op_of, shift_of, amount_in, literal_in, of_one, of_two, combined, chained, shifted, all_shifted, all_of, chosen, call_of_one, call_of_two, call_by, called, expr_layer, variable_of}
use Rattle.mage_unroll.specs.Limits.{MOST_STEPS}
use Rattle.mage_unroll.specs.State.{State, instr_of, stepped, stepped_by, emitted, defined, is_free, bound, constants_of, own_place, place_of, width_at, is_as_wide, assigned, rebound_name}
use Rattle.mage_unroll.specs.Statements.{Act, all_acts, entering, leaving, in_scope, length_at, named_scalar, named_array, party_of, inputs, input_of, transferred, moved, first_token, turn, turns, condition, branch, stmt_layer, executed}
use Rattle.mage_unroll.specs.Unrolled.{opening, emitted_by, unrolled_of}
use Rattle.mage_unroll.proofs.SoundPrograms.{parts_of}
use Rattle.mage_unroll.proofs.SoundStates.{emitted_is, defined_is}

-- ---- instructions with their workers

abbrev pub HaveThree : List Emitted → Type 0
HaveThree [] = Unit {0}
HaveThree (e ∷ others) = (length e.instr.args ≡ 3) × HaveThree others

three_push : (p : List Emitted) (e : Emitted) → HaveThree p → length e.instr.args ≡ 3 → HaveThree (p ++ e ∷ [])
three_push [] e h three = (three, tt)
three_push (x ∷ p) e h three = (h.0, three_push p e h.1 three)

-- each instruction of a state has three arguments
abbrev Three : State → Type 0
Three s = HaveThree s.program

emitted_three : (word : Token) (worker : ℕ) (i : Instr) (s s' : State) → length i.args ≡ 3 → Three s → emitted word worker i s ≡ Ok s' → Three s'
emitted_three word worker i s s' three h e =
    let is = emitted_is word worker i s s' e in
    subst (λ (x : State). Three x) is.1 (three_push s.program (record { worker = worker; instr = i }) h three)

defined_three : (word : Token) (i : Instr) (s s' : State) (v : Variable) → length i.args ≡ 3 → Three s → defined word i s ≡ Ok (v, s') → Three s'
defined_three word i s s' v three h e =
    let is = defined_is word i s s' v e in
    subst (λ (x : State). Three x) is.1 (three_push s.program (record { worker = s.worker; instr = i }) h three)

stepped_three : (n : ℕ) (word : Token) (s s' : State) → Three s → stepped_by n word s ≡ Ok s' → Three s'
stepped_three n word s s' h e =
    let c = cond_ok (nat_le (s.steps + n) MOST_STEPS) (record s { steps = s.steps + n }) s' _ e in
    subst (λ (x : State). Three x) c.1 h

-- ---- expressions

abbrev ExprLaw : ExprMeaning → Type 0
ExprLaw meaning = (word : Token) (s s' : State) (v : Variable) → Three s → meaning word s ≡ Ok (v, s') → Three s'

same_state : (a : Variable) (s s' : State) (v : Variable) → Three s → ◌≡◌ {A = Variable × State} (a, s) (v, s') → Three s'
same_state a s s' v h same = subst (λ (p : Variable × State). Three p.1) same h

of_one_three : (o : Op) (word : Token) (a : Variable) (imm : ℕ) (s s' : State) (v : Variable) → Three s → of_one o word a imm s ≡ Ok (v, s') → Three s'
of_one_three o word a imm s s' v h e = defined_three word (instr_of o a.width (a.index ∷ 0 ∷ 0 ∷ []) imm) s s' v refl h e

of_two_three : (o : Op) (word token : Token) (a b : Variable) (s s' : State) (v : Variable) → Three s → of_two o word token a b s ≡ Ok (v, s') → Three s'
unfolding of_two
of_two_three o word token a b s s' v h e =
    let same = then_ok (is_as_wide token a.width b.width) _ (v, s') e in
    defined_three word (instr_of o a.width (a.index ∷ b.index ∷ 0 ∷ []) 0) s s' v refl h same.2

combined_three : (word token : Token) (a b : Variable) (s s' : State) (v : Variable) → Three s → combined word token a b s ≡ Ok (v, s') → Three s'
unfolding combined
combined_three word token a b s s' v h e =
    let o = then_ok (or_fault wrong.WidthDiffers token (op_of token)) _ (v, s') e in
    of_two_three o.0 word token a b s s' v h o.2

shifted_three : (word token : Token) (amount : ConstExpr) (a : Variable) (s s' : State) (v : Variable) → Three s → shifted word token amount a s ≡ Ok (v, s') → Three s'
unfolding shifted
shifted_three word token amount a s s' v h e =
    let z = then_ok (constant_of amount (constants_of s)) _ (v, s') e in
    let n = then_ok (or_fault wrong.ConstFault token (amount_in z.0)) _ (v, s') z.2 in
    let o = then_ok (or_fault wrong.WidthDiffers token (shift_of token)) _ (v, s') n.2 in
    of_one_three o.0 word a n.0 s s' v h o.2

all_shifted_three : (terms : List (Token × ConstExpr)) (word : Token) (a : Variable) (s s' : State) (v : Variable) → Three s → all_shifted terms word a s ≡ Ok (v, s') → Three s'
all_shifted_three [] word a s s' v h e = same_state a s s' v h (same_Ok (a, s) (v, s') e)
all_shifted_three (term ∷ terms) word a s s' v h e =
    let b = then_ok (shifted word term.0 term.1 a s) _ (v, s') e in
    all_shifted_three terms word b.0.0 b.0.1 s' v (shifted_three word term.0 term.1 a s b.0.1 b.0.0 h b.1) b.2

chosen_three : (word keyword : Token) (vs : List Variable) (s s' : State) (v : Variable) → Three s → chosen word keyword vs s ≡ Ok (v, s') → Three s'
unfolding chosen
chosen_three word keyword (c ∷ a ∷ b ∷ []) s s' v h e =
    let bit = then_ok (is_as_wide keyword c.width 1) _ (v, s') e in
    let same = then_ok (is_as_wide keyword a.width b.width) _ (v, s') bit.2 in
    defined_three word (instr_of op.Mux a.width (c.index ∷ a.index ∷ b.index ∷ []) 0) s s' v refl h same.2
chosen_three word keyword [] s s' v h e = absurd (err_not_ok _ (v, s') e)
chosen_three word keyword (c ∷ []) s s' v h e = absurd (err_not_ok _ (v, s') e)
chosen_three word keyword (c ∷ a ∷ []) s s' v h e = absurd (err_not_ok _ (v, s') e)
chosen_three word keyword (c ∷ a ∷ b ∷ d ∷ vs) s s' v h e = absurd (err_not_ok _ (v, s') e)

call_of_one_three : (o : Op) (word keyword : Token) (vs : List Variable) (s s' : State) (v : Variable) → Three s → call_of_one o word keyword vs s ≡ Ok (v, s') → Three s'
call_of_one_three o word keyword (a ∷ []) s s' v h e = of_one_three o word a 0 s s' v h e
call_of_one_three o word keyword [] s s' v h e = absurd (err_not_ok _ (v, s') e)
call_of_one_three o word keyword (a ∷ b ∷ vs) s s' v h e = absurd (err_not_ok _ (v, s') e)

call_of_two_three : (o : Op) (word keyword : Token) (vs : List Variable) (s s' : State) (v : Variable) → Three s → call_of_two o word keyword vs s ≡ Ok (v, s') → Three s'
call_of_two_three o word keyword (a ∷ b ∷ []) s s' v h e = of_two_three o word keyword a b s s' v h e
call_of_two_three o word keyword [] s s' v h e = absurd (err_not_ok _ (v, s') e)
call_of_two_three o word keyword (a ∷ []) s s' v h e = absurd (err_not_ok _ (v, s') e)
call_of_two_three o word keyword (a ∷ b ∷ d ∷ vs) s s' v h e = absurd (err_not_ok _ (v, s') e)

call_by_three : (which : Option Callable) (word keyword : Token) (vs : List Variable) (s s' : State) (v : Variable) → Three s → call_by which word keyword vs s ≡ Ok (v, s') → Three s'
call_by_three (Some callable.Min) word keyword vs s s' v h e = call_of_two_three op.Min word keyword vs s s' v h e
call_by_three (Some callable.Max) word keyword vs s s' v h e = call_of_two_three op.Max word keyword vs s s' v h e
call_by_three (Some callable.Count) word keyword vs s s' v h e = call_of_one_three op.Count word keyword vs s s' v h e
call_by_three None word keyword vs s s' v h e = absurd (err_not_ok _ (v, s') e)

called_three : (word keyword : Token) (vs : List Variable) (s s' : State) (v : Variable) → Three s → called word keyword vs s ≡ Ok (v, s') → Three s'
unfolding called
called_three word keyword vs s s' v h e = call_by_three (callable_of (bytes_of keyword)) word keyword vs s s' v h e

module _ (X : Type 0) (f : X → ExprMeaning) (Y : Type 0) (base : Y → X) (law : (t : Y) → ExprLaw (f (base t))) where
  chained_three : (terms : List (Token × Y)) (word : Token) (a : Variable) (s s' : State) (v : Variable) → Three s → chained (map (λ (t : Token × X). (t.0, f t.1)) (map (λ (t : Token × Y). (t.0, base t.1)) terms)) word a s ≡ Ok (v, s') → Three s'
  chained_three [] word a s s' v h e = same_state a s s' v h (same_Ok (a, s) (v, s') e)
  chained_three (term ∷ terms) word a s s' v h e =
      let b = then_ok (f (base term.1) word s) _ (v, s') e in
      let c = then_ok (combined word term.0 a b.0.0 b.0.1) _ (v, s') b.2 in
      let one = law term.1 word s b.0.1 b.0.0 h b.1 in
      let two = combined_three word term.0 a b.0.0 b.0.1 c.0.1 c.0.0 one c.1 in
      chained_three terms word c.0.0 c.0.1 s' v two c.2

  all_of_three : (args : List Y) (word : Token) (s s' : State) (vs : List Variable) → Three s → all_of (map f (map base args)) word s ≡ Ok (vs, s') → Three s'
  all_of_three [] word s s' vs h e = subst (λ (p : List Variable × State). Three p.1) (same_Ok ([], s) (vs, s') e) h
  all_of_three (arg ∷ args) word s s' vs h e =
      let b = then_ok (f (base arg) word s) _ (vs, s') e in
      let c = then_ok (all_of (map f (map base args)) word b.0.1) _ (vs, s') b.2 in
      let rest = all_of_three args word b.0.1 c.0.1 c.0.0 (law arg word s b.0.1 b.0.0 h b.1) c.1 in
      subst (λ (p : List Variable × State). Three p.1) (same_Ok (b.0.0 ∷ c.0.0, c.0.1) (vs, s') c.2) rest

  expr_layer_three : (e : Expr-F Y) → ExprLaw (expr_layer (map-Expr X ExprMeaning f (map-Expr Y X base e)))
  unfolding expr_layer
  expr_layer_three (Expr-F.Item item) word s s' v h e =
      let held = then_ok (own_place item s) _ (v, s') e in
      same_state held.0.variable s s' v h (same_Ok (held.0.variable, s) (v, s') held.2)
  expr_layer_three (Expr-F.Paren bracket inner) word s s' v h e = law inner word s s' v h e
  expr_layer_three (Expr-F.Chain first rest) word s s' v h e =
      let a = then_ok (f (base first) word s) _ (v, s') e in
      chained_three rest word a.0.0 a.0.1 s' v (law first word s a.0.1 a.0.0 h a.1) a.2
  expr_layer_three (Expr-F.Shift first rest) word s s' v h e =
      let a = then_ok (f (base first) word s) _ (v, s') e in
      all_shifted_three rest word a.0.0 a.0.1 s' v (law first word s a.0.1 a.0.0 h a.1) a.2
  expr_layer_three (Expr-F.Not token operand) word s s' v h e =
      let a = then_ok (f (base operand) word s) _ (v, s') e in
      of_one_three op.Not word a.0.0 0 a.0.1 s' v (law operand word s a.0.1 a.0.0 h a.1) a.2
  expr_layer_three (Expr-F.Lit keyword ty x) word s s' v h e =
      let w = then_ok (width_at ty) _ (v, s') e in
      let z = then_ok (constant_of x (constants_of s)) _ (v, s') w.2 in
      let n = then_ok (or_fault wrong.ConstFault keyword (literal_in w.0 z.0)) _ (v, s') z.2 in
      defined_three word (instr_of op.Const w.0 (0 ∷ 0 ∷ 0 ∷ []) n.0) s s' v refl h n.2
  expr_layer_three (Expr-F.Resize keyword ty operand) word s s' v h e =
      let w = then_ok (width_at ty) _ (v, s') e in
      let a = then_ok (f (base operand) word s) _ (v, s') w.2 in
      let x = a.0.0 in
      defined_three word (instr_of op.Resize w.0 (x.index ∷ 0 ∷ 0 ∷ []) x.width) a.0.1 s' v refl (law operand word s a.0.1 a.0.0 h a.1) a.2
  expr_layer_three (Expr-F.Mux keyword args) word s s' v h e =
      let vs = then_ok (all_of (map f (map base args)) word s) _ (v, s') e in
      chosen_three word keyword vs.0.0 vs.0.1 s' v (all_of_three args word s vs.0.1 vs.0.0 h vs.1) vs.2
  expr_layer_three (Expr-F.Call keyword args) word s s' v h e =
      let vs = then_ok (all_of (map f (map base args)) word s) _ (v, s') e in
      called_three word keyword vs.0.0 vs.0.1 s' v (all_of_three args word s vs.0.1 vs.0.0 h vs.1) vs.2

roll_expr : (Y : Type 0) (base : Y → Expr) (law : (t : Y) → ExprLaw (variable_of (base t))) (e : Expr-F Y) → ExprLaw (variable_of (roll-Expr (map-Expr Y Expr base e)))
unfolding variable_of
roll_expr Y base law e =
    let z = map-Expr Y Expr base e in
    subst (λ (m : ExprMeaning). ExprLaw m) (sym (fold-roll-Expr ExprMeaning expr_layer z)) (expr_layer_three Expr variable_of Y base law e)

variable_three : (e : Expr) → ExprLaw (variable_of e)
variable_three = ind-Expr (λ e. ExprLaw (variable_of e)) (λ x y is.
    subst (λ (z : Expr-F Expr). ExprLaw (variable_of (roll-Expr z))) is (roll_expr _ (λ e. e.0) (λ e. e.1) y))

-- ---- statements

abbrev StmtLaw : Act → Type 0
StmtLaw act = (s s' : State) → Three s → act s ≡ Ok s' → Three s'

same_three : (s s' : State) → Three s → ◌≡◌ {A = State} s s' → Three s'
same_three s s' h same = subst (λ (x : State). Three x) same h

inputs_three : (n : ℕ) (word party : Token) (width : ℕ) (items items' : List ℕ) (s s' : State) → Three s → inputs n word party width items s ≡ Ok (items', s') → Three s'
inputs_three zero word party width items items' s s' h e = subst (λ (p : List ℕ × State). Three p.1) (same_Ok (items, s) (items', s') e) h
inputs_three (suc n) word party width items items' s s' h e =
    let b = then_ok (stepped word s) _ (items', s') e in
    let i = instr_of op.Input width (0 ∷ 0 ∷ 0 ∷ []) (party_of party) in
    let c = then_ok (defined word i b.0) _ (items', s') b.2 in
    let one = defined_three word i b.0 c.0.1 c.0.0 refl (stepped_three 1 word s b.0 h b.1) c.1 in
    inputs_three n word party width (items ++ c.0.0.index ∷ []) items' c.0.1 s' one c.2

input_of_three : (size : Option (Token × ConstExpr)) (word party name : Token) (width : ℕ) (s s' : State) → Three s → input_of size word party name width s ≡ Ok s' → Three s'
unfolding input_of
input_of_three None word party name width s s' h e =
    let i = instr_of op.Input width (0 ∷ 0 ∷ 0 ∷ []) (party_of party) in
    let b = then_ok (defined word i s) _ s' e in
    same_three (bound name (named_scalar s.worker b.0.0) b.0.1) s' (defined_three word i s b.0.1 b.0.0 refl h b.1) (same_Ok (bound name (named_scalar s.worker b.0.0) b.0.1) s' b.2)
input_of_three (Some size) word party name width s s' h e =
    let n = then_ok (length_at size s) _ s' e in
    let items = then_ok (inputs n.0 word party width [] s) _ s' n.2 in
    let array = named_array s.worker width items.0.0 in
    same_three (bound name array items.0.1) s' (inputs_three n.0 word party width [] items.0.0 s items.0.1 h items.1) (same_Ok (bound name array items.0.1) s' items.2)

transferred_three : (word : Token) (held : Held) (s s' : State) (v : Variable) → Three s → transferred word held s ≡ Ok (v, s') → Three s'
unfolding transferred
transferred_three word held s s' v h e =
    let x = held.variable in
    let send = instr_of op.Send x.width (x.index ∷ 0 ∷ 0 ∷ []) s.worker in
    let recv = instr_of op.Recv x.width (0 ∷ 0 ∷ 0 ∷ []) held.worker in
    let b = then_ok (emitted word held.worker send s) _ (v, s') e in
    defined_three word recv b.0 s' v refl (emitted_three word held.worker send s b.0 refl h b.1) b.2

moved_three : (word name : Token) (held : Held) (s s' : State) → Three s → moved word name held s ≡ Ok s' → Three s'
unfolding moved
moved_three word name held s s' h e = go (eqb held.worker s.worker) e where
  go : (b : Bool) → cond {A = Result State LangFault} b (Ok (bound name (named_scalar s.worker held.variable) s)) (transferred word held s >>= (λ value. Ok (bound name (named_scalar s.worker value.0) value.1))) ≡ Ok s' → Three s'
  go true k = same_three (bound name (named_scalar s.worker held.variable) s) s' h (same_Ok (bound name (named_scalar s.worker held.variable) s) s' k)
  go false k =
      let c = then_ok (transferred word held s) _ s' k in
      same_three (bound name (named_scalar s.worker c.0.0) c.0.1) s' (transferred_three word held s c.0.1 c.0.0 h c.1) (same_Ok (bound name (named_scalar s.worker c.0.0) c.0.1) s' c.2)

assigned_three : (name : Token) (position : Option ℕ) (index : ℕ) (s : State) → Three s → Three (assigned name position index s)
assigned_three name position index s h = go (found s.scopes (bytes_of name)) where
  go : (old : Option Named) → Three (rebound_name old name position index s)
  go None = h
  go (Some x) = h

in_scope_three : (act : Act) → StmtLaw act → StmtLaw (in_scope act)
in_scope_three act law s s' h e =
    let b = then_ok (act (entering s)) _ s' e in
    same_three (leaving b.0) s' (law (entering s) b.0 h b.1) (same_Ok (leaving b.0) s' b.2)

turns_three : (act : Act) → StmtLaw act → (n : ℕ) (number : ℤ) (word name : Token) → StmtLaw (turns n number word name act)
turns_three act law zero number word name s s' h e = same_three s s' h (same_Ok s s' e)
turns_three act law (suc n) number word name s s' h e =
    let t = then_ok (turn number word name act s) _ s' e in
    let b = then_ok (stepped word s) _ t.0 t.1 in
    let inner : StmtLaw (λ inner. act (bound name (named.Constant number) inner)) =
    λ x y k d. law (bound name (named.Constant number) x) y k d in
    let one = in_scope_three _ inner b.0 t.0 (stepped_three 1 word s b.0 h b.1) b.2 in
    turns_three act law n (number +ℤ pos 1) word name t.0 s' one t.2

abbrev OtherLaw : Option (List Act) → Type 0
OtherLaw None = Unit {0}
OtherLaw (Some acts) = StmtLaw (all_acts acts)

branch_three : (test : Bool) (acts : List Act) (other : Option (List Act)) → StmtLaw (all_acts acts) → OtherLaw other → StmtLaw (branch test acts other)
branch_three true acts other law law' = in_scope_three (all_acts acts) law
branch_three false acts (Some others) law law' = in_scope_three (all_acts others) law'
branch_three false acts None law law' = λ s s' h e. same_three s s' h (same_Ok s s' e)

condition_three : (word : Token) (lower : ConstExpr) (op : Token) (upper : ConstExpr) (s : State) (held : Bool × State) → Three s → condition word lower op upper s ≡ Ok held → Three held.1
unfolding condition
condition_three word lower op upper s held h e =
    let b = then_ok (stepped word s) _ held e in
    let first = then_ok (constant_of lower (constants_of b.0)) _ held b.2 in
    let second = then_ok (constant_of upper (constants_of b.0)) _ held first.2 in
    subst (λ (p : Bool × State). Three p.1) (same_Ok (holds op first.0 second.0, b.0) held second.2) (stepped_three 1 word s b.0 h b.1)

if_three : (word : Token) (lower : ConstExpr) (op : Token) (upper : ConstExpr) (acts : List Act) (other : Option (List Act)) → StmtLaw (all_acts acts) → OtherLaw other → StmtLaw (stmt_layer (Stmt-F.If word lower op upper acts other))
unfolding stmt_layer
if_three word lower op upper acts other law law' s s' h e =
    let held = then_ok (condition word lower op upper s) _ s' e in
    branch_three held.0.0 acts other law law' held.0.1 s' (condition_three word lower op upper s held.0 h held.1) held.2

module _ (X : Type 0) (f : X → Act) (Y : Type 0) (base : Y → X) (law : (t : Y) → StmtLaw (f (base t))) where
  acts_three : (body : List Y) → StmtLaw (all_acts (map f (map base body)))
  acts_three [] s s' h e = same_three s s' h (same_Ok s s' e)
  acts_three (first ∷ others) s s' h e =
      let b = then_ok (f (base first) s) _ s' e in
      acts_three others b.0 s' (law first s b.0 h b.1) b.2

  stmt_layer_three : (e : Stmt-F Y) → StmtLaw (stmt_layer (map-Stmt X Act f (map-Stmt Y X base e)))
  unfolding stmt_layer
  stmt_layer_three (Stmt-F.Constant word name x) s s' h e =
      let b = then_ok (stepped word s) _ s' e in
      let c = then_ok (is_free name b.0) _ s' b.2 in
      let z = then_ok (constant_of x (constants_of b.0)) _ s' c.2 in
      same_three (bound name (named.Constant z.0) b.0) s' (stepped_three 1 word s b.0 h b.1) (same_Ok (bound name (named.Constant z.0) b.0) s' z.2)
  stmt_layer_three (Stmt-F.Input word party name ty size) s s' h e =
      let b = then_ok (stepped word s) _ s' e in
      let c = then_ok (is_free name b.0) _ s' b.2 in
      let w = then_ok (width_at ty) _ s' c.2 in
      input_of_three size word party name w.0 b.0 s' (stepped_three 1 word s b.0 h b.1) w.2
  stmt_layer_three (Stmt-F.Let word name x) s s' h e =
      let b = then_ok (stepped word s) _ s' e in
      let c = then_ok (is_free name b.0) _ s' b.2 in
      let v = then_ok (variable_of x word b.0) _ s' c.2 in
      same_three (bound name (named_scalar b.0.worker v.0.0) v.0.1) s' (variable_three x word b.0 v.0.1 v.0.0 (stepped_three 1 word s b.0 h b.1) v.1)
      (same_Ok (bound name (named_scalar b.0.worker v.0.0) v.0.1) s' v.2)
  stmt_layer_three (Stmt-F.Array word name ty size eq x) s s' h e =
      let b = then_ok (stepped word s) _ s' e in
      let c = then_ok (is_free name b.0) _ s' b.2 in
      let w = then_ok (width_at ty) _ s' c.2 in
      let n = then_ok (length_at size b.0) _ s' w.2 in
      let v = then_ok (variable_of x word b.0) _ s' n.2 in
      let same = then_ok (is_as_wide eq w.0 v.0.0.width) _ s' v.2 in
      let after = then_ok (stepped_by n.0 word v.0.1) _ s' same.2 in
      let made = variable_three x word b.0 v.0.1 v.0.0 (stepped_three 1 word s b.0 h b.1) v.1 in
      let array = named_array b.0.worker w.0 (replicate n.0 v.0.0.index) in
      same_three (bound name array after.0) s' (stepped_three n.0 word v.0.1 after.0 made after.1) (same_Ok (bound name array after.0) s' after.2)
  stmt_layer_three (Stmt-F.Assign place eq x) s s' h e =
      let b = then_ok (stepped place.name s) _ s' e in
      let held = then_ok (own_place place b.0) _ s' b.2 in
      let v = then_ok (variable_of x place.name b.0) _ s' held.2 in
      let w = then_ok (is_as_wide eq held.0.variable.width v.0.0.width) _ s' v.2 in
      let made = variable_three x place.name b.0 v.0.1 v.0.0 (stepped_three 1 place.name s b.0 h b.1) v.1 in
      same_three (assigned place.name held.0.position v.0.0.index v.0.1) s' (assigned_three place.name held.0.position v.0.0.index v.0.1 made)
      (same_Ok (assigned place.name held.0.position v.0.0.index v.0.1) s' w.2)
  stmt_layer_three (Stmt-F.Move word name place) s s' h e =
      let b = then_ok (stepped word s) _ s' e in
      let c = then_ok (is_free name b.0) _ s' b.2 in
      let held = then_ok (place_of place b.0) _ s' c.2 in
      moved_three word name held.0 b.0 s' (stepped_three 1 word s b.0 h b.1) held.2
  stmt_layer_three (Stmt-F.On word worker body) s s' h e =
      let b = then_ok (stepped word s) _ s' e in
      let z = then_ok (constant_of worker (constants_of b.0)) _ s' b.2 in
      let w = then_ok (or_fault wrong.BadWorker (first_token worker) (number_below b.0.workers z.0)) _ s' z.2 in
      let after = then_ok (all_acts (map f (map base body)) (record b.0 { worker = w.0 })) _ s' w.2 in
      let done = acts_three body (record b.0 { worker = w.0 }) after.0 (stepped_three 1 word s b.0 h b.1) after.1 in
      same_three (record after.0 { worker = b.0.worker }) s' done (same_Ok (record after.0 { worker = b.0.worker }) s' after.2)
  stmt_layer_three (Stmt-F.For word name from to body) s s' h e =
      let b = then_ok (stepped word s) _ s' e in
      let c = then_ok (is_free name b.0) _ s' b.2 in
      let first = then_ok (constant_of from (constants_of b.0)) _ s' c.2 in
      let end = then_ok (constant_of to (constants_of b.0)) _ s' first.2 in
      turns_three (all_acts (map f (map base body))) (acts_three body) (distance first.0 end.0) first.0 word name b.0 s' (stepped_three 1 word s b.0 h b.1) end.2
  stmt_layer_three (Stmt-F.If word lower op upper body None) s s' h e = if_three word lower op upper (map f (map base body)) None (acts_three body) tt s s' h e
  stmt_layer_three (Stmt-F.If word lower op upper body (Some other)) s s' h e =
      if_three word lower op upper (map f (map base body)) (Some (map f (map base other))) (acts_three body) (acts_three other) s s' h e
  stmt_layer_three (Stmt-F.Output word x) s s' h e =
      let b = then_ok (stepped word s) _ s' e in
      let v = then_ok (variable_of x word b.0) _ s' b.2 in
      let made = variable_three x word b.0 v.0.1 v.0.0 (stepped_three 1 word s b.0 h b.1) v.1 in
      emitted_three word b.0.worker (instr_of op.Output v.0.0.width (v.0.0.index ∷ 0 ∷ 0 ∷ []) 0) v.0.1 s' refl made v.2

roll_stmt : (Y : Type 0) (base : Y → Stmt) (law : (t : Y) → StmtLaw (executed (base t))) (e : Stmt-F Y) → StmtLaw (executed (roll-Stmt (map-Stmt Y Stmt base e)))
unfolding executed
roll_stmt Y base law e =
    let z = map-Stmt Y Stmt base e in
    subst (λ (x : Act). StmtLaw x) (sym (fold-roll-Stmt Act stmt_layer z)) (stmt_layer_three Stmt executed Y base law e)

executed_three : (statement : Stmt) → StmtLaw (executed statement)
executed_three = ind-Stmt (λ e. StmtLaw (executed e)) (λ x y is.
    subst (λ (z : Stmt-F Stmt). StmtLaw (executed (roll-Stmt z))) is (roll_stmt _ (λ e. e.0) (λ e. e.1) y))

all_executed_three : (body : List Stmt) → StmtLaw (all_acts (map executed body))
all_executed_three [] s s' h e = same_three s s' h (same_Ok s s' e)
all_executed_three (first ∷ others) s s' h e =
    let b = then_ok (executed first s) _ s' e in
    all_executed_three others b.0 s' (executed_three first s b.0 h b.1) b.2

-- ---- programs

emitted_by_three : (workers : ℕ) (body : List Stmt) (made : List Emitted) → emitted_by workers body ≡ Ok made → HaveThree made
unfolding emitted_by
emitted_by_three workers body made e =
    let after = then_ok (all_acts (map executed body) (opening workers)) _ made e in
    subst HaveThree (same_Ok after.0.program made after.2) (all_executed_three body (opening workers) after.0 tt after.1)

-- the instructions of one worker are among them
own_one : (e : Emitted) (others : List Emitted) (worker : ℕ) → length e.instr.args ≡ 3 → HaveArguments (own_instrs others worker) → HaveArguments (own_instrs (e ∷ others) worker)
own_one e others worker three rest t = go (eqb e.worker worker) t where
  go : (b : Bool) (n : ℕ)
      → IfSome (slice_get (map (λ (x : Emitted). x.instr) (cond b (e ∷ filter (λ (x : Emitted). eqb x.worker worker) others) (filter (λ (x : Emitted). eqb x.worker worker) others))) n) (λ i. length i.args ≡ 3)
  go true zero = three
  go true (suc n) = rest n
  go false n = rest n

own_three : (made : List Emitted) (worker : ℕ) → HaveThree made → HaveArguments (own_instrs made worker)
own_three [] worker h zero = tt
own_three [] worker h (suc t) = tt
own_three (e ∷ others) worker h t = own_one e others worker h.0 (own_three others worker h.1) t

pub unrolled_have_arguments : (count : Option Token) (body : List Stmt) (program : Program) → unrolled_of count body ≡ Ok program → All HaveArguments program.workers
unrolled_have_arguments count body program h =
    let parts = parts_of count body program h in
    let three = emitted_by_three parts.workers body parts.emitted parts.emitted_is in
    let each = All-map HaveArguments (own_instrs parts.emitted) (below parts.workers) (λ k d inside. own_three parts.emitted (get_or (below parts.workers) k d) three) in
    subst (λ (p : Program). All HaveArguments p.workers) parts.program_is each
