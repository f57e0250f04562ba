-- The variable of an expression is one of the current worker, and its instructions can run.
use Rattle.std.proofs.Common.{◌≡◌, ◌<◌, ◌≤◌, ◌+◌, ◌^◌, ℕ, zero, suc, Bool, true, false, cond, eqb, List, [], ◌∷◌, map, ℤ, Option, Some, None, Ok, IsTrue, refl, sym, subst, arith}
use Rattle.std.specs.Prelude.{slice_index, min}
use Rattle.std.proofs.Math.Pow.{pow_mono}
use Rattle.mage_instr.specs.declared.instr.Instr.{Instr}
use Rattle.mage_instr.specs.declared.op.Op.{Op}
use Rattle.mage_instr.specs.declared.op.Op.TheVariants as op
use Rattle.mage_instr.specs.Opcodes.{greatest_width, arity_of, has_result, width_of_arg, ImmOk}
use Rattle.mage_lex.specs.Symbols.{EQUALS, SHIFT_LEFT, SHIFT_RIGHT, LESS, PLUS, MINUS, TIMES, DIVIDE, REMAINDER, AND, XOR, OR}
use Rattle.mage_lex.specs.declared.fault.LangKind.TheVariants as wrong
use Rattle.mage_lex.specs.declared.token.Token.{Token}
use Rattle.mage_tree.specs.Words.{bytes_of, callable_of}
use Rattle.mage_tree.specs.declared.class.Callable.{Callable}
use Rattle.mage_tree.specs.declared.class.Callable.TheVariants as callable
use Rattle.mage_tree.specs.declared.tree.ConstExpr.{ConstExpr}
use Rattle.mage_tree.specs.declared.tree.Expr.{Expr, map-Expr, roll-Expr}
use Rattle.mage_tree.specs.declared.tree.Expr.TheOpen.{Expr-F}
use Rattle.mage_tree.specs.declared.tree.Expr.TheFolds.{fold-roll-Expr, ind-Expr}
use Rattle.mage_linked.specs.declared.emitted.Emitted.{Emitted}
use Rattle.mage_unroll.specs.declared.state.Variable.{Variable}
use Rattle.mage_constants.specs.Answer.{or_fault}
use Rattle.mage_constants.specs.Tokens.{row_of}
use Rattle.mage_constants.specs.Constants.{constant_of}
use Rattle.mage_unroll.specs.State.{State, instr_of, constants_of, own_place, width_at, is_as_wide}
use Rattle.mage_linked.specs.Emission.{own_instrs}
use Rattle.mage_linked.specs.Linked.{is_transfer}
use Rattle.mage_unroll.specs.Expressions.{ExprMeaning, op_of, shift_of, amount_in, literal_in, of_one, of_two, combined, chained, shifted, all_shifted, all_of, chosen, call_of_one, call_of_two, call_by, called, expr_layer, variable_of}
use Rattle.mage_unroll.specs.Limits.{LITERAL_BITS}
use Rattle.mage_unroll.proofs.SoundLists.{DefinesAt, CanFollow}
use Rattle.mage_unroll.proofs.SoundPlaces.{place_of-Held, own_place-is, same_width, IsWidth-at}
use Rattle.mage_chains.proofs.Ends.{then_ok, same_Ok, same_Some, err_not_ok, none_not_some}
use Rattle.mage_constants.proofs.Trees.{or_fault_ok}
use Rattle.mage_constants.proofs.RangeLemmas.{number_below-is}
use Rattle.mage_unroll.proofs.SoundStates.{IsWidth, IsVariable, Well, After, Makes, Makes-defined, After-nothing, then_After, then_Makes, IsVariable-After}

-- ---- the opcode of each operator

-- an opcode that computes on this many arguments of its own width, with any immediate that fits
record Computes (o : Op) (arity : ℕ) (Fits : ℕ → Type 0) : Type 0 where
  alone : is_transfer o ≡ false
  takes : arity_of o ≡ arity
  gives : IsTrue (has_result o)
  imm_ok : (width imm : ℕ) → Fits imm → ImmOk o width imm
  wide : (width imm k : ℕ) → width_of_arg o width imm k ≡ width

-- so does the opcode that was found, if one was
cond-Computes : (arity : ℕ) (Fits : ℕ → Type 0) (test : Bool) (o : Op) (other : Option Op) → Computes o arity Fits → ((x : Op) → other ≡ Some x → Computes x arity Fits) → (x : Op) → cond test (Some o) other ≡ Some x → Computes x arity Fits
cond-Computes arity Fits true o other h k x e = subst (λ y. Computes y arity Fits) (same_Some o x e) h
cond-Computes arity Fits false o other h k x e = k x e

abbrev IsNone : ℕ → Type 0
IsNone imm = imm ≡ 0

abbrev IsAmount : ℕ → Type 0
IsAmount imm = imm ≤ greatest_width

op_of-Computes : (token : Token) (o : Op) → op_of token ≡ Some o → Computes o 2 IsNone
unfolding op_of
op_of-Computes token =
    let n = row_of token in
    cond-Computes 2 IsNone (eqb n PLUS) op.Add _ (record { alone = refl; takes = refl; gives = refl; imm_ok = λ w i h. h; wide = λ w i k. refl }) (
    cond-Computes 2 IsNone (eqb n MINUS) op.Sub _ (record { alone = refl; takes = refl; gives = refl; imm_ok = λ w i h. h; wide = λ w i k. refl }) (
    cond-Computes 2 IsNone (eqb n TIMES) op.Mul _ (record { alone = refl; takes = refl; gives = refl; imm_ok = λ w i h. h; wide = λ w i k. refl }) (
    cond-Computes 2 IsNone (eqb n DIVIDE) op.Div _ (record { alone = refl; takes = refl; gives = refl; imm_ok = λ w i h. h; wide = λ w i k. refl }) (
    cond-Computes 2 IsNone (eqb n REMAINDER) op.Rem _ (record { alone = refl; takes = refl; gives = refl; imm_ok = λ w i h. h; wide = λ w i k. refl }) (
    cond-Computes 2 IsNone (eqb n AND) op.And _ (record { alone = refl; takes = refl; gives = refl; imm_ok = λ w i h. h; wide = λ w i k. refl }) (
    cond-Computes 2 IsNone (eqb n XOR) op.Xor _ (record { alone = refl; takes = refl; gives = refl; imm_ok = λ w i h. h; wide = λ w i k. refl }) (
    cond-Computes 2 IsNone (eqb n OR) op.Or _ (record { alone = refl; takes = refl; gives = refl; imm_ok = λ w i h. h; wide = λ w i k. refl }) (
    cond-Computes 2 IsNone (eqb n EQUALS) op.Eq _ (record { alone = refl; takes = refl; gives = refl; imm_ok = λ w i h. h; wide = λ w i k. refl }) (
    cond-Computes 2 IsNone (eqb n LESS) op.Lt _ (record { alone = refl; takes = refl; gives = refl; imm_ok = λ w i h. h; wide = λ w i k. refl }) (
    λ x e. absurd (none_not_some x e)))))))))))

shift_of-Computes : (token : Token) (o : Op) → shift_of token ≡ Some o → Computes o 1 IsAmount
unfolding shift_of
shift_of-Computes token =
    let n = row_of token in
    cond-Computes 1 IsAmount (eqb n SHIFT_LEFT) op.Shl _ (record { alone = refl; takes = refl; gives = refl; imm_ok = λ w i h. h; wide = λ w i k. refl }) (
    cond-Computes 1 IsAmount (eqb n SHIFT_RIGHT) op.Shr _ (record { alone = refl; takes = refl; gives = refl; imm_ok = λ w i h. h; wide = λ w i k. refl }) (
    λ x e. absurd (none_not_some x e)))

not-Computes : Computes op.Not 1 IsNone
not-Computes = record { alone = refl; takes = refl; gives = refl; imm_ok = λ w i h. h; wide = λ w i k. refl }

count-Computes : Computes op.Count 1 IsNone
count-Computes = record { alone = refl; takes = refl; gives = refl; imm_ok = λ w i h. h; wide = λ w i k. refl }

min-Computes : Computes op.Min 2 IsNone
min-Computes = record { alone = refl; takes = refl; gives = refl; imm_ok = λ w i h. h; wide = λ w i k. refl }

max-Computes : Computes op.Max 2 IsNone
max-Computes = record { alone = refl; takes = refl; gives = refl; imm_ok = λ w i h. h; wide = λ w i k. refl }

-- ---- what holds of the first arguments

pub args_none : (P : ℕ → Type 0) (k : ℕ) → k < 0 → P k
args_none P k h = absurd (omega arith)

pub args_one : (P : ℕ → Type 0) → P 0 → (k : ℕ) → k < 1 → P k
args_one P a zero h = a
args_one P a (suc k) h = absurd (omega arith)

args_two : (P : ℕ → Type 0) → P 0 → P 1 → (k : ℕ) → k < 2 → P k
args_two P a b zero h = a
args_two P a b (suc zero) h = b
args_two P a b (suc (suc k)) h = absurd (omega arith)

args_three : (P : ℕ → Type 0) → P 0 → P 1 → P 2 → (k : ℕ) → k < 3 → P k
args_three P a b c zero h = a
args_three P a b c (suc zero) h = b
args_three P a b c (suc (suc zero)) h = c
args_three P a b c (suc (suc (suc k))) h = absurd (omega arith)

-- ---- instructions that can follow

-- an instruction on one variable
follows_one : (xs : List Instr) (o : Op) (Fits : ℕ → Type 0) (width index imm : ℕ) → Computes o 1 Fits → Fits imm → IsWidth width → DefinesAt xs index width → CanFollow xs (instr_of o width (index ∷ 0 ∷ 0 ∷ []) imm)
follows_one xs o Fits width index imm c fits w h =
    let first = subst (λ n. DefinesAt xs index n) (sym (c.wide width imm 0)) h in
    let args = args_one (λ k. DefinesAt xs (slice_index (index ∷ 0 ∷ 0 ∷ []) k) (width_of_arg o width imm k)) first in
    record { width_ok = (w.0, w.1, c.imm_ok width imm fits); args = λ k below. args k (subst (λ n. k < n) c.takes below) }

-- an instruction on two variables
follows_two : (xs : List Instr) (o : Op) (width index other : ℕ) → Computes o 2 IsNone → IsWidth width → DefinesAt xs index width → DefinesAt xs other width → CanFollow xs (instr_of o width (index ∷ other ∷ 0 ∷ []) 0)
follows_two xs o width index other c w h k =
    let first = subst (λ n. DefinesAt xs index n) (sym (c.wide width 0 0)) h in
    let second = subst (λ n. DefinesAt xs other n) (sym (c.wide width 0 1)) k in
    let args = args_two (λ k. DefinesAt xs (slice_index (index ∷ other ∷ 0 ∷ []) k) (width_of_arg o width 0 k)) first second in
    record { width_ok = (w.0, w.1, c.imm_ok width 0 refl); args = λ k below. args k (subst (λ n. k < n) c.takes below) }

follows_choice : (xs : List Instr) (width condition index other : ℕ) → IsWidth width → DefinesAt xs condition 1 → DefinesAt xs index width → DefinesAt xs other width → CanFollow xs (instr_of op.Mux width (condition ∷ index ∷ other ∷ []) 0)
follows_choice xs width condition index other w c h k =
    record { width_ok = (w.0, w.1, refl); args = args_three (λ k. DefinesAt xs (slice_index (condition ∷ index ∷ other ∷ []) k) (width_of_arg op.Mux width 0 k)) c h k }

follows_resize : (xs : List Instr) (width index other : ℕ) → IsWidth width → IsWidth other → DefinesAt xs index other → CanFollow xs (instr_of op.Resize width (index ∷ 0 ∷ 0 ∷ []) other)
follows_resize xs width index other w v h =
    record { width_ok = (w.0, w.1, v); args = args_one (λ k. DefinesAt xs (slice_index (index ∷ 0 ∷ 0 ∷ []) k) (width_of_arg op.Resize width other k)) h }

pub below_power : (value i j : ℕ) → i ≤ j → value < 2 ^ i → value < 2 ^ j
below_power value i j h k = omega (arith, pow_mono {i = i} {j = j} h)

follows_literal : (xs : List Instr) (width value : ℕ) → IsWidth width → value < 2 ^ min width LITERAL_BITS → CanFollow xs (instr_of op.Const width (0 ∷ 0 ∷ 0 ∷ []) value)
follows_literal xs width value w h =
    let wide : value < 2 ^ width = below_power value (min width LITERAL_BITS) width (omega arith) h in
    let short : value < 2 ^ LITERAL_BITS = below_power value (min width LITERAL_BITS) LITERAL_BITS (omega arith) h in
    record { width_ok = (w.0, w.1, (wide, short)); args = args_none (λ k. DefinesAt xs (slice_index (0 ∷ 0 ∷ 0 ∷ []) k) (width_of_arg op.Const width value k)) }

amount_in-is : (z : ℤ) (n : ℕ) → amount_in z ≡ Some n → n ≤ greatest_width
amount_in-is z n h = let is = number_below-is (greatest_width + 1) z n h in omega (arith, is.1)

literal_in-is : (width : ℕ) (z : ℤ) (n : ℕ) → literal_in width z ≡ Some n → n < 2 ^ min width LITERAL_BITS
literal_in-is width z n h = (number_below-is (2 ^ min width LITERAL_BITS) z n h).1

-- variables of a worker
abbrev AreVariables : List Emitted → (worker : ℕ) → List Variable → Type 0
AreVariables program worker [] = Unit {0}
AreVariables program worker (v ∷ vs) = IsVariable program worker v × AreVariables program worker vs

module _ (workers : ℕ) where
  -- where an expression has a variable, this is one of the current worker
  abbrev pub ExprLaw : ExprMeaning → Type 0
  ExprLaw meaning = (word : Token) (s s' : State) (v : Variable) → Well workers s → meaning word s ≡ Ok (v, s') → Makes workers s s' v

  of_one-Makes : (o : Op) (Fits : ℕ → Type 0) (word : Token) (a : Variable) (imm : ℕ) (s s' : State) (v : Variable) → Computes o 1 Fits → Fits imm → Well workers s → IsVariable s.program s.worker a → of_one o word a imm s ≡ Ok (v, s') → Makes workers s s' v
  of_one-Makes o Fits word a imm s s' v c fits well ha h =
      Makes-defined workers word (instr_of o a.width (a.index ∷ 0 ∷ 0 ∷ []) imm) s s' v well c.alone
      (follows_one (own_instrs s.program s.worker) o Fits a.width a.index imm c fits ha.width ha.defines) c.gives h

  of_two-Makes : (o : Op) (word token : Token) (a b : Variable) (s s' : State) (v : Variable) → Computes o 2 IsNone → Well workers s → IsVariable s.program s.worker a → IsVariable s.program s.worker b → of_two o word token a b s ≡ Ok (v, s') → Makes workers s s' v
  unfolding of_two
  of_two-Makes o word token a b s s' v c well ha hb h =
      let same = then_ok (is_as_wide token a.width b.width) _ (v, s') h in
      let width = same_width token a.width b.width same.0 same.1 in
      let xs = own_instrs s.program s.worker in
      let other = subst (λ n. DefinesAt xs b.index n) (sym width) hb.defines in
      Makes-defined workers word (instr_of o a.width (a.index ∷ b.index ∷ 0 ∷ []) 0) s s' v well c.alone (follows_two xs o a.width a.index b.index c ha.width ha.defines other) c.gives same.2

  combined-Makes : (word token : Token) (a b : Variable) (s s' : State) (v : Variable) → Well workers s → IsVariable s.program s.worker a → IsVariable s.program s.worker b → combined word token a b s ≡ Ok (v, s') → Makes workers s s' v
  unfolding combined
  combined-Makes word token a b s s' v well ha hb h =
      let o = then_ok (or_fault wrong.WidthDiffers token (op_of token)) _ (v, s') h in
      of_two-Makes o.0 word token a b s s' v (op_of-Computes token o.0 (or_fault_ok _ token (op_of token) o.0 o.1)) well ha hb o.2

  shifted-Makes : (word token : Token) (amount : ConstExpr) (a : Variable) (s s' : State) (v : Variable) → Well workers s → IsVariable s.program s.worker a → shifted word token amount a s ≡ Ok (v, s') → Makes workers s s' v
  unfolding shifted
  shifted-Makes word token amount a s s' v well ha h =
      let z = then_ok (constant_of amount (constants_of s)) _ (v, s') h in
      let n = then_ok _ _ (v, s') z.2 in
      let o = then_ok (or_fault wrong.WidthDiffers token (shift_of token)) _ (v, s') n.2 in
      let few = amount_in-is z.0 n.0 (or_fault_ok _ token (amount_in z.0) n.0 n.1) in
      of_one-Makes o.0 IsAmount word a n.0 s s' v (shift_of-Computes token o.0 (or_fault_ok _ token (shift_of token) o.0 o.1)) few well ha o.2

  Makes-nothing : (a : Variable) (s s' : State) (v : Variable) → Well workers s → IsVariable s.program s.worker a → ◌≡◌ {A = Variable × State} (a, s) (v, s') → Makes workers s s' v
  Makes-nothing a s s' v well ha same =
      subst (λ (p : Variable × State). Makes workers s p.1 p.0) same (record { after = After-nothing workers s well; variable = ha })

  all_shifted-Makes : (terms : List (Token × ConstExpr)) (word : Token) (a : Variable) (s s' : State) (v : Variable) → Well workers s → IsVariable s.program s.worker a → all_shifted terms word a s ≡ Ok (v, s') → Makes workers s s' v
  all_shifted-Makes [] word a s s' v well ha h = Makes-nothing a s s' v well ha (same_Ok (a, s) (v, s') h)
  all_shifted-Makes (term ∷ terms) word a s s' v well ha h =
      let b = then_ok (shifted word term.0 term.1 a s) _ (v, s') h in
      let one = shifted-Makes word term.0 term.1 a s b.0.1 b.0.0 well ha b.1 in
      then_Makes workers s b.0.1 s' v one.after (all_shifted-Makes terms word b.0.0 b.0.1 s' v one.after.well one.variable b.2)

  -- a state after some variables of the current worker
  record MakesAll (s s' : State) (vs : List Variable) : Type 0 where
    after : After workers s s'
    variables : AreVariables s'.program s'.worker vs

  chosen-three : (word keyword : Token) (c a b : Variable) (s s' : State) (v : Variable) → Well workers s → IsVariable s.program s.worker c → IsVariable s.program s.worker a → IsVariable s.program s.worker b → chosen word keyword (c ∷ a ∷ b ∷ []) s ≡ Ok (v, s') → Makes workers s s' v
  unfolding chosen
  chosen-three word keyword c a b s s' v well hc ha hb h =
      let bit = then_ok (is_as_wide keyword c.width 1) _ (v, s') h in
      let same = then_ok (is_as_wide keyword a.width b.width) _ (v, s') bit.2 in
      let xs = own_instrs s.program s.worker in
      let condition = subst (λ n. DefinesAt xs c.index n) (same_width keyword c.width 1 bit.0 bit.1) hc.defines in
      let other = subst (λ n. DefinesAt xs b.index n) (sym (same_width keyword a.width b.width same.0 same.1)) hb.defines in
      Makes-defined workers word (instr_of op.Mux a.width (c.index ∷ a.index ∷ b.index ∷ []) 0) s s' v well refl (follows_choice xs a.width c.index a.index b.index ha.width condition ha.defines other) refl same.2

  chosen-Makes : (word keyword : Token) (vs : List Variable) (s s' : State) (v : Variable) → Well workers s → AreVariables s.program s.worker vs → chosen word keyword vs s ≡ Ok (v, s') → Makes workers s s' v
  unfolding chosen
  chosen-Makes word keyword (c ∷ a ∷ b ∷ []) s s' v well all h = chosen-three word keyword c a b s s' v well all.0 all.1.0 all.1.1.0 h
  chosen-Makes word keyword [] s s' v well all h = absurd (err_not_ok _ (v, s') h)
  chosen-Makes word keyword (c ∷ []) s s' v well all h = absurd (err_not_ok _ (v, s') h)
  chosen-Makes word keyword (c ∷ a ∷ []) s s' v well all h = absurd (err_not_ok _ (v, s') h)
  chosen-Makes word keyword (c ∷ a ∷ b ∷ d ∷ vs) s s' v well all h = absurd (err_not_ok _ (v, s') h)

  call_of_one-Makes : (o : Op) (word keyword : Token) (vs : List Variable) (s s' : State) (v : Variable) → Computes o 1 IsNone → Well workers s → AreVariables s.program s.worker vs → call_of_one o word keyword vs s ≡ Ok (v, s') → Makes workers s s' v
  call_of_one-Makes o word keyword (a ∷ []) s s' v c well all h = of_one-Makes o IsNone word a 0 s s' v c refl well all.0 h
  call_of_one-Makes o word keyword [] s s' v c well all h = absurd (err_not_ok _ (v, s') h)
  call_of_one-Makes o word keyword (a ∷ b ∷ vs) s s' v c well all h = absurd (err_not_ok _ (v, s') h)

  call_of_two-Makes : (o : Op) (word keyword : Token) (vs : List Variable) (s s' : State) (v : Variable) → Computes o 2 IsNone → Well workers s → AreVariables s.program s.worker vs → call_of_two o word keyword vs s ≡ Ok (v, s') → Makes workers s s' v
  call_of_two-Makes o word keyword (a ∷ b ∷ []) s s' v c well all h = of_two-Makes o word keyword a b s s' v c well all.0 all.1.0 h
  call_of_two-Makes o word keyword [] s s' v c well all h = absurd (err_not_ok _ (v, s') h)
  call_of_two-Makes o word keyword (a ∷ []) s s' v c well all h = absurd (err_not_ok _ (v, s') h)
  call_of_two-Makes o word keyword (a ∷ b ∷ d ∷ vs) s s' v c well all h = absurd (err_not_ok _ (v, s') h)

  call_by-Makes : (which : Option Callable) (word keyword : Token) (vs : List Variable) (s s' : State) (v : Variable) → Well workers s → AreVariables s.program s.worker vs → call_by which word keyword vs s ≡ Ok (v, s') → Makes workers s s' v
  call_by-Makes (Some callable.Min) word keyword vs s s' v well all h = call_of_two-Makes op.Min word keyword vs s s' v min-Computes well all h
  call_by-Makes (Some callable.Max) word keyword vs s s' v well all h = call_of_two-Makes op.Max word keyword vs s s' v max-Computes well all h
  call_by-Makes (Some callable.Count) word keyword vs s s' v well all h = call_of_one-Makes op.Count word keyword vs s s' v count-Computes well all h
  call_by-Makes None word keyword vs s s' v well all h = absurd (err_not_ok _ (v, s') h)

  called-Makes : (word keyword : Token) (vs : List Variable) (s s' : State) (v : Variable) → Well workers s → AreVariables s.program s.worker vs → called word keyword vs s ≡ Ok (v, s') → Makes workers s s' v
  unfolding called
  called-Makes word keyword vs s s' v well all h = call_by-Makes (callable_of (bytes_of keyword)) word keyword vs s s' v well all h

  module _ (X : Type 0) (f : X → ExprMeaning) (Y : Type 0) (base : Y → X) (law : (t : Y) → ExprLaw (f (base t))) where
    chained-Makes : (terms : List (Token × Y)) (word : Token) (a : Variable) (s s' : State) (v : Variable) → Well workers s → IsVariable s.program s.worker a → chained (map (λ (t : Token × X). (t.0, f t.1)) (map (λ (t : Token × Y). (t.0, base t.1)) terms)) word a s ≡ Ok (v, s') → Makes workers s s' v
    chained-Makes [] word a s s' v well ha h = Makes-nothing a s s' v well ha (same_Ok (a, s) (v, s') h)
    chained-Makes (term ∷ terms) word a s s' v well ha h =
        let b = then_ok (f (base term.1) word s) _ (v, s') h in
        let c = then_ok (combined word term.0 a b.0.0 b.0.1) _ (v, s') b.2 in
        let one = law term.1 word s b.0.1 b.0.0 well b.1 in
        let two = combined-Makes word term.0 a b.0.0 b.0.1 c.0.1 c.0.0 one.after.well (IsVariable-After workers s b.0.1 a one.after ha) one.variable c.1 in
        let three = chained-Makes terms word c.0.0 c.0.1 s' v two.after.well two.variable c.2 in
        then_Makes workers s b.0.1 s' v one.after (then_Makes workers b.0.1 c.0.1 s' v two.after three)

    all_of-Makes : (args : List Y) (word : Token) (s s' : State) (vs : List Variable) → Well workers s → all_of (map f (map base args)) word s ≡ Ok (vs, s') → MakesAll s s' vs
    all_of-Makes [] word s s' vs well h =
        subst (λ (p : List Variable × State). MakesAll s p.1 p.0) (same_Ok ([], s) (vs, s') h) (record { after = After-nothing workers s well; variables = tt })
    all_of-Makes (arg ∷ args) word s s' vs well h =
        let b = then_ok (f (base arg) word s) _ (vs, s') h in
        let c = then_ok (all_of (map f (map base args)) word b.0.1) _ (vs, s') b.2 in
        let one = law arg word s b.0.1 b.0.0 well b.1 in
        let rest = all_of-Makes args word b.0.1 c.0.1 c.0.0 one.after.well c.1 in
        subst (λ (p : List Variable × State). MakesAll s p.1 p.0) (same_Ok (b.0.0 ∷ c.0.0, c.0.1) (vs, s') c.2) (record {
          after = then_After workers s b.0.1 c.0.1 one.after rest.after;
          variables = (IsVariable-After workers b.0.1 c.0.1 b.0.0 rest.after one.variable, rest.variables);
        })

    layer-Law : (e : Expr-F Y) → ExprLaw (expr_layer (map-Expr X ExprMeaning f (map-Expr Y X base e)))
    unfolding expr_layer
    layer-Law (Expr-F.Item item) word s s' v well h =
        let held = then_ok (own_place item s) _ (v, s') h in
        let is = own_place-is s item held.0 held.1 in
        let variable = (place_of-Held workers s item held.0 well is.0).1 in
        Makes-nothing held.0.variable s s' v well (subst (λ w. IsVariable s.program w held.0.variable) is.1 variable) (same_Ok (held.0.variable, s) (v, s') held.2)
    layer-Law (Expr-F.Paren bracket inner) word s s' v well h = law inner word s s' v well h
    layer-Law (Expr-F.Chain first rest) word s s' v well h =
        let a = then_ok (f (base first) word s) _ (v, s') h in
        let one = law first word s a.0.1 a.0.0 well a.1 in
        then_Makes workers s a.0.1 s' v one.after (chained-Makes rest word a.0.0 a.0.1 s' v one.after.well one.variable a.2)
    layer-Law (Expr-F.Shift first rest) word s s' v well h =
        let a = then_ok (f (base first) word s) _ (v, s') h in
        let one = law first word s a.0.1 a.0.0 well a.1 in
        then_Makes workers s a.0.1 s' v one.after (all_shifted-Makes rest word a.0.0 a.0.1 s' v one.after.well one.variable a.2)
    layer-Law (Expr-F.Not token operand) word s s' v well h =
        let a = then_ok (f (base operand) word s) _ (v, s') h in
        let one = law operand word s a.0.1 a.0.0 well a.1 in
        then_Makes workers s a.0.1 s' v one.after (of_one-Makes op.Not IsNone word a.0.0 0 a.0.1 s' v not-Computes refl one.after.well one.variable a.2)
    layer-Law (Expr-F.Lit keyword ty e) word s s' v well h =
        let w = then_ok (width_at ty) _ (v, s') h in
        let z = then_ok (constant_of e (constants_of s)) _ (v, s') w.2 in
        let n = then_ok _ _ (v, s') z.2 in
        let fits = literal_in-is w.0 z.0 n.0 (or_fault_ok _ keyword (literal_in w.0 z.0) n.0 n.1) in
        Makes-defined workers word (instr_of op.Const w.0 (0 ∷ 0 ∷ 0 ∷ []) n.0) s s' v well refl (follows_literal (own_instrs s.program s.worker) w.0 n.0 (IsWidth-at ty w.0 w.1) fits) refl n.2
    layer-Law (Expr-F.Resize keyword ty operand) word s s' v well h =
        let w = then_ok (width_at ty) _ (v, s') h in
        let a = then_ok (f (base operand) word s) _ (v, s') w.2 in
        let one = law operand word s a.0.1 a.0.0 well a.1 in
        let x = a.0.0 in
        let follows = follows_resize (own_instrs a.0.1.program a.0.1.worker) w.0 x.index x.width (IsWidth-at ty w.0 w.1) one.variable.width one.variable.defines in
        then_Makes workers s a.0.1 s' v one.after (Makes-defined workers word (instr_of op.Resize w.0 (x.index ∷ 0 ∷ 0 ∷ []) x.width) a.0.1 s' v one.after.well refl follows refl a.2)
    layer-Law (Expr-F.Mux keyword args) word s s' v well h =
        let vs = then_ok (all_of (map f (map base args)) word s) _ (v, s') h in
        let all = all_of-Makes args word s vs.0.1 vs.0.0 well vs.1 in
        then_Makes workers s vs.0.1 s' v all.after (chosen-Makes word keyword vs.0.0 vs.0.1 s' v all.after.well all.variables vs.2)
    layer-Law (Expr-F.Call keyword args) word s s' v well h =
        let vs = then_ok (all_of (map f (map base args)) word s) _ (v, s') h in
        let all = all_of-Makes args word s vs.0.1 vs.0.0 well vs.1 in
        then_Makes workers s vs.0.1 s' v all.after (called-Makes word keyword vs.0.0 vs.0.1 s' v all.after.well all.variables vs.2)

  roll-Law : (Y : Type 0) (base : Y → Expr) (law : (t : Y) → ExprLaw (variable_of (base t))) (e : Expr-F Y) → ExprLaw (variable_of (roll-Expr (map-Expr Y Expr base e)))
  unfolding variable_of
  roll-Law Y base law e =
      let z = map-Expr Y Expr base e in
      subst (λ (m : ExprMeaning). ExprLaw m) (sym (fold-roll-Expr ExprMeaning expr_layer z)) (layer-Law Expr variable_of Y base law e)

  -- the law of expressions
  pub variable_of-Law : (e : Expr) → ExprLaw (variable_of e)
  variable_of-Law = ind-Expr (λ e. ExprLaw (variable_of e)) (λ x y is.
      subst (λ (z : Expr-F Expr). ExprLaw (variable_of (roll-Expr z))) is (roll-Law _ (λ e. e.0) (λ e. e.1) y))
