-- The faults of the definitions are of the kinds of unrolling.
use Rattle.std.proofs.Common.{◌+◌, ◌++◌, ◌∷◌, [], ℕ, ℤ, Bool, true, false, cond, ◌==◌, List, length, map, Option, Some, None, Result, Ok, Err, refl, sym, subst}
use Rattle.std.specs.Prelude.{IsTrue, is_some, slice_get, nat_le, nat_lt}
use Rattle.mage_instr.specs.declared.instr.Instr.{Instr}
use Rattle.mage_instr.specs.declared.op.Op.{Op}
use Rattle.mage_instr.specs.declared.op.Op.TheVariants as op
use Rattle.mage_lex.specs.declared.fault.LangFault.{LangFault}
use Rattle.mage_lex.specs.declared.fault.LangKind.{LangKind}
use Rattle.mage_lex.specs.declared.fault.LangKind.TheVariants as wrong
use Rattle.mage_lex.specs.declared.token.Token.{Token}
use Rattle.mage_scopes.specs.Scopes.{found}
use Rattle.mage_tree.specs.Words.{bytes_of, callable_of}
use Rattle.mage_tree.specs.declared.class.Callable.{Callable}
use Rattle.mage_tree.specs.declared.class.Callable.TheVariants as callable
use Rattle.mage_tree.specs.declared.tree.ConstExpr.{ConstExpr, map-ConstExpr, roll-ConstExpr}
use Rattle.mage_tree.specs.declared.tree.ConstExpr.TheOpen.{ConstExpr-F}
use Rattle.mage_tree.specs.declared.tree.ConstExpr.TheFolds.{fold-roll-ConstExpr, ind-ConstExpr}
use Rattle.mage_tree.specs.declared.tree.Expr.{Expr, map-Expr, roll-Expr}
use Rattle.mage_tree.specs.declared.tree.Expr.TheOpen.{Expr-F}
use Rattle.mage_tree.specs.declared.tree.Expr.TheFolds.{fold-roll-Expr, ind-Expr}
use Rattle.mage_tree.specs.declared.tree.Item.{Item}
use Rattle.mage_unroll.specs.declared.state.Array.{Array}
use Rattle.mage_unroll.specs.declared.state.Variable.{Variable}
use Rattle.mage_chains.specs.Chains.{◌>>=◌}
use Rattle.mage_constants.specs.Answer.{fault_at, or_fault}
use Rattle.mage_constants.specs.Constants.{Constants, ConstMeaning, operated, const_chain, const_layer, constant_of}
use Rattle.mage_constants.specs.Tokens.{row_of}
use Rattle.mage_unroll.specs.Expressions.{ExprMeaning, op_of, shift_of, amount_in, literal_in, of_two, combined, chained, shifted, all_shifted, all_of, chosen, call_of_one, call_of_two, call_by, called, expr_layer, variable_of}
use Rattle.mage_unroll.specs.Kinds.{is_unrolling, IsUnrolling}
use Rattle.mage_unroll.specs.Limits.{MOST_STEPS, MOST_INSTRS}
use Rattle.mage_unroll.specs.State.{State, stepped_by, emitted, defined, is_free, constants_of, as_scalar, as_array, position_of, item_of, place_with, place_of, own_place, width_at, is_as_wide}

-- its fault, if it has one, is of unrolling
abbrev pub Kinds : {Y : Type 0} → Result Y LangFault → Type 0
Kinds (Ok y) = Unit {0}
Kinds (Err fault) = IsUnrolling fault

pub kinds-then : {A B : Type 0} (r : Result A LangFault) (f : A → Result B LangFault) → Kinds r → ((x : A) → Kinds (f x)) → Kinds (r >>= f)
kinds-then (Ok x) f h k = k x
kinds-then (Err fault) f h k = h

pub kinds-or_fault : {A : Type 0} (kind : LangKind) (token : Token) (o : Option A) → IsTrue (is_unrolling kind) → Kinds (or_fault kind token o)
kinds-or_fault kind token None h = h
kinds-or_fault kind token (Some x) h = tt

pub kinds-if : {A : Type 0} (test : Bool) (r q : Result A LangFault) → Kinds r → Kinds q → Kinds (cond test r q)
kinds-if true r q h k = h
kinds-if false r q h k = k

pub kinds-test : {A : Type 0} (test : Bool) (x : A) (kind : LangKind) (token : Token) → IsTrue (is_unrolling kind) → Kinds (cond test (Ok x) (Err (fault_at kind token)))
kinds-test true x kind token h = tt
kinds-test false x kind token h = h

-- ---- constants

abbrev ConstKinds : ConstMeaning → Type 0
ConstKinds f = (names : Constants) → Kinds (f names)

module _ (X : Type 0) (f : X → ConstMeaning) (Y : Type 0) (base : Y → X) (law : (t : Y) → ConstKinds (f (base t))) where
  kinds-const_chain : (rest : List (Token × Y)) (names : Constants) (so_far : ℤ) → Kinds (const_chain (map (λ (term : Token × X). (term.0, f term.1)) (map (λ (term : Token × Y). (term.0, base term.1)) rest)) names so_far)
  kinds-const_chain [] names so_far = tt
  kinds-const_chain (term ∷ rest) names so_far =
      kinds-then (f (base term.1) names) _ (law term.1 names) (λ operand.
      kinds-then (or_fault wrong.ConstFault term.0 (operated (row_of term.0) so_far operand)) _ (kinds-or_fault wrong.ConstFault term.0 (operated (row_of term.0) so_far operand) refl) (λ value.
      kinds-const_chain rest names value))

  kinds-const_layer : (e : ConstExpr-F Y) → ConstKinds (const_layer (map-ConstExpr X ConstMeaning f (map-ConstExpr Y X base e)))
  unfolding const_layer
  kinds-const_layer (ConstExpr-F.Number token) names = kinds-or_fault wrong.ConstFault token _ refl
  kinds-const_layer (ConstExpr-F.Name token) names = kinds-or_fault wrong.UnknownName token _ refl
  kinds-const_layer (ConstExpr-F.Paren bracket inner) names = law inner names
  kinds-const_layer (ConstExpr-F.Minus op operand) names =
      kinds-then (f (base operand) names) _ (law operand names) (λ value. kinds-or_fault wrong.ConstFault op _ refl)
  kinds-const_layer (ConstExpr-F.Chain first rest) names =
      kinds-then (f (base first) names) _ (law first names) (λ value. kinds-const_chain rest names value)

kinds-const_roll : (Y : Type 0) (base : Y → ConstExpr) (law : (t : Y) → ConstKinds (constant_of (base t))) (e : ConstExpr-F Y) → ConstKinds (constant_of (roll-ConstExpr (map-ConstExpr Y ConstExpr base e)))
unfolding constant_of
kinds-const_roll Y base law e =
    let z = map-ConstExpr Y ConstExpr base e in
    subst (λ (m : ConstMeaning). ConstKinds m) (sym (fold-roll-ConstExpr ConstMeaning const_layer z)) (kinds-const_layer ConstExpr constant_of Y base law e)

pub kinds-constant : (e : ConstExpr) → ConstKinds (constant_of e)
kinds-constant = ind-ConstExpr (λ e. ConstKinds (constant_of e)) (λ x y is.
    subst (λ (z : ConstExpr-F ConstExpr). ConstKinds (constant_of (roll-ConstExpr z))) is (kinds-const_roll _ (λ e. e.0) (λ e. e.1) y))

-- ---- steps, instructions, names and places

pub kinds-stepped : (n : ℕ) (word : Token) (s : State) → Kinds (stepped_by n word s)
kinds-stepped n word s = kinds-test (nat_le (s.steps + n) MOST_STEPS) (record s { steps = s.steps + n }) wrong.TooLong word refl

pub kinds-emitted : (word : Token) (worker : ℕ) (instr : Instr) (s : State) → Kinds (emitted word worker instr s)
kinds-emitted word worker instr s =
    kinds-test (nat_lt (length s.program) MOST_INSTRS) (record s { program = s.program ++ record { worker = worker; instr = instr } ∷ [] }) wrong.TooLong word refl

pub kinds-defined : (word : Token) (instr : Instr) (s : State) → Kinds (defined word instr s)
kinds-defined word instr s = kinds-then (emitted word s.worker instr s) _ (kinds-emitted word s.worker instr s) (λ after. tt)

pub kinds-free : (name : Token) (s : State) → Kinds (is_free name s)
kinds-free name s = kinds-if (is_some (found s.scopes (bytes_of name))) (Err (fault_at wrong.Duplicate name)) (Ok tt) refl tt

pub kinds-width_at : (ty : Token) → Kinds (width_at ty)
kinds-width_at ty = kinds-or_fault wrong.BadWidth ty _ refl

pub kinds-is_as_wide : (token : Token) (width other : ℕ) → Kinds (is_as_wide token width other)
kinds-is_as_wide token width other = kinds-test (width == other) tt wrong.WidthDiffers token refl

kinds-item_of : (name : Token) (index : ConstExpr) (array : Array) (s : State) → Kinds (item_of name index array s)
unfolding item_of
kinds-item_of name index array s =
    kinds-then (constant_of index (constants_of s)) _ (kinds-constant index (constants_of s)) (λ value.
    kinds-then (or_fault wrong.IndexOut name (position_of value array)) _ (kinds-or_fault wrong.IndexOut name (position_of value array) refl) (λ position.
    kinds-then (or_fault wrong.IndexOut name (slice_get array.items position)) _ (kinds-or_fault wrong.IndexOut name (slice_get array.items position) refl) (λ variable. tt)))

kinds-place_with : (name : Token) (index : Option (Token × ConstExpr)) (s : State) → Kinds (place_with name index s)
unfolding place_with
kinds-place_with name None s = kinds-then (or_fault wrong.UnknownName name (as_scalar (found s.scopes (bytes_of name)))) _ (kinds-or_fault wrong.UnknownName name (as_scalar (found s.scopes (bytes_of name))) refl) (λ scalar. tt)
kinds-place_with name (Some index) s =
    kinds-then (or_fault wrong.UnknownName name (as_array (found s.scopes (bytes_of name)))) _ (kinds-or_fault wrong.UnknownName name (as_array (found s.scopes (bytes_of name))) refl) (λ array. kinds-item_of name index.1 array s)

pub kinds-place : (item : Item) (s : State) → Kinds (place_of item s)
kinds-place item s = kinds-place_with item.name item.index s

pub kinds-own_place : (item : Item) (s : State) → Kinds (own_place item s)
unfolding own_place
kinds-own_place item s =
    kinds-then (place_of item s) _ (kinds-place item s) (λ held. kinds-test (held.worker == s.worker) held wrong.WorkerDiffers item.name refl)

-- ---- expressions

abbrev ExprKinds : ExprMeaning → Type 0
ExprKinds f = (word : Token) (s : State) → Kinds (f word s)

kinds-of_two : (o : Op) (word token : Token) (a b : Variable) (s : State) → Kinds (of_two o word token a b s)
unfolding of_two
kinds-of_two o word token a b s =
    kinds-then (is_as_wide token a.width b.width) _ (kinds-is_as_wide token a.width b.width) (λ same. kinds-defined word _ s)

kinds-combined : (word token : Token) (a b : Variable) (s : State) → Kinds (combined word token a b s)
unfolding combined
kinds-combined word token a b s =
    kinds-then (or_fault wrong.WidthDiffers token (op_of token)) _ (kinds-or_fault wrong.WidthDiffers token (op_of token) refl) (λ o. kinds-of_two o word token a b s)

kinds-shifted : (word token : Token) (amount : ConstExpr) (a : Variable) (s : State) → Kinds (shifted word token amount a s)
unfolding shifted
kinds-shifted word token amount a s =
    kinds-then (constant_of amount (constants_of s)) _ (kinds-constant amount (constants_of s)) (λ value.
    kinds-then (or_fault wrong.ConstFault token (amount_in value)) _ (kinds-or_fault wrong.ConstFault token (amount_in value) refl) (λ places.
    kinds-then (or_fault wrong.WidthDiffers token (shift_of token)) _ (kinds-or_fault wrong.WidthDiffers token (shift_of token) refl) (λ o. kinds-defined word _ s)))

kinds-all_shifted : (rest : List (Token × ConstExpr)) (word : Token) (a : Variable) (s : State) → Kinds (all_shifted rest word a s)
kinds-all_shifted [] word a s = tt
kinds-all_shifted (term ∷ rest) word a s =
    kinds-then (shifted word term.0 term.1 a s) _ (kinds-shifted word term.0 term.1 a s) (λ value. kinds-all_shifted rest word value.0 value.1)

kinds-chosen : (word keyword : Token) (values : List Variable) (s : State) → Kinds (chosen word keyword values s)
unfolding chosen
kinds-chosen word keyword (condition ∷ a ∷ b ∷ []) s =
    kinds-then (is_as_wide keyword condition.width 1) _ (kinds-is_as_wide keyword condition.width 1) (λ bit.
    kinds-then (is_as_wide keyword a.width b.width) _ (kinds-is_as_wide keyword a.width b.width) (λ same. kinds-defined word _ s))
kinds-chosen word keyword [] s = refl
kinds-chosen word keyword (a ∷ []) s = refl
kinds-chosen word keyword (a ∷ b ∷ []) s = refl
kinds-chosen word keyword (a ∷ b ∷ c ∷ d ∷ others) s = refl

kinds-call_of_one : (o : Op) (word keyword : Token) (values : List Variable) (s : State) → Kinds (call_of_one o word keyword values s)
kinds-call_of_one o word keyword (a ∷ []) s = kinds-defined word _ s
kinds-call_of_one o word keyword [] s = refl
kinds-call_of_one o word keyword (a ∷ b ∷ others) s = refl

kinds-call_of_two : (o : Op) (word keyword : Token) (values : List Variable) (s : State) → Kinds (call_of_two o word keyword values s)
kinds-call_of_two o word keyword (a ∷ b ∷ []) s = kinds-of_two o word keyword a b s
kinds-call_of_two o word keyword [] s = refl
kinds-call_of_two o word keyword (a ∷ []) s = refl
kinds-call_of_two o word keyword (a ∷ b ∷ c ∷ others) s = refl

kinds-call_by : (which : Option Callable) (word keyword : Token) (values : List Variable) (s : State) → Kinds (call_by which word keyword values s)
kinds-call_by (Some callable.Min) word keyword values s = kinds-call_of_two op.Min word keyword values s
kinds-call_by (Some callable.Max) word keyword values s = kinds-call_of_two op.Max word keyword values s
kinds-call_by (Some callable.Count) word keyword values s = kinds-call_of_one op.Count word keyword values s
kinds-call_by None word keyword values s = refl

kinds-called : (word keyword : Token) (values : List Variable) (s : State) → Kinds (called word keyword values s)
unfolding called
kinds-called word keyword values s = kinds-call_by (callable_of (bytes_of keyword)) word keyword values s

module _ (X : Type 0) (f : X → ExprMeaning) (Y : Type 0) (base : Y → X) (law : (t : Y) → ExprKinds (f (base t))) where
  kinds-chained : (rest : List (Token × Y)) (word : Token) (a : Variable) (s : State) → Kinds (chained (map (λ (term : Token × X). (term.0, f term.1)) (map (λ (term : Token × Y). (term.0, base term.1)) rest)) word a s)
  kinds-chained [] word a s = tt
  kinds-chained (term ∷ rest) word a s =
      kinds-then (f (base term.1) word s) _ (law term.1 word s) (λ operand.
      kinds-then (combined word term.0 a operand.0 operand.1) _ (kinds-combined word term.0 a operand.0 operand.1) (λ value.
      kinds-chained rest word value.0 value.1))

  kinds-all_of : (args : List Y) (word : Token) (s : State) → Kinds (all_of (map f (map base args)) word s)
  kinds-all_of [] word s = tt
  kinds-all_of (first ∷ others) word s =
      kinds-then (f (base first) word s) _ (law first word s) (λ value.
      kinds-then (all_of (map f (map base others)) word value.1) _ (kinds-all_of others word value.1) (λ rest. tt))

  kinds-expr_layer : (e : Expr-F Y) → ExprKinds (expr_layer (map-Expr X ExprMeaning f (map-Expr Y X base e)))
  unfolding expr_layer
  kinds-expr_layer (Expr-F.Item item) word s = kinds-then (own_place item s) _ (kinds-own_place item s) (λ held. tt)
  kinds-expr_layer (Expr-F.Paren bracket inner) word s = law inner word s
  kinds-expr_layer (Expr-F.Chain first rest) word s =
      kinds-then (f (base first) word s) _ (law first word s) (λ value. kinds-chained rest word value.0 value.1)
  kinds-expr_layer (Expr-F.Shift first rest) word s =
      kinds-then (f (base first) word s) _ (law first word s) (λ value. kinds-all_shifted rest word value.0 value.1)
  kinds-expr_layer (Expr-F.Not token operand) word s =
      kinds-then (f (base operand) word s) _ (law operand word s) (λ value. kinds-defined word _ value.1)
  kinds-expr_layer (Expr-F.Lit keyword ty value) word s =
      kinds-then (width_at ty) _ (kinds-width_at ty) (λ width.
      kinds-then (constant_of value (constants_of s)) _ (kinds-constant value (constants_of s)) (λ number.
      kinds-then (or_fault wrong.ConstFault keyword (literal_in width number)) _ (kinds-or_fault wrong.ConstFault keyword (literal_in width number) refl) (λ literal. kinds-defined word _ s)))
  kinds-expr_layer (Expr-F.Resize keyword ty operand) word s =
      kinds-then (width_at ty) _ (kinds-width_at ty) (λ width.
      kinds-then (f (base operand) word s) _ (law operand word s) (λ value. kinds-defined word _ value.1))
  kinds-expr_layer (Expr-F.Mux keyword args) word s =
      kinds-then (all_of (map f (map base args)) word s) _ (kinds-all_of args word s) (λ values. kinds-chosen word keyword values.0 values.1)
  kinds-expr_layer (Expr-F.Call keyword args) word s =
      kinds-then (all_of (map f (map base args)) word s) _ (kinds-all_of args word s) (λ values. kinds-called word keyword values.0 values.1)

kinds-expr_roll : (Y : Type 0) (base : Y → Expr) (law : (t : Y) → ExprKinds (variable_of (base t))) (e : Expr-F Y) → ExprKinds (variable_of (roll-Expr (map-Expr Y Expr base e)))
unfolding variable_of
kinds-expr_roll Y base law e =
    let z = map-Expr Y Expr base e in
    subst (λ (m : ExprMeaning). ExprKinds m) (sym (fold-roll-Expr ExprMeaning expr_layer z)) (kinds-expr_layer Expr variable_of Y base law e)

pub kinds-variable : (e : Expr) → ExprKinds (variable_of e)
kinds-variable = ind-Expr (λ e. ExprKinds (variable_of e)) (λ x y is.
    subst (λ (z : Expr-F Expr). ExprKinds (variable_of (roll-Expr z))) is (kinds-expr_roll _ (λ e. e.0) (λ e. e.1) y))
