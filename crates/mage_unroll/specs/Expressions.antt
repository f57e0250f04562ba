-- The instructions of an expression. It evaluates its operands from left to right, each wholly, and
-- then emits its instruction. `word` is the first token of the statement.
use Rattle.std.specs.Prelude.{ℕ, ◌+◌, ◌^◌, ◌==◌, min, List, [], ◌∷◌, ℤ, Option, Some, None, Result, Ok, Err, if◌then◌else◌}
use Rattle.mage_chains.specs.Chains.{◌>>=◌}
use Rattle.mage_constants.specs.Answer.{fault_at, or_fault}
use Rattle.mage_constants.specs.Constants.{constant_of}
use Rattle.mage_constants.specs.Ranges.{number_below}
use Rattle.mage_constants.specs.Tokens.{row_of}
use Rattle.mage_instr.specs.Opcodes.{greatest_width}
use Rattle.mage_instr.specs.declared.op.Op.{Op}
use Rattle.mage_instr.specs.declared.op.Op.TheVariants as op
use Rattle.mage_lex.specs.declared.fault.LangKind.TheVariants as wrong
use Rattle.mage_lex.specs.declared.fault.LangFault.{LangFault}
use Rattle.mage_lex.specs.Symbols.{EQUALS, SHIFT_LEFT, SHIFT_RIGHT, LESS, PLUS, MINUS, TIMES, DIVIDE, REMAINDER, AND, XOR, OR}
use Rattle.mage_lex.specs.declared.token.Token.{Token}
use Rattle.mage_tree.specs.Words.{bytes_of, callable_of}
use Rattle.mage_tree.specs.declared.class.Callable.{Callable}
use Rattle.mage_tree.specs.declared.class.Callable.TheVariants as callable
use Rattle.mage_tree.specs.declared.tree.ConstExpr.{ConstExpr}
use Rattle.mage_tree.specs.declared.tree.Expr.{Expr}
use Rattle.mage_tree.specs.declared.tree.Expr.TheOpen.{Expr-F}
use Rattle.mage_tree.specs.declared.tree.Expr.TheFolds.{fold-Expr}
use Rattle.mage_unroll.specs.declared.state.Variable.{Variable}
use Rattle.mage_unroll.specs.Limits.{LITERAL_BITS}
use Rattle.mage_unroll.specs.State.{State, instr_of, defined, constants_of, own_place, width_at, is_as_wide}

-- the opcode of a binary operator; of another token none
unfoldable pub op_of : Token → Option Op
op_of token =
    if row_of token == PLUS then Some op.Add
    else if row_of token == MINUS then Some op.Sub
    else if row_of token == TIMES then Some op.Mul
    else if row_of token == DIVIDE then Some op.Div
    else if row_of token == REMAINDER then Some op.Rem
    else if row_of token == AND then Some op.And
    else if row_of token == XOR then Some op.Xor
    else if row_of token == OR then Some op.Or
    else if row_of token == EQUALS then Some op.Eq
    else if row_of token == LESS then Some op.Lt
    else None

-- the opcode of a shift; of another token none
unfoldable pub shift_of : Token → Option Op
shift_of token =
    if row_of token == SHIFT_LEFT then Some op.Shl
    else if row_of token == SHIFT_RIGHT then Some op.Shr
    else None

-- an amount of a shift
abbrev pub amount_in : ℤ → Option ℕ
amount_in z = number_below (greatest_width + 1) z

-- the value of a literal of this width
abbrev pub literal_in : (width : ℕ) → ℤ → Option ℕ
literal_in width z = number_below (2 ^ min width LITERAL_BITS) z

-- a variable, and what is kept once its instructions are emitted; or the first fault
abbrev pub Evaluated : Type 0
Evaluated = Result (Variable × State) LangFault

-- what evaluating gives
abbrev pub ExprMeaning : Type 0
ExprMeaning = (word : Token) → State → Evaluated

-- an opcode on one variable, and on two that are equally wide
abbrev pub of_one : Op → (word : Token) → Variable → (imm : ℕ) → State → Evaluated
of_one o word a imm s = defined word (instr_of o a.width (a.index ∷ 0 ∷ 0 ∷ []) imm) s

unfoldable pub of_two : Op → (word token : Token) → Variable → Variable → State → Evaluated
of_two o word token a b s = do
  same ← is_as_wide token a.width b.width
  defined word (instr_of o a.width (a.index ∷ b.index ∷ 0 ∷ []) 0) s

-- A binary operator on two variables. No tree of a text has another token there.
unfoldable pub combined : (word op : Token) → Variable → Variable → State → Evaluated
combined word token a b s = do
  o ← or_fault wrong.WidthDiffers token (op_of token)
  of_two o word token a b s

-- a chain from the left
abbrev pub chained : List (Token × ExprMeaning) → (word : Token) → Variable → State → Evaluated
chained [] word so_far s = Ok (so_far, s)
chained (term ∷ terms) word so_far s = do
  operand ← term.1 word s
  value ← combined word term.0 so_far operand.0 operand.1
  chained terms word value.0 value.1

-- a shift by a constant
unfoldable pub shifted : (word op : Token) → ConstExpr → Variable → State → Evaluated
shifted word token amount a s = do
  value ← constant_of amount (constants_of s)
  places ← or_fault wrong.ConstFault token (amount_in value)
  o ← or_fault wrong.WidthDiffers token (shift_of token)
  of_one o word a places s

-- a chain of shifts from the left
abbrev pub all_shifted : List (Token × ConstExpr) → (word : Token) → Variable → State → Evaluated
all_shifted [] word so_far s = Ok (so_far, s)
all_shifted (term ∷ terms) word so_far s = do
  value ← shifted word term.0 term.1 so_far s
  all_shifted terms word value.0 value.1

-- the variables of some expressions in their order
abbrev pub all_of :
    List ExprMeaning → (word : Token) → State → Result (List Variable × State) LangFault
all_of [] word s = Ok ([], s)
all_of (first ∷ others) word s = do
  value ← first word s
  rest ← all_of others word value.1
  Ok (value.0 ∷ rest.0, rest.1)

-- the second variable where the first is 1, else the third; a choice has just three
unfoldable pub chosen : (word keyword : Token) → List Variable → State → Evaluated
chosen word keyword (condition ∷ a ∷ b ∷ []) s = do
  bit ← is_as_wide keyword condition.width 1
  same ← is_as_wide keyword a.width b.width
  defined word (instr_of op.Mux a.width (condition.index ∷ a.index ∷ b.index ∷ []) 0) s
chosen word keyword other s = Err (fault_at wrong.WidthDiffers keyword)

-- an opcode on the operands of a call, of which there are just one, or just two
abbrev pub call_of_one : Op → (word keyword : Token) → List Variable → State → Evaluated
call_of_one o word keyword (a ∷ []) s = of_one o word a 0 s
call_of_one o word keyword other s = Err (fault_at wrong.WidthDiffers keyword)

abbrev pub call_of_two : Op → (word keyword : Token) → List Variable → State → Evaluated
call_of_two o word keyword (a ∷ b ∷ []) s = of_two o word keyword a b s
call_of_two o word keyword other s = Err (fault_at wrong.WidthDiffers keyword)

-- the call by its word
abbrev pub call_by : Option Callable → (word keyword : Token) → List Variable → State → Evaluated
call_by (Some callable.Min) word keyword values s = call_of_two op.Min word keyword values s
call_by (Some callable.Max) word keyword values s = call_of_two op.Max word keyword values s
call_by (Some callable.Count) word keyword values s = call_of_one op.Count word keyword values s
call_by None word keyword values s = Err (fault_at wrong.WidthDiffers keyword)

unfoldable pub called : (word keyword : Token) → List Variable → State → Evaluated
called word keyword values s = call_by (callable_of (bytes_of keyword)) word keyword values s

-- an expression by what its parts give
unfoldable pub expr_layer : Expr-F ExprMeaning → ExprMeaning
expr_layer (Expr-F.Item item) word s = do
  held ← own_place item s
  Ok (held.variable, s)
expr_layer (Expr-F.Paren bracket inner) word s = inner word s
expr_layer (Expr-F.Chain first rest) word s = do
  value ← first word s
  chained rest word value.0 value.1
expr_layer (Expr-F.Shift first rest) word s = do
  value ← first word s
  all_shifted rest word value.0 value.1
expr_layer (Expr-F.Not token operand) word s = do
  value ← operand word s
  of_one op.Not word value.0 0 value.1
expr_layer (Expr-F.Lit keyword ty value) word s = do
  width ← width_at ty
  number ← constant_of value (constants_of s)
  literal ← or_fault wrong.ConstFault keyword (literal_in width number)
  defined word (instr_of op.Const width (0 ∷ 0 ∷ 0 ∷ []) literal) s
expr_layer (Expr-F.Resize keyword ty operand) word s = do
  width ← width_at ty
  value ← operand word s
  defined word (instr_of op.Resize width (value.0.index ∷ 0 ∷ 0 ∷ []) value.0.width) value.1
expr_layer (Expr-F.Mux keyword args) word s = do
  values ← all_of args word s
  chosen word keyword values.0 values.1
expr_layer (Expr-F.Call keyword args) word s = do
  values ← all_of args word s
  called word keyword values.0 values.1

-- the variable of an expression
unfoldable pub variable_of : Expr → ExprMeaning
variable_of = fold-Expr ExprMeaning expr_layer
