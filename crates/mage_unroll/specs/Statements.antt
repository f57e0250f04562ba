-- The execution of statements, with their first fault. What a statement declares is checked where
-- it stands among its tokens, and its step comes before its other checks.
use Rattle.std.specs.Prelude.{ℕ, zero, suc, Bool, true, false, List, [], ◌∷◌, ◌++◌, replicate, codes, ℤ, pos, ◌+ℤ◌, ◌==◌, Option, Some, None, Result, Ok, if◌then◌else◌}
use Rattle.std.specs.Str.{bytes_eq}
use Rattle.mage_chains.specs.Chains.{◌>>=◌}
use Rattle.mage_constants.specs.Answer.{or_fault}
use Rattle.mage_constants.specs.Constants.{constant_of}
use Rattle.mage_constants.specs.Ranges.{number_below, size_in, distance, holds}
use Rattle.mage_instr.specs.declared.op.Op.TheVariants as op
use Rattle.mage_lex.specs.declared.fault.LangKind.TheVariants as wrong
use Rattle.mage_lex.specs.declared.fault.LangFault.{LangFault}
use Rattle.mage_lex.specs.declared.token.Token.{Token}
use Rattle.mage_scopes.specs.Scopes.{entered, left}
use Rattle.mage_tree.specs.declared.tree.ConstExpr.{ConstExpr}
use Rattle.mage_tree.specs.declared.tree.ConstExpr.TheOpen.{ConstExpr-F}
use Rattle.mage_tree.specs.declared.tree.ConstExpr.TheFolds.{fold-ConstExpr}
use Rattle.mage_tree.specs.declared.tree.Stmt.{Stmt}
use Rattle.mage_tree.specs.declared.tree.Stmt.TheOpen.{Stmt-F}
use Rattle.mage_tree.specs.declared.tree.Stmt.TheFolds.{fold-Stmt}
use Rattle.mage_tree.specs.Words.{bytes_of}
use Rattle.mage_unroll.specs.declared.state.Named.{Named}
use Rattle.mage_unroll.specs.declared.state.Named.TheVariants as named
use Rattle.mage_unroll.specs.declared.state.Variable.{Variable}
use Rattle.mage_unroll.specs.State.{State, Held, stepped, stepped_by, emitted, instr_of, defined, is_free, bound, constants_of, place_of, own_place, assigned, width_at, is_as_wide}
use Rattle.mage_unroll.specs.Expressions.{Evaluated, variable_of}

-- what executing gives
abbrev pub Act : Type 0
Act = State → Result State LangFault

-- some acts in their order
abbrev pub all_acts : List Act → Act
all_acts [] s = Ok s
all_acts (first ∷ others) s = do
  after ← first s
  all_acts others after

-- a scope more, without names
abbrev pub entering : State → State
entering s = record s { scopes = entered s.scopes }

-- without the innermost scope
abbrev pub leaving : State → State
leaving s = record s { scopes = left s.scopes }

-- an act in a scope of its own
abbrev pub in_scope : Act → Act
in_scope act s = do
  after ← act (entering s)
  Ok (leaving after)

-- the length of an array, with its bracket
unfoldable pub length_at : Token × ConstExpr → State → Result ℕ LangFault
length_at size s = do
  value ← constant_of size.1 (constants_of s)
  or_fault wrong.ConstFault size.0 (size_in value)

-- a name of a scalar
abbrev pub named_scalar : (worker : ℕ) → Variable → Named
named_scalar worker variable = named.Scalar (record { worker = worker; variable = variable })

-- a name of an array
abbrev pub named_array : (worker width : ℕ) → List ℕ → Named
named_array worker width items =
    named.Array (record { worker = worker; width = width; items = items })

-- 0 for the garbler, 1 for the evaluator
abbrev pub party_of : Token → ℕ
party_of token = if bytes_eq (bytes_of token) (codes "evaluator") then 1 else 0

-- inputs of a width, each after a step of its own; `items` are those so far
abbrev pub inputs : ℕ → (word party : Token) → (width : ℕ) → (items : List ℕ) →
    State → Result (List ℕ × State) LangFault
inputs zero word party width items s = Ok (items, s)
inputs (suc n) word party width items s = do
  after ← stepped word s
  value ← defined word (instr_of op.Input width (0 ∷ 0 ∷ 0 ∷ []) (party_of party)) after
  inputs n word party width (items ++ value.0.index ∷ []) value.1

-- the input of a scalar, or of an array of this length
unfoldable pub input_of : Option (Token × ConstExpr) → (word party name : Token) → (width : ℕ) → Act
input_of None word party name width s = do
  value ← defined word (instr_of op.Input width (0 ∷ 0 ∷ 0 ∷ []) (party_of party)) s
  Ok (bound name (named_scalar s.worker value.0) value.1)
input_of (Some size) word party name width s = do
  n ← length_at size s
  items ← inputs n word party width [] s
  Ok (bound name (named_array s.worker width items.0) items.1)

-- what another worker holds, sent to the current one
unfoldable pub transferred : (word : Token) → Held → State → Evaluated
transferred word held s = do
  sent ← emitted word held.worker
      (instr_of op.Send held.variable.width (held.variable.index ∷ 0 ∷ 0 ∷ []) s.worker) s
  defined word (instr_of op.Recv held.variable.width (0 ∷ 0 ∷ 0 ∷ []) held.worker) sent

-- a place is bound to a name, on the current worker: where it stands on another, its value is sent
-- from there
unfoldable pub moved : (word name : Token) → Held → Act
moved word name held s =
    if held.worker == s.worker then Ok (bound name (named_scalar s.worker held.variable) s)
    else (do
      value ← transferred word held s
      Ok (bound name (named_scalar s.worker value.0) value.1))

-- the first token by those of the parts
abbrev pub first_layer : ConstExpr-F Token → Token
first_layer (ConstExpr-F.Number token) = token
first_layer (ConstExpr-F.Name token) = token
first_layer (ConstExpr-F.Paren bracket inner) = bracket
first_layer (ConstExpr-F.Minus token operand) = token
first_layer (ConstExpr-F.Chain first rest) = first

-- the first token of a constant
unfoldable pub first_token : ConstExpr → Token
first_token = fold-ConstExpr Token first_layer

-- a turn of a loop, with this number: it is a step, and has a scope of its own
abbrev pub turn : ℤ → (word name : Token) → Act → Act
turn number word name body s = do
  begun ← stepped word s
  in_scope (λ inner. body (bound name (named.Constant number) inner)) begun

-- so many turns, the first with this number
abbrev pub turns : ℕ → ℤ → (word name : Token) → Act → Act
turns zero number word name body s = Ok s
turns (suc n) number word name body s = do
  after ← turn number word name body s
  turns n (number +ℤ pos 1) word name body after

-- the header of an `if`: whether its condition holds
unfoldable pub condition :
    (word : Token) → (lower : ConstExpr) → (op : Token) → (upper : ConstExpr) →
    State → Result (Bool × State) LangFault
condition word lower op upper s = do
  s ← stepped word s
  first ← constant_of lower (constants_of s)
  second ← constant_of upper (constants_of s)
  Ok (holds op first second, s)

-- the branch that is taken
abbrev pub branch : Bool → List Act → Option (List Act) → Act
branch true body other s = in_scope (all_acts body) s
branch false body (Some other) s = in_scope (all_acts other) s
branch false body None s = Ok s

-- a statement by what its parts do
unfoldable pub stmt_layer : Stmt-F Act → Act
stmt_layer (Stmt-F.Constant word name value) s = do
  s ← stepped word s
  free ← is_free name s
  number ← constant_of value (constants_of s)
  Ok (bound name (named.Constant number) s)
stmt_layer (Stmt-F.Input word party name ty size) s = do
  s ← stepped word s
  free ← is_free name s
  width ← width_at ty
  input_of size word party name width s
stmt_layer (Stmt-F.Let word name value) s = do
  s ← stepped word s
  free ← is_free name s
  variable ← variable_of value word s
  Ok (bound name (named_scalar s.worker variable.0) variable.1)
stmt_layer (Stmt-F.Array word name ty size eq value) s = do
  s ← stepped word s
  free ← is_free name s
  width ← width_at ty
  n ← length_at size s
  variable ← variable_of value word s
  same ← is_as_wide eq width variable.0.width
  after ← stepped_by n word variable.1
  Ok (bound name (named_array s.worker width (replicate n variable.0.index)) after)
stmt_layer (Stmt-F.Assign place eq value) s = do
  s ← stepped place.name s
  held ← own_place place s
  variable ← variable_of value place.name s
  same ← is_as_wide eq held.variable.width variable.0.width
  Ok (assigned place.name held.position variable.0.index variable.1)
stmt_layer (Stmt-F.Move word name place) s = do
  s ← stepped word s
  free ← is_free name s
  held ← place_of place s
  moved word name held s
stmt_layer (Stmt-F.On word worker body) s = do
  s ← stepped word s
  number ← constant_of worker (constants_of s)
  chosen ← or_fault wrong.BadWorker (first_token worker) (number_below s.workers number)
  after ← all_acts body (record s { worker = chosen })
  Ok (record after { worker = s.worker })
stmt_layer (Stmt-F.For word name from to body) s = do
  s ← stepped word s
  free ← is_free name s
  first ← constant_of from (constants_of s)
  end ← constant_of to (constants_of s)
  turns (distance first end) first word name (all_acts body) s
stmt_layer (Stmt-F.If word lower op upper body other) s = do
  held ← condition word lower op upper s
  branch held.0 body other held.1
stmt_layer (Stmt-F.Output word value) s = do
  s ← stepped word s
  variable ← variable_of value word s
  emitted word s.worker
      (instr_of op.Output variable.0.width (variable.0.index ∷ 0 ∷ 0 ∷ []) 0) variable.1

-- the execution of a statement
unfoldable pub executed : Stmt → Act
executed = fold-Stmt Act stmt_layer
