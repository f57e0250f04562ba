-- The direct meaning of a source: an environment from names to constants, to numbers of a width and
-- to lists of these. Statements run in their order, and each operator works on whole numbers modulo
-- 2 to the width. What no source without a fault does has some meaning too, so that every source
-- has one.
use Rattle.std.specs.Prelude.{ℕ, zero, suc, ◌==◌, Bool, true, false, List, [], ◌∷◌, ◌++◌, map, drop, replicate, set, slice_index, codes, ℤ, pos, ◌+ℤ◌, unsigned_abs, Option, Some, None, unwrap_or, if◌then◌else◌}
use Rattle.std.specs.Result.{result_ok}
use Rattle.std.specs.Str.{bytes_eq}
use Rattle.mage_bits.specs.Modular as modular
use Rattle.mage_lex.specs.Symbols.{EQUALS, SHIFT_LEFT, SHIFT_RIGHT, LESS, PLUS, MINUS, TIMES, DIVIDE, REMAINDER, AND, XOR, OR}
use Rattle.mage_lex.specs.declared.token.Token.{Token}
use Rattle.mage_scopes.specs.Scopes.{Meaning, nothing, found, with_name, replaced, entered, left}
use Rattle.mage_tree.specs.Words.{bytes_of, callable_of, width_of_type}
use Rattle.mage_tree.specs.declared.class.Callable.{Callable}
use Rattle.mage_tree.specs.declared.class.Callable.TheVariants as callable
use Rattle.mage_tree.specs.declared.tree.ConstExpr.{ConstExpr}
use Rattle.mage_tree.specs.declared.tree.Item.{Item}
use Rattle.mage_tree.specs.declared.tree.Expr.{Expr}
use Rattle.mage_tree.specs.declared.tree.Expr.TheOpen.{Expr-F}
use Rattle.mage_tree.specs.declared.tree.Expr.TheFolds.{fold-Expr}
use Rattle.mage_tree.specs.declared.tree.Stmt.{Stmt}
use Rattle.mage_tree.specs.declared.tree.Stmt.TheOpen.{Stmt-F}
use Rattle.mage_tree.specs.declared.tree.Stmt.TheFolds.{fold-Stmt}
use Rattle.mage_constants.specs.Constants.{Constants, constant_of}
use Rattle.mage_constants.specs.Tokens.{row_of, number_of}
use Rattle.mage_constants.specs.Ranges.{distance, holds}
use Rattle.mage_meaning.specs.declared.known.Known.{Known}
use Rattle.mage_meaning.specs.declared.known.Known.TheVariants as known
use Rattle.mage_meaning.specs.declared.known.Row.{Row}
use Rattle.mage_meaning.specs.declared.known.Wide.{Wide}
use Rattle.mage_linked.specs.Workers.{list_at}
use Rattle.mage_meaning.specs.Given.{Given}

-- what is kept while a source is evaluated
pub record Moment : Type 0 where
  -- the current worker
  pub worker : ℕ
  -- what names stand for, the outermost scope first
  pub scopes : List (Meaning Known)
  -- each worker's input values that aren't taken yet
  pub garbler : List (List ℕ)
  pub evaluator : List (List ℕ)
  -- each worker's outputs
  pub outputs : List (List ℕ)

-- ---- names and constants

-- a number of a width
abbrev pub wide : (width value : ℕ) → Wide
wide width value = record { width = width; value = value }

-- a meaning as a constant
abbrev pub as_constant : Option Known → Option ℤ
as_constant (Some (known.Constant value)) = Some value
as_constant other = None

-- a meaning as a number, and 0 where it is none
abbrev pub as_number : Option Known → Wide
as_number (Some (known.Number number)) = number
as_number other = wide 1 0

-- a meaning as an array, and an empty one where it is none
abbrev pub as_row : Option Known → Row
as_row (Some (known.Array row)) = row
as_row other = record { width = 1; values = [] }

-- the constants among the names in these scopes
abbrev pub constants_in : List (Meaning Known) → Constants
constants_in scopes name = as_constant (found scopes name)

-- the constants that are visible
abbrev pub constants_of : Moment → Constants
constants_of m = constants_in m.scopes

-- the value of a constant, and 0 where it has a fault
abbrev pub constant_in : ConstExpr → Moment → ℤ
constant_in e m = unwrap_or (result_ok (constant_of e (constants_of m))) (pos 0)

-- the same without its sign, as an index, a length, an amount, a worker or a value
abbrev pub number_in : ConstExpr → Moment → ℕ
number_in e m = unsigned_abs (constant_in e m)

-- the name stands for this in the innermost scope
abbrev pub bound : Token → Known → Moment → Moment
bound name value m = record m { scopes = with_name m.scopes (bytes_of name) value }

-- the number that a name stands for, or the one at this index
abbrev pub item_with : Token → Option (Token × ConstExpr) → Moment → Wide
item_with name None m = as_number (found m.scopes (bytes_of name))
item_with name (Some index) m =
    let row = as_row (found m.scopes (bytes_of name)) in
    wide row.width (slice_index row.values (number_in index.1 m))

-- the number at a place
abbrev pub item_at : Item → Moment → Wide
item_at item m = item_with item.name item.index m

-- the width of a type word; of any other 1
abbrev pub width_or_one : Token → ℕ
width_or_one ty = unwrap_or (width_of_type (bytes_of ty)) 1

-- ---- expressions

-- what no tree of a text has in its place
abbrev pub no_number : Wide
no_number = wide 1 0

-- a binary operator
unfoldable pub combined : (op : Token) → Wide → Wide → Wide
combined token a b =
    if row_of token == PLUS then wide a.width (modular.add_mod a.width a.value b.value)
    else if row_of token == MINUS then wide a.width (modular.sub_mod a.width a.value b.value)
    else if row_of token == TIMES then wide a.width (modular.mul_mod a.width a.value b.value)
    else if row_of token == DIVIDE then wide a.width (modular.div_mod a.width a.value b.value)
    else if row_of token == REMAINDER then wide a.width (modular.rem_mod a.width a.value b.value)
    else if row_of token == AND then wide a.width (modular.and_mod a.width a.value b.value)
    else if row_of token == XOR then wide a.width (modular.xor_mod a.width a.value b.value)
    else if row_of token == OR then wide a.width (modular.or_mod a.width a.value b.value)
    else if row_of token == EQUALS then wide 1 (modular.eq_mod a.width a.value b.value)
    else if row_of token == LESS then wide 1 (modular.lt_mod a.width a.value b.value)
    else no_number

-- a shift
unfoldable pub shifted : (op : Token) → Wide → (amount : ℕ) → Wide
shifted token a amount =
    if row_of token == SHIFT_LEFT then wide a.width (modular.shl_mod a.width a.value amount)
    else if row_of token == SHIFT_RIGHT then wide a.width (modular.shr_mod a.width a.value amount)
    else no_number

-- the number that evaluating gives
abbrev pub ExprValue : Type 0
ExprValue = Moment → Wide

-- a chain from the left
abbrev pub chained : List (Token × ExprValue) → Wide → Moment → Wide
chained [] so_far m = so_far
chained (term ∷ terms) so_far m = chained terms (combined term.0 so_far (term.1 m)) m

-- a chain of shifts from the left
abbrev pub all_shifted : List (Token × ConstExpr) → Wide → Moment → Wide
all_shifted [] so_far m = so_far
all_shifted (term ∷ terms) so_far m =
    all_shifted terms (shifted term.0 so_far (number_in term.1 m)) m

-- the second number where the first is 1, else the third
abbrev pub chosen : List Wide → Wide
chosen (condition ∷ a ∷ b ∷ []) = if condition.value == 1 then a else b
chosen other = no_number

-- a call on one number, and on two
abbrev pub call_of_one : Option Callable → Wide → Wide
call_of_one (Some callable.Count) a = wide a.width (modular.count_mod a.width a.value)
call_of_one (Some callable.Min) a = no_number
call_of_one (Some callable.Max) a = no_number
call_of_one None a = no_number

abbrev pub call_of_two : Option Callable → Wide → Wide → Wide
call_of_two (Some callable.Min) a b = wide a.width (modular.min_mod a.width a.value b.value)
call_of_two (Some callable.Max) a b = wide a.width (modular.max_mod a.width a.value b.value)
call_of_two (Some callable.Count) a b = no_number
call_of_two None a b = no_number

-- a call on the numbers of its operands
abbrev pub call_by : Option Callable → List Wide → Wide
call_by which (a ∷ []) = call_of_one which a
call_by which (a ∷ b ∷ []) = call_of_two which a b
call_by which other = no_number

-- the call by its word
unfoldable pub called : (word : Token) → List Wide → Wide
called word numbers = call_by (callable_of (bytes_of word)) numbers

-- an expression by the numbers of its parts
unfoldable pub value_layer : Expr-F ExprValue → ExprValue
value_layer (Expr-F.Item item) m = item_at item m
value_layer (Expr-F.Paren bracket inner) m = inner m
value_layer (Expr-F.Chain first rest) m = chained rest (first m) m
value_layer (Expr-F.Shift first rest) m = all_shifted rest (first m) m
value_layer (Expr-F.Not token operand) m =
    let a = operand m in wide a.width (modular.not_mod a.width a.value)
value_layer (Expr-F.Lit keyword ty value) m =
    wide (width_or_one ty) (modular.resize_mod (width_or_one ty) (number_in value m))
value_layer (Expr-F.Resize keyword ty operand) m =
    wide (width_or_one ty) (modular.resize_mod (width_or_one ty) (operand m).value)
value_layer (Expr-F.Mux keyword args) m = chosen (map (λ value. value m) args)
value_layer (Expr-F.Call keyword args) m = called keyword (map (λ value. value m) args)

-- the number of an expression
unfoldable pub number_of_expr : Expr → ExprValue
number_of_expr = fold-Expr ExprValue value_layer

-- ---- statements

-- what executing does
abbrev pub Change : Type 0
Change = Moment → Moment

-- some changes in their order
abbrev pub all_changes : List Change → Change
all_changes [] m = m
all_changes (first ∷ others) m = all_changes others (first m)

-- a change in a scope of its own
abbrev pub in_scope : Change → Change
in_scope change m =
    let after = change (record m { scopes = entered m.scopes }) in
    record after { scopes = left after.scopes }

-- whether the party is the evaluator
abbrev pub is_evaluator : Token → Bool
is_evaluator token = bytes_eq (bytes_of token) (codes "evaluator")

-- the first n of some values, with 0 for each that isn't there
abbrev pub first_of : ℕ → List ℕ → List ℕ
first_of zero values = []
first_of (suc n) values = slice_index values 0 ∷ first_of n (drop 1 values)

-- the current worker's next so many input values of a party
abbrev pub taken : (party : Token) → ℕ → Moment → List ℕ
taken party n m =
    first_of n (list_at (if is_evaluator party then m.evaluator else m.garbler) m.worker)

-- the lists, where a worker's lacks its first n values
abbrev pub without_first : ℕ → (worker : ℕ) → List (List ℕ) → List (List ℕ)
without_first n worker lists = set lists worker (drop n (list_at lists worker))

-- what is kept once these are taken
abbrev pub after_taking : (party : Token) → ℕ → Moment → Moment
after_taking party n m =
    if is_evaluator party then record m { evaluator = without_first n m.worker m.evaluator }
    else record m { garbler = without_first n m.worker m.garbler }

-- the inputs of a scalar, or of an array of this length
unfoldable pub with_input : Option (Token × ConstExpr) → (party name : Token) → (width : ℕ) → Change
with_input None party name width m =
    let value = slice_index (taken party 1 m) 0 in
    bound name (known.Number (wide width value)) (after_taking party 1 m)
with_input (Some size) party name width m = let n = number_in size.1 m in
    bound name (known.Array (record { width = width; values = taken party n m }))
    (after_taking party n m)

-- one output more of a worker
abbrev pub with_output : List (List ℕ) → (worker value : ℕ) → List (List ℕ)
with_output outputs worker value = set outputs worker (list_at outputs worker ++ value ∷ [])

-- the place stands for this number
abbrev pub assigned : (name : Token) → Option (Token × ConstExpr) → Wide → Change
assigned name None number m =
    record m { scopes = replaced m.scopes (bytes_of name) (known.Number number) }
assigned name (Some index) number m =
    let row = as_row (found m.scopes (bytes_of name)) in
    let values = set row.values (number_in index.1 m) number.value in
    let array = known.Array (record row { values = values }) in
    record m { scopes = replaced m.scopes (bytes_of name) array }

-- so many turns of a loop, the first with this number
abbrev pub turns : ℕ → ℤ → (name : Token) → Change → Change
turns zero number name body m = m
turns (suc n) number name body m =
    let after = in_scope (λ inner. body (bound name (known.Constant number) inner)) m in
    turns n (number +ℤ pos 1) name body after

-- the branch that is taken
abbrev pub branch : Bool → List Change → Option (List Change) → Change
branch true body other m = in_scope (all_changes body) m
branch false body (Some other) m = in_scope (all_changes other) m
branch false body None m = m

-- a statement by what its parts do
unfoldable pub change_layer : Stmt-F Change → Change
change_layer (Stmt-F.Constant word name value) m =
    bound name (known.Constant (constant_in value m)) m
change_layer (Stmt-F.Input word party name ty size) m =
    with_input size party name (width_or_one ty) m
change_layer (Stmt-F.Let word name value) m = bound name (known.Number (number_of_expr value m)) m
change_layer (Stmt-F.Array word name ty size eq value) m =
    let number = number_of_expr value m in
    let values = replicate (number_in size.1 m) number.value in
    bound name (known.Array (record { width = number.width; values = values })) m
change_layer (Stmt-F.Assign place eq value) m =
    assigned place.name place.index (number_of_expr value m) m
change_layer (Stmt-F.Move word name place) m = bound name (known.Number (item_at place m)) m
change_layer (Stmt-F.On word worker body) m =
    record (all_changes body (record m { worker = number_in worker m })) { worker = m.worker }
change_layer (Stmt-F.For word name from to body) m =
    let first = constant_in from m in
    turns (distance first (constant_in to m)) first name (all_changes body) m
change_layer (Stmt-F.If word lower op upper body other) m =
    branch (holds op (constant_in lower m) (constant_in upper m)) body other m
change_layer (Stmt-F.Output word value) m =
    record m { outputs = with_output m.outputs m.worker (number_of_expr value m).value }

-- what a statement does
unfoldable pub change_of : Stmt → Change
change_of = fold-Stmt Change change_layer

-- ---- sources

-- how many workers a source has
abbrev pub worker_count : Option Token → ℕ
worker_count None = 1
worker_count (Some number) = number_of number

-- how it begins
abbrev pub opening : (workers : ℕ) → Given → Moment
opening workers given =
    record {
      worker = 0;
      scopes = nothing ∷ [];
      garbler = given.garbler;
      evaluator = given.evaluator;
      outputs = replicate workers [];
    }

-- each worker's outputs, in order
unfoldable pub value_of : Option Token → List Stmt → Given → List (List ℕ)
value_of count body given =
    (all_changes (map change_of body) (opening (worker_count count) given)).outputs
