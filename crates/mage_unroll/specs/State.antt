-- What is kept while a source is executed once: the current worker, the scopes, and the program so
-- far.
use Rattle.std.specs.Prelude.{ℕ, ◌+◌, ◌==◌, List, [], ◌∷◌, ◌++◌, ℤ, length, slice_get, set, nat_lt, nat_le, Option, Some, None, is_some, Result, Ok, Err, if◌then◌else◌}
use Rattle.mage_chains.specs.Chains.{◌>>=◌}
use Rattle.mage_constants.specs.Answer.{fault_at, or_fault}
use Rattle.mage_constants.specs.Constants.{Constants, constant_of}
use Rattle.mage_constants.specs.Ranges.{number_below}
use Rattle.mage_instr.specs.Opcodes.{width_of_result}
use Rattle.mage_instr.specs.declared.instr.Instr.{Instr}
use Rattle.mage_instr.specs.declared.op.Op.{Op}
use Rattle.mage_lex.specs.declared.fault.LangKind.TheVariants as wrong
use Rattle.mage_lex.specs.declared.fault.LangFault.{LangFault}
use Rattle.mage_lex.specs.declared.token.Token.{Token}
use Rattle.mage_scopes.specs.Scopes.{Meaning, found, with_name, replaced}
use Rattle.mage_tree.specs.Words.{bytes_of, width_of_type}
use Rattle.mage_tree.specs.declared.tree.ConstExpr.{ConstExpr}
use Rattle.mage_tree.specs.declared.tree.Item.{Item}
use Rattle.mage_unroll.specs.declared.state.Array.{Array}
use Rattle.mage_linked.specs.Emission.{count_of}
use Rattle.mage_linked.specs.declared.emitted.Emitted.{Emitted}
pub use Rattle.mage_unroll.specs.declared.state.Held.{Held}
use Rattle.mage_unroll.specs.declared.state.Named.{Named}
use Rattle.mage_unroll.specs.declared.state.Named.TheVariants as named
use Rattle.mage_unroll.specs.declared.state.Scalar.{Scalar}
use Rattle.mage_unroll.specs.declared.state.Variable.{Variable}
use Rattle.mage_unroll.specs.Limits.{MOST_STEPS, MOST_INSTRS}

-- what is kept
pub record State : Type 0 where
  -- the current worker
  pub worker : ℕ
  -- how many workers there are
  pub workers : ℕ
  -- what names stand for, the outermost scope first
  pub scopes : List (Meaning Named)
  -- the instructions so far, in the order of their emission
  pub program : List Emitted
  -- the steps so far
  pub steps : ℕ

-- ---- steps and instructions; `word` is the first token of the statement

-- so many steps more, where there may be so many
abbrev pub stepped_by : ℕ → (word : Token) → State → Result State LangFault
stepped_by n word s =
    if nat_le (s.steps + n) MOST_STEPS then Ok (record s { steps = s.steps + n })
    else Err (fault_at wrong.TooLong word)

-- one step more
abbrev pub stepped : (word : Token) → State → Result State LangFault
stepped word s = stepped_by 1 word s

-- one instruction more on a worker, where there may be one
abbrev pub emitted : (word : Token) → (worker : ℕ) → Instr → State → Result State LangFault
emitted word worker instr s =
    if nat_lt (length s.program) MOST_INSTRS
    then Ok (record s { program = s.program ++ record { worker = worker; instr = instr } ∷ [] })
    else Err (fault_at wrong.TooLong word)

-- the instruction of these parts
abbrev pub instr_of : Op → (width : ℕ) → (args : List ℕ) → (imm : ℕ) → Instr
instr_of op width args imm = record { op = op; width = width; args = args; imm = imm }

-- the variable that an instruction of the current worker defines, and what is kept once it is
-- emitted
abbrev pub defined : (word : Token) → Instr → State → Result (Variable × State) LangFault
defined word instr s = do
  after ← emitted word s.worker instr s
  Ok (
    record { width = width_of_result instr.op instr.width; index = count_of s.worker s.program },
    after,
  )

-- ---- names

-- the name isn't visible yet
abbrev pub is_free : Token → State → Result (Unit {0}) LangFault
is_free name s =
    if is_some (found s.scopes (bytes_of name)) then Err (fault_at wrong.Duplicate name) else Ok tt

-- the name stands for this in the innermost scope
abbrev pub bound : Token → Named → State → State
bound name value s = record s { scopes = with_name s.scopes (bytes_of name) value }

-- a meaning as a constant
abbrev pub as_constant : Option Named → Option ℤ
as_constant (Some (named.Constant value)) = Some value
as_constant other = None

-- a meaning as a scalar
abbrev pub as_scalar : Option Named → Option Scalar
as_scalar (Some (named.Scalar scalar)) = Some scalar
as_scalar other = None

-- a meaning as an array
abbrev pub as_array : Option Named → Option Array
as_array (Some (named.Array array)) = Some array
as_array other = None

-- the constants among the names in these scopes
abbrev pub constants_in : List (Meaning Named) → Constants
constants_in scopes name = as_constant (found scopes name)

-- the constants that are visible
abbrev pub constants_of : State → Constants
constants_of s = constants_in s.scopes

-- ---- places

-- a scalar as what a place holds
abbrev pub held_scalar : Scalar → Held
held_scalar scalar = record { worker = scalar.worker; variable = scalar.variable; position = None }

-- an item of an array as what a place holds
abbrev pub held_item : Array → (position index : ℕ) → Held
held_item array position index = record {
  worker = array.worker;
  variable = record { width = array.width; index = index };
  position = Some position;
}

-- the place in an array that an index stands for
abbrev pub position_of : ℤ → Array → Option ℕ
position_of index array = number_below (length array.items) index

-- an item of an array, by its index
unfoldable pub item_of : Token → ConstExpr → Array → State → Result Held LangFault
item_of name index array s = do
  value ← constant_of index (constants_of s)
  position ← or_fault wrong.IndexOut name (position_of value array)
  variable ← or_fault wrong.IndexOut name (slice_get array.items position)
  Ok (held_item array position variable)

-- a place: a name that is unknown comes before the faults of its index, and these before an index
-- that is out
unfoldable pub place_with : Token → Option (Token × ConstExpr) → State → Result Held LangFault
place_with name None s = do
  scalar ← or_fault wrong.UnknownName name (as_scalar (found s.scopes (bytes_of name)))
  Ok (held_scalar scalar)
place_with name (Some index) s = do
  array ← or_fault wrong.UnknownName name (as_array (found s.scopes (bytes_of name)))
  item_of name index.1 array s

-- what a place stands for
abbrev pub place_of : Item → State → Result Held LangFault
place_of item s = place_with item.name item.index s

-- a place on the current worker
unfoldable pub own_place : Item → State → Result Held LangFault
own_place item s = do
  held ← place_of item s
  if held.worker == s.worker then Ok held else Err (fault_at wrong.WorkerDiffers item.name)

-- the same name or item, with its width and worker, and another variable
abbrev pub rebound : Option ℕ → (index : ℕ) → Named → Named
rebound None index (named.Scalar scalar) =
    let variable : Variable = record { width = scalar.variable.width; index = index } in
    named.Scalar (record scalar { variable = variable })
rebound (Some position) index (named.Array array) =
    named.Array (record array { items = set array.items position index })
rebound position index other = other

-- a name, where it stands for something, is bound anew
abbrev pub rebound_name : Option Named → (name : Token) → Option ℕ → (index : ℕ) → State → State
rebound_name None name position index s = s
rebound_name (Some old) name position index s =
    record s { scopes = replaced s.scopes (bytes_of name) (rebound position index old) }

-- the place is bound anew
abbrev pub assigned : (name : Token) → Option ℕ → (index : ℕ) → State → State
assigned name position index s = rebound_name (found s.scopes (bytes_of name)) name position index s

-- ---- widths

-- the width of a type word, or a fault at it
abbrev pub width_at : Token → Result ℕ LangFault
width_at ty = or_fault wrong.BadWidth ty (width_of_type (bytes_of ty))

-- two widths are the same
abbrev pub is_as_wide : Token → ℕ → ℕ → Result (Unit {0}) LangFault
is_as_wide token width other =
    if width == other then Ok tt else Err (fault_at wrong.WidthDiffers token)
