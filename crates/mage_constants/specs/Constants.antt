-- Constants: whole numbers from -2^127 to 2^127 - 1.
use Rattle.std.specs.Prelude.{ℕ, zero, ◌^◌, ◌==◌, ◌&&◌, Bool, true, false, List, [], ◌∷◌, ℤ, pos, neg_ℤ, ◌+ℤ◌, ◌-ℤ◌, ◌*ℤ◌, int_lt, int_le, int_div, int_rem, Option, Some, None, Result, Ok, if◌then◌else◌}
use Rattle.mage_chains.specs.Chains.{◌>>=◌}
use Rattle.mage_lex.specs.Symbols.{PLUS, MINUS, TIMES, DIVIDE, REMAINDER}
use Rattle.mage_lex.specs.declared.fault.LangFault.{LangFault}
use Rattle.mage_lex.specs.declared.fault.LangKind.TheVariants as wrong
use Rattle.mage_lex.specs.declared.token.Token.{Token}
use Rattle.mage_tree.specs.Words.{bytes_of}
use Rattle.mage_tree.specs.declared.tree.ConstExpr.{ConstExpr}
use Rattle.mage_tree.specs.declared.tree.ConstExpr.TheOpen.{ConstExpr-F}
use Rattle.mage_tree.specs.declared.tree.ConstExpr.TheFolds.{fold-ConstExpr}
use Rattle.mage_constants.specs.Answer.{or_fault}
use Rattle.mage_constants.specs.Tokens.{row_of, number_of}

-- what each name of a constant stands for
abbrev pub Constants : Type 0
Constants = List ℕ → Option ℤ

-- constants are below this, and at least its negation
abbrev pub CONSTANT_LIMIT : ℕ
CONSTANT_LIMIT = 2 ^ 127

-- a number in the range of constants
abbrev pub ranged : ℤ → Option ℤ
ranged z =
    if int_le (neg_ℤ (pos CONSTANT_LIMIT)) z && int_lt z (pos CONSTANT_LIMIT) then Some z else None

-- whether a number is 0
abbrev pub is_zero : ℤ → Bool
is_zero (pos zero) = true
is_zero z = false

-- The operator of this row on two constants. `/` and `%` round toward zero; a remainder is always
-- in range.
unfoldable pub operated : (row : ℕ) → ℤ → ℤ → Option ℤ
operated row x y =
    if row == PLUS then ranged (x +ℤ y)
    else if row == MINUS then ranged (x -ℤ y)
    else if row == TIMES then ranged (x *ℤ y)
    else if row == DIVIDE then (if is_zero y then None else ranged (int_div x y))
    else if row == REMAINDER then (if is_zero y then None else Some (int_rem x y))
    else None

-- what a constant stands for, or its first fault
abbrev pub ConstMeaning : Type 0
ConstMeaning = Constants → Result ℤ LangFault

-- a chain from the left: each operator takes what stands so far and its right operand
abbrev pub const_chain : List (Token × ConstMeaning) → Constants → ℤ → Result ℤ LangFault
const_chain [] names so_far = Ok so_far
const_chain (term ∷ terms) names so_far = do
  operand ← term.1 names
  value ← or_fault wrong.ConstFault term.0 (operated (row_of term.0) so_far operand)
  const_chain terms names value

-- a constant by what its parts stand for
unfoldable pub const_layer : ConstExpr-F ConstMeaning → ConstMeaning
const_layer (ConstExpr-F.Number token) names =
    or_fault wrong.ConstFault token (ranged (pos (number_of token)))
const_layer (ConstExpr-F.Name token) names =
    or_fault wrong.UnknownName token (names (bytes_of token))
const_layer (ConstExpr-F.Paren bracket inner) names = inner names
const_layer (ConstExpr-F.Minus op operand) names = do
  value ← operand names
  or_fault wrong.ConstFault op (ranged (neg_ℤ value))
const_layer (ConstExpr-F.Chain first rest) names = do
  value ← first names
  const_chain rest names value

-- what a constant stands for, by the constants that its names stand for
unfoldable pub constant_of : ConstExpr → ConstMeaning
constant_of = fold-ConstExpr ConstMeaning const_layer
