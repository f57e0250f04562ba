-- Reading a constant.
use Rattle.std.specs.Prelude.{ℕ, zero, suc, List, [], ◌∷◌, length, drop, Ok, Err, if◌then◌else◌}
use Rattle.mage_lex.specs.Symbols.{OPEN_PAREN, CLOSE_PAREN, MINUS}
use Rattle.mage_lex.specs.declared.token.Token.{Token}
use Rattle.mage_tree.specs.declared.class.Class.{Class}
use Rattle.mage_tree.specs.declared.class.Class.TheVariants as class
use Rattle.mage_parser.specs.declared.level.ConstLevel.{ConstLevel}
use Rattle.mage_parser.specs.declared.level.ConstLevel.TheVariants as level
use Rattle.mage_parser.specs.declared.stop.Stop.TheVariants as stops
use Rattle.mage_tree.specs.declared.tree.ConstExpr.{ConstExpr}
use Rattle.mage_tree.specs.declared.tree.ConstExpr.TheVariants as const
use Rattle.mage_parser.specs.Reads.{◌>>=◌, Read, begins, one, after_one, operands}
use Rattle.mage_tree.specs.Grammar.{const_operators}

-- the level's number
abbrev pub const_rank : ConstLevel → ℕ
const_rank level.Atom = 0
const_rank level.Unary = 1
const_rank level.Product = 2
const_rank level.Sum = 3

-- a number, a name, or a constant in brackets, which `deeper` reads from the bracket on
unfoldable pub const_atom : (ℕ → List Token → Read ConstExpr) → List Token → Read ConstExpr
const_atom deeper tokens =
    if begins class.Number tokens then (do
      number ← one class.Number tokens
      Ok (const.Number number.0, number.1))
    else (if begins class.Name tokens then (do
      name ← one class.Name tokens
      Ok (const.Name name.0, name.1))
    else (do
      bracket ← one (class.Symbol OPEN_PAREN) tokens
      inner ← deeper 3 tokens
      after ← after_one (class.Symbol CLOSE_PAREN) inner.1
      Ok (const.Paren bracket.0 inner.0, after)))

-- a sign and its operand, which `deeper` reads from the sign on, or an atom
unfoldable pub const_unary : (ℕ → List Token → Read ConstExpr) → List Token → Read ConstExpr
const_unary deeper tokens =
    if begins (class.Symbol MINUS) tokens then (do
      sign ← one (class.Symbol MINUS) tokens
      operand ← deeper 1 tokens
      Ok (const.Minus sign.0 operand.0, operand.1))
    else const_atom deeper tokens

-- an operand alone, or a chain
abbrev pub const_chain_of : ConstExpr → List (Token × ConstExpr) → ConstExpr
const_chain_of first [] = first
const_chain_of first (second ∷ rest) = const.Chain first (second ∷ rest)

-- one level of operators
unfoldable pub const_chain : (List Token → Read ConstExpr) → Class → List Token → Read ConstExpr
const_chain operand operators tokens = do
  first ← operand tokens
  rest ← operands operand operators (length first.1) first.1
  Ok (const_chain_of first.0 rest.0, rest.1)

-- a constant of this level
unfoldable pub const_from : (ℕ → List Token → Read ConstExpr) → ℕ → List Token → Read ConstExpr
const_from deeper zero tokens = const_atom deeper tokens
const_from deeper (suc zero) tokens = const_unary deeper tokens
const_from deeper (suc (suc below)) tokens =
    const_chain (const_from deeper (suc below)) (const_operators (suc (suc below))) tokens

-- what stands behind the first token, a bracket or a sign, where there is room for it
unfoldable pub const_in : ℕ → ℕ → List Token → Read ConstExpr
const_in zero level tokens = Err (stops.TooDeep (length tokens))
const_in (suc room) level tokens = const_from (const_in room) level (drop 1 tokens)

-- a constant, with room for so many brackets and signs
unfoldable pub const_at : ℕ → ℕ → List Token → Read ConstExpr
const_at room level tokens = const_from (const_in room) level tokens
