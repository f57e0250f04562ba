-- What holds of the grammar.
use Rattle.std.specs.Prelude.{◌≡◌, ℕ, List, [], ◌∷◌, ◌++◌, Option}
use Rattle.mage_lex.specs.declared.token.Token.{Token}
use Rattle.mage_tree.specs.declared.tree.Stmt.{Stmt}
use Rattle.mage_tree.specs.Sources.{IsSource}

-- at most one tree belongs to a list of tokens, however deep the trees may be
abbrev pub HasOneTree : List Token → Type 0
HasOneTree tokens =
    (depth other_depth : ℕ) (workers other_workers : Option Token) (body other_body : List Stmt) →
    IsSource depth workers body tokens → IsSource other_depth other_workers other_body tokens →
    (workers ≡ other_workers) × (body ≡ other_body)

-- the tokens begin a source, however deep
abbrev pub IsFront : List Token → Type 0
IsFront front =
    (more : List Token) × (depth : ℕ) × (workers : Option Token) × (body : List Stmt)
    × IsSource depth workers body (front ++ more)

-- no source goes on behind `front` with the next token, or ends there where none is left
abbrev pub Breaks : List Token → List Token → Type 0
Breaks front [] =
    (depth : ℕ) (workers : Option Token) (body : List Stmt) → IsSource depth workers body front → ⊥
Breaks front (token ∷ rest) = IsFront (front ++ token ∷ []) → ⊥
