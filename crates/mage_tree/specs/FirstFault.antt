-- The first fault of some tokens, by the grammar and by how deep they stand.
use Rattle.std.specs.Prelude.{◌≡◌, ℕ, suc, ◌≤◌, List, [], ◌∷◌, ◌++◌, ◌⊎◌, All, Option}
use Rattle.mage_lex.specs.Places.{line_after, column_after}
use Rattle.mage_lex.specs.declared.token.Token.{Token}
use Rattle.mage_lex.specs.declared.fault.LangKind.{LangKind}
use Rattle.mage_lex.specs.declared.fault.LangKind.TheVariants as wrong
use Rattle.mage_lex.specs.declared.fault.LangFault.{LangFault}
use Rattle.mage_lex.specs.declared.fault.LangFault.TheVariants as faults
use Rattle.mage_tree.specs.declared.tree.Stmt.{Stmt}
use Rattle.mage_tree.specs.Sources.{MOST_DEPTH, IsSource}
use Rattle.mage_tree.specs.Laws.{IsFront, Breaks}
use Rattle.mage_tree.specs.Depth.{depths}

-- no token stands deeper than this
abbrev pub IsWithin : ℕ → List Token → Type 0
IsWithin most tokens = All (λ depth. depth ≤ most) (depths tokens)

-- The first fault is of this kind and stands behind `front`, at the first of the tokens `back`, or
-- at the end where there is none. Some source begins with `front`, and none of its tokens is too
-- deep. `Syntax`: no source goes on with the next token, or ends there. `TooDeep`: some source goes
-- on with the next token, and this one is one too deep.
abbrev pub StandsBehind : LangKind → List Token → List Token → Type 0
StandsBehind wrong.Syntax front back = IsFront front × IsWithin MOST_DEPTH front × Breaks front back
StandsBehind wrong.TooDeep front [] = ⊥
StandsBehind wrong.TooDeep front (token ∷ rest) =
    IsFront (front ++ token ∷ []) × IsWithin MOST_DEPTH front
    × (depths (front ++ token ∷ []) ≡ depths front ++ suc MOST_DEPTH ∷ [])
StandsBehind other front back = ⊥

-- a fault at the first of these tokens, or just after the last byte where there is none
abbrev pub fault_at : LangKind → List ℕ → List Token → LangFault
fault_at kind text [] = faults.At kind (line_after text) (column_after text)
fault_at kind text (token ∷ rest) = faults.At kind token.line token.column

-- the first fault of the tokens is of this kind and stands where `back` is left
abbrev pub IsFirstFault : LangKind → List Token → List Token → Type 0
IsFirstFault kind tokens back =
    (front : List Token) × (tokens ≡ front ++ back) × StandsBehind kind front back

-- the fault is the first one, at its place in the text, or want of memory
abbrev pub IsFirstFaultOf : List ℕ → List Token → LangFault → Type 0
IsFirstFaultOf text tokens (faults.At kind line column) =
    (back : List Token) × IsFirstFault kind tokens back
    × (faults.At kind line column ≡ fault_at kind text back)
IsFirstFaultOf text tokens faults.Memory = Unit {0}

-- the fault is this one, or want of memory
abbrev pub IsThisOrMemory : LangFault → LangFault → Type 0
IsThisOrMemory wanted (faults.At kind line column) = wanted ≡ faults.At kind line column
IsThisOrMemory wanted faults.Memory = Unit {0}

-- the room of the grammar is the greatest depth of a token: a source within it is a source whose
-- tokens aren't deeper
abbrev pub HasDepthOfRoom : List Token → Type 0
HasDepthOfRoom tokens = (room : ℕ) (workers : Option Token) (body : List Stmt) →
    (IsSource room workers body tokens → IsWithin room tokens)
    × ((other : ℕ) → IsSource other workers body tokens → IsWithin room tokens →
    IsSource room workers body tokens)

-- the tokens are those of a source within the depth
abbrev pub HasSource : List Token → Type 0
HasSource tokens =
    (workers : Option Token) × (body : List Stmt) × IsSource MOST_DEPTH workers body tokens

-- some tokens have a source or a first fault, never both, and one fault at most
pub record HasOneAnswer (tokens : List Token) : Type 0 where
  pub some : HasSource tokens
      ⊎ ((kind : LangKind) × (back : List Token) × IsFirstFault kind tokens back)
  pub apart : (kind : LangKind) (back : List Token) → HasSource tokens →
      IsFirstFault kind tokens back → ⊥
  pub one : (kind other : LangKind) (back other_back : List Token) → IsFirstFault kind tokens back →
      IsFirstFault other tokens other_back → (kind ≡ other) × (back ≡ other_back)
