-- What holds of reading.
use Rattle.std.specs.Prelude.{◌≡◌, ◌↔◌, ℕ, List, ◌++◌, length, Option, Result, Ok, Err}
use Rattle.mage_lex.specs.declared.token.Token.{Token}
use Rattle.mage_lex.specs.declared.fault.LangKind.{LangKind}
use Rattle.mage_lex.specs.declared.fault.LangFault.{LangFault}
use Rattle.mage_tree.specs.declared.tree.Stmt.{Stmt}
use Rattle.mage_parser.specs.declared.stop.Stop.TheVariants as stops
use Rattle.mage_tree.specs.Sources.{MOST_DEPTH, IsSource}
use Rattle.mage_tree.specs.Laws.{IsFront, Breaks}
use Rattle.mage_tree.specs.FirstFault.{fault_at, IsFirstFault}
use Rattle.mage_parser.specs.Statements.{source_at}
use Rattle.mage_parser.specs.Faults.{parsed}

-- the last `left` tokens begin with the first token with which no source goes on, or none is left
-- and no source ends there
abbrev pub IsFirstWrong : List Token → ℕ → Type 0
IsFirstWrong tokens left =
    (front back : List Token) × (tokens ≡ front ++ back) × (length back ≡ left) × IsFront front
    × Breaks front back

-- where reading finds a wrong token, it is the first with which no source goes on
abbrev pub StopsAtFirstWrong : List Token → Type 0
StopsAtFirstWrong tokens =
    (depth left : ℕ) → source_at depth tokens ≡ Err (stops.Syntax left) → IsFirstWrong tokens left

-- what the grammar says of the tokens of a text: the source that they have within the depth, or
-- their first fault
abbrev pub GrammarSays : List ℕ → List Token → Result (Option Token × List Stmt) LangFault → Type 0
GrammarSays text tokens (Ok source) = IsSource MOST_DEPTH source.0 source.1 tokens
GrammarSays text tokens (Err fault) =
    (kind : LangKind) × (back : List Token) × IsFirstFault kind tokens back
    × (fault ≡ fault_at kind text back)

-- reading answers exactly what the grammar says, of any tokens
abbrev pub ReadingIsTheGrammar : Type 0
ReadingIsTheGrammar =
    (text : List ℕ) (tokens : List Token) (answer : Result (Option Token × List Stmt) LangFault) →
    (parsed text tokens ≡ answer) ↔ GrammarSays text tokens answer
