-- The faults of reading, with their places.
use Rattle.std.specs.Prelude.{◌≡◌, ℕ, ◌-◌, List, length, drop, Option, Result, Ok, Err}
use Rattle.mage_lex.specs.declared.token.Token.{Token}
use Rattle.mage_lex.specs.declared.fault.LangKind.TheVariants as wrong
use Rattle.mage_lex.specs.declared.fault.LangFault.{LangFault}
use Rattle.mage_lex.specs.declared.fault.LangFault.TheVariants as faults
use Rattle.mage_parser.specs.declared.stop.Stop.{Stop}
use Rattle.mage_parser.specs.declared.stop.Stop.TheVariants as stops
use Rattle.mage_tree.specs.declared.tree.Stmt.{Stmt}
use Rattle.mage_tree.specs.Sources.{MOST_DEPTH}
use Rattle.mage_tree.specs.FirstFault.{fault_at}
use Rattle.mage_parser.specs.Statements.{source_at}

-- the last so many tokens
abbrev pub last_of : List Token → ℕ → List Token
last_of tokens left = drop (length tokens - left) tokens

-- the fault where reading stops
abbrev pub fault_of : List ℕ → List Token → Stop → LangFault
fault_of text tokens (stops.Syntax left) = fault_at wrong.Syntax text (last_of tokens left)
fault_of text tokens (stops.TooDeep left) = fault_at wrong.TooDeep text (last_of tokens left)
fault_of text tokens stops.Memory = faults.Memory

-- the source of the tokens, within the depth, or the fault
abbrev pub parsed_from : List ℕ → List Token → Result (Option Token × List Stmt) Stop →
    Result (Option Token × List Stmt) LangFault
parsed_from text tokens (Ok source) = Ok source
parsed_from text tokens (Err stop) = Err (fault_of text tokens stop)

unfoldable pub parsed : List ℕ → List Token → Result (Option Token × List Stmt) LangFault
parsed text tokens = parsed_from text tokens (source_at MOST_DEPTH tokens)

-- the fault is the one that was found, or want of memory
abbrev pub IsFaultOf : Result (Option Token × List Stmt) LangFault → LangFault → Type 0
IsFaultOf found (faults.At kind line column) = found ≡ Err (faults.At kind line column)
IsFaultOf found faults.Memory = Unit {0}
