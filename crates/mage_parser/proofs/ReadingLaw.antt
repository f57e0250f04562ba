-- Reading is the grammar.
use Rattle.std.proofs.Common.{◌≡◌, ℕ, List, refl, ap, sym, ◌∙◌}
use Rattle.std.specs.Prelude.{Option, Result, Ok, Err}
use Rattle.mage_lex.specs.declared.token.Token.{Token}
use Rattle.mage_lex.specs.declared.fault.LangFault.{LangFault}
use Rattle.mage_parser.specs.declared.stop.Stop.{Stop}
use Rattle.mage_tree.specs.declared.tree.Stmt.{Stmt}
use Rattle.mage_tree.specs.Sources.{MOST_DEPTH}
use Rattle.mage_parser.specs.Statements.{source_at}
use Rattle.mage_parser.specs.Faults.{parsed_from, parsed}
use Rattle.mage_parser.specs.Laws.{GrammarSays, ReadingIsTheGrammar}
use Rattle.mage_parser.proofs.SoundStatements.{source_sound}
use Rattle.mage_parser.proofs.FullStatements.{source_full}
use Rattle.mage_parser.proofs.OneFault.{fault_found, same_fault, no_fault}

-- what reading gives is what the grammar says
says : (text : List ℕ) (tokens : List Token) (read : Result (Option Token × List Stmt) Stop) → source_at MOST_DEPTH tokens ≡ read →
    GrammarSays text tokens (parsed_from text tokens read)
says text tokens (Ok source) e = rw e at (source_sound MOST_DEPTH tokens)
says text tokens (Err stop) e = fault_found text tokens stop e

-- what the grammar says is what reading gives
given : (text : List ℕ) (tokens : List Token) (read : Result (Option Token × List Stmt) Stop) → source_at MOST_DEPTH tokens ≡ read →
    (answer : Result (Option Token × List Stmt) LangFault) → GrammarSays text tokens answer → parsed_from text tokens read ≡ answer
given text tokens read e (Ok source) s = ap (parsed_from text tokens) (sym e ∙ source_full s)
given text tokens (Ok source) e (Err fault) f = absurd (no_fault tokens source.0 source.1 f.0 f.1 e f.2)
given text tokens (Err stop) e (Err fault) f = ap Err (sym (same_fault text tokens stop f.0 f.1 e f.2) ∙ sym f.3)

pub reading_is_the_grammar : ReadingIsTheGrammar
unfolding parsed
reading_is_the_grammar text tokens answer =
    ((λ e. rw e at (says text tokens (source_at MOST_DEPTH tokens) refl)), given text tokens (source_at MOST_DEPTH tokens) refl answer)
