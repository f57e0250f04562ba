-- The classes of tokens that the grammar speaks of.
use Rattle.std.specs.Prelude.{ℕ, Bool, true, false, ◌||◌, ◌==◌, List, codes}
use Rattle.std.specs.Str.{bytes_eq}
use Rattle.mage_lex.specs.Symbols.{EQUALS, SHIFT_LEFT, SHIFT_RIGHT, LESS, PLUS, MINUS, TIMES, DIVIDE, REMAINDER}
use Rattle.mage_lex.specs.declared.token.Token.{Token}
use Rattle.mage_lex.specs.declared.token.TokenKind.{TokenKind}
use Rattle.mage_lex.specs.declared.token.TokenKind.TheVariants as kinds
use Rattle.mage_lex.specs.Words as words
use Rattle.mage_tree.specs.declared.class.Keyword.{Keyword}
use Rattle.mage_tree.specs.declared.class.Keyword.TheVariants as keyword
use Rattle.mage_tree.specs.declared.class.Callable.{Callable}
use Rattle.mage_tree.specs.declared.class.Callable.TheVariants as callable
use Rattle.mage_tree.specs.declared.class.Class.{Class}
use Rattle.mage_tree.specs.declared.class.Class.TheVariants as class

-- how a keyword is spelled
unfoldable pub text_of : Keyword → List ℕ
text_of keyword.Workers = codes "workers"
text_of keyword.Const = codes "const"
text_of keyword.Input = codes "input"
text_of keyword.Garbler = codes "garbler"
text_of keyword.Evaluator = codes "evaluator"
text_of keyword.Let = codes "let"
text_of keyword.Array = codes "array"
text_of keyword.Move = codes "move"
text_of keyword.On = codes "on"
text_of keyword.For = codes "for"
text_of keyword.In = codes "in"
text_of keyword.If = codes "if"
text_of keyword.Else = codes "else"
text_of keyword.Output = codes "output"
text_of keyword.Lit = codes "lit"
text_of keyword.Resize = codes "resize"
text_of keyword.Mux = codes "mux"

-- how a call's word is spelled
unfoldable pub call_text : Callable → List ℕ
call_text callable.Min = codes "min"
call_text callable.Max = codes "max"
call_text callable.Count = codes "count"

-- the token is a word of which this holds
abbrev pub is_word_with : (List ℕ → Bool) → TokenKind → Bool
is_word_with test (kinds.Word word) = test word
is_word_with test (kinds.Number value) = false
is_word_with test (kinds.Symbol row) = false

-- the token is this keyword
unfoldable pub is_word : Keyword → Token → Bool
is_word word token = is_word_with (λ text. bytes_eq text (text_of word)) token.kind

-- the token is this call's word
unfoldable pub is_call : Callable → Token → Bool
is_call word token = is_word_with (λ text. bytes_eq text (call_text word)) token.kind

-- the kind is the symbol of this row
abbrev pub is_symbol_kind : ℕ → TokenKind → Bool
is_symbol_kind row (kinds.Word word) = false
is_symbol_kind row (kinds.Number value) = false
is_symbol_kind row (kinds.Symbol other) = other == row

unfoldable pub is_symbol : ℕ → Token → Bool
is_symbol row token = is_symbol_kind row token.kind

abbrev pub is_number_kind : TokenKind → Bool
is_number_kind (kinds.Word word) = false
is_number_kind (kinds.Number value) = true
is_number_kind (kinds.Symbol row) = false

unfoldable pub is_number : Token → Bool
is_number token = is_number_kind token.kind

unfoldable pub is_name : Token → Bool
is_name token = is_word_with words.is_name token.kind

unfoldable pub is_type : Token → Bool
is_type token = is_word_with words.is_type_word token.kind

-- the token is of the class
unfoldable pub fits : Class → Token → Bool
fits (class.Word word) token = is_word word token
fits (class.Symbol row) token = is_symbol row token
fits class.Number token = is_number token
fits class.Name token = is_name token
fits class.Type token = is_type token
fits class.Party token = is_word keyword.Garbler token || is_word keyword.Evaluator token
fits class.Choosing token = is_call callable.Min token || is_call callable.Max token
fits class.Counting token = is_call callable.Count token
fits class.Adding token = is_symbol PLUS token || is_symbol MINUS token
fits class.Scaling token =
    is_symbol TIMES token || is_symbol DIVIDE token || is_symbol REMAINDER token
fits class.Shifting token = is_symbol SHIFT_LEFT token || is_symbol SHIFT_RIGHT token
fits class.Comparing token = is_symbol EQUALS token || is_symbol LESS token
