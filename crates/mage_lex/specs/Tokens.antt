-- The tokens of a text.
use Rattle.std.specs.Prelude.{◌≡◌, ℕ, zero, suc, ◌-◌, ◌||◌, List, [], ◌∷◌, ◌++◌, length, take_while, take, drop, Option, Some, None, Result, Ok, Err, nat_eq, nat_le, nat_lt, slice_index, codes, if◌then◌else◌}
use Rattle.std.specs.List.{starts_with}
use Rattle.std.specs.Char.{is_ascii_digit}
use Rattle.std.specs.Str.Parse.{digits_value}
use Rattle.mage_lex.specs.Limits.{MOST_BYTES, NUMBER_LIMIT}
use Rattle.mage_lex.specs.Bytes.{is_blank, is_in_line, is_letter, is_in_word}
use Rattle.mage_lex.specs.Symbols.{symbol_row, symbol_bytes}
use Rattle.mage_lex.specs.Places.{place_after}
use Rattle.mage_lex.specs.declared.piece.Place.{Place}
use Rattle.mage_lex.specs.declared.piece.Piece.{Piece}
use Rattle.mage_lex.specs.declared.piece.Piece.TheVariants as piece
use Rattle.mage_lex.specs.declared.token.Token.{Token}
use Rattle.mage_lex.specs.declared.token.TokenKind.{TokenKind}
use Rattle.mage_lex.specs.declared.token.TokenKind.TheVariants as kinds
use Rattle.mage_lex.specs.declared.fault.LangKind.{LangKind}
use Rattle.mage_lex.specs.declared.fault.LangKind.TheVariants as wrong
use Rattle.mage_lex.specs.declared.fault.LangFault.{LangFault}
use Rattle.mage_lex.specs.declared.fault.LangFault.TheVariants as faults

-- the word at the front
abbrev pub word_of : List ℕ → Piece
word_of text = let word = take_while is_in_word text in piece.Lexeme (kinds.Word word) (length word)

-- a number that these digits write, where it is small enough and no letter follows it directly
abbrev pub number_from : List ℕ → List ℕ → Piece
number_from digits after =
    if is_letter (slice_index after 0) || nat_le NUMBER_LIMIT (digits_value 10 digits)
    then piece.Bad wrong.BadNumber
    else piece.Lexeme (kinds.Number (digits_value 10 digits)) (length digits)

-- the number at the front
abbrev pub number_of : List ℕ → Piece
number_of text =
    let digits = take_while is_ascii_digit text in number_from digits (drop (length digits) text)

-- the symbol of this row
abbrev pub symbol_of : Option ℕ → Piece
symbol_of (Some row) = piece.Lexeme (kinds.Symbol row) (length (symbol_bytes row))
symbol_of None = piece.Bad wrong.BadByte

-- what stands at the front of a text: a blank, a comment to the end of its line, a word, a number,
-- a symbol, or a fault
unfoldable pub front_of : List ℕ → Piece
front_of [] = piece.Gap 0
front_of (first ∷ rest) =
    let text = first ∷ rest in
    if is_blank first then piece.Gap 1
    else (if starts_with nat_eq text (codes "//")
    then piece.Gap (length (take_while is_in_line text))
    else (if is_letter first then word_of text
    else (if is_ascii_digit first then number_of text
    else symbol_of (symbol_row text))))

-- the number of its bytes
abbrev pub size_of : Piece → ℕ
size_of (piece.Gap size) = size
size_of (piece.Lexeme kind size) = size
size_of (piece.Bad kind) = 1

-- the token of this kind and size at this place
abbrev pub token_at : Place → TokenKind → ℕ → Token
token_at place kind size = record {
  kind = kind;
  start = place.start;
  len = size;
  line = place.line;
  column = place.column;
}

-- what is wrong at this place
abbrev pub fault_at : Place → LangKind → LangFault
fault_at place kind = faults.At kind place.line place.column

-- tokens in front of others, if there is no fault
abbrev pub in_front : List Token → Result (List Token) LangFault → Result (List Token) LangFault
in_front tokens (Ok others) = Ok (tokens ++ others)
in_front tokens (Err fault) = Err fault

-- what the piece at this place makes of the tokens that follow it: a token stands in front, a fault
-- in place of them
abbrev pub piece_in_front : Place → Piece → Result (List Token) LangFault →
    Result (List Token) LangFault
piece_in_front place (piece.Gap size) others = others
piece_in_front place (piece.Lexeme kind size) others =
    in_front (token_at place kind size ∷ []) others
piece_in_front place (piece.Bad kind) others = Err (fault_at place kind)

-- the tokens of what follows these bytes and the next `skip`: piece after piece
unfoldable pub tokens_after : List ℕ → List ℕ → ℕ → Result (List Token) LangFault
tokens_after before [] skip = Ok []
tokens_after before (first ∷ rest) (suc skip) = tokens_after (before ++ first ∷ []) rest skip
tokens_after before (first ∷ rest) zero =
    let front = front_of (first ∷ rest) in
    piece_in_front (place_after before) front
    (tokens_after (before ++ first ∷ []) rest (size_of front - 1))

-- the tokens of a text, or its first fault
unfoldable pub tokens_of : List ℕ → Result (List Token) LangFault
tokens_of text =
    if nat_lt MOST_BYTES (length text) then Err (faults.At wrong.TooLong 0 0)
    else tokens_after [] text 0

-- the tokens from the n-th byte of a text on
abbrev pub tokens_from : List ℕ → ℕ → Result (List Token) LangFault
tokens_from text n = tokens_after (take n text) (drop n text) 0

-- the fault is the one that was found, or want of memory
abbrev pub IsFaultOf : Result (List Token) LangFault → LangFault → Type 0
IsFaultOf found (faults.At kind line column) = found ≡ Err (faults.At kind line column)
IsFaultOf found faults.Memory = Unit {0}
