-- The symbols of the language, and the name of each row.
use Rattle.std.specs.Prelude.{ℕ, List, [], ◌∷◌, Option, nat_eq, position, slice_get, unwrap_or, codes}
use Rattle.std.specs.List.{starts_with}

-- the symbols by row; those of two bytes stand before those of one
abbrev pub symbols : List (List ℕ)
symbols =
    codes ".." ∷ codes "==" ∷ codes "<<" ∷ codes ">>"
    ∷ codes ";" ∷ codes ":" ∷ codes "," ∷ codes "(" ∷ codes ")" ∷ codes "[" ∷ codes "]"
    ∷ codes "{" ∷ codes "}" ∷ codes "=" ∷ codes "<" ∷ codes "+" ∷ codes "-" ∷ codes "*"
    ∷ codes "/" ∷ codes "%" ∷ codes "&" ∷ codes "^" ∷ codes "|" ∷ codes "!" ∷ []

-- how many they are
abbrev pub SYMBOL_COUNT : ℕ
SYMBOL_COUNT = 24

-- The rows by name. The law `symbols_are_named` says how the symbol of each is spelled.
abbrev pub DOTS : ℕ
DOTS = 0

abbrev pub EQUALS : ℕ
EQUALS = 1

abbrev pub SHIFT_LEFT : ℕ
SHIFT_LEFT = 2

abbrev pub SHIFT_RIGHT : ℕ
SHIFT_RIGHT = 3

abbrev pub SEMICOLON : ℕ
SEMICOLON = 4

abbrev pub COLON : ℕ
COLON = 5

abbrev pub COMMA : ℕ
COMMA = 6

abbrev pub OPEN_PAREN : ℕ
OPEN_PAREN = 7

abbrev pub CLOSE_PAREN : ℕ
CLOSE_PAREN = 8

abbrev pub OPEN_BRACKET : ℕ
OPEN_BRACKET = 9

abbrev pub CLOSE_BRACKET : ℕ
CLOSE_BRACKET = 10

abbrev pub OPEN_BRACE : ℕ
OPEN_BRACE = 11

abbrev pub CLOSE_BRACE : ℕ
CLOSE_BRACE = 12

abbrev pub ASSIGN : ℕ
ASSIGN = 13

abbrev pub LESS : ℕ
LESS = 14

abbrev pub PLUS : ℕ
PLUS = 15

abbrev pub MINUS : ℕ
MINUS = 16

abbrev pub TIMES : ℕ
TIMES = 17

abbrev pub DIVIDE : ℕ
DIVIDE = 18

abbrev pub REMAINDER : ℕ
REMAINDER = 19

abbrev pub AND : ℕ
AND = 20

abbrev pub XOR : ℕ
XOR = 21

abbrev pub OR : ℕ
OR = 22

abbrev pub NOT : ℕ
NOT = 23

-- the row of the longest symbol that the text begins with: the first in the list, where the longer
-- stand first
unfoldable pub symbol_row : List ℕ → Option ℕ
symbol_row text = position (λ symbol. starts_with nat_eq text symbol) symbols

-- the bytes of the symbol in this row
unfoldable pub symbol_bytes : ℕ → List ℕ
symbol_bytes row = unwrap_or (slice_get symbols row) []
