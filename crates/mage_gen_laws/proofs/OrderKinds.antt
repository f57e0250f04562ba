-- The kinds of a generated source's tokens, and that its text is spelled by them.
use Rattle.std.proofs.Common.{◌≡◌, ℕ, ◌<◌, ◌^◌, Bool, true, false, ◌&&◌, List, [], ◌∷◌, ◌++◌, refl, ap, ◌∙◌, append_assoc, arith}
use Rattle.std.specs.Prelude.{nat_lt, codes}
use Rattle.std.specs.List.{concat, list_all, AllByRecursion}
use Rattle.std.specs.Fmt.{decimal}
use Rattle.std.proofs.lemmas.Bool.{and_parts, ltb-true}
use Rattle.std.proofs.lemmas.Fmt.{decimal_digit}
use Rattle.mage_lex.specs.Bytes.{is_letter, is_in_word}
use Rattle.mage_lex.specs.Symbols.{DOTS, SEMICOLON, COLON, OPEN_PAREN, CLOSE_PAREN, OPEN_BRACKET, CLOSE_BRACKET, OPEN_BRACE, CLOSE_BRACE, ASSIGN, PLUS, TIMES, symbol_bytes}
use Rattle.mage_lex.specs.declared.token.Token.{Token}
use Rattle.mage_lex.specs.declared.token.TokenKind.{TokenKind}
use Rattle.mage_lex.specs.declared.token.TokenKind.TheVariants as kinds
use Rattle.mage_tree.specs.Sources.{IsTokenKind, kinds_of}
use Rattle.mage_printer.specs.Printed.{separator, written, printed}
use Rattle.mage_gen.specs.declared.order.GenOrder.{GenOrder}
use Rattle.mage_gen.specs.Generator.{IsOrder}
use Rattle.mage_gen.specs.Source.{source_text}

abbrev word : List ℕ → TokenKind
word text = kinds.Word text

abbrev number : ℕ → TokenKind
number value = kinds.Number value

abbrev symbol : ℕ → TokenKind
symbol row = kinds.Symbol row

-- the kinds of the tokens, line by line
abbrev pub source_kinds : GenOrder → List TokenKind
source_kinds order =
    word (codes "workers") ∷ number order.workers ∷ symbol SEMICOLON
    ∷ word (codes "const") ∷ word (codes "N") ∷ symbol ASSIGN ∷ number order.items ∷ symbol SEMICOLON
    ∷ word (codes "const") ∷ word (codes "M") ∷ symbol ASSIGN ∷ number order.rows ∷ symbol SEMICOLON
    ∷ word (codes "array") ∷ word (codes "t") ∷ symbol COLON ∷ word (codes "u32") ∷ symbol OPEN_BRACKET
    ∷ word (codes "M") ∷ symbol CLOSE_BRACKET ∷ symbol ASSIGN ∷ word (codes "lit") ∷ word (codes "u32")
    ∷ symbol OPEN_PAREN ∷ number 0 ∷ symbol CLOSE_PAREN ∷ symbol SEMICOLON
    ∷ word (codes "for") ∷ word (codes "w") ∷ word (codes "in") ∷ number 0 ∷ symbol DOTS ∷ number order.workers
    ∷ symbol OPEN_BRACE
    ∷ word (codes "on") ∷ word (codes "w") ∷ symbol OPEN_BRACE
    ∷ word (codes "input") ∷ word (codes "garbler") ∷ word (codes "x") ∷ symbol COLON ∷ word (codes "u32")
    ∷ symbol OPEN_BRACKET ∷ word (codes "N") ∷ symbol CLOSE_BRACKET ∷ symbol SEMICOLON
    ∷ word (codes "for") ∷ word (codes "r") ∷ word (codes "in") ∷ number 0 ∷ symbol DOTS ∷ word (codes "M")
    ∷ symbol OPEN_BRACE
    ∷ word (codes "input") ∷ word (codes "evaluator") ∷ word (codes "a") ∷ symbol COLON ∷ word (codes "u32")
    ∷ symbol OPEN_BRACKET ∷ word (codes "N") ∷ symbol CLOSE_BRACKET ∷ symbol SEMICOLON
    ∷ word (codes "let") ∷ word (codes "s") ∷ symbol ASSIGN ∷ word (codes "lit") ∷ word (codes "u32")
    ∷ symbol OPEN_PAREN ∷ number 0 ∷ symbol CLOSE_PAREN ∷ symbol SEMICOLON
    ∷ word (codes "for") ∷ word (codes "i") ∷ word (codes "in") ∷ number 0 ∷ symbol DOTS ∷ word (codes "N")
    ∷ symbol OPEN_BRACE
    ∷ word (codes "s") ∷ symbol ASSIGN ∷ word (codes "s") ∷ symbol PLUS ∷ word (codes "x") ∷ symbol OPEN_BRACKET
    ∷ word (codes "i") ∷ symbol CLOSE_BRACKET ∷ symbol TIMES ∷ word (codes "a") ∷ symbol OPEN_BRACKET
    ∷ word (codes "i") ∷ symbol CLOSE_BRACKET ∷ symbol SEMICOLON
    ∷ symbol CLOSE_BRACE
    ∷ word (codes "on") ∷ number 0 ∷ symbol OPEN_BRACE
    ∷ word (codes "move") ∷ word (codes "p") ∷ symbol ASSIGN ∷ word (codes "s") ∷ symbol SEMICOLON
    ∷ word (codes "t") ∷ symbol OPEN_BRACKET ∷ word (codes "r") ∷ symbol CLOSE_BRACKET ∷ symbol ASSIGN
    ∷ word (codes "t") ∷ symbol OPEN_BRACKET ∷ word (codes "r") ∷ symbol CLOSE_BRACKET ∷ symbol PLUS
    ∷ word (codes "p") ∷ symbol SEMICOLON
    ∷ symbol CLOSE_BRACE
    ∷ symbol CLOSE_BRACE
    ∷ symbol CLOSE_BRACE
    ∷ symbol CLOSE_BRACE
    ∷ word (codes "for") ∷ word (codes "r") ∷ word (codes "in") ∷ number 0 ∷ symbol DOTS ∷ word (codes "M")
    ∷ symbol OPEN_BRACE
    ∷ word (codes "output") ∷ word (codes "t") ∷ symbol OPEN_BRACKET ∷ word (codes "r") ∷ symbol CLOSE_BRACKET
    ∷ symbol SEMICOLON
    ∷ symbol CLOSE_BRACE
    ∷ []

-- a token with what stands behind it, in front of more
abbrev say : TokenKind → List ℕ → List ℕ
say (kinds.Word text) more = text ++ (32 ∷ more)
say (kinds.Number value) more = decimal value ++ (32 ∷ more)
say (kinds.Symbol row) more = symbol_bytes row ++ (separator (kinds.Symbol row) ∷ more)

say_is : (kind : TokenKind) (more : List ℕ) → written kind ++ more ≡ say kind more
unfolding written
say_is (kinds.Word text) more = append_assoc text (32 ∷ []) more
say_is (kinds.Number value) more = append_assoc (decimal value) (32 ∷ []) more
say_is (kinds.Symbol row) more = append_assoc (symbol_bytes row) (separator (kinds.Symbol row) ∷ []) more

abbrev pub say_all : List TokenKind → List ℕ
say_all [] = []
say_all (kind ∷ rest) = say kind (say_all rest)

-- what is printed of tokens, by their kinds
pub printed_says : (tokens : List Token) → printed tokens ≡ say_all (kinds_of tokens)
printed_says [] = refl
printed_says (token ∷ tokens) = say_is token.kind (printed tokens) ∙ ap (say token.kind) (printed_says tokens)

-- the text of an order, with these digits for each zero
abbrev text_with : GenOrder → List ℕ → List ℕ
text_with order naught = concat (
    codes "workers " ∷ decimal order.workers
    ∷ codes " ;\nconst N = " ∷ decimal order.items
    ∷ codes " ;\nconst M = " ∷ decimal order.rows
    ∷ codes " ;\narray t : u32 [ M ] = lit u32 ( " ∷ naught
    ∷ codes " ) ;\nfor w in " ∷ naught
    ∷ codes " .. " ∷ decimal order.workers
    ∷ codes " {\non w {\ninput garbler x : u32 [ N ] ;\nfor r in " ∷ naught
    ∷ codes " .. M {\ninput evaluator a : u32 [ N ] ;\nlet s = lit u32 ( " ∷ naught
    ∷ codes " ) ;\nfor i in " ∷ naught
    ∷ codes " .. N {\ns = s + x [ i ] * a [ i ] ;\n}\non " ∷ naught
    ∷ codes " {\nmove p = s ;\nt [ r ] = t [ r ] + p ;\n}\n}\n}\n}\nfor r in " ∷ naught
    ∷ codes " .. M {\noutput t [ r ] ;\n}\n"
    ∷ [])

text_of_kinds : (order : GenOrder) → say_all (source_kinds order) ≡ text_with order (decimal 0)
unfolding symbol_bytes
text_of_kinds order = refl

-- the text of an order is spelled by its kinds
pub text_says : (order : GenOrder) → say_all (source_kinds order) ≡ source_text order
text_says order =
    let zero_is : decimal 0 ≡ 48 ∷ [] = decimal_digit 0 (omega arith) in
    text_of_kinds order ∙ ap (text_with order) zero_is

-- words and symbols as a text has them
abbrev plain : TokenKind → Bool
plain (kinds.Word []) = false
plain (kinds.Word (first ∷ rest)) = is_letter first && list_all is_in_word rest
plain (kinds.Number value) = true
plain (kinds.Symbol row) = nat_lt row 24

abbrev numbers_in : List TokenKind → List ℕ
numbers_in [] = []
numbers_in (kinds.Word text ∷ rest) = numbers_in rest
numbers_in (kinds.Number value ∷ rest) = value ∷ numbers_in rest
numbers_in (kinds.Symbol row ∷ rest) = numbers_in rest

abbrev AreBelow : List ℕ → Type 0
AreBelow [] = Unit {0}
AreBelow (value ∷ values) = (value < 2 ^ 127) × AreBelow values

each_kind : (ks : List TokenKind) → list_all plain ks ≡ true → AreBelow (numbers_in ks) → AllByRecursion IsTokenKind ks
each_kind [] all below = tt
each_kind (kinds.Word [] ∷ ks) all below = absurd (cc)
each_kind (kinds.Word (first ∷ rest) ∷ ks) all below =
    let parts = and_parts (is_letter first && list_all is_in_word rest) (list_all plain ks) all in
    (and_parts (is_letter first) (list_all is_in_word rest) parts.0, each_kind ks parts.1 below)
each_kind (kinds.Number value ∷ ks) all below = (below.0, each_kind ks all below.1)
each_kind (kinds.Symbol row ∷ ks) all below =
    let parts = and_parts (nat_lt row 24) (list_all plain ks) all in
    (ltb-true row 24 parts.0, each_kind ks parts.1 below)

words_are_plain : (order : GenOrder) → list_all plain (source_kinds order) ≡ true
words_are_plain order = refl

numbers_are_below : (order : GenOrder) → IsOrder order → AreBelow (numbers_in (source_kinds order))
numbers_are_below order is =
    let none : 0 < 2 ^ 127 = omega arith in
    let workers : order.workers < 2 ^ 127 = omega (arith, is.workers.1) in
    let items : order.items < 2 ^ 127 = omega (arith, is.items.1) in
    let rows : order.rows < 2 ^ 127 = omega (arith, is.rows.1) in
    (workers, (items, (rows, (none, (none, (workers, (none, (none, (none, (none, (none, tt)))))))))))

-- the kinds are those that a text can have
pub kinds_are_of_texts : (order : GenOrder) → IsOrder order → AllByRecursion IsTokenKind (source_kinds order)
kinds_are_of_texts order is = each_kind (source_kinds order) (words_are_plain order) (numbers_are_below order is)
