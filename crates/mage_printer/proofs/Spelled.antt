-- Tokens as they are spelled, and what the lexer makes of them.
use Rattle.std.proofs.Common.{◌≡◌, ℕ, zero, suc, ◌+◌, ◌-◌, ◌<◌, ◌^◌, Bool, true, false, ◌&&◌, ◌||◌, ◌==◌, cond, List, [], ◌∷◌, ◌++◌, length, take, drop, refl, ap, ◌∙◌, append_assoc, arith}
use Rattle.std.specs.Prelude.{Ok, nat_eq, nat_le, All, codes}
use Rattle.std.specs.List.{list_all, prefix_len, take_while, starts_with}
use Rattle.std.specs.Char.{is_ascii_digit}
use Rattle.std.specs.Str.Parse.{AllDigits, digits_value}
use Rattle.std.specs.Fmt.{decimal}
use Rattle.std.proofs.lemmas.Bool.Decides.{nat_tests}
use Rattle.std.proofs.lemmas.Str.Parse.{digit_from_value}
use Rattle.std.proofs.lemmas.Fmt.{decimal_is_IsNumeral_wide}
use Rattle.std.proofs.Math.Seq.{take-append_seam, drop-append_seam}
use Rattle.mage_lex.specs.Bytes.{is_blank, is_letter, is_in_word}
use Rattle.mage_lex.specs.Symbols.{symbol_row, symbol_bytes}
use Rattle.mage_lex.specs.Places.{place_after}
use Rattle.mage_lex.specs.declared.piece.Piece.TheVariants as piece
use Rattle.mage_lex.specs.declared.token.Token.{Token}
use Rattle.mage_lex.specs.declared.token.TokenKind.{TokenKind}
use Rattle.mage_lex.specs.declared.token.TokenKind.TheVariants as kinds
use Rattle.mage_lex.specs.Tokens.{front_of, number_from, size_of, token_at, in_front, piece_in_front, tokens_after}
use Rattle.mage_lex.proofs.TokenLemmas.{tokens_step}
use Rattle.mage_tree.specs.Sources.{IsTokenKind, kinds_of}
use Rattle.mage_printer.specs.Printed.{spelling, separator, written}
use Rattle.mage_printer.specs.Made.{tokens_made}

first_holds : (a b : Bool) → (a && b) ≡ true → a ≡ true
first_holds true b e = refl
first_holds false b e = absurd (cc)

second_holds : (a b : Bool) → (a && b) ≡ true → b ≡ true
second_holds true b e = e
second_holds false b e = absurd (cc)

one_more : (n : ℕ) → 1 + n ≡ suc n
one_more n = omega arith

-- bytes that pass, before one that doesn't, are those that are taken
passing : (p : ℕ → Bool) (w : List ℕ) (x : ℕ) (rest : List ℕ) → list_all p w ≡ true → p x ≡ false → prefix_len p (w ++ x ∷ rest) ≡ length w
passing p [] x rest all stop = rw stop refl
passing p (c ∷ w) x rest all stop =
    let here : p c ≡ true = first_holds (p c) (list_all p w) all in
    let there : prefix_len p (w ++ x ∷ rest) ≡ length w = passing p w x rest (second_holds (p c) (list_all p w) all) stop in
    rw (here, there) (one_more (length w))

taken : (p : ℕ → Bool) (w : List ℕ) (x : ℕ) (rest : List ℕ) → list_all p w ≡ true → p x ≡ false → take_while p (w ++ x ∷ rest) ≡ w
taken p w x rest all stop = ap (λ n. take n (w ++ x ∷ rest)) (passing p w x rest all stop) ∙ take-append_seam w (x ∷ rest)

-- a letter and a digit begin neither a gap nor one another
letter_no_blank : (c : ℕ) → is_letter c ≡ true → is_blank c ≡ false
letter_no_blank c l = go (is_blank c) refl
  where
    go : (b : Bool) → is_blank c ≡ b → b ≡ false
    go true e = absurd (grind (arith, nat_tests))
    go false e = refl

digit_no_blank : (c : ℕ) → is_ascii_digit c ≡ true → is_blank c ≡ false
digit_no_blank c l = go (is_blank c) refl
  where
    go : (b : Bool) → is_blank c ≡ b → b ≡ false
    go true e = absurd (grind (arith, nat_tests))
    go false e = refl

digit_no_letter : (c : ℕ) → is_ascii_digit c ≡ true → is_letter c ≡ false
digit_no_letter c l = go (is_letter c) refl
  where
    go : (b : Bool) → is_letter c ≡ b → b ≡ false
    go true e = absurd (grind (arith, nat_tests))
    go false e = refl

begins_with : (c : ℕ) (xs : List ℕ) → starts_with nat_eq (c ∷ xs) (codes "//") ≡ true → c ≡ 47
begins_with c [] e = absurd (grind (arith, nat_tests))
begins_with c (y ∷ xs) e = grind (arith, nat_tests)

letter_is_no_slash : (c : ℕ) → is_letter c ≡ true → c ≡ 47 → ⊥
letter_is_no_slash c l e = grind (arith, nat_tests)

digit_is_no_slash : (c : ℕ) → is_ascii_digit c ≡ true → c ≡ 47 → ⊥
digit_is_no_slash c l e = grind (arith, nat_tests)

no_comment : (c : ℕ) (xs : List ℕ) → (c ≡ 47 → ⊥) → starts_with nat_eq (c ∷ xs) (codes "//") ≡ false
no_comment c xs apart = go (starts_with nat_eq (c ∷ xs) (codes "//")) refl
  where
    go : (b : Bool) → starts_with nat_eq (c ∷ xs) (codes "//") ≡ b → b ≡ false
    go true e = absurd (apart (begins_with c xs e))
    go false e = refl

third : {A : Type 0} (a b c : Bool) (v w x y : A) → a ≡ false → b ≡ false → c ≡ true → cond a v (cond b w (cond c x y)) ≡ x
third a b c v w x y p q r = rw (p, q, r) refl

fourth : {A : Type 0} (a b c d : Bool) (u v w x y : A) → a ≡ false → b ≡ false → c ≡ false → d ≡ true → cond a u (cond b v (cond c w (cond d x y))) ≡ x
fourth a b c d u v w x y p q r s = rw (p, q, r, s) refl

-- a word and what can't be in one
word_front : (c : ℕ) (w : List ℕ) (rest : List ℕ) → is_letter c ≡ true → list_all is_in_word w ≡ true →
    front_of ((c ∷ w) ++ 32 ∷ rest) ≡ piece.Lexeme (kinds.Word (c ∷ w)) (length (c ∷ w))
unfolding front_of
word_front c w rest l all =
    let passes : is_in_word c ≡ true = rw l refl in
    let word : take_while is_in_word ((c ∷ w) ++ 32 ∷ rest) ≡ c ∷ w = taken is_in_word (c ∷ w) 32 rest (rw (passes, all) refl) refl in
    third _ _ _ _ _ _ _ (letter_no_blank c l) (no_comment c (w ++ 32 ∷ rest) (letter_is_no_slash c l)) l
    ∙ ap (λ own. piece.Lexeme (kinds.Word own) (length own)) word

all_digits : (ds : List ℕ) → AllDigits 10 ds → list_all is_ascii_digit ds ≡ true
all_digits [] d = refl
all_digits (c ∷ ds) d =
    let here : is_ascii_digit c ≡ true = grind (arith, nat_tests, digit_from_value c d.0) in
    rw (here, all_digits ds d.1) refl

number_small : (value : ℕ) → value < 2 ^ 127 → nat_le (2 ^ 127) value ≡ false
number_small value h = go (nat_le (2 ^ 127) value) refl
  where
    go : (b : Bool) → nat_le (2 ^ 127) value ≡ b → b ≡ false
    go true e = absurd (grind (arith, nat_tests))
    go false e = refl

number_kept : (ds rest : List ℕ) (value : ℕ) → digits_value 10 ds ≡ value → value < 2 ^ 127 → number_from ds (32 ∷ rest) ≡ piece.Lexeme (kinds.Number value) (length ds)
number_kept ds rest value e h = rw (e, number_small value h) refl

-- digits and a blank
digits_front : (ds rest : List ℕ) (value : ℕ) → 0 < length ds → list_all is_ascii_digit ds ≡ true → digits_value 10 ds ≡ value → value < 2 ^ 127 →
    front_of (ds ++ 32 ∷ rest) ≡ piece.Lexeme (kinds.Number value) (length ds)
unfolding front_of
digits_front [] rest value some all e h = absurd (omega arith)
digits_front (c ∷ w) rest value some all e h =
    let l : is_ascii_digit c ≡ true = first_holds (is_ascii_digit c) (list_all is_ascii_digit w) all in
    let own : take_while is_ascii_digit ((c ∷ w) ++ 32 ∷ rest) ≡ c ∷ w = taken is_ascii_digit (c ∷ w) 32 rest all refl in
    fourth _ _ _ _ _ _ _ _ _ (digit_no_blank c l) (no_comment c (w ++ 32 ∷ rest) (digit_is_no_slash c l)) (digit_no_letter c l) l
    ∙ ap (λ ds. number_from ds (drop (length ds) ((c ∷ w) ++ 32 ∷ rest))) own
    ∙ ap (number_from (c ∷ w)) (drop-append_seam (c ∷ w) (32 ∷ rest))
    ∙ number_kept (c ∷ w) rest value e h

number_front : (value : ℕ) (rest : List ℕ) → value < 2 ^ 127 → front_of (decimal value ++ 32 ∷ rest) ≡ piece.Lexeme (kinds.Number value) (length (decimal value))
number_front value rest h =
    let wide : value < 10 ^ 64 = omega arith in
    let is = decimal_is_IsNumeral_wide value wide in
    digits_front (decimal value) rest value is.0.0 (all_digits (decimal value) is.0.1) is.1 h

symbol_front : (row : ℕ) (rest : List ℕ) → row < 24 → front_of (symbol_bytes row ++ separator (kinds.Symbol row) ∷ rest) ≡ piece.Lexeme (kinds.Symbol row) (length (symbol_bytes row))
unfolding front_of symbol_row symbol_bytes
symbol_front zero rest h = refl
symbol_front (suc zero) rest h = refl
symbol_front (suc (suc zero)) rest h = refl
symbol_front (suc (suc (suc zero))) rest h = refl
symbol_front (suc (suc (suc (suc zero)))) rest h = refl
symbol_front (suc (suc (suc (suc (suc zero))))) rest h = refl
symbol_front (suc (suc (suc (suc (suc (suc zero)))))) rest h = refl
symbol_front (suc (suc (suc (suc (suc (suc (suc zero))))))) rest h = refl
symbol_front (suc (suc (suc (suc (suc (suc (suc (suc zero)))))))) rest h = refl
symbol_front (suc (suc (suc (suc (suc (suc (suc (suc (suc zero))))))))) rest h = refl
symbol_front (suc (suc (suc (suc (suc (suc (suc (suc (suc (suc zero)))))))))) rest h = refl
symbol_front (suc (suc (suc (suc (suc (suc (suc (suc (suc (suc (suc zero))))))))))) rest h = refl
symbol_front (suc (suc (suc (suc (suc (suc (suc (suc (suc (suc (suc (suc zero)))))))))))) rest h = refl
symbol_front (suc (suc (suc (suc (suc (suc (suc (suc (suc (suc (suc (suc (suc zero))))))))))))) rest h = refl
symbol_front (suc (suc (suc (suc (suc (suc (suc (suc (suc (suc (suc (suc (suc (suc zero)))))))))))))) rest h = refl
symbol_front (suc (suc (suc (suc (suc (suc (suc (suc (suc (suc (suc (suc (suc (suc (suc zero))))))))))))))) rest h = refl
symbol_front (suc (suc (suc (suc (suc (suc (suc (suc (suc (suc (suc (suc (suc (suc (suc (suc zero)))))))))))))))) rest h = refl
symbol_front (suc (suc (suc (suc (suc (suc (suc (suc (suc (suc (suc (suc (suc (suc (suc (suc (suc zero))))))))))))))))) rest h = refl
symbol_front (suc (suc (suc (suc (suc (suc (suc (suc (suc (suc (suc (suc (suc (suc (suc (suc (suc (suc zero)))))))))))))))))) rest h = refl
symbol_front (suc (suc (suc (suc (suc (suc (suc (suc (suc (suc (suc (suc (suc (suc (suc (suc (suc (suc (suc zero))))))))))))))))))) rest h = refl
symbol_front (suc (suc (suc (suc (suc (suc (suc (suc (suc (suc (suc (suc (suc (suc (suc (suc (suc (suc (suc (suc zero)))))))))))))))))))) rest h = refl
symbol_front (suc (suc (suc (suc (suc (suc (suc (suc (suc (suc (suc (suc (suc (suc (suc (suc (suc (suc (suc (suc (suc zero))))))))))))))))))))) rest h = refl
symbol_front (suc (suc (suc (suc (suc (suc (suc (suc (suc (suc (suc (suc (suc (suc (suc (suc (suc (suc (suc (suc (suc (suc zero)))))))))))))))))))))) rest h = refl
symbol_front (suc (suc (suc (suc (suc (suc (suc (suc (suc (suc (suc (suc (suc (suc (suc (suc (suc (suc (suc (suc (suc (suc (suc zero))))))))))))))))))))))) rest h = refl
symbol_front (suc (suc (suc (suc (suc (suc (suc (suc (suc (suc (suc (suc (suc (suc (suc (suc (suc (suc (suc (suc (suc (suc (suc (suc n)))))))))))))))))))))))) rest h = absurd (omega arith)

-- a token as it is spelled, before a blank, is read as such
kind_front : (kind : TokenKind) (rest : List ℕ) → IsTokenKind kind → front_of (spelling kind ++ separator kind ∷ rest) ≡ piece.Lexeme kind (length (spelling kind))
kind_front (kinds.Word []) rest is = absurd is
kind_front (kinds.Word (c ∷ w)) rest is = word_front c w rest is.0 is.1
kind_front (kinds.Number value) rest is = number_front value rest is
kind_front (kinds.Symbol row) rest is = symbol_front row rest is

separator_cases : (feed : Bool) → is_blank (cond feed 10 32) ≡ true
separator_cases true = refl
separator_cases false = refl

separator_blank : (kind : TokenKind) → is_blank (separator kind) ≡ true
separator_blank (kinds.Word word) = refl
separator_blank (kinds.Number value) = refl
separator_blank (kinds.Symbol row) = separator_cases (row == 4 || row == 11 || row == 12)

blank_front : (c : ℕ) (rest : List ℕ) → is_blank c ≡ true → front_of (c ∷ rest) ≡ piece.Gap 1
unfolding front_of
blank_front c rest e = rw e refl

-- a blank is passed over
blank_step : (before : List ℕ) (c : ℕ) (rest : List ℕ) → is_blank c ≡ true → tokens_after before (c ∷ rest) 0 ≡ tokens_after (before ++ c ∷ []) rest 0
unfolding tokens_after
blank_step before c rest e =
    ap (λ front. piece_in_front (place_after before) front (tokens_after (before ++ c ∷ []) rest (size_of front - 1))) (blank_front c rest e)

-- the first token, and then those of the rest
token_step : (before xs rest : List ℕ) (kind : TokenKind) (c : ℕ) → 0 < length xs → front_of (xs ++ c ∷ rest) ≡ piece.Lexeme kind (length xs) → is_blank c ≡ true →
    tokens_after before (xs ++ c ∷ rest) 0 ≡ in_front (token_at (place_after before) kind (length xs) ∷ []) (tokens_after ((before ++ xs) ++ c ∷ []) rest 0)
token_step before [] rest kind c some f blank = absurd (omega arith)
token_step before (x ∷ w) rest kind c some f blank =
    let size : size_of (front_of ((x ∷ w) ++ c ∷ rest)) ≡ suc (length w) = ap size_of f in
    tokens_step before ((x ∷ w) ++ c ∷ rest) (length w) (omega arith) size
    ∙ ap (λ front. piece_in_front (place_after before) front (tokens_after (before ++ take (suc (length w)) ((x ∷ w) ++ c ∷ rest)) (drop (suc (length w)) ((x ∷ w) ++ c ∷ rest)) 0)) f
    ∙ ap (λ ys. in_front (token_at (place_after before) kind (length (x ∷ w)) ∷ []) (tokens_after (before ++ ys) (drop (suc (length w)) ((x ∷ w) ++ c ∷ rest)) 0)) (take-append_seam (x ∷ w) (c ∷ rest))
    ∙ ap (λ ys. in_front (token_at (place_after before) kind (length (x ∷ w)) ∷ []) (tokens_after (before ++ x ∷ w) ys 0)) (drop-append_seam (x ∷ w) (c ∷ rest))
    ∙ ap (in_front (token_at (place_after before) kind (length (x ∷ w)) ∷ [])) (blank_step (before ++ x ∷ w) c rest blank)

some_symbol : (row : ℕ) → row < 24 → 0 < length (symbol_bytes row)
unfolding symbol_bytes
some_symbol zero h = omega arith
some_symbol (suc zero) h = omega arith
some_symbol (suc (suc zero)) h = omega arith
some_symbol (suc (suc (suc zero))) h = omega arith
some_symbol (suc (suc (suc (suc zero)))) h = omega arith
some_symbol (suc (suc (suc (suc (suc zero))))) h = omega arith
some_symbol (suc (suc (suc (suc (suc (suc zero)))))) h = omega arith
some_symbol (suc (suc (suc (suc (suc (suc (suc zero))))))) h = omega arith
some_symbol (suc (suc (suc (suc (suc (suc (suc (suc zero)))))))) h = omega arith
some_symbol (suc (suc (suc (suc (suc (suc (suc (suc (suc zero))))))))) h = omega arith
some_symbol (suc (suc (suc (suc (suc (suc (suc (suc (suc (suc zero)))))))))) h = omega arith
some_symbol (suc (suc (suc (suc (suc (suc (suc (suc (suc (suc (suc zero))))))))))) h = omega arith
some_symbol (suc (suc (suc (suc (suc (suc (suc (suc (suc (suc (suc (suc zero)))))))))))) h = omega arith
some_symbol (suc (suc (suc (suc (suc (suc (suc (suc (suc (suc (suc (suc (suc zero))))))))))))) h = omega arith
some_symbol (suc (suc (suc (suc (suc (suc (suc (suc (suc (suc (suc (suc (suc (suc zero)))))))))))))) h = omega arith
some_symbol (suc (suc (suc (suc (suc (suc (suc (suc (suc (suc (suc (suc (suc (suc (suc zero))))))))))))))) h = omega arith
some_symbol (suc (suc (suc (suc (suc (suc (suc (suc (suc (suc (suc (suc (suc (suc (suc (suc zero)))))))))))))))) h = omega arith
some_symbol (suc (suc (suc (suc (suc (suc (suc (suc (suc (suc (suc (suc (suc (suc (suc (suc (suc zero))))))))))))))))) h = omega arith
some_symbol (suc (suc (suc (suc (suc (suc (suc (suc (suc (suc (suc (suc (suc (suc (suc (suc (suc (suc zero)))))))))))))))))) h = omega arith
some_symbol (suc (suc (suc (suc (suc (suc (suc (suc (suc (suc (suc (suc (suc (suc (suc (suc (suc (suc (suc zero))))))))))))))))))) h = omega arith
some_symbol (suc (suc (suc (suc (suc (suc (suc (suc (suc (suc (suc (suc (suc (suc (suc (suc (suc (suc (suc (suc zero)))))))))))))))))))) h = omega arith
some_symbol (suc (suc (suc (suc (suc (suc (suc (suc (suc (suc (suc (suc (suc (suc (suc (suc (suc (suc (suc (suc (suc zero))))))))))))))))))))) h = omega arith
some_symbol (suc (suc (suc (suc (suc (suc (suc (suc (suc (suc (suc (suc (suc (suc (suc (suc (suc (suc (suc (suc (suc (suc zero)))))))))))))))))))))) h = omega arith
some_symbol (suc (suc (suc (suc (suc (suc (suc (suc (suc (suc (suc (suc (suc (suc (suc (suc (suc (suc (suc (suc (suc (suc (suc zero))))))))))))))))))))))) h = omega arith
some_symbol (suc (suc (suc (suc (suc (suc (suc (suc (suc (suc (suc (suc (suc (suc (suc (suc (suc (suc (suc (suc (suc (suc (suc (suc n)))))))))))))))))))))))) h = absurd (omega arith)

some_spelling : (kind : TokenKind) → IsTokenKind kind → 0 < length (spelling kind)
some_spelling (kinds.Word []) is = absurd is
some_spelling (kinds.Word (c ∷ w)) is = omega arith
some_spelling (kinds.Number value) is =
    let wide : value < 10 ^ 64 = omega arith in
    (decimal_is_IsNumeral_wide value wide).0.0
some_spelling (kinds.Symbol row) is = some_symbol row is

all_first : (P : TokenKind → Type 0) (x : TokenKind) (xs : List TokenKind) → All P (x ∷ xs) → P x
all_first P x xs a = a 0 x (omega arith)

all_rest : (P : TokenKind → Type 0) (x : TokenKind) (xs : List TokenKind) → All P (x ∷ xs) → All P xs
all_rest P x xs a = λ k d h. a (suc k) d (omega arith)

-- the text of tokens has tokens of their kinds
abbrev Reads : List ℕ → List ℕ → List TokenKind → Type 0
Reads before text kinds = (found : List Token) × (tokens_after before text 0 ≡ Ok found) × (kinds_of found ≡ kinds)

written_split : (kind : TokenKind) (rest : List ℕ) → written kind ++ rest ≡ spelling kind ++ separator kind ∷ rest
unfolding written
written_split kind rest = append_assoc (spelling kind) (separator kind ∷ []) rest

reads_more : (before rest : List ℕ) (kind : TokenKind) (others : List TokenKind) → IsTokenKind kind → Reads ((before ++ spelling kind) ++ separator kind ∷ []) rest others →
    Reads before (written kind ++ rest) (kind ∷ others)
reads_more before rest kind others is r =
    let step = token_step before (spelling kind) rest kind (separator kind) (some_spelling kind is) (kind_front kind rest is) (separator_blank kind) in (
      token_at (place_after before) kind (length (spelling kind)) ∷ r.0,
      (ap (λ text. tokens_after before text 0) (written_split kind rest) ∙ step ∙ ap (in_front (token_at (place_after before) kind (length (spelling kind)) ∷ [])) r.1),
      ap (λ ks. kind ∷ ks) r.2,
    )

pub reads_all : (tokens : List Token) (before : List ℕ) → All IsTokenKind (kinds_of tokens) → Reads before (tokens_made written tokens) (kinds_of tokens)
unfolding tokens_made tokens_after
reads_all [] before all = ([], refl, refl)
reads_all (token ∷ tokens) before all =
    reads_more before (tokens_made written tokens) token.kind (kinds_of tokens) (all_first IsTokenKind token.kind (kinds_of tokens) all)
    (reads_all tokens ((before ++ spelling token.kind) ++ separator token.kind ∷ []) (all_rest IsTokenKind token.kind (kinds_of tokens) all))
