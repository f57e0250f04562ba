-- What is known of the piece at the front of a text.
use Rattle.std.proofs.Common.{◌≡◌, ℕ, ◌+◌, ◌<◌, ◌≤◌, Bool, true, false, cond, List, [], ◌∷◌, length, take, drop, suc, ◌++◌, refl, sym, ap, subst, ◌∙◌, arith}
use Rattle.std.specs.Prelude.{Option, Some, None, nat_eq, nat_le, slice_index, ◌||◌, if◌then◌else◌, codes}
use Rattle.std.specs.List.{take_while, prefix_len, list_all, starts_with}
use Rattle.std.specs.Char.{is_ascii_digit}
use Rattle.std.specs.Str.Parse.{digits_value}
use Rattle.std.proofs.lemmas.Bool.Decides.{nat_tests}
use Rattle.std.proofs.lemmas.List.Sums.{prefix_len-le-length, take_while-cons}
use Rattle.mage_lex.specs.Limits.{NUMBER_LIMIT}
use Rattle.mage_lex.specs.declared.piece.Piece.{Piece}
use Rattle.mage_lex.specs.declared.piece.Piece.TheVariants as piece
use Rattle.mage_lex.specs.declared.token.TokenKind.TheVariants as kinds
use Rattle.mage_lex.specs.declared.fault.LangKind.TheVariants as wrong
use Rattle.mage_lex.specs.Bytes.{is_blank, is_in_line, is_letter, is_in_word}
use Rattle.mage_lex.specs.Symbols.{symbol_row}
use Rattle.mage_lex.specs.Tokens.{front_of, word_of, number_of, symbol_of}
use Rattle.mage_lex.specs.Laws.{Spells, EndsLine, IsGap, blank, comment}
use Rattle.mage_lex.proofs.Fronts.{taken_len, taken_front}
use Rattle.mage_lex.proofs.SymbolLemmas.{symbol_is}

-- the bytes before any gap that begins what follows them make a gap
abbrev pub Widens : List ℕ → List ℕ → Type 0
Widens bytes follow = (gap after : List ℕ) → gap ++ after ≡ follow → IsGap gap after → IsGap (bytes ++ gap) after

-- it takes at least one byte and none past the end, and the bytes of a token spell it
abbrev pub IsFront : List ℕ → Piece → Type 0
IsFront text (piece.Gap size) = (0 < size) × (size ≤ length text) × Widens (take size text) (drop size text)
IsFront text (piece.Lexeme kind size) = (0 < size) × (size ≤ length text) × Spells kind (take size text)
IsFront text (piece.Bad kind) = 0 < length text

either : {A : Type 0} (P : A → Type 0) (b : Bool) (x y : A) → (b ≡ true → P x) → (b ≡ false → P y) → P (if b then x else y)
either P true x y f g = f refl
either P false x y f g = g refl

taken_cases : (p : ℕ → Bool) (x : ℕ) (xs : List ℕ) (b : Bool) → p x ≡ b → list_all p (take_while p xs) ≡ true → list_all p (cond b (x ∷ take_while p xs) []) ≡ true
taken_cases p x xs true e all = rw (e, all) refl
taken_cases p x xs false e all = refl

-- each byte that was taken passes
all_taken : (p : ℕ → Bool) (xs : List ℕ) → list_all p (take_while p xs) ≡ true
all_taken p [] = refl
all_taken p (x ∷ xs) = rw (take_while-cons p x xs) (taken_cases p x xs (p x) refl (all_taken p xs))

-- how many pass where the first does
taken_some : (p : ℕ → Bool) (x : ℕ) (xs : List ℕ) → p x ≡ true → (0 < length (take_while p (x ∷ xs))) × (length (take_while p (x ∷ xs)) ≤ length (x ∷ xs))
taken_some p x xs e =
    let count : length (take_while p (x ∷ xs)) ≡ prefix_len p (x ∷ xs) = taken_len p (x ∷ xs) in
    let more : prefix_len p (x ∷ xs) ≡ 1 + prefix_len p xs = rw e refl in
    (omega (arith, count, more), omega (arith, count, prefix_len-le-length p (x ∷ xs)))

word_is : (x : ℕ) (xs : List ℕ) → is_letter x ≡ true → IsFront (x ∷ xs) (word_of (x ∷ xs))
word_is x xs e =
    let passes : is_in_word x ≡ true = rw e refl in
    let some = taken_some is_in_word x xs passes in
    let word : take_while is_in_word (x ∷ xs) ≡ x ∷ take_while is_in_word xs = take_while-cons is_in_word x xs ∙ rw passes refl in
    (some.0, some.1, (taken_front is_in_word (x ∷ xs), rw word (e, all_taken is_in_word xs)))

number_cases : (text digits : List ℕ) (bad : Bool) → (bad ≡ false → digits_value 10 digits < NUMBER_LIMIT) → 0 < length text → 0 < length digits → length digits ≤ length text → take (length digits) text ≡ digits → list_all is_ascii_digit digits ≡ true → IsFront text (if bad then piece.Bad wrong.BadNumber else piece.Lexeme (kinds.Number (digits_value 10 digits)) (length digits))
number_cases text digits true below h some within taken all = h
number_cases text digits false below h some within taken all =
    (some, within, rw taken (refl, all, some, below refl))

number_below : (letter : Bool) (value : ℕ) → (letter || nat_le NUMBER_LIMIT value) ≡ false → value < NUMBER_LIMIT
number_below true value e = absurd (cc)
number_below false value e = grind (arith, nat_tests)

number_is : (x : ℕ) (xs : List ℕ) → is_ascii_digit x ≡ true → IsFront (x ∷ xs) (number_of (x ∷ xs))
number_is x xs e =
    let text : List ℕ = x ∷ xs in
    let digits : List ℕ = take_while is_ascii_digit text in
    let after : List ℕ = drop (length digits) text in
    let some = taken_some is_ascii_digit x xs e in
    number_cases text digits (is_letter (slice_index after 0) || nat_le NUMBER_LIMIT (digits_value 10 digits)) (number_below (is_letter (slice_index after 0)) (digits_value 10 digits)) (omega arith) some.0 some.1 (taken_front is_ascii_digit text) (all_taken is_ascii_digit text)

symbol_cases : (text : List ℕ) (found : Option ℕ) → symbol_row text ≡ found → 0 < length text → IsFront text (symbol_of found)
symbol_cases text (Some row) e h = let at = symbol_is text row e in (at.some, at.within, (at.bytes, at.known))
symbol_cases text None e h = h

line_ends_cases : (x : ℕ) (xs : List ℕ) (in_line : Bool) → is_in_line x ≡ in_line → EndsLine (drop (prefix_len is_in_line xs) xs) → EndsLine (drop (cond in_line (1 + prefix_len is_in_line xs) 0) (x ∷ xs))
line_ends_cases x xs true e ends =
    let next : 1 + prefix_len is_in_line xs ≡ suc (prefix_len is_in_line xs) = omega arith in rw next ends
line_ends_cases x xs false e ends = grind (arith, nat_tests)

-- where the bytes of a line end, the line ends
line_ends : (xs : List ℕ) → EndsLine (drop (prefix_len is_in_line xs) xs)
line_ends [] = tt
line_ends (x ∷ xs) = line_ends_cases x xs (is_in_line x) refl (line_ends xs)

comment_widens : (xs : List ℕ) → Widens (take_while is_in_line (47 ∷ 47 ∷ xs)) (drop (length (take_while is_in_line (47 ∷ 47 ∷ xs))) (47 ∷ 47 ∷ xs))
comment_widens xs gap after e is =
    let p : ℕ → Bool = is_in_line in
    let line : take_while p (47 ∷ 47 ∷ xs) ≡ 47 ∷ 47 ∷ take_while p xs = take_while-cons p 47 (47 ∷ xs) ∙ ap (λ ys. 47 ∷ ys) (take_while-cons p 47 xs) in
    let rest : drop (length (take_while p (47 ∷ 47 ∷ xs))) (47 ∷ 47 ∷ xs) ≡ drop (prefix_len p xs) xs = ap (λ ys. drop (length ys) (47 ∷ 47 ∷ xs)) line ∙ ap (λ n. drop n xs) (taken_len p xs) in
    let ends : EndsLine (gap ++ after) = subst EndsLine (sym (e ∙ rest)) (line_ends xs) in
    rw line (comment (take_while p xs) gap after (all_taken p xs) ends is)

comment_cases : (x : ℕ) (xs : List ℕ) → starts_with nat_eq (x ∷ xs) (codes "//") ≡ true → IsFront (x ∷ xs) (piece.Gap (length (take_while is_in_line (x ∷ xs))))
comment_cases x [] e = absurd (grind (arith, nat_tests))
comment_cases x (y ∷ xs) e =
    let first : x ≡ 47 = grind (arith, nat_tests) in
    let second : y ≡ 47 = grind (arith, nat_tests) in
    let some = taken_some is_in_line 47 (47 ∷ xs) refl in
    rw (first, second) (some.0, some.1, rw (taken_front is_in_line (47 ∷ 47 ∷ xs)) (comment_widens xs))

pub front_is : (text : List ℕ) → 0 < length text → IsFront text (front_of text)
unfolding front_of
front_is [] h = absurd (omega arith)
front_is (x ∷ xs) h =
    let P : Piece → Type 0 = IsFront (x ∷ xs) in
    either P (is_blank x) _ _ (λ e. (omega arith, omega arith, λ gap after _ is. blank x gap after e is)) (λ _.
    either P (starts_with nat_eq (x ∷ xs) (codes "//")) _ _ (comment_cases x xs) (λ _.
    either P (is_letter x) _ _ (word_is x xs) (λ _.
    either P (is_ascii_digit x) _ _ (number_is x xs) (λ _. symbol_cases (x ∷ xs) (symbol_row (x ∷ xs)) refl h))))
