-- What is read of lines of numbers.
use Rattle.std.proofs.Common.{◌≡◌, ℕ, suc, ◌+◌, ◌*◌, ◌^◌, ◌<◌, ◌≤◌, true, false, cond, nat_lt, List, [], ◌∷◌, ◌++◌, length, take, drop, replicate, refl, ap, ◌∙◌, sym, append_assoc, arith, Some, None, Result, Ok, Err}
use Rattle.std.specs.Prelude.{nat_le}
use Rattle.std.specs.List.{concat, list_all, position, position_or_len}
use Rattle.std.specs.Char.{is_ascii_digit}
use Rattle.std.specs.Fmt.{decimal}
use Rattle.std.specs.Str.Parse.{AllDigits, digits_value}
use Rattle.std.proofs.Math.Seq.{take-append_seam}
use Rattle.std.proofs.lemmas.Bool.{lt-ltb, le-leb, ne_eqb}
use Rattle.std.proofs.lemmas.Bool.Decides.{nat_tests}
use Rattle.std.proofs.lemmas.Str.Parse.{digit_from_value}
use Rattle.std.proofs.lemmas.Fmt.{decimal_is_IsNumeral, length-decimal-le}
use Rattle.std.proofs.lemmas.List.{length-append, drop_at}
use Rattle.mage_texts.specs.InputText.{lines_of, number_of_line, numbers_of, with_first, inputs_of}
use Rattle.mage_texts.specs.Reading.{with_front, IsFront}
use Rattle.mage_texts.proofs.Lines.{is_feed, lines_of-feed}
use Rattle.mage_texts.proofs.Reading.{inputs_of-all}
use Rattle.mage_gen.specs.Generator.{numbers_from, lists_from, input_lines}
use Rattle.mage_gen.proofs.Numbers.{AreSmall, numbers_are_small, length-numbers_from, concat-lists_from, concat-widths, same_lengths}

one_more : (n : ℕ) → 1 + n ≡ suc n
one_more n = omega arith

-- a digit is no line feed
no_feed : (c : ℕ) → (48 ≤ c) × (c ≤ 57) → is_feed c ≡ false
no_feed c within = ne_eqb c 10 (λ same. omega (arith, within.0, same))

-- the first line feed behind digits
feed_behind : (ds rest : List ℕ) → AllDigits 10 ds → position_or_len is_feed (ds ++ 10 ∷ rest) ≡ length ds
feed_behind [] rest all = refl
feed_behind (c ∷ ds) rest all = rw (no_feed c (digit_from_value c all.0), feed_behind ds rest all.1) (one_more (length ds))

some_at : (at end len : ℕ) → at ≡ end → end < len → cond (nat_lt at len) (Some at) None ≡ Some end
some_at at end len e inside = rw (e, lt-ltb end len inside) refl

-- the first line of a text is the digits in front of its first line feed
first_line : (ds rest : List ℕ) → AllDigits 10 ds → lines_of ((ds ++ 10 ∷ []) ++ rest) ≡ ds ∷ lines_of rest
first_line ds rest all =
    let text = (ds ++ 10 ∷ []) ++ rest in
    let same : text ≡ ds ++ 10 ∷ rest = append_assoc ds (10 ∷ []) rest in
    let at : position_or_len is_feed text ≡ length ds = ap (position_or_len is_feed) same ∙ feed_behind ds rest all in
    let long : length text ≡ length ds + suc (length rest) = ap (length {A = ℕ}) same ∙ length-append ds (10 ∷ rest) in
    let found : position is_feed text ≡ Some (length ds) = some_at (position_or_len is_feed text) (length ds) (length text) at (omega (arith, long)) in
    let front : take (length ds) text ≡ ds = ap (take (length ds)) same ∙ take-append_seam ds (10 ∷ rest) in
    let back : drop (length ds + 1) text ≡ rest = drop_at (ds ++ 10 ∷ []) rest (length ds + 1) (length-append ds (10 ∷ [])) in
    lines_of-feed text (length ds) found
    ∙ ap (λ line. line ∷ lines_of (drop (length ds + 1) text)) front
    ∙ ap (λ left. ds ∷ lines_of left) back

all_digits : (ds : List ℕ) → AllDigits 10 ds → list_all is_ascii_digit ds ≡ true
all_digits [] d = refl
all_digits (c ∷ ds) d =
    let here : is_ascii_digit c ≡ true = grind (arith, nat_tests, digit_from_value c d.0) in
    rw (here, all_digits ds d.1) refl

-- the number of a line of few digits
number_is : (line : List ℕ) (n : ℕ) → 0 < length line → length line ≤ 39 → list_all is_ascii_digit line ≡ true → digits_value 10 line ≡ n → n < 2 ^ 32 → number_of_line 32 line ≡ Some n
number_is line n some few all value small =
    let one : nat_le 1 (length line) ≡ true = le-leb 1 (length line) (omega (arith, some)) in
    let most : nat_le (length line) 39 ≡ true = le-leb (length line) 39 few in
    let fits : nat_lt n (2 ^ 32) ≡ true = lt-ltb n (2 ^ 32) small in
    rw (value, one, most, all, fits) refl

number_back : (n : ℕ) → n < 2 ^ 32 → number_of_line 32 (decimal n) ≡ Some n
number_back n small =
    let is = decimal_is_IsNumeral n (omega (arith, small)) in
    let digits : length (decimal n) ≤ 10 = length-decimal-le 10 n (omega arith) (omega (arith, small)) (omega (arith, small)) in
    number_is (decimal n) n is.0.0 (omega (arith, digits)) (all_digits (decimal n) is.0.1) is.1 small

-- one more number in front
with_first-with_front : (line n : ℕ) (ns : List ℕ) (others : Result (List ℕ) ℕ) → with_first line (Some n) (with_front ns others) ≡ with_front (n ∷ ns) others
with_first-with_front line n ns (Ok numbers) = refl
with_first-with_front line n ns (Err fault) = refl

with_front-nil : (others : Result (List ℕ) ℕ) → others ≡ with_front [] others
with_front-nil (Ok numbers) = refl
with_front-nil (Err fault) = refl

-- the number of the line behind so many
abbrev pub line_behind : ℕ → List ℕ → ℕ
line_behind first [] = first
line_behind first (n ∷ ns) = line_behind (first + 1) ns

-- the lines of numbers are read, and nothing is left
pub lines_are_read : (first : ℕ) (ns : List ℕ) → AreSmall ns → IsFront first (input_lines ns) (replicate (length ns) 32) ns (line_behind first ns) []
lines_are_read first [] small = λ more. with_front-nil (numbers_of first (lines_of []) more)
lines_are_read first (n ∷ ns) small = λ more.
    let wide : n < 2 ^ 64 = omega (arith, small.0) in
    let others = numbers_of (first + 1) (lines_of (input_lines ns)) (replicate (length ns) 32 ++ more) in
    ap (λ lines. numbers_of first lines (32 ∷ (replicate (length ns) 32 ++ more))) (first_line (decimal n) (input_lines ns) (decimal_is_IsNumeral n wide).0.1)
    ∙ ap (λ number. with_first first number others) (number_back n small.0)
    ∙ ap (with_first first (Some n)) (lines_are_read (first + 1) ns small.1 more)
    ∙ with_first-with_front first n ns (numbers_of (line_behind (first + 1) ns) (lines_of []) more)

-- the numbers after one are read by worker
pub numbers_are_read : (value workers each : ℕ) → inputs_of (input_lines (numbers_from value (workers * each))) (replicate workers (replicate each 32)) ≡ Ok (lists_from value workers each)
numbers_are_read value workers each =
    let ns = numbers_from value (workers * each) in
    let widths = replicate workers (replicate each 32) in
    let lists = lists_from value workers each in
    let next = line_behind 1 ns in
    let front : IsFront 1 (input_lines ns) (replicate (length ns) 32) ns next [] = lines_are_read 1 ns (numbers_are_small value (workers * each)) in
    let known : concat widths ≡ replicate (length ns) 32 = concat-widths workers each ∙ sym (ap (λ n. replicate n 32) (length-numbers_from value (workers * each))) in
    let joined : ns ≡ concat lists = sym (concat-lists_from value workers each) in
    let whole : IsFront 1 (input_lines ns) (concat widths) (concat lists) next [] = λ more.
    ap (λ ws. numbers_of 1 (lines_of (input_lines ns)) (ws ++ more)) known
    ∙ front more
    ∙ ap (λ numbers. with_front numbers (numbers_of next (lines_of []) more)) joined in
    inputs_of-all (input_lines ns) widths lists next whole (same_lengths value workers each)
