-- Laws of the lines of a text.
use Rattle.std.proofs.Common.{◌≡◌, ℕ, ◌+◌, ◌<◌, ◌≤◌, ◌==◌, Bool, List, [], ◌∷◌, length, take, drop, refl, ap, ◌∙◌, arith, Option, Some, None, cond, ltb, false}
use Rattle.std.proofs.lemmas.Bool.Decides.{nat_tests}
use Rattle.std.specs.List.{All, slice_split, position, position_or_len}
use Rattle.std.proofs.lemmas.List.Splits.{slice_split_first, slice_split_none, length-slice_split}
use Rattle.std.proofs.lemmas.List.Quantifiers.{position-Some}
use Rattle.std.proofs.lemmas.List.Sums.{position_or_len_is, fails_before_first}
use Rattle.mage_texts.specs.InputText.{without_empty_end, lines_of}

-- the test of a line feed
abbrev pub is_feed : ℕ → Bool
is_feed byte = byte == 10

without_empty_end-cons : (part : List ℕ) (parts : List (List ℕ)) → 0 < length parts → without_empty_end (part ∷ parts) ≡ part ∷ without_empty_end parts
without_empty_end-cons part [] some = absurd (omega arith)
without_empty_end-cons [] (next ∷ parts) some = refl
without_empty_end-cons (byte ∷ bytes) (next ∷ parts) some = refl

one_part : (part : List ℕ) → 0 < length part → without_empty_end (part ∷ []) ≡ part ∷ []
one_part [] some = absurd (omega arith)
one_part (byte ∷ bytes) some = refl

past_end : (at len : ℕ) → cond (ltb at len) (Some at) None ≡ None → len ≤ at
past_end at len none = grind (arith, nat_tests)

none_before : (text : List ℕ) → position is_feed text ≡ None → All (λ byte. is_feed byte ≡ false) text
none_before text none =
    let past : length text ≤ position_or_len is_feed text = past_end (position_or_len is_feed text) (length text) none in
    λ k d inside. fails_before_first is_feed text k d (omega arith)

-- the first line ends before the first line feed
pub lines_of-feed : (text : List ℕ) (end : ℕ) → position is_feed text ≡ Some end → lines_of text ≡ take end text ∷ lines_of (drop (end + 1) text)
lines_of-feed text end found =
    let at = position-Some is_feed text end 0 found in
    let is : position_or_len is_feed text ≡ end = position_or_len_is is_feed text end 0 (omega (arith, at.0)) at.2 (λ _. at.1) in
    let inside : position_or_len is_feed text < length text = omega (arith, at.0) in
    let cut : slice_split is_feed text ≡ take end text ∷ slice_split is_feed (drop (end + 1) text) = rw is at (slice_split_first is_feed text 0 inside) in
    let rest = slice_split is_feed (drop (end + 1) text) in
    ap without_empty_end cut ∙ without_empty_end-cons (take end text) rest (omega (arith, length-slice_split is_feed (drop (end + 1) text)))

-- a text with no line feed is one line, unless it is empty
pub lines_of-no_feed : (text : List ℕ) → position is_feed text ≡ None → 0 < length text → lines_of text ≡ text ∷ []
lines_of-no_feed text none some =
    let cut : slice_split is_feed text ≡ text ∷ [] = slice_split_none is_feed text (none_before text none) in
    ap without_empty_end cut ∙ one_part text some

-- a text that is not empty has a line
pub lines_of-some : (text : List ℕ) → 0 < length text → (lines : List ℕ × List (List ℕ)) × (lines_of text ≡ lines.0 ∷ lines.1)
lines_of-some text some = by_position (position is_feed text) refl
  where
    by_position : (at : Option ℕ) → position is_feed text ≡ at → (lines : List ℕ × List (List ℕ)) × (lines_of text ≡ lines.0 ∷ lines.1)
    by_position (Some end) found = ((take end text, lines_of (drop (end + 1) text)), lines_of-feed text end found)
    by_position None none = ((text, []), lines_of-no_feed text none some)
