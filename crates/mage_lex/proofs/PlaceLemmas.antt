-- Lines and columns along a text.
use Rattle.std.proofs.Common.{◌≡◌, ℕ, ◌+◌, ◌-◌, ◌<◌, ◌≤◌, Bool, true, false, cond, List, length, take, drop, get_or, refl, sym, ◌∙◌, arith}
use Rattle.std.specs.Prelude.{◌==◌}
use Rattle.std.specs.List.{suffix_len}
use Rattle.std.proofs.lemmas.List.{length-take, length-take-le, get_or-take, get_or-drop}
use Rattle.std.proofs.lemmas.List.Sums.{count_by_more_yes, count_by_more_no, count_by-le-length, suffix_len-take_yes, suffix_len-take_no, suffix_len-le-length}
use Rattle.mage_lex.specs.declared.piece.Place.{Place}
use Rattle.mage_lex.specs.Bytes.{is_in_line}
use Rattle.mage_lex.specs.Places.{line_after, column_after, place_at, next_place}

line_step : (text : List ℕ) (n : ℕ) (ends : Bool) → n < length text → (get_or text n 0 == 10) ≡ ends → line_after (take (n + 1) text) ≡ cond ends (line_after (take n text) + 1) (line_after (take n text))
unfolding line_after
line_step text n true h e = omega (arith, count_by_more_yes (λ b. b == 10) text n 0 h e)
line_step text n false h e = omega (arith, count_by_more_no (λ b. b == 10) text n 0 h e)

column_step : (text : List ℕ) (n : ℕ) (ends : Bool) → n < length text → (get_or text n 0 == 10) ≡ ends → column_after (take (n + 1) text) ≡ cond ends 1 (column_after (take n text) + 1)
unfolding column_after
column_step text n true h e =
    let at : is_in_line (get_or text n 0) ≡ false = rw e refl in
    omega (arith, suffix_len-take_no is_in_line text (n + 1) 0 (omega arith) (omega arith) (let same : (n + 1) - 1 ≡ n = omega arith in rw same at))
column_step text n false h e =
    let at : is_in_line (get_or text n 0) ≡ true = rw e refl in
    let same : (n + 1) - 1 ≡ n = omega arith in
    let more : suffix_len is_in_line (take (n + 1) text) ≡ 1 + suffix_len is_in_line (take ((n + 1) - 1) text) = suffix_len-take_yes is_in_line text (n + 1) 0 (omega arith) (omega arith) (rw same at) in
    omega (arith, rw same at more)

-- the place of the byte after the n-th
pub place_next : (text : List ℕ) (n : ℕ) → n < length text → place_at text (n + 1) ≡ next_place (place_at text n) (get_or text n 0)
place_next text n h =
    let line : line_after (take (n + 1) text) ≡ cond (get_or text n 0 == 10) (line_after (take n text) + 1) (line_after (take n text)) = line_step text n (get_or text n 0 == 10) h refl in
    let column : column_after (take (n + 1) text) ≡ cond (get_or text n 0 == 10) 1 (column_after (take n text) + 1) = column_step text n (get_or text n 0 == 10) h refl in
    let start : length (take (n + 1) text) ≡ length (take n text) + 1 = omega (arith, length-take-le n text (omega arith), length-take-le (n + 1) text (omega arith)) in
    rw (start, line, column) refl

line_bound : (text : List ℕ) (n : ℕ) → n ≤ length text → line_after (take n text) ≤ n + 1
unfolding line_after
line_bound text n h = omega (arith, count_by-le-length (λ b. b == 10) (take n text), length-take-le n text h)

column_bound : (text : List ℕ) (n : ℕ) → n ≤ length text → column_after (take n text) ≤ n + 1
unfolding column_after
column_bound text n h = omega (arith, suffix_len-le-length is_in_line (take n text), length-take-le n text h)

-- how large a place in a text is
pub record IsSmallPlace (place : Place) (n : ℕ) : Type 0 where
  pub start : place.start ≡ n
  pub line : place.line ≤ n + 1
  pub column : place.column ≤ n + 1

pub place_bound : (text : List ℕ) (n : ℕ) (place : Place) → n ≤ length text → place ≡ place_at text n → IsSmallPlace place n
place_bound text n place h e = rw e (record { start = length-take-le n text h; line = line_bound text n h; column = column_bound text n h })

-- the byte of a slice
pub slice_at : (text : List ℕ) (start size i : ℕ) → i < length (take (start + size - start) (drop start text)) → get_or (take (start + size - start) (drop start text)) i 0 ≡ get_or text (start + i) 0
slice_at text start size i h = get_or-take (start + size - start) (drop start text) i 0 (omega (arith, length-take (start + size - start) (drop start text))) ∙ get_or-drop start text i 0

-- one byte on from where the place has come
pub place_moved : (text : List ℕ) (place after : Place) (start i byte : ℕ) → after ≡ next_place place byte → place ≡ place_at text (start + i) → byte ≡ get_or text (start + i) 0 → start + i < length text → after ≡ place_at text (start + (i + 1))
place_moved text place after start i byte e at read h =
    let same : start + (i + 1) ≡ start + i + 1 = omega arith in
    rw (same, e, at, read) (sym (place_next text (start + i) h))
