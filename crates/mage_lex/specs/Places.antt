-- Lines and columns.
use Rattle.std.specs.Prelude.{ℕ, ◌+◌, List, length, take, count_by, ◌==◌, if◌then◌else◌}
use Rattle.std.specs.List.{suffix_len}
use Rattle.mage_lex.specs.Bytes.{is_in_line}
use Rattle.mage_lex.specs.declared.piece.Place.{Place}

-- the line of the byte after these, from 1: one more than the line feeds among them
unfoldable pub line_after : List ℕ → ℕ
line_after before = 1 + count_by (λ b. b == 10) before

-- its column, from 1: one more than the bytes since the last line feed
unfoldable pub column_after : List ℕ → ℕ
column_after before = 1 + suffix_len is_in_line before

-- the place of the byte after these
abbrev pub place_after : List ℕ → Place
place_after before =
    record { start = length before; line = line_after before; column = column_after before }

-- the place of the n-th byte of a text
abbrev pub place_at : List ℕ → ℕ → Place
place_at text n = place_after (take n text)

-- the place after the byte at this one
abbrev pub next_place : Place → ℕ → Place
next_place place byte = record {
  start = place.start + 1;
  line = (if byte == 10 then place.line + 1 else place.line);
  column = (if byte == 10 then 1 else place.column + 1);
}
