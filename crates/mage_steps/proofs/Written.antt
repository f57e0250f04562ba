-- Pieces that are written into bytes, one behind the other.
use Rattle.std.proofs.Common.{◌≡◌, ◌≤◌, ◌+◌, ℕ, List, [], ◌++◌, length, take, drop, refl, sym, ap, ◌∙◌, arith}
use Rattle.std.proofs.lemmas.List.{length-append, take_all}
use Rattle.std.proofs.lemmas.List.Edits.{paste_none, paste-paste}
use lib.Seq.{paste}
use Rattle.mage_steps.specs.Frames.{with_piece}

-- a write as std has it
as_paste : (bytes : List ℕ) (place : ℕ) (piece : List ℕ) → with_piece bytes place piece ≡ paste bytes place piece (length piece)
as_paste bytes place piece = ap (λ l. take place bytes ++ l ++ drop (place + length piece) bytes) (sym (take_all (length piece) piece (omega arith)))

-- an empty piece changes nothing
pub piece_none : (bytes : List ℕ) (place : ℕ) → with_piece bytes place [] ≡ bytes
piece_none bytes place = as_paste bytes place [] ∙ sym (paste_none bytes place [])

-- two writes in a row are one
pub piece_more : (bytes : List ℕ) (place : ℕ) (x y : List ℕ) → place ≤ length bytes →
    with_piece (with_piece bytes place x) (place + length x) y ≡ with_piece bytes place (x ++ y)
piece_more bytes place x y fits =
    ap (λ l. with_piece l (place + length x) y) (as_paste bytes place x)
    ∙ as_paste (paste bytes place x (length x)) (place + length x) y
    ∙ paste-paste bytes place x y (length x) (length y) refl refl fits
    ∙ ap (λ n. paste bytes place (x ++ y) n) (sym (length-append x y))
    ∙ sym (as_paste bytes place (x ++ y))
