-- Pieces of a list of bytes: where one stands, and what a write leaves of the others.
use Rattle.std.proofs.Common.{◌≡◌, ◌≤◌, ◌+◌, ◌-◌, ℕ, List, ◌++◌, length, take, drop, refl, sym, ap, ◌∙◌, append_assoc, arith}
use Rattle.std.proofs.lemmas.List.{drop-append-le, length-take-le, length-drop, length-append}
use Rattle.std.proofs.Math.Seq.{take-append-add, take-append_seam, drop-append_seam}
use Rattle.mage_steps.specs.Frames.{with_piece}

-- a piece stands at a place of a list
pub record HasAt {X : Type 0} (whole : List X) (place : ℕ) (piece : List X) : Type 0 where
  pub front : List X
  pub back : List X
  pub same : whole ≡ front ++ piece ++ back
  pub before : length front ≡ place

pub has_end : {X : Type 0} (whole : List X) (place : ℕ) (piece : List X) → HasAt whole place piece →
    place + length piece ≤ length whole
has_end whole place piece h =
    let e : length whole ≡ length h.front + length piece + length h.back =
    ap length h.same ∙ length-append (h.front ++ piece) h.back
    ∙ ap (λ n. n + length h.back) (length-append h.front piece) in
    let b = h.before in omega arith

-- what is read there
pub has_read : {X : Type 0} (whole : List X) (place : ℕ) (piece : List X) → HasAt whole place piece →
    take (length piece) (drop place whole) ≡ piece
has_read whole place piece h =
    ap (λ l. take (length piece) (drop place l)) (h.same ∙ append_assoc h.front piece h.back)
    ∙ ap (λ n. take (length piece) (drop n (h.front ++ (piece ++ h.back)))) (sym h.before)
    ∙ ap (λ l. take (length piece) l) (drop-append_seam h.front (piece ++ h.back))
    ∙ take-append_seam piece h.back

-- a piece of a piece
pub has_within : {X : Type 0} (whole : List X) (place : ℕ) (a b c : List X) → HasAt whole place (a ++ b ++ c) →
    HasAt whole (place + length a) b
has_within whole place a b c h = record {
  front = h.front ++ a;
  back = c ++ h.back;
  same = h.same
      ∙ append_assoc h.front (a ++ b ++ c) h.back
      ∙ ap (λ l. h.front ++ l) (append_assoc (a ++ b) c h.back ∙ append_assoc a b (c ++ h.back))
      ∙ sym (append_assoc h.front a (b ++ (c ++ h.back)))
      ∙ sym (append_assoc (h.front ++ a) b (c ++ h.back));
  before = length-append h.front a ∙ ap (λ n. n + length a) h.before;
}

-- what was written stands there
pub has_written : (bytes : List ℕ) (place : ℕ) (piece : List ℕ) → place + length piece ≤ length bytes →
    HasAt (with_piece bytes place piece) place piece
has_written bytes place piece fits = record {
  front = take place bytes;
  back = drop (place + length piece) bytes;
  same = refl;
  before = length-take-le place bytes (omega arith);
}

pub written_long : (bytes : List ℕ) (place : ℕ) (piece : List ℕ) → place + length piece ≤ length bytes →
    length (with_piece bytes place piece) ≡ length bytes
written_long bytes place piece fits =
    length-append (take place bytes ++ piece) (drop (place + length piece) bytes)
    ∙ ap (λ n. n + length (drop (place + length piece) bytes)) (length-append (take place bytes) piece)
    ∙ ap (λ n. n + length piece + length (drop (place + length piece) bytes)) (length-take-le place bytes (omega arith))
    ∙ ap (λ n. place + length piece + n) (length-drop (place + length piece) bytes)
    ∙ omega arith

-- a piece in front of what is written stays
pub has_before : (bytes : List ℕ) (place : ℕ) (piece : List ℕ) (at : ℕ) (other : List ℕ) →
    HasAt bytes at other → at + length other ≤ place → HasAt (with_piece bytes place piece) at other
has_before bytes place piece at other h apart = record {
  front = h.front;
  back = take (place - (at + length other)) h.back ++ piece ++ drop (place + length piece) bytes;
  same = ap (λ l. l ++ piece ++ drop (place + length piece) bytes) taken
      ∙ ap (λ l. l ++ drop (place + length piece) bytes)
      (append_assoc (h.front ++ other) (take (place - (at + length other)) h.back) piece)
      ∙ append_assoc (h.front ++ other) (take (place - (at + length other)) h.back ++ piece)
      (drop (place + length piece) bytes);
  before = h.before;
}
  where
    long : length (h.front ++ other) ≡ at + length other
    long = length-append h.front other ∙ ap (λ n. n + length other) h.before

    taken : take place bytes ≡ h.front ++ other ++ take (place - (at + length other)) h.back
    taken =
        ap (λ l. take place l) h.same
        ∙ ap (λ n. take n (h.front ++ other ++ h.back))
        (let e : place ≡ length (h.front ++ other) + (place - (at + length other)) =
        (let e' : place ≡ (at + length other) + (place - (at + length other)) = omega arith in
        e' ∙ ap (λ n. n + (place - (at + length other))) (sym long)) in e)
        ∙ take-append-add (h.front ++ other) h.back (place - (at + length other))

-- and so does a piece behind it
pub has_behind : (bytes : List ℕ) (place : ℕ) (piece : List ℕ) (at : ℕ) (other : List ℕ) →
    HasAt bytes at other → place + length piece ≤ at → HasAt (with_piece bytes place piece) at other
has_behind bytes place piece at other h apart = record {
  front = take place bytes ++ piece ++ drop (place + length piece) h.front;
  back = h.back;
  same = ap (λ l. take place bytes ++ piece ++ l) dropped
      ∙ sym (append_assoc (take place bytes ++ piece) (drop (place + length piece) h.front ++ other) h.back)
      ∙ ap (λ l. l ++ h.back)
      (sym (append_assoc (take place bytes ++ piece) (drop (place + length piece) h.front) other));
  before =
      length-append (take place bytes ++ piece) (drop (place + length piece) h.front)
      ∙ ap (λ n. n + length (drop (place + length piece) h.front)) (length-append (take place bytes) piece)
      ∙ ap (λ n. n + length piece + length (drop (place + length piece) h.front))
      (length-take-le place bytes (let e = has_end bytes at other h in omega arith))
      ∙ ap (λ n. place + length piece + n) (length-drop (place + length piece) h.front ∙ ap (λ n. n - (place + length piece)) h.before)
      ∙ omega arith;
}
  where
    dropped : drop (place + length piece) bytes ≡ drop (place + length piece) h.front ++ other ++ h.back
    dropped =
        ap (λ l. drop (place + length piece) l) (h.same ∙ append_assoc h.front other h.back)
        ∙ drop-append-le (place + length piece) h.front (other ++ h.back) (let b = h.before in omega arith)
        ∙ sym (append_assoc (drop (place + length piece) h.front) other h.back)
