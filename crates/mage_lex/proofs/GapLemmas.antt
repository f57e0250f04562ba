-- Between the tokens of a text are white space and comments.
use Rattle.std.proofs.Common.{◌≡◌, ℕ, zero, suc, ◌+◌, ◌-◌, ◌≤◌, List, [], ◌∷◌, ◌++◌, length, take, drop, refl, sym, ap, ◌∙◌, subst, append_assoc, length-append, arith}
use Rattle.std.specs.Prelude.{Result, Ok, Err, slice_range}
use Rattle.std.proofs.lemmas.List.{append-nil, take-append-drop, drop-drop, drop_all}
use Rattle.std.proofs.lemmas.List.Folds.{drop_split}
use Rattle.std.proofs.Math.Seq.{drop-append_seam, take-add}
use Rattle.mage_lex.specs.declared.piece.Piece.{Piece}
use Rattle.mage_lex.specs.declared.piece.Piece.TheVariants as piece
use Rattle.mage_lex.specs.declared.token.Token.{Token}
use Rattle.mage_lex.specs.declared.fault.LangFault.{LangFault}
use Rattle.mage_lex.specs.Places.{place_after}
use Rattle.mage_lex.specs.Tokens.{front_of, size_of, token_at, piece_in_front, tokens_after, tokens_of}
use Rattle.mage_lex.specs.Laws.{InOrder, IsGap, none, GapsBetween}
use Rattle.mage_lex.proofs.Pieces.{IsFront, Widens, front_is}
use Rattle.mage_lex.proofs.TokenLemmas.{tokens_of_ok}
use Rattle.mage_lex.proofs.LawLemmas.{size_fits, order_moved, order_after}

-- a longer slice is the first bytes and then the shorter slice
slice_wider : (text : List ℕ) (from size end : ℕ) → from + size ≤ end → slice_range text from end ≡ take size (drop from text) ++ slice_range text (from + size) end
slice_wider text from size end h =
    let parts : end - from ≡ size + (end - (from + size)) = omega arith in
    rw parts (take-add size (end - (from + size)) (drop from text) ∙ rw (drop-drop size from text) refl)

-- a piece without a token before the gaps is part of the first of them
gaps_wider : (text : List ℕ) (from size end : ℕ) (tokens : List Token) → Widens (take size (drop from text)) (drop size (drop from text)) → InOrder (from + size) tokens end → GapsBetween text (from + size) tokens → GapsBetween text from tokens
gaps_wider text from size end [] widens order gaps =
    let whole : take size (drop from text) ++ drop (from + size) text ≡ drop from text = ap (λ ys. take size (drop from text) ++ ys) (sym (drop-drop size from text)) ∙ take-append-drop size (drop from text) in
    let follow : drop (from + size) text ++ [] ≡ drop size (drop from text) = append-nil (drop (from + size) text) ∙ sym (drop-drop size from text) in
    subst (λ ys. IsGap ys []) whole (widens (drop (from + size) text) [] follow gaps)
gaps_wider text from size end (token ∷ tokens) widens order gaps =
    let follow : slice_range text (from + size) token.start ++ drop token.start text ≡ drop size (drop from text) = sym (drop_split text (from + size) token.start order.0) ∙ sym (drop-drop size from text) in
    let gap : IsGap (take size (drop from text) ++ slice_range text (from + size) token.start) (drop token.start text) = widens (slice_range text (from + size) token.start) (drop token.start text) follow gaps.0 in
    (rw (slice_wider text from size token.start order.0) gap, gaps.1)

gap_cases : (before rest : List ℕ) (front : Piece) (others : Result (List Token) LangFault) (tokens : List Token) → IsFront rest front → ((found : List Token) → others ≡ Ok found → InOrder (length before + size_of front) found (length before + length rest) × GapsBetween (before ++ rest) (length before + size_of front) found) → piece_in_front (place_after before) front others ≡ Ok tokens → GapsBetween (before ++ rest) (length before) tokens
gap_cases before rest (piece.Gap size) others tokens is all e =
    let after = all tokens e in
    let seam : drop (length before) (before ++ rest) ≡ rest = drop-append_seam before rest in
    gaps_wider (before ++ rest) (length before) size (length before + length rest) tokens (rw seam is.2) after.0 after.1
gap_cases before rest (piece.Bad kind) others tokens is all e = absurd (cc)
gap_cases before rest (piece.Lexeme kind size) (Err fault) tokens is all e = absurd (cc)
gap_cases before rest (piece.Lexeme kind size) (Ok found) tokens is all e =
    let same : token_at (place_after before) kind size ∷ found ≡ tokens = cc in
    let empty : length before - length before ≡ 0 = omega arith in
    let gap : IsGap (slice_range (before ++ rest) (length before) (length before)) (drop (length before) (before ++ rest)) = rw empty (none _) in
    subst (GapsBetween (before ++ rest) (length before)) same (gap, (all found refl).1)

gaps_moved : (before : List ℕ) (x : ℕ) (rest : List ℕ) (skip : ℕ) (tokens : List Token) → GapsBetween ((before ++ x ∷ []) ++ rest) (length (before ++ x ∷ []) + skip) tokens → GapsBetween (before ++ x ∷ rest) (length before + suc skip) tokens
gaps_moved before x rest skip tokens gaps =
    let from : length (before ++ x ∷ []) + skip ≡ length before + suc skip = omega (arith, length-append before (x ∷ [])) in
    rw (← from, ← append_assoc before (x ∷ []) rest) gaps

gaps_after : (before rest : List ℕ) (skip : ℕ) (tokens : List Token) → tokens_after before rest skip ≡ Ok tokens → skip ≤ length rest → GapsBetween (before ++ rest) (length before + skip) tokens
unfolding tokens_after
gaps_after before [] skip tokens e h =
    let same : [] ≡ tokens = cc in
    let nothing : drop (length before + skip) (before ++ []) ≡ [] = drop_all (length before + skip) (before ++ []) (omega (arith, length-append before [])) in
    let P : List Token → Type 0 = GapsBetween (before ++ []) (length before + skip) in
    subst P same (rw nothing (none []))
gaps_after before (x ∷ rest) (suc skip) tokens e h = gaps_moved before x rest skip tokens (gaps_after (before ++ x ∷ []) rest skip tokens e (omega arith))
gaps_after before (x ∷ rest) zero tokens e h =
    let front : Piece = front_of (x ∷ rest) in
    let is : IsFront (x ∷ rest) front = front_is (x ∷ rest) (omega arith) in
    let fits = size_fits (x ∷ rest) front is in
    let one : suc (size_of front - 1) ≡ size_of front = omega (arith, fits.0) in
    let within : size_of front - 1 ≤ length rest = omega (arith, fits.0, fits.1) in
    let begin : length before + 0 ≡ length before = omega arith in
    rw begin (gap_cases before (x ∷ rest) front (tokens_after (before ++ x ∷ []) rest (size_of front - 1)) tokens is
    (λ found e'. rw (← one) (order_moved before x rest (size_of front - 1) found (order_after (before ++ x ∷ []) rest (size_of front - 1) found e' within), gaps_moved before x rest (size_of front - 1) found (gaps_after (before ++ x ∷ []) rest (size_of front - 1) found e' within))) e)

-- what stands between the tokens of a text
pub tokens_gaps : (text : List ℕ) (tokens : List Token) → tokens_of text ≡ Ok tokens → GapsBetween text 0 tokens
tokens_gaps text tokens e = gaps_after [] text 0 tokens (tokens_of_ok text tokens e) (omega arith)
