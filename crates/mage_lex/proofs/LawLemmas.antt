-- The tokens of a text are spelled there, and in order.
use Rattle.std.proofs.Common.{◌≡◌, ℕ, zero, suc, ◌+◌, ◌-◌, ◌<◌, ◌≤◌, List, [], ◌∷◌, ◌++◌, length, take, drop, refl, ap, ◌∙◌, subst, append_assoc, length-append, arith}
use Rattle.std.specs.Prelude.{Result, Ok, Err, slice_range, All}
use Rattle.std.specs.List.{AllByRecursion}
use Rattle.std.proofs.lemmas.List.Elements.{All-from_recursion}
use Rattle.std.proofs.Math.Seq.{drop-append_seam}
use Rattle.mage_lex.specs.declared.piece.Piece.{Piece}
use Rattle.mage_lex.specs.declared.piece.Piece.TheVariants as piece
use Rattle.mage_lex.specs.declared.token.Token.{Token}
use Rattle.mage_lex.specs.declared.fault.LangKind.{LangKind}
use Rattle.mage_lex.specs.declared.fault.LangFault.{LangFault}
use Rattle.mage_lex.specs.declared.fault.LangFault.TheVariants as faults
use Rattle.mage_lex.specs.Places.{place_after, line_after}
use Rattle.mage_lex.specs.Tokens.{front_of, size_of, token_at, piece_in_front, tokens_after, tokens_from, tokens_of, IsFaultOf}
use Rattle.mage_lex.specs.Laws.{Spells, IsSpelled, InOrder}
use Rattle.mage_lex.proofs.Pieces.{IsFront, front_is}
use Rattle.mage_lex.proofs.TokenLemmas.{tokens_of_ok}

-- the slice that a token at the front takes
pub slice_after : (before rest : List ℕ) (size : ℕ) → slice_range (before ++ rest) (length before) (length before + size) ≡ take size rest
slice_after before rest size =
    let count : length before + size - length before ≡ size = omega arith in
    rw (count, drop-append_seam before rest) refl

spelled_cases : (before rest : List ℕ) (front : Piece) (others : Result (List Token) LangFault) (tokens : List Token) → IsFront rest front → ((found : List Token) → others ≡ Ok found → AllByRecursion (IsSpelled (before ++ rest)) found) → piece_in_front (place_after before) front others ≡ Ok tokens → AllByRecursion (IsSpelled (before ++ rest)) tokens
spelled_cases before rest (piece.Gap size) others tokens is all e = all tokens e
spelled_cases before rest (piece.Bad kind) others tokens is all e = absurd (cc)
spelled_cases before rest (piece.Lexeme kind size) (Err fault) tokens is all e = absurd (cc)
spelled_cases before rest (piece.Lexeme kind size) (Ok found) tokens is all e =
    let same : token_at (place_after before) kind size ∷ found ≡ tokens = cc in
    let spelled : Spells kind (slice_range (before ++ rest) (length before) (length before + size)) = rw (slice_after before rest size) is.2 in
    subst (AllByRecursion (IsSpelled (before ++ rest))) same (spelled, all found refl)

spelled_after : (before rest : List ℕ) (skip : ℕ) (tokens : List Token) → tokens_after before rest skip ≡ Ok tokens → AllByRecursion (IsSpelled (before ++ rest)) tokens
unfolding tokens_after
spelled_after before [] skip tokens e =
    let same : [] ≡ tokens = cc in subst (AllByRecursion (IsSpelled (before ++ []))) same tt
spelled_after before (x ∷ rest) (suc skip) tokens e =
    rw (← append_assoc before (x ∷ []) rest) (spelled_after (before ++ x ∷ []) rest skip tokens e)
spelled_after before (x ∷ rest) zero tokens e =
    let front : Piece = front_of (x ∷ rest) in
    spelled_cases before (x ∷ rest) front (tokens_after (before ++ x ∷ []) rest (size_of front - 1)) tokens (front_is (x ∷ rest) (omega arith)) (λ found e'. rw (← append_assoc before (x ∷ []) rest) (spelled_after (before ++ x ∷ []) rest (size_of front - 1) found e')) e

-- each token of a text is spelled at its place
pub tokens_spelled : (text : List ℕ) (tokens : List Token) → tokens_of text ≡ Ok tokens → All (IsSpelled text) tokens
tokens_spelled text tokens e = All-from_recursion (IsSpelled text) tokens (spelled_after [] text 0 tokens (tokens_of_ok text tokens e))

sooner : (sooner later end : ℕ) (tokens : List Token) → sooner ≤ later → InOrder later tokens end → InOrder sooner tokens end
sooner from later end [] h order = omega (arith, order)
sooner from later end (token ∷ tokens) h order = (omega (arith, order.0), order.1, order.2)

order_cases : (before rest : List ℕ) (front : Piece) (others : Result (List Token) LangFault) (tokens : List Token) → IsFront rest front → ((found : List Token) → others ≡ Ok found → InOrder (length before + size_of front) found (length before + length rest)) → piece_in_front (place_after before) front others ≡ Ok tokens → InOrder (length before) tokens (length before + length rest)
order_cases before rest (piece.Gap size) others tokens is all e = sooner (length before) (length before + size) (length before + length rest) tokens (omega arith) (all tokens e)
order_cases before rest (piece.Bad kind) others tokens is all e = absurd (cc)
order_cases before rest (piece.Lexeme kind size) (Err fault) tokens is all e = absurd (cc)
order_cases before rest (piece.Lexeme kind size) (Ok found) tokens is all e =
    let same : token_at (place_after before) kind size ∷ found ≡ tokens = cc in
    let P : List Token → Type 0 = λ ts. InOrder (length before) ts (length before + length rest) in
    subst P same (omega arith, is.0, all found refl)

pub size_fits : (rest : List ℕ) (front : Piece) → IsFront rest front → (0 < size_of front) × (size_of front ≤ length rest)
size_fits rest (piece.Gap size) is = (is.0, is.1)
size_fits rest (piece.Lexeme kind size) is = (is.0, is.1)
size_fits rest (piece.Bad kind) is = (omega arith, is)

pub order_moved : (before : List ℕ) (x : ℕ) (rest : List ℕ) (skip : ℕ) (tokens : List Token) → InOrder (length (before ++ x ∷ []) + skip) tokens (length (before ++ x ∷ []) + length rest) → InOrder (length before + suc skip) tokens (length before + length (x ∷ rest))
order_moved before x rest skip tokens order =
    let from : length (before ++ x ∷ []) + skip ≡ length before + suc skip = omega (arith, length-append before (x ∷ [])) in
    let end : length (before ++ x ∷ []) + length rest ≡ length before + length (x ∷ rest) = omega (arith, length-append before (x ∷ [])) in
    rw (← from, ← end) order

pub order_after : (before rest : List ℕ) (skip : ℕ) (tokens : List Token) → tokens_after before rest skip ≡ Ok tokens → skip ≤ length rest → InOrder (length before + skip) tokens (length before + length rest)
unfolding tokens_after
order_after before [] skip tokens e h =
    let same : [] ≡ tokens = cc in
    let P : List Token → Type 0 = λ ts. InOrder (length before + skip) ts (length before + 0) in
    subst P same (omega arith)
order_after before (x ∷ rest) (suc skip) tokens e h =
    order_moved before x rest skip tokens (order_after (before ++ x ∷ []) rest skip tokens e (omega arith))
order_after before (x ∷ rest) zero tokens e h =
    let front : Piece = front_of (x ∷ rest) in
    let is : IsFront (x ∷ rest) front = front_is (x ∷ rest) (omega arith) in
    let fits = size_fits (x ∷ rest) front is in
    let one : suc (size_of front - 1) ≡ size_of front = omega (arith, fits.0) in
    let none : length before + 0 ≡ length before = omega arith in
    rw none (order_cases before (x ∷ rest) front (tokens_after (before ++ x ∷ []) rest (size_of front - 1)) tokens is
    (λ found e'. rw (← one) (order_moved before x rest (size_of front - 1) found (order_after (before ++ x ∷ []) rest (size_of front - 1) found e' (omega (arith, fits.0, fits.1))))) e)

-- the tokens of a text stand in order
pub tokens_in_order : (text : List ℕ) (tokens : List Token) → tokens_of text ≡ Ok tokens → InOrder 0 tokens (length text)
tokens_in_order text tokens e =
    let whole : 0 + length text ≡ length text = omega arith in
    let order : InOrder 0 tokens (0 + length text) = order_after [] text 0 tokens (tokens_of_ok text tokens e) (omega arith) in
    rw whole at order

line_cases : (before : List ℕ) (front : Piece) (others : Result (List Token) LangFault) (kind : LangKind) (column : ℕ) → (others ≡ Err (faults.At kind 0 column) → ⊥) → piece_in_front (place_after before) front others ≡ Err (faults.At kind 0 column) → ⊥
unfolding line_after
line_cases before (piece.Gap size) others kind column none e = none e
line_cases before (piece.Lexeme found size) (Ok tokens) kind column none e = absurd (cc)
line_cases before (piece.Lexeme found size) (Err fault) kind column none e = none e
line_cases before (piece.Bad wrong) others kind column none e =
    let line : line_after before ≡ 0 = cc in omega (arith, line)

-- no fault of a byte stands at line 0
pub line_after_some : (before rest : List ℕ) (skip : ℕ) (kind : LangKind) (column : ℕ) → tokens_after before rest skip ≡ Err (faults.At kind 0 column) → ⊥
unfolding tokens_after
line_after_some before [] skip kind column e = absurd (cc)
line_after_some before (x ∷ rest) (suc skip) kind column e = line_after_some (before ++ x ∷ []) rest skip kind column e
line_after_some before (x ∷ rest) zero kind column e =
    let front : Piece = front_of (x ∷ rest) in
    line_cases before front (tokens_after (before ++ x ∷ []) rest (size_of front - 1)) kind column (line_after_some (before ++ x ∷ []) rest (size_of front - 1) kind column) e

fault_cases : (text : List ℕ) (n : ℕ) (fault : LangFault) (kind : LangKind) (column : ℕ) → IsFaultOf (tokens_from text n) fault → fault ≡ faults.At kind 0 column → ⊥
fault_cases text n faults.Memory kind column told e = absurd (cc)
fault_cases text n (faults.At wrong line place) kind column told e = line_after_some (take n text) (drop n text) 0 kind column (told ∙ ap Err e)

-- what goes wrong while a text is read isn't the fault of a text that is too long
pub not_too_long : {T : Type 0} (text : List ℕ) (n : ℕ) (fault : LangFault) (kind : LangKind) (answer : Result T LangFault) → IsFaultOf (tokens_from text n) fault → answer ≡ Err fault → answer ≡ Err (faults.At kind 0 0) → ⊥
not_too_long text n fault kind answer told is e =
    let same : fault ≡ faults.At kind 0 0 = cc in fault_cases text n fault kind 0 told same
