-- The tokens of a text, piece after piece.
use Rattle.std.proofs.Common.{◌≡◌, ℕ, zero, suc, ◌+◌, ◌-◌, ◌<◌, ◌≤◌, List, [], ◌∷◌, ◌++◌, length, take, drop, refl, sym, ap, ◌∙◌, append_assoc, length-drop, Bool, true, false, arith}
use Rattle.std.proofs.lemmas.List.{append-nil, drop-drop, drop_all, take_rest}
use Rattle.std.proofs.lemmas.Bool.Decides.{nat_tests}
use Rattle.std.proofs.Math.Seq.{take-add}
use Rattle.mage_lex.specs.declared.piece.Piece.{Piece}
use Rattle.std.specs.Prelude.{Result, Ok, Err, nat_lt, if◌then◌else◌}
use Rattle.mage_lex.specs.Limits.{MOST_BYTES}
use Rattle.mage_lex.specs.declared.piece.Place.{Place}
use Rattle.mage_lex.specs.declared.token.Token.{Token}
use Rattle.mage_lex.specs.declared.fault.LangFault.{LangFault}
use Rattle.mage_lex.specs.declared.fault.LangFault.TheVariants as faults
use Rattle.mage_lex.specs.declared.fault.LangKind.TheVariants as wrong
use Rattle.mage_lex.specs.Places.{place_after, place_at, line_after, column_after}
use Rattle.mage_lex.specs.Tokens.{front_of, size_of, in_front, piece_in_front, tokens_after, tokens_from, tokens_of, IsFaultOf}

-- bytes that are skipped are bytes before
pub tokens_skip : (before xs : List ℕ) (n : ℕ) → tokens_after before xs n ≡ tokens_after (before ++ take n xs) (drop n xs) 0
unfolding tokens_after
tokens_skip before [] zero = refl
tokens_skip before [] (suc n) = refl
tokens_skip before (x ∷ xs) zero = rw append-nil refl
tokens_skip before (x ∷ xs) (suc n) = tokens_skip (before ++ x ∷ []) xs n ∙ rw append_assoc refl

-- the piece at the front, and what follows it
pub tokens_step : (before rest : List ℕ) (n : ℕ) → 0 < length rest → size_of (front_of rest) ≡ suc n → tokens_after before rest 0 ≡ piece_in_front (place_after before) (front_of rest) (tokens_after (before ++ take (suc n) rest) (drop (suc n) rest) 0)
unfolding tokens_after
tokens_step before [] n h e = absurd (omega arith)
tokens_step before (x ∷ xs) n h e =
    let size : size_of (front_of (x ∷ xs)) - 1 ≡ n = omega arith in
    let skip : tokens_after (before ++ x ∷ []) xs n ≡ tokens_after (before ++ x ∷ take n xs) (drop n xs) 0 = tokens_skip (before ++ x ∷ []) xs n ∙ rw append_assoc refl in
    rw (size, skip) refl

from_step : (text : List ℕ) (n size : ℕ) → n < length text → size_of (front_of (drop n text)) ≡ suc size → tokens_from text n ≡ piece_in_front (place_at text n) (front_of (drop n text)) (tokens_from text (n + suc size))
from_step text n size h e =
    let some : 0 < length (drop n text) = omega (arith, length-drop n text) in
    tokens_step (take n text) (drop n text) size some e ∙ rw (take-add n (suc size) text, drop-drop (suc size) n text) refl

-- the same at a place of a text
pub tokens_from_step : (text : List ℕ) (n size : ℕ) (piece : Piece) → n < length text → piece ≡ front_of (drop n text) → size ≡ size_of piece → 0 < size → tokens_from text n ≡ piece_in_front (place_at text n) piece (tokens_from text (n + size))
tokens_from_step text n zero piece h e s p = absurd (omega arith)
tokens_from_step text n (suc size) piece h e s p = rw e (from_step text n size h (sym (s ∙ ap size_of e)))

-- the same at the place that is kept
pub piece_step : (text : List ℕ) (place : Place) (size : ℕ) (piece : Piece) → place ≡ place_at text place.start → place.start < length text → piece ≡ front_of (take (length text - place.start) (drop place.start text)) → size ≡ size_of piece → 0 < size → tokens_from text place.start ≡ piece_in_front place piece (tokens_from text (place.start + size))
piece_step text place size piece at h e s p =
    let front : piece ≡ front_of (drop place.start text) = e ∙ ap front_of (take_rest text place.start) in
    tokens_from_step text place.start size piece h front s p ∙ ap (λ q. piece_in_front q piece (tokens_from text (place.start + size))) (sym at)

-- no tokens in front change nothing
pub in_front_none : (found : Result (List Token) LangFault) → in_front [] found ≡ found
in_front_none (Ok tokens) = refl
in_front_none (Err fault) = refl

-- the first byte's place
pub place_first : (text : List ℕ) → record { start = 0; line = 1; column = 1 } ≡ place_at text 0
unfolding line_after column_after
place_first text = refl

short_cases : (text : List ℕ) (long : Bool) → nat_lt MOST_BYTES (length text) ≡ long → length text ≤ MOST_BYTES → (if long then Err (faults.At wrong.TooLong 0 0) else tokens_after [] text 0) ≡ tokens_from text 0
short_cases text true t h = absurd (grind (arith, nat_tests))
short_cases text false t h = refl

-- a text that isn't too long has the tokens from its first byte on
pub tokens_of_short : (text : List ℕ) → length text ≤ MOST_BYTES → tokens_of text ≡ tokens_from text 0
unfolding tokens_of
tokens_of_short text h = short_cases text (nat_lt MOST_BYTES (length text)) refl h

tokens_end : (text : List ℕ) (n : ℕ) → length text ≤ n → tokens_from text n ≡ Ok []
unfolding tokens_after
tokens_end text n h = rw (drop_all n text h) refl

-- what the tokens so far are at the end of the text
pub all_read : (text : List ℕ) (tokens : List Token) (n : ℕ) → length text ≤ n → in_front tokens (tokens_from text n) ≡ tokens_from text 0 → length text ≤ MOST_BYTES → tokens_of text ≡ Ok tokens
all_read text tokens n h e short =
    tokens_of_short text short ∙ sym e ∙ ap (in_front tokens) (tokens_end text n h) ∙ ap Ok (append-nil tokens)

in_front_fault : (tokens : List Token) (found : Result (List Token) LangFault) (fault : LangFault) → IsFaultOf found fault → IsFaultOf (in_front tokens found) fault
in_front_fault tokens found (faults.At kind line column) e = rw e refl
in_front_fault tokens found faults.Memory e = tt

-- a fault of the rest is the text's
pub fault_read : (text : List ℕ) (tokens : List Token) (n : ℕ) (fault : LangFault) → IsFaultOf (tokens_from text n) fault → in_front tokens (tokens_from text n) ≡ tokens_from text 0 → length text ≤ MOST_BYTES → IsFaultOf (tokens_of text) fault
fault_read text tokens n fault told e short =
    rw (tokens_of_short text short, ← e) (in_front_fault tokens (tokens_from text n) fault told)

ok_cases : (text : List ℕ) (tokens : List Token) (long : Bool) → (if long then Err (faults.At wrong.TooLong 0 0) else tokens_after [] text 0) ≡ Ok tokens → tokens_after [] text 0 ≡ Ok tokens
ok_cases text tokens true e = absurd (cc)
ok_cases text tokens false e = e

-- a text that has tokens isn't too long
pub tokens_of_ok : (text : List ℕ) (tokens : List Token) → tokens_of text ≡ Ok tokens → tokens_after [] text 0 ≡ Ok tokens
unfolding tokens_of
tokens_of_ok text tokens e = ok_cases text tokens (nat_lt MOST_BYTES (length text)) e
