-- The symbol that a text begins with.
use Rattle.std.proofs.Common.{◌≡◌, ℕ, zero, suc, ◌<◌, ◌≤◌, Bool, true, false, cond, List, [], ◌∷◌, ◌++◌, length, take, drop, get_or, refl, ap, ◌∙◌, arith, length-append}
use Rattle.std.specs.Prelude.{Option, Some, None, position, slice_get, unwrap_or, nat_lt, nat_eq}
use Rattle.std.specs.List.{starts_with, position_or_len, list_all}
use Rattle.std.proofs.lemmas.List.Sums.{passes_at_first}
use Rattle.std.proofs.lemmas.Option.{unwrap_or-slice_get, slice_get_past}
use Rattle.std.proofs.lemmas.Bool.Decides.{Decides-eqb, nat_tests}
use Rattle.std.proofs.lemmas.Slice.Eq.{starts_is}
use Rattle.std.proofs.Math.Seq.{take-append_seam}
use Rattle.mage_lex.specs.Symbols.{symbols, SYMBOL_COUNT, symbol_row, symbol_bytes}
use Rattle.mage_lex.specs.Names.{AreNamed}
use Rattle.mage_lex.specs.Tokens.{size_of, symbol_of}

-- a row that no symbol has
pub no_symbol : (row : ℕ) → SYMBOL_COUNT ≤ row → symbol_bytes row ≡ []
unfolding symbol_bytes
no_symbol row h = ap (λ found. unwrap_or found []) (slice_get_past symbols row h)

position_cases : (p : List ℕ → Bool) (xs : List (List ℕ)) (row : ℕ) (found : Bool) → nat_lt (position_or_len p xs) (length xs) ≡ found → cond found (Some (position_or_len p xs)) None ≡ Some row → (row < length xs) × (p (unwrap_or (slice_get xs row) []) ≡ true)
position_cases p xs row true t e =
    let same : position_or_len p xs ≡ row = cc in
    let below : position_or_len p xs < length xs = grind (arith, nat_tests) in
    let passes : p (get_or xs row []) ≡ true = rw same at (passes_at_first p xs [] below) in
    (omega arith, rw unwrap_or-slice_get passes)
position_cases p xs row false t e = absurd (cc)

-- where a position is found, the element there passes
pub position_passes : (p : List ℕ → Bool) (xs : List (List ℕ)) (row : ℕ) → position p xs ≡ Some row → (row < length xs) × (p (unwrap_or (slice_get xs row) []) ≡ true)
position_passes p xs row e = position_cases p xs row (nat_lt (position_or_len p xs) (length xs)) refl e

nonempty_at : (xs : List (List ℕ)) (row : ℕ) → list_all (λ s. nat_lt 0 (length s)) xs ≡ true → row < length xs → 0 < length (unwrap_or (slice_get xs row) [])
nonempty_at [] row e h = absurd (omega arith)
nonempty_at (x ∷ xs) zero e h = grind (arith, nat_tests)
nonempty_at (x ∷ xs) (suc row) e h = nonempty_at xs row (grind (arith, nat_tests)) (omega arith)

-- what is known of the symbol in the row that was found
pub record IsSymbolAt (text : List ℕ) (row : ℕ) : Type 0 where
  pub known : row < SYMBOL_COUNT
  pub some : 0 < length (symbol_bytes row)
  pub within : length (symbol_bytes row) ≤ length text
  pub bytes : take (length (symbol_bytes row)) text ≡ symbol_bytes row

begins : (text symbol : List ℕ) → starts_with nat_eq text symbol ≡ true → text ≡ symbol ++ drop (length symbol) text
begins text symbol e = (starts_is Decides-eqb text symbol (starts_with nat_eq text symbol) refl).0 e

pub symbol_is : (text : List ℕ) (row : ℕ) → symbol_row text ≡ Some row → IsSymbolAt text row
unfolding symbol_row symbol_bytes
symbol_is text row e =
    let found = position_passes (λ symbol. starts_with nat_eq text symbol) symbols row e in
    let symbol : List ℕ = unwrap_or (slice_get symbols row) [] in
    let split : text ≡ symbol ++ drop (length symbol) text = begins text symbol found.1 in
    record {
      known = found.0;
      some = nonempty_at symbols row refl found.0;
      within = omega (arith, ap length split, length-append symbol (drop (length symbol) text));
      bytes = ap (take (length symbol)) split ∙ take-append_seam symbol (drop (length symbol) text);
    }

fits_cases : (text : List ℕ) (found : Option ℕ) → symbol_row text ≡ found → 0 < length text → (0 < size_of (symbol_of found)) × (size_of (symbol_of found) ≤ length text)
fits_cases text (Some row) e h = let at = symbol_is text row e in (at.some, at.within)
fits_cases text None e h = (omega arith, h)

-- the symbol at the front takes at least one byte, and none past the end
pub symbol_fits : (text : List ℕ) → 0 < length text → (0 < size_of (symbol_of (symbol_row text))) × (size_of (symbol_of (symbol_row text)) ≤ length text)
symbol_fits text h = fits_cases text (symbol_row text) refl h

-- the names are those of their symbols
pub are_named : AreNamed
unfolding symbol_bytes
are_named = record {
  dots = (refl, refl);
  equals = (refl, refl);
  shift_left = (refl, refl);
  shift_right = (refl, refl);
  semicolon = (refl, refl);
  colon = (refl, refl);
  comma = (refl, refl);
  open_paren = (refl, refl);
  close_paren = (refl, refl);
  open_bracket = (refl, refl);
  close_bracket = (refl, refl);
  open_brace = (refl, refl);
  close_brace = (refl, refl);
  assign = (refl, refl);
  less = (refl, refl);
  plus = (refl, refl);
  minus = (refl, refl);
  times = (refl, refl);
  divide = (refl, refl);
  remainder = (refl, refl);
  and = (refl, refl);
  xor = (refl, refl);
  or = (refl, refl);
  not = (refl, refl);
}
