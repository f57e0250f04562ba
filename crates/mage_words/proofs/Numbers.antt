-- What parsing makes of a number's digits.
use Rattle.std.proofs.Common.{◌≡◌, ◌∙◌, ◌<◌, ◌^◌, ◌&&◌, ℕ, Bool, cond, true, false, refl, sym, ap, subst, arith, List, [], ◌∷◌, length, Some, None, Result, Ok, Err, nat_le, leb-true}
use Rattle.std.specs.List.{list_all}
use Rattle.std.specs.Char.{is_ascii_digit}
use Rattle.std.specs.Str.{all_ascii_digits}
use Rattle.std.specs.Str.Parse.{ParsesUnsigned, digits_value}
use Rattle.std.specs.Result.{OkIff}
use Rattle.std.proofs.lemmas.Str.Parse.{numerals_by_value, parse_digits, tells_all_ascii_digits}
use Rattle.mage_words.specs.Words.{is_number, number_in}
use Rattle.mage_words.proofs.Rows.{both}

all_digits : (text : List ℕ) → list_all is_ascii_digit text ≡ all_ascii_digits text
all_digits [] = refl
all_digits (x ∷ xs) = ap (λ b. is_ascii_digit x && b) (all_digits xs)

module _ {E : Type 0} (text : List ℕ) (r : Result ℕ E) (parsed : ParsesUnsigned 32 10 text r) (number : is_number text ≡ true) where
  parts : (nat_le 1 (length text) ≡ true) × (list_all is_ascii_digit text ≡ true)
  parts = let p = both (nat_le 1 (length text)) _ number in (p.0, (both (nat_le (length text) 20) _ p.1).1)

  read : OkIff r ((0 < length text) × (digits_value 10 text < 2 ^ 32)) (digits_value 10 text)
  read = parse_digits (numerals_by_value (λ ds. all_ascii_digits ds ≡ true) tells_all_ascii_digits) 32 text r parsed (sym (all_digits text) ∙ parts.1)

  some : 0 < length text
  some = leb-true 1 (length text) parts.0

  in_range : (least most n : ℕ) → n ≡ digits_value 10 text → number_in least most text ≡ cond (nat_le least n && nat_le n most) (Some n) None
  in_range least most n is =
      ap (λ b. cond (b && (nat_le least (digits_value 10 text) && nat_le (digits_value 10 text) most)) (Some (digits_value 10 text)) None) number
      ∙ ap (λ v. cond (nat_le least v && nat_le v most) (Some v) None) (sym is)

-- what is kept of the number that parsing gives
pub number_kept : {E : Type 0} (text : List ℕ) (r : Result ℕ E) (n least most : ℕ) → ParsesUnsigned 32 10 text r → is_number text ≡ true → r ≡ Ok n
    → cond (nat_le least n && nat_le n most) (Some n) None ≡ number_in least most text
number_kept text r n least most parsed number is =
    let at : (0 < length text × (digits_value 10 text < 2 ^ 32)) × (n ≡ digits_value 10 text) = subst (λ x. OkIff x ((0 < length text) × (digits_value 10 text < 2 ^ 32)) (digits_value 10 text)) is (read text r parsed number) in
    sym (in_range text r parsed number least most n at.1)

-- a number that parsing refuses is past the range
pub number_refused : {E : Type 0} (text : List ℕ) (r : Result ℕ E) (e : E) (least most : ℕ) → ParsesUnsigned 32 10 text r → is_number text ≡ true → r ≡ Err e → most < 2 ^ 32
    → number_in least most text ≡ None
number_refused text r e least most parsed number is fits =
    let not : (0 < length text × (digits_value 10 text < 2 ^ 32)) → ⊥ = subst (λ x. OkIff x ((0 < length text) × (digits_value 10 text < 2 ^ 32)) (digits_value 10 text)) is (read text r parsed number) in
    in_range text r parsed number least most (digits_value 10 text) refl ∙ go (nat_le least (digits_value 10 text)) (nat_le (digits_value 10 text) most) refl not
  where
    go : (a b : Bool) → nat_le (digits_value 10 text) most ≡ b → ((0 < length text × (digits_value 10 text < 2 ^ 32)) → ⊥) → cond (a && b) (Some (digits_value 10 text)) None ≡ None
    go true true t not = absurd (not (some text r parsed number, let le = leb-true (digits_value 10 text) most t in omega (arith, le, fits)))
    go true false t not = refl
    go false b t not = refl

pub no_number : (text : List ℕ) (least most : ℕ) → is_number text ≡ false → number_in least most text ≡ None
no_number text least most isnt = ap (λ b. cond (b && (nat_le least (digits_value 10 text) && nat_le (digits_value 10 text) most)) (Some (digits_value 10 text)) None) isnt
