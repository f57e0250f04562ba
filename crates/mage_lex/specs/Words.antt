-- The words of the language, of which a word that is none of them is a name.
use Rattle.std.specs.Prelude.{ℕ, Bool, false, not, ◌&&◌, List, [], ◌∷◌, ◌==◌, length, nat_lt, codes}
use Rattle.std.specs.Str.{bytes_eq}
use Rattle.std.specs.List.{list_any, list_all}
use Rattle.std.specs.Char.{is_ascii_digit}

-- the keywords
abbrev pub keywords : List (List ℕ)
keywords =
    codes "workers" ∷ codes "const" ∷ codes "input" ∷ codes "garbler" ∷ codes "evaluator"
    ∷ codes "let" ∷ codes "array" ∷ codes "move" ∷ codes "on" ∷ codes "for" ∷ codes "in"
    ∷ codes "if" ∷ codes "else"
    ∷ codes "output" ∷ codes "lit" ∷ codes "resize" ∷ codes "mux" ∷ []

-- the word is one of these
abbrev pub is_among : List (List ℕ) → List ℕ → Bool
is_among words word = list_any (λ known. bytes_eq word known) words

unfoldable pub is_keyword : List ℕ → Bool
is_keyword word = is_among keywords word

-- a `u`, then one digit or more and nothing else
abbrev pub is_type_word : List ℕ → Bool
is_type_word [] = false
is_type_word (first ∷ digits) =
    first == 117 && nat_lt 0 (length digits) && list_all is_ascii_digit digits

-- any other word
abbrev pub is_name : List ℕ → Bool
is_name word = not (is_keyword word) && not (is_type_word word)
