-- What reading gives: a value and the tokens after it, or where it stops.
use Rattle.std.specs.Prelude.{◌≡◌, ℕ, zero, suc, Bool, false, ◌&&◌, List, [], ◌∷◌, length, Result, Ok, Err, if◌then◌else◌}
use Rattle.mage_lex.specs.declared.token.Token.{Token}
use Rattle.mage_lex.specs.Symbols.{OPEN_PAREN}
use Rattle.mage_tree.specs.declared.class.Class.{Class}
use Rattle.mage_tree.specs.declared.class.Class.TheVariants as classes
use Rattle.mage_parser.specs.declared.stop.Stop.{Stop}
use Rattle.mage_parser.specs.declared.stop.Stop.TheVariants as stops
use Rattle.mage_tree.specs.Classes.{fits}

infixl 10 ◌>>=◌
abbrev pub ◌>>=◌ : {A B : Type 0} → Result A Stop → (A → Result B Stop) → Result B Stop
(Ok x) >>= f = f x
(Err e) >>= f = Err e

-- a value and the tokens after it
abbrev pub Read : Type 0 → Type 0
Read A = Result (A × List Token) Stop

-- the fault is the one that was read, or want of memory
abbrev pub Fails : {Y : Type 0} → Stop → Result Y Stop → Type 0
Fails stops.Memory read = Unit {0}
Fails (stops.Syntax left) read = read ≡ Err (stops.Syntax left)
Fails (stops.TooDeep left) read = read ≡ Err (stops.TooDeep left)

-- what a function returned, seen by view, is what reading gives, unless memory ran out
abbrev pub Gives : {X Y : Type 0} → (X → Y) → Result X Stop → Result Y Stop → Type 0
Gives view (Ok x) read = read ≡ Ok (view x)
Gives view (Err e) read = Fails e read

-- the first token is of the class
unfoldable pub begins : Class → List Token → Bool
begins class [] = false
begins class (token ∷ rest) = fits class token

-- the first token is a word of the class, and `(` is the next
unfoldable pub calls : Class → List Token → Bool
calls class [] = false
calls class (word ∷ rest) = fits class word && begins (classes.Symbol OPEN_PAREN) rest

-- the first token, which has to be of the class
unfoldable pub one : Class → List Token → Read Token
one class [] = Err (stops.Syntax 0)
one class (token ∷ rest) =
    if fits class token then Ok (token, rest) else Err (stops.Syntax (length (token ∷ rest)))

-- the tokens after the first, which has to be of the class
unfoldable pub after_one : Class → List Token → Result (List Token) Stop
after_one class [] = Err (stops.Syntax 0)
after_one class (token ∷ rest) =
    if fits class token then Ok rest else Err (stops.Syntax (length (token ∷ rest)))

-- operators and what `operand` reads behind each, as long as there are any, at most so many
unfoldable pub operands : {A : Type 0} → (List Token → Read A) → Class → ℕ → List Token →
    Read (List (Token × A))
operands operand operators zero tokens = Ok ([], tokens)
operands operand operators (suc most) tokens =
    if begins operators tokens then (do
      op ← one operators tokens
      value ← operand op.1
      rest ← operands operand operators most value.1
      Ok ((op.0, value.0) ∷ rest.0, rest.1))
    else Ok ([], tokens)
