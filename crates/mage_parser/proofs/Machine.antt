-- A machine that takes the tokens one by one, and keeps what the source still wants. It decides what the readers decide,
-- so that what is known of it, that it looks at no later token and can always go on to an end, is known of them.
use Rattle.std.proofs.Common.{◌≡◌, ℕ, zero, suc, Bool, true, false, ◌&&◌, List, [], ◌∷◌, ◌++◌, length}
use Rattle.std.specs.Prelude.{Option, None, Some, Result, Ok, Err, if◌then◌else◌}
use Rattle.mage_lex.specs.Symbols.{DOTS, SEMICOLON, COLON, COMMA, OPEN_PAREN, CLOSE_PAREN, OPEN_BRACKET, CLOSE_BRACKET, OPEN_BRACE, CLOSE_BRACE, ASSIGN, MINUS, NOT}
use Rattle.mage_lex.specs.declared.token.Token.{Token}
use Rattle.mage_tree.specs.declared.class.Class.{Class}
use Rattle.mage_tree.specs.declared.class.Class.TheVariants as class
use Rattle.mage_tree.specs.declared.class.Keyword.TheVariants as keyword
use Rattle.mage_tree.specs.Classes.{fits}
use Rattle.mage_tree.specs.Grammar.{const_operators, operators}

-- tokens that stand in fixed places
pub data Mark : Type 0 where
  open_paren close_paren close_bracket semicolon colon comma assign dots a_number a_name a_type a_party in_word comparing : Mark

abbrev pub mark_class : Mark → Class
mark_class open_paren = class.Symbol OPEN_PAREN
mark_class close_paren = class.Symbol CLOSE_PAREN
mark_class close_bracket = class.Symbol CLOSE_BRACKET
mark_class semicolon = class.Symbol SEMICOLON
mark_class colon = class.Symbol COLON
mark_class comma = class.Symbol COMMA
mark_class assign = class.Symbol ASSIGN
mark_class dots = class.Symbol DOTS
mark_class a_number = class.Number
mark_class a_name = class.Name
mark_class a_type = class.Type
mark_class a_party = class.Party
mark_class in_word = class.Word keyword.In
mark_class comparing = class.Comparing

-- what a source may still want
pub data Want : Type 0 where
  fixed : Mark → Want
  constant constant_tail expression expression_tail : ℕ → Want
  index choosing_rest counting_rest bracketed block block_rest otherwise workers : Want

abbrev pub below : ℕ → ℕ
below zero = zero
below (suc n) = n

-- more behind what is wanted
abbrev pub then_also : Option (List Want) → Want → Option (List Want)
then_also None want = None
then_also (Some wants) want = Some (wants ++ want ∷ [])

-- what a constant of this level wants behind its first token
unfoldable pub const_start : ℕ → Token → Option (List Want)
const_start zero token =
    if fits class.Number token then Some []
    else (if fits class.Name token then Some []
    else (if fits (class.Symbol OPEN_PAREN) token then Some (constant 3 ∷ fixed close_paren ∷ [])
    else None))
const_start (suc zero) token =
    if fits (class.Symbol MINUS) token then Some (constant 1 ∷ []) else const_start zero token
const_start (suc (suc level)) token = then_also (const_start (suc level) token) (constant_tail (suc (suc level)))

-- what a name in an expression wants behind it: the bracket of a call, where it is a call's word, or an index
abbrev pub name_rest : Bool → Bool → Want
name_rest true counting = choosing_rest
name_rest false true = counting_rest
name_rest false false = index

unfoldable pub expr_start : ℕ → Token → Option (List Want)
expr_start zero token =
    if fits (class.Symbol NOT) token then Some (expression 0 ∷ [])
    else (if fits class.Name token then Some (name_rest (fits class.Choosing token) (fits class.Counting token) ∷ [])
    else (if fits (class.Word keyword.Lit) token then Some (fixed a_type ∷ fixed open_paren ∷ constant 3 ∷ fixed close_paren ∷ [])
    else (if fits (class.Word keyword.Resize) token then Some (fixed a_type ∷ fixed open_paren ∷ expression 7 ∷ fixed close_paren ∷ [])
    else (if fits (class.Word keyword.Mux) token then Some (fixed open_paren ∷ expression 7 ∷ fixed comma ∷ expression 7 ∷ fixed comma ∷ expression 7 ∷ fixed close_paren ∷ [])
    else (if fits (class.Symbol OPEN_PAREN) token then Some (expression 7 ∷ fixed close_paren ∷ [])
    else None)))))
expr_start (suc level) token = then_also (expr_start level token) (expression_tail (suc level))

unfoldable pub stmt_start : Token → Option (List Want)
stmt_start token =
    if fits (class.Word keyword.Const) token then Some (fixed a_name ∷ fixed assign ∷ constant 3 ∷ fixed semicolon ∷ [])
    else (if fits (class.Word keyword.Input) token then Some (fixed a_party ∷ fixed a_name ∷ fixed colon ∷ fixed a_type ∷ index ∷ fixed semicolon ∷ [])
    else (if fits (class.Word keyword.Let) token then Some (fixed a_name ∷ fixed assign ∷ expression 7 ∷ fixed semicolon ∷ [])
    else (if fits (class.Word keyword.Array) token then Some (fixed a_name ∷ fixed colon ∷ fixed a_type ∷ bracketed ∷ fixed assign ∷ expression 7 ∷ fixed semicolon ∷ [])
    else (if fits (class.Word keyword.Move) token then Some (fixed a_name ∷ fixed assign ∷ fixed a_name ∷ index ∷ fixed semicolon ∷ [])
    else (if fits (class.Word keyword.On) token then Some (constant 3 ∷ block ∷ [])
    else (if fits (class.Word keyword.For) token then Some (fixed a_name ∷ fixed in_word ∷ constant 3 ∷ fixed dots ∷ constant 3 ∷ block ∷ [])
    else (if fits (class.Word keyword.If) token then Some (constant 3 ∷ fixed comparing ∷ constant 3 ∷ block ∷ otherwise ∷ [])
    else (if fits (class.Word keyword.Output) token then Some (expression 7 ∷ fixed semicolon ∷ [])
    else (if fits class.Name token then Some (index ∷ fixed assign ∷ expression 7 ∷ fixed semicolon ∷ [])
    else None)))))))))

-- what follows an operator of a level
abbrev pub tail_of : Class → ℕ → List Want
tail_of class.Shifting level = constant 0 ∷ expression_tail level ∷ []
tail_of class.Comparing level = expression (below level) ∷ []
tail_of operator level = expression (below level) ∷ expression_tail level ∷ []

-- the token is taken, passed on to what is wanted next, or refused
pub data Move : Type 0 where
  taken : List Want → Move
  passed refused : Move

abbrev pub started : Option (List Want) → Move
started None = refused
started (Some wants) = taken wants

unfoldable pub step : Want → Token → Move
step (fixed mark) token = if fits (mark_class mark) token then taken [] else refused
step (constant level) token = started (const_start level token)
step (constant_tail level) token = if fits (const_operators level) token then taken (constant (below level) ∷ constant_tail level ∷ []) else passed
step (expression level) token = started (expr_start level token)
step (expression_tail level) token = if fits (operators level) token then taken (tail_of (operators level) level) else passed
step index token = if fits (class.Symbol OPEN_BRACKET) token then taken (constant 3 ∷ fixed close_bracket ∷ []) else passed
step choosing_rest token =
    if fits (class.Symbol OPEN_PAREN) token then taken (expression 7 ∷ fixed comma ∷ expression 7 ∷ fixed close_paren ∷ [])
    else (if fits (class.Symbol OPEN_BRACKET) token then taken (constant 3 ∷ fixed close_bracket ∷ []) else passed)
step counting_rest token =
    if fits (class.Symbol OPEN_PAREN) token then taken (expression 7 ∷ fixed close_paren ∷ [])
    else (if fits (class.Symbol OPEN_BRACKET) token then taken (constant 3 ∷ fixed close_bracket ∷ []) else passed)
step bracketed token = if fits (class.Symbol OPEN_BRACKET) token then taken (constant 3 ∷ fixed close_bracket ∷ []) else refused
step block token = if fits (class.Symbol OPEN_BRACE) token then taken (block_rest ∷ []) else refused
step block_rest token = if fits (class.Symbol CLOSE_BRACE) token then taken [] else started (then_also (stmt_start token) block_rest)
step otherwise token = if fits (class.Word keyword.Else) token then taken (block ∷ []) else passed
step workers token = if fits (class.Word keyword.Workers) token then taken (fixed a_number ∷ fixed semicolon ∷ []) else passed

abbrev pub moved : Move → List Want → Option (List Want) → Option (List Want)
moved (taken wants) rest next = Some (wants ++ rest)
moved passed rest next = next
moved refused rest next = None

-- what is wanted after a token; where nothing is wanted, a statement may begin
unfoldable pub feed : List Want → Token → Option (List Want)
feed [] token = stmt_start token
feed (want ∷ rest) token = moved (step want token) rest (feed rest token)

-- the text may end here
abbrev pub may_end : Want → Bool
may_end (constant_tail level) = true
may_end (expression_tail level) = true
may_end index = true
may_end choosing_rest = true
may_end counting_rest = true
may_end otherwise = true
may_end workers = true
may_end _ = false

unfoldable pub ends : List Want → Bool
ends [] = true
ends (want ∷ rest) = may_end want && ends rest

abbrev pub ran : Option (List Want) → (List Want → Result (Unit {0}) ℕ) → ℕ → Result (Unit {0}) ℕ
ran None run left = Err left
ran (Some wants) run left = run wants

-- whether the tokens are taken to their end, or how many are left at the first that is refused
unfoldable pub run : List Token → List Want → Result (Unit {0}) ℕ
run [] wants = if ends wants then Ok tt else Err 0
run (token ∷ rest) wants = ran (feed wants token) (run rest) (length (token ∷ rest))

pub run_taken : (want : Want) (rest wants : List Want) (token : Token) (tokens : List Token) → step want token ≡ taken wants →
    run (token ∷ tokens) (want ∷ rest) ≡ run tokens (wants ++ rest)
unfolding run feed
run_taken want rest wants token tokens e = rw e

pub run_passed : (want : Want) (rest : List Want) (token : Token) (tokens : List Token) → step want token ≡ passed →
    run (token ∷ tokens) (want ∷ rest) ≡ run (token ∷ tokens) rest
unfolding run feed
run_passed want rest token tokens e = rw e

pub run_refused : (want : Want) (rest : List Want) (token : Token) (tokens : List Token) → step want token ≡ refused →
    run (token ∷ tokens) (want ∷ rest) ≡ Err (length (token ∷ tokens))
unfolding run feed
run_refused want rest token tokens e = rw e

pub run_end : (want : Want) (rest : List Want) → may_end want ≡ true → run [] (want ∷ rest) ≡ run [] rest
unfolding run ends
run_end want rest e = rw e

pub run_short : (want : Want) (rest : List Want) → may_end want ≡ false → run [] (want ∷ rest) ≡ Err 0
unfolding run ends
run_short want rest e = rw e
