-- The machine can always go on to an end.
use Rattle.std.proofs.Common.{◌≡◌, ℕ, zero, suc, true, false, List, [], ◌∷◌, ◌++◌, refl, ap, ◌∙◌, append_assoc}
use Rattle.std.specs.Prelude.{Ok, codes}
use Rattle.mage_lex.specs.Symbols.{DOTS, EQUALS, SEMICOLON, COLON, COMMA, OPEN_PAREN, CLOSE_PAREN, OPEN_BRACKET, CLOSE_BRACKET, OPEN_BRACE, CLOSE_BRACE, ASSIGN, AND, XOR, OR}
use Rattle.mage_lex.specs.declared.token.Token.{Token}
use Rattle.mage_lex.specs.declared.token.TokenKind.{TokenKind}
use Rattle.mage_lex.specs.declared.token.TokenKind.TheVariants as kinds
use Rattle.mage_lex.specs.Words as words
use Rattle.mage_tree.specs.declared.class.Class.{Class}
use Rattle.mage_tree.specs.declared.class.Class.TheVariants as class
use Rattle.mage_tree.specs.Classes.{text_of, call_text, is_word, is_call, is_symbol, is_number, is_name, is_type, fits}
use Rattle.mage_parser.specs.Reads.{begins}
use Rattle.mage_tree.specs.Grammar.{const_operators, operators}
use Rattle.mage_parser.proofs.Machine.{Want, constant, constant_tail, expression, expression_tail, index, choosing_rest, counting_rest, bracketed, block, block_rest, otherwise, workers, fixed, open_paren, close_paren, close_bracket, semicolon, colon, comma, assign, dots, a_number, a_name, a_type, a_party, in_word, comparing, Mark, mark_class, taken, passed, below, const_start, expr_start, step, ends, run, run_taken}
use Rattle.mage_parser.proofs.FollowConstants.{run_lets, run_more}
use Rattle.mage_parser.proofs.FollowExpressions.{expr_run_more, tail_passes}

abbrev token_of : TokenKind → Token
token_of kind = record { kind = kind; start = 0; len = 0; line = 0; column = 0 }

abbrev symbol : ℕ → Token
symbol row = token_of (kinds.Symbol row)

abbrev number : Token
number = token_of (kinds.Number 1)

abbrev name_token : Token
name_token = token_of (kinds.Word (codes "a"))

abbrev mark_token : Mark → Token
mark_token open_paren = symbol OPEN_PAREN
mark_token close_paren = symbol CLOSE_PAREN
mark_token close_bracket = symbol CLOSE_BRACKET
mark_token semicolon = symbol SEMICOLON
mark_token colon = symbol COLON
mark_token comma = symbol COMMA
mark_token assign = symbol ASSIGN
mark_token dots = symbol DOTS
mark_token a_number = number
mark_token a_name = name_token
mark_token a_type = token_of (kinds.Word (codes "u8"))
mark_token a_party = token_of (kinds.Word (codes "garbler"))
mark_token in_word = token_of (kinds.Word (codes "in"))
mark_token comparing = symbol EQUALS

-- the tokens begin with no operator but a comparison
record Calm (tokens : List Token) : Type 0 where
  scaling : begins class.Scaling tokens ≡ false
  adding : begins class.Adding tokens ≡ false
  shifting : begins class.Shifting tokens ≡ false
  ands : begins (class.Symbol AND) tokens ≡ false
  xors : begins (class.Symbol XOR) tokens ≡ false
  ors : begins (class.Symbol OR) tokens ≡ false

calm_end : Calm []
unfolding begins
calm_end = record { scaling = refl; adding = refl; shifting = refl; ands = refl; xors = refl; ors = refl }

calm_word : (text : List ℕ) (rest : List Token) → Calm (token_of (kinds.Word text) ∷ rest)
unfolding begins fits is_symbol
calm_word text rest = record { scaling = refl; adding = refl; shifting = refl; ands = refl; xors = refl; ors = refl }

calm_number : (rest : List Token) → Calm (number ∷ rest)
unfolding begins fits is_symbol
calm_number rest = record { scaling = refl; adding = refl; shifting = refl; ands = refl; xors = refl; ors = refl }

calm_dots : (rest : List Token) → Calm (symbol DOTS ∷ rest)
unfolding begins fits is_symbol
calm_dots rest = record { scaling = refl; adding = refl; shifting = refl; ands = refl; xors = refl; ors = refl }

calm_equals : (rest : List Token) → Calm (symbol EQUALS ∷ rest)
unfolding begins fits is_symbol
calm_equals rest = record { scaling = refl; adding = refl; shifting = refl; ands = refl; xors = refl; ors = refl }

calm_semicolon : (rest : List Token) → Calm (symbol SEMICOLON ∷ rest)
unfolding begins fits is_symbol
calm_semicolon rest = record { scaling = refl; adding = refl; shifting = refl; ands = refl; xors = refl; ors = refl }

calm_colon : (rest : List Token) → Calm (symbol COLON ∷ rest)
unfolding begins fits is_symbol
calm_colon rest = record { scaling = refl; adding = refl; shifting = refl; ands = refl; xors = refl; ors = refl }

calm_comma : (rest : List Token) → Calm (symbol COMMA ∷ rest)
unfolding begins fits is_symbol
calm_comma rest = record { scaling = refl; adding = refl; shifting = refl; ands = refl; xors = refl; ors = refl }

calm_open_paren : (rest : List Token) → Calm (symbol OPEN_PAREN ∷ rest)
unfolding begins fits is_symbol
calm_open_paren rest = record { scaling = refl; adding = refl; shifting = refl; ands = refl; xors = refl; ors = refl }

calm_close_paren : (rest : List Token) → Calm (symbol CLOSE_PAREN ∷ rest)
unfolding begins fits is_symbol
calm_close_paren rest = record { scaling = refl; adding = refl; shifting = refl; ands = refl; xors = refl; ors = refl }

calm_open_bracket : (rest : List Token) → Calm (symbol OPEN_BRACKET ∷ rest)
unfolding begins fits is_symbol
calm_open_bracket rest = record { scaling = refl; adding = refl; shifting = refl; ands = refl; xors = refl; ors = refl }

calm_close_bracket : (rest : List Token) → Calm (symbol CLOSE_BRACKET ∷ rest)
unfolding begins fits is_symbol
calm_close_bracket rest = record { scaling = refl; adding = refl; shifting = refl; ands = refl; xors = refl; ors = refl }

calm_open_brace : (rest : List Token) → Calm (symbol OPEN_BRACE ∷ rest)
unfolding begins fits is_symbol
calm_open_brace rest = record { scaling = refl; adding = refl; shifting = refl; ands = refl; xors = refl; ors = refl }

calm_close_brace : (rest : List Token) → Calm (symbol CLOSE_BRACE ∷ rest)
unfolding begins fits is_symbol
calm_close_brace rest = record { scaling = refl; adding = refl; shifting = refl; ands = refl; xors = refl; ors = refl }

calm_assign : (rest : List Token) → Calm (symbol ASSIGN ∷ rest)
unfolding begins fits is_symbol
calm_assign rest = record { scaling = refl; adding = refl; shifting = refl; ands = refl; xors = refl; ors = refl }

calm_mark : (mark : Mark) (rest : List Token) → Calm (mark_token mark ∷ rest)
calm_mark open_paren rest = calm_open_paren rest
calm_mark close_paren rest = calm_close_paren rest
calm_mark close_bracket rest = calm_close_bracket rest
calm_mark semicolon rest = calm_semicolon rest
calm_mark colon rest = calm_colon rest
calm_mark comma rest = calm_comma rest
calm_mark assign rest = calm_assign rest
calm_mark dots rest = calm_dots rest
calm_mark a_number rest = calm_number rest
calm_mark a_name rest = calm_word (codes "a") rest
calm_mark a_type rest = calm_word (codes "u8") rest
calm_mark a_party rest = calm_word (codes "garbler") rest
calm_mark in_word rest = calm_word (codes "in") rest
calm_mark comparing rest = calm_equals rest

mark_fits : (mark : Mark) → fits (mark_class mark) (mark_token mark) ≡ true
unfolding fits is_word is_symbol is_number is_name is_type text_of words.is_keyword
mark_fits open_paren = refl
mark_fits close_paren = refl
mark_fits close_bracket = refl
mark_fits semicolon = refl
mark_fits colon = refl
mark_fits comma = refl
mark_fits assign = refl
mark_fits dots = refl
mark_fits a_number = refl
mark_fits a_name = refl
mark_fits a_type = refl
mark_fits a_party = refl
mark_fits in_word = refl
mark_fits comparing = refl

number_fits : fits class.Number number ≡ true
unfolding fits is_number
number_fits = refl

-- what ends a want
abbrev tail_end : Class → List Token → List Token
tail_end class.Comparing tokens = symbol EQUALS ∷ tokens
tail_end _ tokens = []

abbrev expr_end : ℕ → List Token
expr_end zero = name_token ∷ symbol OPEN_BRACKET ∷ number ∷ symbol CLOSE_BRACKET ∷ []
expr_end (suc level) = expr_end level ++ tail_end (operators (suc level)) (expr_end level)

abbrev ending : Want → List Token
ending (fixed mark) = mark_token mark ∷ []
ending (constant level) = number ∷ []
ending (constant_tail level) = []
ending (expression level) = expr_end level
ending (expression_tail level) = tail_end (operators level) (expr_end (below level))
ending index = symbol OPEN_BRACKET ∷ number ∷ symbol CLOSE_BRACKET ∷ []
ending choosing_rest = symbol OPEN_BRACKET ∷ number ∷ symbol CLOSE_BRACKET ∷ []
ending counting_rest = symbol OPEN_BRACKET ∷ number ∷ symbol CLOSE_BRACKET ∷ []
ending bracketed = symbol OPEN_BRACKET ∷ number ∷ symbol CLOSE_BRACKET ∷ []
ending block = symbol OPEN_BRACE ∷ symbol CLOSE_BRACE ∷ []
ending block_rest = symbol CLOSE_BRACE ∷ []
ending otherwise = token_of (kinds.Word (codes "else")) ∷ symbol OPEN_BRACE ∷ symbol CLOSE_BRACE ∷ []
ending workers = token_of (kinds.Word (codes "workers")) ∷ number ∷ symbol SEMICOLON ∷ []

fixed_step : (mark : Mark) → step (fixed mark) (mark_token mark) ≡ taken []
unfolding step
fixed_step mark = rw (mark_fits mark)

fixed_ends : (mark : Mark) (later : List Token) (rest : List Want) → run (mark_token mark ∷ later) (fixed mark ∷ rest) ≡ run later rest
fixed_ends mark later rest = run_taken (fixed mark) rest [] (mark_token mark) later (fixed_step mark)

calm_const : (level : ℕ) (later : List Token) → Calm later → begins (const_operators level) later ≡ false
calm_const zero later c = c.scaling
calm_const (suc zero) later c = c.scaling
calm_const (suc (suc zero)) later c = c.scaling
calm_const (suc (suc (suc level))) later c = c.adding

const_pass : (level : ℕ) (token : Token) → fits (const_operators level) token ≡ false → step (constant_tail level) token ≡ passed
unfolding step
const_pass level token a = rw a

begins_head : (c : Class) (tokens : List Token) (token : Token) (others : List Token) → begins c tokens ≡ false → tokens ≡ token ∷ others → fits c token ≡ false
unfolding begins
begins_head c tokens token others b e = rw e at b

const_tail_ends : (level : ℕ) (later : List Token) (rest : List Want) → Calm later → run later (constant_tail level ∷ rest) ≡ run later rest
const_tail_ends level later rest c =
    run_lets (constant_tail level) rest later refl (λ token others e. const_pass level token (begins_head (const_operators level) later token others (calm_const level later c) e))

number_step : step (constant 0) number ≡ taken []
unfolding step const_start fits is_number
number_step = refl

number_step_one : step (constant 1) number ≡ taken []
unfolding step const_start fits is_number is_symbol
number_step_one = refl

const_ends : (level : ℕ) (later : List Token) (rest : List Want) → Calm later → run (number ∷ later) (constant level ∷ rest) ≡ run later rest
const_ends zero later rest c = run_taken (constant 0) rest [] number later number_step
const_ends (suc zero) later rest c = run_taken (constant 1) rest [] number later number_step_one
const_ends (suc (suc level)) later rest c =
    run_more level (number ∷ later) rest ∙ const_ends (suc level) later (constant_tail (suc (suc level)) ∷ rest) c ∙ const_tail_ends (suc (suc level)) later rest c

index_step : step index (symbol OPEN_BRACKET) ≡ taken (constant 3 ∷ fixed close_bracket ∷ [])
unfolding step fits is_symbol
index_step = refl

index_ends : (later : List Token) (rest : List Want) → run (symbol OPEN_BRACKET ∷ number ∷ symbol CLOSE_BRACKET ∷ later) (index ∷ rest) ≡ run later rest
index_ends later rest =
    run_taken index rest (constant 3 ∷ fixed close_bracket ∷ []) (symbol OPEN_BRACKET) (number ∷ symbol CLOSE_BRACKET ∷ later) index_step
    ∙ const_ends 3 (symbol CLOSE_BRACKET ∷ later) (fixed close_bracket ∷ rest) (calm_close_bracket later) ∙ fixed_ends close_bracket later rest

choosing_step : step choosing_rest (symbol OPEN_BRACKET) ≡ taken (constant 3 ∷ fixed close_bracket ∷ [])
unfolding step fits is_symbol
choosing_step = refl

choosing_ends : (later : List Token) (rest : List Want) → run (symbol OPEN_BRACKET ∷ number ∷ symbol CLOSE_BRACKET ∷ later) (choosing_rest ∷ rest) ≡ run later rest
choosing_ends later rest =
    run_taken choosing_rest rest (constant 3 ∷ fixed close_bracket ∷ []) (symbol OPEN_BRACKET) (number ∷ symbol CLOSE_BRACKET ∷ later) choosing_step
    ∙ const_ends 3 (symbol CLOSE_BRACKET ∷ later) (fixed close_bracket ∷ rest) (calm_close_bracket later) ∙ fixed_ends close_bracket later rest

counting_step : step counting_rest (symbol OPEN_BRACKET) ≡ taken (constant 3 ∷ fixed close_bracket ∷ [])
unfolding step fits is_symbol
counting_step = refl

counting_ends : (later : List Token) (rest : List Want) → run (symbol OPEN_BRACKET ∷ number ∷ symbol CLOSE_BRACKET ∷ later) (counting_rest ∷ rest) ≡ run later rest
counting_ends later rest =
    run_taken counting_rest rest (constant 3 ∷ fixed close_bracket ∷ []) (symbol OPEN_BRACKET) (number ∷ symbol CLOSE_BRACKET ∷ later) counting_step
    ∙ const_ends 3 (symbol CLOSE_BRACKET ∷ later) (fixed close_bracket ∷ rest) (calm_close_bracket later) ∙ fixed_ends close_bracket later rest

bracketed_step : step bracketed (symbol OPEN_BRACKET) ≡ taken (constant 3 ∷ fixed close_bracket ∷ [])
unfolding step fits is_symbol
bracketed_step = refl

bracketed_ends : (later : List Token) (rest : List Want) → run (symbol OPEN_BRACKET ∷ number ∷ symbol CLOSE_BRACKET ∷ later) (bracketed ∷ rest) ≡ run later rest
bracketed_ends later rest =
    run_taken bracketed rest (constant 3 ∷ fixed close_bracket ∷ []) (symbol OPEN_BRACKET) (number ∷ symbol CLOSE_BRACKET ∷ later) bracketed_step
    ∙ const_ends 3 (symbol CLOSE_BRACKET ∷ later) (fixed close_bracket ∷ rest) (calm_close_bracket later) ∙ fixed_ends close_bracket later rest

rest_step : step block_rest (symbol CLOSE_BRACE) ≡ taken []
unfolding step fits is_symbol
rest_step = refl

block_step : step block (symbol OPEN_BRACE) ≡ taken (block_rest ∷ [])
unfolding step fits is_symbol
block_step = refl

block_ends : (later : List Token) (rest : List Want) → run (symbol OPEN_BRACE ∷ symbol CLOSE_BRACE ∷ later) (block ∷ rest) ≡ run later rest
block_ends later rest =
    run_taken block rest (block_rest ∷ []) (symbol OPEN_BRACE) (symbol CLOSE_BRACE ∷ later) block_step ∙ run_taken block_rest rest [] (symbol CLOSE_BRACE) later rest_step

else_step : step otherwise (token_of (kinds.Word (codes "else"))) ≡ taken (block ∷ [])
unfolding step fits is_word text_of
else_step = refl

workers_step : step workers (token_of (kinds.Word (codes "workers"))) ≡ taken (fixed a_number ∷ fixed semicolon ∷ [])
unfolding step fits is_word text_of
workers_step = refl

name_step : step (expression 0) name_token ≡ taken (index ∷ [])
unfolding step expr_start fits is_word is_call is_symbol is_name text_of call_text words.is_keyword
name_step = refl

tail_pass : (level : ℕ) (later : List Token) (rest : List Want) → begins (operators level) later ≡ false → run later (expression_tail level ∷ rest) ≡ run later rest
tail_pass level later rest b =
    run_lets (expression_tail level) rest later refl (λ token others e. tail_passes level token (begins_head (operators level) later token others b e))

compare_step : (level : ℕ) → step (expression_tail (suc (suc (suc (suc (suc (suc (suc level)))))))) (symbol EQUALS) ≡ taken (expression (suc (suc (suc (suc (suc (suc level)))))) ∷ [])
unfolding step fits is_symbol
compare_step level = refl

-- the end of a level's operators
tail_ends : (level : ℕ) (later : List Token) (rest : List Want) → Calm later →
    ((more : List Token) (wants : List Want) → Calm more → run (expr_end level ++ more) (expression level ∷ wants) ≡ run more wants) →
    run (tail_end (operators (suc level)) (expr_end level) ++ later) (expression_tail (suc level) ∷ rest) ≡ run later rest
tail_ends zero later rest c h = tail_pass 1 later rest c.scaling
tail_ends (suc zero) later rest c h = tail_pass 2 later rest c.adding
tail_ends (suc (suc zero)) later rest c h = tail_pass 3 later rest c.shifting
tail_ends (suc (suc (suc zero))) later rest c h = tail_pass 4 later rest c.ands
tail_ends (suc (suc (suc (suc zero)))) later rest c h = tail_pass 5 later rest c.xors
tail_ends (suc (suc (suc (suc (suc zero))))) later rest c h = tail_pass 6 later rest c.ors
tail_ends (suc (suc (suc (suc (suc (suc level)))))) later rest c h =
    run_taken (expression_tail (suc (suc (suc (suc (suc (suc (suc level)))))))) rest (expression (suc (suc (suc (suc (suc (suc level)))))) ∷ []) (symbol EQUALS)
    (expr_end (suc (suc (suc (suc (suc (suc level)))))) ++ later) (compare_step level)
    ∙ h later rest c

calm_tail : (level : ℕ) (later : List Token) → Calm later → Calm (tail_end (operators (suc level)) (expr_end level) ++ later)
calm_tail zero later c = c
calm_tail (suc zero) later c = c
calm_tail (suc (suc zero)) later c = c
calm_tail (suc (suc (suc zero))) later c = c
calm_tail (suc (suc (suc (suc zero)))) later c = c
calm_tail (suc (suc (suc (suc (suc zero))))) later c = c
calm_tail (suc (suc (suc (suc (suc (suc level)))))) later c = calm_equals (expr_end (suc (suc (suc (suc (suc (suc level)))))) ++ later)

expr_ends : (level : ℕ) (later : List Token) (rest : List Want) → Calm later → run (expr_end level ++ later) (expression level ∷ rest) ≡ run later rest
expr_ends zero later rest c =
    run_taken (expression 0) rest (index ∷ []) name_token (symbol OPEN_BRACKET ∷ number ∷ symbol CLOSE_BRACKET ∷ later) name_step ∙ index_ends later rest
expr_ends (suc level) later rest c =
    ap (λ tokens. run tokens (expression (suc level) ∷ rest)) (append_assoc (expr_end level) (tail_end (operators (suc level)) (expr_end level)) later)
    ∙ expr_run_more level (expr_end level ++ (tail_end (operators (suc level)) (expr_end level) ++ later)) rest
    ∙ expr_ends level (tail_end (operators (suc level)) (expr_end level) ++ later) (expression_tail (suc level) ∷ rest) (calm_tail level later c)
    ∙ tail_ends level later rest c (λ more wants d. expr_ends level more wants d)

calm_expr : (level : ℕ) (later : List Token) → Calm (expr_end level ++ later)
calm_expr zero later = calm_word (codes "a") (symbol OPEN_BRACKET ∷ number ∷ symbol CLOSE_BRACKET ∷ later)
calm_expr (suc level) later =
    rw (append_assoc (expr_end level) (tail_end (operators (suc level)) (expr_end level)) later) (calm_expr level (tail_end (operators (suc level)) (expr_end level) ++ later))

one_tail : (level : ℕ) (later : List Token) (rest : List Want) → Calm later → run (tail_end (operators level) (expr_end (below level)) ++ later) (expression_tail level ∷ rest) ≡ run later rest
one_tail zero later rest c = tail_pass 0 later rest c.scaling
one_tail (suc level) later rest c = tail_ends level later rest c (λ more wants d. expr_ends level more wants d)

calm_one_tail : (level : ℕ) (later : List Token) → Calm later → Calm (tail_end (operators level) (expr_end (below level)) ++ later)
calm_one_tail zero later c = c
calm_one_tail (suc level) later c = calm_tail level later c

want_ends : (want : Want) (later : List Token) (rest : List Want) → Calm later → run (ending want ++ later) (want ∷ rest) ≡ run later rest
want_ends (fixed mark) later rest c = fixed_ends mark later rest
want_ends (constant level) later rest c = const_ends level later rest c
want_ends (constant_tail level) later rest c = const_tail_ends level later rest c
want_ends (expression level) later rest c = expr_ends level later rest c
want_ends (expression_tail level) later rest c = one_tail level later rest c
want_ends index later rest c = index_ends later rest
want_ends choosing_rest later rest c = choosing_ends later rest
want_ends counting_rest later rest c = counting_ends later rest
want_ends bracketed later rest c = bracketed_ends later rest
want_ends block later rest c = block_ends later rest
want_ends block_rest later rest c = run_taken block_rest rest [] (symbol CLOSE_BRACE) later rest_step
want_ends otherwise later rest c = run_taken otherwise rest (block ∷ []) (token_of (kinds.Word (codes "else"))) (symbol OPEN_BRACE ∷ symbol CLOSE_BRACE ∷ later) else_step ∙ block_ends later rest
want_ends workers later rest c =
    run_taken workers rest (fixed a_number ∷ fixed semicolon ∷ []) (token_of (kinds.Word (codes "workers"))) (number ∷ symbol SEMICOLON ∷ later) workers_step
    ∙ fixed_ends a_number (symbol SEMICOLON ∷ later) (fixed semicolon ∷ rest) ∙ fixed_ends semicolon later rest

calm_ending : (want : Want) (later : List Token) → Calm later → Calm (ending want ++ later)
calm_ending (fixed mark) later c = calm_mark mark later
calm_ending (constant level) later c = calm_number later
calm_ending (constant_tail level) later c = c
calm_ending (expression level) later c = calm_expr level later
calm_ending (expression_tail level) later c = calm_one_tail level later c
calm_ending index later c = calm_open_bracket (number ∷ symbol CLOSE_BRACKET ∷ later)
calm_ending choosing_rest later c = calm_open_bracket (number ∷ symbol CLOSE_BRACKET ∷ later)
calm_ending counting_rest later c = calm_open_bracket (number ∷ symbol CLOSE_BRACKET ∷ later)
calm_ending bracketed later c = calm_open_bracket (number ∷ symbol CLOSE_BRACKET ∷ later)
calm_ending block later c = calm_open_brace (symbol CLOSE_BRACE ∷ later)
calm_ending block_rest later c = calm_close_brace later
calm_ending otherwise later c = calm_word (codes "else") (symbol OPEN_BRACE ∷ symbol CLOSE_BRACE ∷ later)
calm_ending workers later c = calm_word (codes "workers") (number ∷ symbol SEMICOLON ∷ later)

abbrev pub endings : List Want → List Token
endings [] = []
endings (want ∷ rest) = ending want ++ endings rest

calm_all : (wants : List Want) → Calm (endings wants)
calm_all [] = calm_end
calm_all (want ∷ rest) = calm_ending want (endings rest) (calm_all rest)

-- whatever is wanted, some tokens end it
pub can_end : (wants : List Want) → run (endings wants) wants ≡ Ok tt
unfolding run ends
can_end [] = refl
can_end (want ∷ rest) = want_ends want (endings rest) rest (calm_all rest) ∙ can_end rest
