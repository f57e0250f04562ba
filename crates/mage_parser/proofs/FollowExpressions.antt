-- The machine follows the readers of expressions.
use Rattle.std.proofs.Common.{◌≡◌, ℕ, zero, suc, ◌≤◌, ◌<◌, Bool, true, false, List, [], ◌∷◌, length, refl, ap, sym, ◌∙◌, append_assoc, arith}
use Rattle.std.specs.Prelude.{Option, None, Some, Ok}
use Rattle.mage_lex.specs.Symbols.{OPEN_PAREN, OPEN_BRACKET, NOT}
use Rattle.mage_lex.specs.declared.token.Token.{Token}
use Rattle.mage_tree.specs.declared.class.Class.{Class}
use Rattle.mage_tree.specs.declared.class.Class.TheVariants as class
use Rattle.mage_tree.specs.declared.class.Keyword.TheVariants as keyword
use Rattle.mage_tree.specs.declared.tree.ConstExpr.{ConstExpr}
use Rattle.mage_tree.specs.declared.tree.Expr.{Expr}
use Rattle.mage_tree.specs.Classes.{fits}
use Rattle.mage_parser.specs.Reads.{Read, begins, operands}
use Rattle.mage_tree.specs.Grammar.{operators, is_listed}
use Rattle.mage_parser.specs.Constants.{const_in, const_at}
use Rattle.mage_parser.specs.Expressions.{bracketed as bracketed_at, index_at, item_at, lit_at, resize_at, mux_at, paren_at, not_at, place_at, choose_at, count_at, name_at, unary_at, chain_at, shift_at, compare_from, compare_at, level_at, expr_from, expr_in, expr_at}
use Rattle.mage_parser.proofs.Sound.{const_sound}
use Rattle.mage_parser.proofs.SoundExpressions.{expr_sound}
use Rattle.mage_parser.proofs.FullConstants.{const_shrinks}
use Rattle.mage_parser.proofs.FullExpressions.{choosing_named, counting_named, counting_apart, expr_shrinks}
use Rattle.mage_parser.proofs.Machine.{Want, constant, expression, expression_tail, index, choosing_rest, counting_rest, name_rest, bracketed, may_end, fixed, open_paren, close_paren, close_bracket, comma, a_type, taken, passed, refused, below, then_also, started, expr_start, tail_of, step, feed, moved, run, run_taken, run_end, run_short}
use Rattle.mage_parser.proofs.Follow.{Follows, goes_on, after, along, read_on, one_taken, after_taken, one_or_refused, one_fixed, after_fixed, decides, calls_decide}
use Rattle.mage_parser.proofs.FollowConstants.{run_lets, const_in_follows, const_follows}

index_taken : (token : Token) → fits (class.Symbol OPEN_BRACKET) token ≡ true → step index token ≡ taken (constant 3 ∷ fixed close_bracket ∷ [])
unfolding step
index_taken token a = rw a

index_passed : (token : Token) → fits (class.Symbol OPEN_BRACKET) token ≡ false → step index token ≡ passed
unfolding step
index_passed token a = rw a

bracket_taken : (token : Token) → fits (class.Symbol OPEN_BRACKET) token ≡ true → step bracketed token ≡ taken (constant 3 ∷ fixed close_bracket ∷ [])
unfolding step
bracket_taken token a = rw a

bracket_refused : (token : Token) → fits (class.Symbol OPEN_BRACKET) token ≡ false → step bracketed token ≡ refused
unfolding step
bracket_refused token a = rw a

pub bracketed_follows : (room : ℕ) (tokens : List Token) (rest : List Want) → Follows tokens (bracketed ∷ rest) (bracketed_at room tokens) after rest
unfolding bracketed_at
bracketed_follows room tokens rest =
    one_or_refused (class.Symbol OPEN_BRACKET) bracketed rest (constant 3 ∷ fixed close_bracket ∷ []) tokens _ _ _ refl
    (λ token others e a. bracket_taken token a) (λ token others e a. bracket_refused token a)
    (λ token others e a.
    read_on others (constant 3 ∷ fixed close_bracket ∷ rest) (fixed close_bracket ∷ rest) (const_in room 3 tokens) after _ _ _
    (const_in_follows room 3 tokens token others e (fixed close_bracket ∷ rest))
    (λ value v. after_fixed close_bracket rest value.1 _ _ _ (λ close_token last f shut. refl)))

bracket_as_index : (token : Token) → fits (class.Symbol OPEN_BRACKET) token ≡ true → step index token ≡ step bracketed token
bracket_as_index token a = index_taken token a ∙ sym (bracket_taken token a)

index_run : (tokens : List Token) (rest : List Want) (token : Token) (others : List Token) → tokens ≡ token ∷ others → fits (class.Symbol OPEN_BRACKET) token ≡ true →
    run tokens (index ∷ rest) ≡ run tokens (bracketed ∷ rest)
index_run tokens rest token others e a =
    rw e (run_taken index rest (constant 3 ∷ fixed close_bracket ∷ []) token others (index_taken token a)
    ∙ sym (run_taken bracketed rest (constant 3 ∷ fixed close_bracket ∷ []) token others (bracket_taken token a)))

pub index_follows : (room : ℕ) (tokens : List Token) (rest : List Want) → Follows tokens (index ∷ rest) (index_at room tokens) after rest
unfolding index_at
index_follows room tokens rest =
    decides (class.Symbol OPEN_BRACKET) tokens _ _ _ _ _
    (λ token others e a. along tokens tokens (index ∷ rest) (bracketed ∷ rest) _ _ _ (index_run tokens rest token others e a)
    (read_on tokens (bracketed ∷ rest) rest (bracketed_at room tokens) after _ _ _ (bracketed_follows room tokens rest) (λ value v. refl)))
    (λ none. run_lets index rest tokens refl (λ token others e. index_passed token (none token others e)))

-- what `deeper` reads behind the first token
abbrev FollowsIn : (ℕ → List Token → Read Expr) → Type 0
FollowsIn deeper = (level : ℕ) → level < 8 → (tokens : List Token) (token : Token) (others : List Token) → tokens ≡ token ∷ others → (rest : List Want) →
    Follows others (expression level ∷ rest) (deeper level tokens) after rest

seven : 7 < 8
seven = omega arith

nothing : 0 < 8
nothing = omega arith

start_not : (token : Token) → fits (class.Symbol NOT) token ≡ true → step (expression 0) token ≡ taken (expression 0 ∷ [])
unfolding step expr_start
start_not token a = rw a

start_name : (token : Token) → fits (class.Symbol NOT) token ≡ false → fits class.Name token ≡ true →
    step (expression 0) token ≡ taken (name_rest (fits class.Choosing token) (fits class.Counting token) ∷ [])
unfolding step expr_start
start_name token a b = rw (a, b)

start_choosing : (token : Token) → fits (class.Symbol NOT) token ≡ false → fits class.Choosing token ≡ true → step (expression 0) token ≡ taken (choosing_rest ∷ [])
start_choosing token a c = start_name token a (choosing_named token c) ∙ ap (λ b. taken (name_rest b (fits class.Counting token) ∷ [])) c

start_counting : (token : Token) → fits (class.Symbol NOT) token ≡ false → fits class.Counting token ≡ true → step (expression 0) token ≡ taken (counting_rest ∷ [])
start_counting token a c =
    start_name token a (counting_named token c) ∙ ap (λ b. taken (name_rest b (fits class.Counting token) ∷ [])) (counting_apart token c)
    ∙ ap (λ b. taken (name_rest false b ∷ [])) c

start_lit : (token : Token) → fits (class.Symbol NOT) token ≡ false → fits class.Name token ≡ false → fits (class.Word keyword.Lit) token ≡ true →
    step (expression 0) token ≡ taken (fixed a_type ∷ fixed open_paren ∷ constant 3 ∷ fixed close_paren ∷ [])
unfolding step expr_start
start_lit token a b c = rw (a, b, c)

start_resize : (token : Token) → fits (class.Symbol NOT) token ≡ false → fits class.Name token ≡ false → fits (class.Word keyword.Lit) token ≡ false → fits (class.Word keyword.Resize) token ≡ true →
    step (expression 0) token ≡ taken (fixed a_type ∷ fixed open_paren ∷ expression 7 ∷ fixed close_paren ∷ [])
unfolding step expr_start
start_resize token a b c d = rw (a, b, c, d)

start_mux : (token : Token) → fits (class.Symbol NOT) token ≡ false → fits class.Name token ≡ false → fits (class.Word keyword.Lit) token ≡ false → fits (class.Word keyword.Resize) token ≡ false → fits (class.Word keyword.Mux) token ≡ true →
    step (expression 0) token ≡ taken (fixed open_paren ∷ expression 7 ∷ fixed comma ∷ expression 7 ∷ fixed comma ∷ expression 7 ∷ fixed close_paren ∷ [])
unfolding step expr_start
start_mux token a b c d f = rw (a, b, c, d, f)

start_paren : (token : Token) → fits (class.Symbol NOT) token ≡ false → fits class.Name token ≡ false → fits (class.Word keyword.Lit) token ≡ false → fits (class.Word keyword.Resize) token ≡ false → fits (class.Word keyword.Mux) token ≡ false → fits (class.Symbol OPEN_PAREN) token ≡ true →
    step (expression 0) token ≡ taken (expression 7 ∷ fixed close_paren ∷ [])
unfolding step expr_start
start_paren token a b c d f g = rw (a, b, c, d, f, g)

start_none : (token : Token) → fits (class.Symbol NOT) token ≡ false → fits class.Name token ≡ false → fits (class.Word keyword.Lit) token ≡ false → fits (class.Word keyword.Resize) token ≡ false → fits (class.Word keyword.Mux) token ≡ false → fits (class.Symbol OPEN_PAREN) token ≡ false →
    step (expression 0) token ≡ refused
unfolding step expr_start
start_none token a b c d f g = rw (a, b, c, d, f, g)

not_follows : (deeper : ℕ → List Token → Read Expr) → FollowsIn deeper → (tokens : List Token) (rest : List Want) (token : Token) (others : List Token) → tokens ≡ token ∷ others →
    fits (class.Symbol NOT) token ≡ true → Follows tokens (expression 0 ∷ rest) (not_at deeper tokens) after rest
unfolding not_at
not_follows deeper deep tokens rest token others e a =
    one_taken (class.Symbol NOT) (expression 0) rest (expression 0 ∷ []) tokens token others _ _ _ e a (start_not token a)
    (read_on others (expression 0 ∷ rest) rest (deeper 0 tokens) after _ _ _ (deep 0 nothing tokens token others e rest) (λ operand i. refl))

-- a name and its index, where the machine wants behind the name what `want` says
item_behind : (room : ℕ) (tokens : List Token) (rest : List Want) (token : Token) (others : List Token) (want : Want) → tokens ≡ token ∷ others → fits class.Name token ≡ true →
    step (expression 0) token ≡ taken (want ∷ []) → Follows others (want ∷ rest) (index_at room others) after rest → Follows tokens (expression 0 ∷ rest) (item_at room tokens) after rest
unfolding item_at
item_behind room tokens rest token others want e b s h =
    one_taken class.Name (expression 0) rest (want ∷ []) tokens token others _ _ _ e b s
    (read_on others (want ∷ rest) rest (index_at room others) after _ _ _ h (λ found i. refl))

place_follows : (room : ℕ) (tokens : List Token) (rest : List Want) (token : Token) (others : List Token) (want : Want) → tokens ≡ token ∷ others → fits class.Name token ≡ true →
    step (expression 0) token ≡ taken (want ∷ []) → Follows others (want ∷ rest) (index_at room others) after rest → Follows tokens (expression 0 ∷ rest) (place_at room tokens) after rest
unfolding place_at
place_follows room tokens rest token others want e b s h =
    read_on tokens (expression 0 ∷ rest) rest (item_at room tokens) after _ _ _ (item_behind room tokens rest token others want e b s h) (λ item i. refl)

-- behind a call's word that no `(` follows the machine moves as behind a name
rest_run : (want : Want) (tokens : List Token) (rest : List Want) → may_end want ≡ true →
    ((token : Token) → fits (class.Symbol OPEN_PAREN) token ≡ false → step want token ≡ step index token) → begins (class.Symbol OPEN_PAREN) tokens ≡ false →
    run tokens (want ∷ rest) ≡ run tokens (index ∷ rest)
unfolding run feed begins
rest_run want [] rest m alike b = run_end want rest m ∙ sym (run_end index rest refl)
rest_run want (token ∷ others) rest m alike b = rw (alike token b) refl

choosing_alike : (token : Token) → fits (class.Symbol OPEN_PAREN) token ≡ false → step choosing_rest token ≡ step index token
unfolding step
choosing_alike token b = rw b refl

counting_alike : (token : Token) → fits (class.Symbol OPEN_PAREN) token ≡ false → step counting_rest token ≡ step index token
unfolding step
counting_alike token b = rw b refl

rest_follows : (room : ℕ) (others : List Token) (rest : List Want) (choosing counting : Bool) → (choosing ≡ true → begins (class.Symbol OPEN_PAREN) others ≡ false) →
    (counting ≡ true → begins (class.Symbol OPEN_PAREN) others ≡ false) → Follows others (name_rest choosing counting ∷ rest) (index_at room others) after rest
rest_follows room others rest true counting a b =
    along others others (choosing_rest ∷ rest) (index ∷ rest) _ _ _ (rest_run choosing_rest others rest refl choosing_alike (a refl)) (index_follows room others rest)
rest_follows room others rest false true a b =
    along others others (counting_rest ∷ rest) (index ∷ rest) _ _ _ (rest_run counting_rest others rest refl counting_alike (b refl)) (index_follows room others rest)
rest_follows room others rest false false a b = index_follows room others rest

choosing_opens : (token : Token) → fits (class.Symbol OPEN_PAREN) token ≡ true → step choosing_rest token ≡ taken (expression 7 ∷ fixed comma ∷ expression 7 ∷ fixed close_paren ∷ [])
unfolding step
choosing_opens token a = rw a

counting_opens : (token : Token) → fits (class.Symbol OPEN_PAREN) token ≡ true → step counting_rest token ≡ taken (expression 7 ∷ fixed close_paren ∷ [])
unfolding step
counting_opens token a = rw a

choose_follows : (deeper : ℕ → List Token → Read Expr) → FollowsIn deeper → (tokens : List Token) (rest : List Want) (word bracket : Token) (others : List Token) → tokens ≡ word ∷ bracket ∷ others →
    fits class.Choosing word ≡ true → fits (class.Symbol OPEN_PAREN) bracket ≡ true → step (expression 0) word ≡ taken (choosing_rest ∷ []) → Follows tokens (expression 0 ∷ rest) (choose_at deeper tokens) after rest
unfolding choose_at
choose_follows deeper deep tokens rest word bracket others e c o s =
    one_taken class.Choosing (expression 0) rest (choosing_rest ∷ []) tokens word (bracket ∷ others) _ _ _ e c s
    (after_taken (class.Symbol OPEN_PAREN) choosing_rest rest (expression 7 ∷ fixed comma ∷ expression 7 ∷ fixed close_paren ∷ []) (bracket ∷ others) bracket others _ _ _ refl o (choosing_opens bracket o)
    (read_on others (expression 7 ∷ fixed comma ∷ expression 7 ∷ fixed close_paren ∷ rest) (fixed comma ∷ expression 7 ∷ fixed close_paren ∷ rest) (deeper 7 (bracket ∷ others)) after _ _ _
    (deep 7 seven (bracket ∷ others) bracket others refl (fixed comma ∷ expression 7 ∷ fixed close_paren ∷ rest))
    (λ first p. after_fixed comma (expression 7 ∷ fixed close_paren ∷ rest) first.1 _ _ _ (λ sign r4 e4 i4.
    read_on r4 (expression 7 ∷ fixed close_paren ∷ rest) (fixed close_paren ∷ rest) (deeper 7 first.1) after _ _ _
    (deep 7 seven first.1 sign r4 e4 (fixed close_paren ∷ rest))
    (λ second q. after_fixed close_paren rest second.1 _ _ _ (λ close_token last f shut. refl))))))

count_follows : (deeper : ℕ → List Token → Read Expr) → FollowsIn deeper → (tokens : List Token) (rest : List Want) (word bracket : Token) (others : List Token) → tokens ≡ word ∷ bracket ∷ others →
    fits class.Counting word ≡ true → fits (class.Symbol OPEN_PAREN) bracket ≡ true → step (expression 0) word ≡ taken (counting_rest ∷ []) → Follows tokens (expression 0 ∷ rest) (count_at deeper tokens) after rest
unfolding count_at
count_follows deeper deep tokens rest word bracket others e c o s =
    one_taken class.Counting (expression 0) rest (counting_rest ∷ []) tokens word (bracket ∷ others) _ _ _ e c s
    (after_taken (class.Symbol OPEN_PAREN) counting_rest rest (expression 7 ∷ fixed close_paren ∷ []) (bracket ∷ others) bracket others _ _ _ refl o (counting_opens bracket o)
    (read_on others (expression 7 ∷ fixed close_paren ∷ rest) (fixed close_paren ∷ rest) (deeper 7 (bracket ∷ others)) after _ _ _
    (deep 7 seven (bracket ∷ others) bracket others refl (fixed close_paren ∷ rest))
    (λ operand p. after_fixed close_paren rest operand.1 _ _ _ (λ close_token last f shut. refl))))

-- what begins with a name
name_follows : (deeper : ℕ → List Token → Read Expr) → FollowsIn deeper → (room : ℕ) (tokens : List Token) (rest : List Want) (token : Token) (others : List Token) → tokens ≡ token ∷ others →
    ((first : Token) (more : List Token) → tokens ≡ first ∷ more → fits (class.Symbol NOT) first ≡ false) → fits class.Name token ≡ true → Follows tokens (expression 0 ∷ rest) (name_at deeper room tokens) after rest
unfolding name_at
name_follows deeper deep room tokens rest token others e n is =
    calls_decide class.Choosing tokens _ _ _ _ _
    (λ word bracket more d c o. choose_follows deeper deep tokens rest word bracket more d c o (start_choosing word (n word (bracket ∷ more) d) c)) (λ no_choice.
    calls_decide class.Counting tokens _ _ _ _ _
    (λ word bracket more d c o. count_follows deeper deep tokens rest word bracket more d c o (start_counting word (n word (bracket ∷ more) d) c)) (λ no_count.
    place_follows room tokens rest token others (name_rest (fits class.Choosing token) (fits class.Counting token)) e is (start_name token (n token others e) is)
    (rest_follows room others rest (fits class.Choosing token) (fits class.Counting token) (λ c. no_choice token others e c) (λ c. no_count token others e c))))

lit_follows : (room : ℕ) (tokens : List Token) (rest : List Want) (token : Token) (others : List Token) → tokens ≡ token ∷ others → fits (class.Word keyword.Lit) token ≡ true →
    step (expression 0) token ≡ taken (fixed a_type ∷ fixed open_paren ∷ constant 3 ∷ fixed close_paren ∷ []) → Follows tokens (expression 0 ∷ rest) (lit_at room tokens) after rest
unfolding lit_at
lit_follows room tokens rest token others e c s =
    one_taken (class.Word keyword.Lit) (expression 0) rest (fixed a_type ∷ fixed open_paren ∷ constant 3 ∷ fixed close_paren ∷ []) tokens token others _ _ _ e c s
    (one_fixed a_type (fixed open_paren ∷ constant 3 ∷ fixed close_paren ∷ rest) others _ _ _ (λ ty r2 e2 i2.
    after_fixed open_paren (constant 3 ∷ fixed close_paren ∷ rest) r2 _ _ _ (λ bracket r3 e3 i3.
    read_on r3 (constant 3 ∷ fixed close_paren ∷ rest) (fixed close_paren ∷ rest) (const_in room 3 r2) after _ _ _
    (const_in_follows room 3 r2 bracket r3 e3 (fixed close_paren ∷ rest))
    (λ value v. after_fixed close_paren rest value.1 _ _ _ (λ close_token last f shut. refl)))))

resize_follows : (deeper : ℕ → List Token → Read Expr) → FollowsIn deeper → (tokens : List Token) (rest : List Want) (token : Token) (others : List Token) → tokens ≡ token ∷ others → fits (class.Word keyword.Resize) token ≡ true →
    step (expression 0) token ≡ taken (fixed a_type ∷ fixed open_paren ∷ expression 7 ∷ fixed close_paren ∷ []) → Follows tokens (expression 0 ∷ rest) (resize_at deeper tokens) after rest
unfolding resize_at
resize_follows deeper deep tokens rest token others e c s =
    one_taken (class.Word keyword.Resize) (expression 0) rest (fixed a_type ∷ fixed open_paren ∷ expression 7 ∷ fixed close_paren ∷ []) tokens token others _ _ _ e c s
    (one_fixed a_type (fixed open_paren ∷ expression 7 ∷ fixed close_paren ∷ rest) others _ _ _ (λ ty r2 e2 i2.
    after_fixed open_paren (expression 7 ∷ fixed close_paren ∷ rest) r2 _ _ _ (λ bracket r3 e3 i3.
    read_on r3 (expression 7 ∷ fixed close_paren ∷ rest) (fixed close_paren ∷ rest) (deeper 7 r2) after _ _ _
    (deep 7 seven r2 bracket r3 e3 (fixed close_paren ∷ rest))
    (λ value v. after_fixed close_paren rest value.1 _ _ _ (λ close_token last f shut. refl)))))

mux_follows : (deeper : ℕ → List Token → Read Expr) → FollowsIn deeper → (tokens : List Token) (rest : List Want) (token : Token) (others : List Token) → tokens ≡ token ∷ others → fits (class.Word keyword.Mux) token ≡ true →
    step (expression 0) token ≡ taken (fixed open_paren ∷ expression 7 ∷ fixed comma ∷ expression 7 ∷ fixed comma ∷ expression 7 ∷ fixed close_paren ∷ []) → Follows tokens (expression 0 ∷ rest) (mux_at deeper tokens) after rest
unfolding mux_at
mux_follows deeper deep tokens rest token others e c s =
    one_taken (class.Word keyword.Mux) (expression 0) rest (fixed open_paren ∷ expression 7 ∷ fixed comma ∷ expression 7 ∷ fixed comma ∷ expression 7 ∷ fixed close_paren ∷ []) tokens token others _ _ _ e c s
    (after_fixed open_paren (expression 7 ∷ fixed comma ∷ expression 7 ∷ fixed comma ∷ expression 7 ∷ fixed close_paren ∷ rest) others _ _ _ (λ bracket r3 e3 i3.
    read_on r3 (expression 7 ∷ fixed comma ∷ expression 7 ∷ fixed comma ∷ expression 7 ∷ fixed close_paren ∷ rest) (fixed comma ∷ expression 7 ∷ fixed comma ∷ expression 7 ∷ fixed close_paren ∷ rest) (deeper 7 others) after _ _ _
    (deep 7 seven others bracket r3 e3 (fixed comma ∷ expression 7 ∷ fixed comma ∷ expression 7 ∷ fixed close_paren ∷ rest))
    (λ condition p. after_fixed comma (expression 7 ∷ fixed comma ∷ expression 7 ∷ fixed close_paren ∷ rest) condition.1 _ _ _ (λ first_comma r4 e4 i4.
    read_on r4 (expression 7 ∷ fixed comma ∷ expression 7 ∷ fixed close_paren ∷ rest) (fixed comma ∷ expression 7 ∷ fixed close_paren ∷ rest) (deeper 7 condition.1) after _ _ _
    (deep 7 seven condition.1 first_comma r4 e4 (fixed comma ∷ expression 7 ∷ fixed close_paren ∷ rest))
    (λ chosen q. after_fixed comma (expression 7 ∷ fixed close_paren ∷ rest) chosen.1 _ _ _ (λ second_comma r5 e5 i5.
    read_on r5 (expression 7 ∷ fixed close_paren ∷ rest) (fixed close_paren ∷ rest) (deeper 7 chosen.1) after _ _ _
    (deep 7 seven chosen.1 second_comma r5 e5 (fixed close_paren ∷ rest))
    (λ other o. after_fixed close_paren rest other.1 _ _ _ (λ close_token last f shut. refl))))))))

unary_follows : (deeper : ℕ → List Token → Read Expr) → FollowsIn deeper → (room : ℕ) (tokens : List Token) (rest : List Want) →
    Follows tokens (expression 0 ∷ rest) (unary_at deeper room tokens) after rest
unfolding unary_at paren_at
unary_follows deeper deep room tokens rest =
    decides (class.Symbol NOT) tokens _ _ _ _ _ (λ token others e a. not_follows deeper deep tokens rest token others e a) (λ n1.
    decides class.Name tokens _ _ _ _ _ (λ token others e a. name_follows deeper deep room tokens rest token others e n1 a) (λ n2.
    decides (class.Word keyword.Lit) tokens _ _ _ _ _ (λ token others e a. lit_follows room tokens rest token others e a (start_lit token (n1 token others e) (n2 token others e) a)) (λ n3.
    decides (class.Word keyword.Resize) tokens _ _ _ _ _ (λ token others e a. resize_follows deeper deep tokens rest token others e a (start_resize token (n1 token others e) (n2 token others e) (n3 token others e) a)) (λ n4.
    decides (class.Word keyword.Mux) tokens _ _ _ _ _ (λ token others e a. mux_follows deeper deep tokens rest token others e a (start_mux token (n1 token others e) (n2 token others e) (n3 token others e) (n4 token others e) a)) (λ n5.
    one_or_refused (class.Symbol OPEN_PAREN) (expression 0) rest (expression 7 ∷ fixed close_paren ∷ []) tokens _ _ _ refl
    (λ token others e a. start_paren token (n1 token others e) (n2 token others e) (n3 token others e) (n4 token others e) (n5 token others e) a)
    (λ token others e a. start_none token (n1 token others e) (n2 token others e) (n3 token others e) (n4 token others e) (n5 token others e) a)
    (λ token others e a.
    read_on others (expression 7 ∷ fixed close_paren ∷ rest) (fixed close_paren ∷ rest) (deeper 7 tokens) after _ _ _
    (deep 7 seven tokens token others e (fixed close_paren ∷ rest))
    (λ inner i. after_fixed close_paren rest inner.1 _ _ _ (λ close_token last f shut. refl))))))))

-- a reader of a level, which shortens what it reads
record Operand (level : ℕ) (operand : List Token → Read Expr) : Type 0 where
  follows : (tokens : List Token) (rest : List Want) → Follows tokens (expression level ∷ rest) (operand tokens) after rest
  shrinks : (tokens : List Token) (x : Expr × List Token) → operand tokens ≡ Ok x → length x.1 ≤ length tokens

tail_taken : (level : ℕ) (token : Token) → fits (operators level) token ≡ true → step (expression_tail level) token ≡ taken (tail_of (operators level) level)
unfolding step
tail_taken level token a = rw a

pub tail_passes : (level : ℕ) (token : Token) → fits (operators level) token ≡ false → step (expression_tail level) token ≡ passed
unfolding step
tail_passes level token a = rw a

listed_tail : (c : Class) (level : ℕ) → is_listed c ≡ true → tail_of c level ≡ expression (below level) ∷ expression_tail level ∷ []
listed_tail (class.Word word) level h = refl
listed_tail (class.Symbol row) level h = refl
listed_tail class.Number level h = refl
listed_tail class.Name level h = refl
listed_tail class.Type level h = refl
listed_tail class.Party level h = refl
listed_tail class.Choosing level h = refl
listed_tail class.Counting level h = refl
listed_tail class.Adding level h = refl
listed_tail class.Scaling level h = refl
listed_tail class.Shifting level h = absurd (cc)
listed_tail class.Comparing level h = absurd (cc)

exprs_follow : (level : ℕ) (operand : List Token → Read Expr) → is_listed (operators (suc level)) ≡ true → Operand level operand →
    (most : ℕ) (tokens : List Token) → length tokens ≤ most → (rest : List Want) →
    Follows tokens (expression_tail (suc level) ∷ rest) (operands operand (operators (suc level)) most tokens) after rest
unfolding operands
exprs_follow level operand listed good zero [] m rest = run_end (expression_tail (suc level)) rest refl
exprs_follow level operand listed good zero (token ∷ others) m rest = absurd (omega arith)
exprs_follow level operand listed good (suc most) tokens m rest =
    decides (operators (suc level)) tokens _ _ _ _ _
    (λ token others e a.
    one_taken (operators (suc level)) (expression_tail (suc level)) rest (expression level ∷ expression_tail (suc level) ∷ []) tokens token others _ _ _ e a
    (tail_taken (suc level) token a ∙ ap taken (listed_tail (operators (suc level)) (suc level) listed))
    (read_on others (expression level ∷ expression_tail (suc level) ∷ rest) (expression_tail (suc level) ∷ rest) (operand others) after _ _ _
    (good.follows others (expression_tail (suc level) ∷ rest))
    (λ value v. read_on value.1 (expression_tail (suc level) ∷ rest) rest (operands operand (operators (suc level)) most value.1) after _ _ _
    (exprs_follow level operand listed good most value.1 (let k = good.shrinks others value v in let l = ap length e in omega (arith, k, l)) rest)
    (λ more i. refl))))
    (λ none. run_lets (expression_tail (suc level)) rest tokens refl (λ token others e. tail_passes (suc level) token (none token others e)))

const_shorter : (room level : ℕ) (tokens : List Token) (x : ConstExpr × List Token) → const_at room level tokens ≡ Ok x → length x.1 ≤ length tokens
const_shorter room level tokens x e = const_shrinks (rw e at (const_sound room level tokens))

amounts_follow : (room most : ℕ) (tokens : List Token) → length tokens ≤ most → (rest : List Want) →
    Follows tokens (expression_tail 3 ∷ rest) (operands (const_at room 0) class.Shifting most tokens) after rest
unfolding operands
amounts_follow room zero [] m rest = run_end (expression_tail 3) rest refl
amounts_follow room zero (token ∷ others) m rest = absurd (omega arith)
amounts_follow room (suc most) tokens m rest =
    decides class.Shifting tokens _ _ _ _ _
    (λ token others e a.
    one_taken class.Shifting (expression_tail 3) rest (constant 0 ∷ expression_tail 3 ∷ []) tokens token others _ _ _ e a (tail_taken 3 token a)
    (read_on others (constant 0 ∷ expression_tail 3 ∷ rest) (expression_tail 3 ∷ rest) (const_at room 0 others) after _ _ _
    (const_follows room 0 others (expression_tail 3 ∷ rest))
    (λ value v. read_on value.1 (expression_tail 3 ∷ rest) rest (operands (const_at room 0) class.Shifting most value.1) after _ _ _
    (amounts_follow room most value.1 (let k = const_shorter room 0 others value v in let l = ap length e in omega (arith, k, l)) rest)
    (λ more i. refl))))
    (λ none. run_lets (expression_tail 3) rest tokens refl (λ token others e. tail_passes 3 token (none token others e)))

start_more : (level : ℕ) (token : Token) → step (expression (suc level)) token ≡ started (then_also (expr_start level token) (expression_tail (suc level)))
unfolding step expr_start
start_more level token = refl

start_is : (level : ℕ) (token : Token) → step (expression level) token ≡ started (expr_start level token)
unfolding step
start_is level token = refl

also : (wants : Option (List Want)) (want : Want) (rest : List Want) (other more : Option (List Want)) → moved (started (then_also wants want)) rest other ≡ moved (started wants) (want ∷ rest) more
also None want rest other more = refl
also (Some wants) want rest other more = ap Some (append_assoc wants (want ∷ []) rest)

pub expr_run_more : (level : ℕ) (tokens : List Token) (rest : List Want) → run tokens (expression (suc level) ∷ rest) ≡ run tokens (expression level ∷ expression_tail (suc level) ∷ rest)
unfolding run feed
expr_run_more level [] rest = run_short (expression (suc level)) rest refl ∙ sym (run_short (expression level) (expression_tail (suc level) ∷ rest) refl)
expr_run_more level (token ∷ others) rest =
    rw (
      start_more level token,
      start_is level token,
      also (expr_start level token) (expression_tail (suc level)) rest (feed rest token) (feed (expression_tail (suc level) ∷ rest) token),
    )

chain_follows : (level : ℕ) (operand : List Token → Read Expr) → is_listed (operators (suc level)) ≡ true → Operand level operand → (tokens : List Token) (rest : List Want) →
    Follows tokens (expression (suc level) ∷ rest) (chain_at operand (operators (suc level)) tokens) after rest
unfolding chain_at
chain_follows level operand listed good tokens rest =
    along tokens tokens (expression (suc level) ∷ rest) (expression level ∷ expression_tail (suc level) ∷ rest) _ _ _ (expr_run_more level tokens rest)
    (read_on tokens (expression level ∷ expression_tail (suc level) ∷ rest) (expression_tail (suc level) ∷ rest) (operand tokens) after _ _ _
    (good.follows tokens (expression_tail (suc level) ∷ rest))
    (λ first f. read_on first.1 (expression_tail (suc level) ∷ rest) rest (operands operand (operators (suc level)) (length first.1) first.1) after _ _ _
    (exprs_follow level operand listed good (length first.1) first.1 (omega arith) rest) (λ more i. refl)))

shift_follows : (room : ℕ) (operand : List Token → Read Expr) → Operand 2 operand → (tokens : List Token) (rest : List Want) →
    Follows tokens (expression 3 ∷ rest) (shift_at operand room tokens) after rest
unfolding shift_at
shift_follows room operand good tokens rest =
    along tokens tokens (expression 3 ∷ rest) (expression 2 ∷ expression_tail 3 ∷ rest) _ _ _ (expr_run_more 2 tokens rest)
    (read_on tokens (expression 2 ∷ expression_tail 3 ∷ rest) (expression_tail 3 ∷ rest) (operand tokens) after _ _ _
    (good.follows tokens (expression_tail 3 ∷ rest))
    (λ first f. read_on first.1 (expression_tail 3 ∷ rest) rest (operands (const_at room 0) class.Shifting (length first.1) first.1) after _ _ _
    (amounts_follow room (length first.1) first.1 (omega arith) rest) (λ more i. refl)))

compare_from_follows : (operand : List Token → Read Expr) → Operand 6 operand → (first : Expr) (tokens : List Token) (rest : List Want) →
    Follows tokens (expression_tail 7 ∷ rest) (compare_from operand first tokens) after rest
unfolding compare_from
compare_from_follows operand good first tokens rest =
    decides class.Comparing tokens _ _ _ _ _
    (λ token others e a.
    one_taken class.Comparing (expression_tail 7) rest (expression 6 ∷ []) tokens token others _ _ _ e a (tail_taken 7 token a)
    (read_on others (expression 6 ∷ rest) rest (operand others) after _ _ _ (good.follows others rest) (λ second s. refl)))
    (λ none. run_lets (expression_tail 7) rest tokens refl (λ token others e. tail_passes 7 token (none token others e)))

compare_follows : (operand : List Token → Read Expr) → Operand 6 operand → (tokens : List Token) (rest : List Want) →
    Follows tokens (expression 7 ∷ rest) (compare_at operand tokens) after rest
unfolding compare_at
compare_follows operand good tokens rest =
    along tokens tokens (expression 7 ∷ rest) (expression 6 ∷ expression_tail 7 ∷ rest) _ _ _ (expr_run_more 6 tokens rest)
    (read_on tokens (expression 6 ∷ expression_tail 7 ∷ rest) (expression_tail 7 ∷ rest) (operand tokens) after _ _ _
    (good.follows tokens (expression_tail 7 ∷ rest))
    (λ first f. compare_from_follows operand good first.0 first.1 rest))

level_follows : (level room : ℕ) → level < 7 → (operand : List Token → Read Expr) → Operand level operand → (tokens : List Token) (rest : List Want) →
    Follows tokens (expression (suc level) ∷ rest) (level_at (operators (suc level)) operand room tokens) after rest
level_follows zero room h operand good tokens rest = chain_follows 0 operand refl good tokens rest
level_follows (suc zero) room h operand good tokens rest = chain_follows 1 operand refl good tokens rest
level_follows (suc (suc zero)) room h operand good tokens rest = shift_follows room operand good tokens rest
level_follows (suc (suc (suc zero))) room h operand good tokens rest = chain_follows 3 operand refl good tokens rest
level_follows (suc (suc (suc (suc zero)))) room h operand good tokens rest = chain_follows 4 operand refl good tokens rest
level_follows (suc (suc (suc (suc (suc zero))))) room h operand good tokens rest = chain_follows 5 operand refl good tokens rest
level_follows (suc (suc (suc (suc (suc (suc zero)))))) room h operand good tokens rest = compare_follows operand good tokens rest
level_follows (suc (suc (suc (suc (suc (suc (suc level))))))) room h operand good tokens rest = absurd (omega arith)

at_shrinks : (room level : ℕ) → level < 8 → (tokens : List Token) (x : Expr × List Token) → expr_at room level tokens ≡ Ok x → length x.1 ≤ length tokens
at_shrinks room level h tokens x e = expr_shrinks (rw e at (expr_sound room level h tokens))

from_shrinks : (room level : ℕ) → level < 8 → (tokens : List Token) (x : Expr × List Token) → expr_from (expr_in room) room level tokens ≡ Ok x → length x.1 ≤ length tokens
unfolding expr_at
from_shrinks room level h tokens x e = at_shrinks room level h tokens x e

from_follows : (room : ℕ) → FollowsIn (expr_in room) → (level : ℕ) → level < 8 → (tokens : List Token) (rest : List Want) →
    Follows tokens (expression level ∷ rest) (expr_from (expr_in room) room level tokens) after rest
unfolding expr_from
from_follows room deep zero h tokens rest = unary_follows (expr_in room) deep room tokens rest
from_follows room deep (suc level) h tokens rest =
    level_follows level room (omega arith) (expr_from (expr_in room) room level)
    (record { follows = λ others later. from_follows room deep level (omega arith) others later; shrinks = λ others x e. from_shrinks room level (omega arith) others x e })
    tokens rest

pub expr_in_follows : (room : ℕ) → FollowsIn (expr_in room)
unfolding expr_in
expr_in_follows zero level h tokens token others e rest = goes_on tokens token others (expression level ∷ rest) e
expr_in_follows (suc room) level h tokens token others e rest = rw e (from_follows room (expr_in_follows room) level h others rest)

pub expr_follows : (room level : ℕ) → level < 8 → (tokens : List Token) (rest : List Want) → Follows tokens (expression level ∷ rest) (expr_at room level tokens) after rest
unfolding expr_at
expr_follows room level h tokens rest = from_follows room (expr_in_follows room) level h tokens rest
