-- An expression of the grammar is read, whatever follows that doesn't continue it.
use Rattle.std.proofs.Common.{◌≡◌, ℕ, zero, suc, ◌≤◌, ◌<◌, Bool, true, false, ◌&&◌, List, [], ◌∷◌, length, refl, ap, sym, ◌∙◌, arith}
use Rattle.std.specs.Prelude.{Option, None, Some, Ok}
use Rattle.mage_lex.specs.Symbols.{SEMICOLON, COMMA, OPEN_PAREN, CLOSE_PAREN, OPEN_BRACKET, CLOSE_BRACKET, AND, XOR, OR, NOT}
use Rattle.mage_lex.specs.declared.token.Token.{Token}
use Rattle.mage_lex.specs.declared.token.TokenKind.TheVariants as kinds
use Rattle.mage_lex.specs.Words as words
use Rattle.mage_tree.specs.declared.class.Class.{Class}
use Rattle.mage_tree.specs.declared.class.Class.TheVariants as class
use Rattle.mage_tree.specs.declared.class.Keyword.{Keyword}
use Rattle.mage_tree.specs.declared.class.Keyword.TheVariants as keyword
use Rattle.mage_tree.specs.declared.class.Callable.TheVariants as callable
use Rattle.mage_tree.specs.declared.tree.ConstExpr.{ConstExpr}
use Rattle.mage_tree.specs.declared.tree.Expr.{Expr}
use Rattle.mage_tree.specs.declared.tree.Expr.TheVariants as expr
use Rattle.mage_tree.specs.declared.tree.Item.{Item}
use Rattle.mage_tree.specs.Classes.{text_of, call_text, fits}
use Rattle.mage_parser.specs.Reads.{Read, begins, calls, operands}
use Rattle.mage_tree.specs.Grammar.{Is, IsIndex, IsItem, AreAmounts, IsExpr, AreExprs, operators, is_listed, item_of}
use Rattle.mage_parser.specs.Constants.{const_at}
use Rattle.mage_parser.specs.Expressions.{bracketed, index_at, item_at, lit_at, resize_at, mux_at, paren_at, not_at, place_at, choose_at, count_at, name_at, unary_at, chain_at, shift_at, compare_from, compare_at, level_at, expr_from, expr_in, expr_at}
use Rattle.mage_tree.proofs.Apart.{Kinds, apart, by_kind, each_kind, fits_kind, name_apart}
use Rattle.mage_parser.proofs.Fronts.{operands_none}
use Rattle.mage_parser.proofs.FullConstants.{begins_is, begins_not, one_is, after_is, ConstEnds, const_full, const_shrinks, const_in_is, operands_step}

-- what follows doesn't continue an expression of this level
abbrev pub ExprEnds : ℕ → List Token → Type 0
ExprEnds zero after = (begins (class.Symbol OPEN_BRACKET) after ≡ false) × (begins (class.Symbol OPEN_PAREN) after ≡ false)
ExprEnds (suc level) after = ExprEnds level after × (begins (operators (suc level)) after ≡ false)

lower_ends : (level : ℕ) (after : List Token) → ExprEnds (suc level) after → ExprEnds level after
lower_ends level after h = h.0

place_ends : (level : ℕ) (after : List Token) → ExprEnds level after → ExprEnds 0 after
place_ends zero after h = h
place_ends (suc level) after h = place_ends level after h.0

-- an operator of a level ends the levels below
operator_ends : (level : ℕ) (op : Token) (rest : List Token) → level < 7 → Is (operators (suc level)) op → ExprEnds level (op ∷ rest)
operator_ends zero op rest h is = (
  begins_not (class.Symbol OPEN_BRACKET) op rest (apart class.Scaling (class.Symbol OPEN_BRACKET) (refl, refl, refl) _ is),
  begins_not (class.Symbol OPEN_PAREN) op rest (apart class.Scaling (class.Symbol OPEN_PAREN) (refl, refl, refl) _ is),
)
operator_ends (suc zero) op rest h is = (
  (
    begins_not (class.Symbol OPEN_BRACKET) op rest (apart class.Adding (class.Symbol OPEN_BRACKET) (refl, refl) _ is),
    begins_not (class.Symbol OPEN_PAREN) op rest (apart class.Adding (class.Symbol OPEN_PAREN) (refl, refl) _ is),
  ),
  begins_not class.Scaling op rest (apart class.Adding class.Scaling (refl, refl) _ is),
)
operator_ends (suc (suc zero)) op rest h is = (
  (
    (
      begins_not (class.Symbol OPEN_BRACKET) op rest (apart class.Shifting (class.Symbol OPEN_BRACKET) (refl, refl) _ is),
      begins_not (class.Symbol OPEN_PAREN) op rest (apart class.Shifting (class.Symbol OPEN_PAREN) (refl, refl) _ is),
    ),
    begins_not class.Scaling op rest (apart class.Shifting class.Scaling (refl, refl) _ is),
  ),
  begins_not class.Adding op rest (apart class.Shifting class.Adding (refl, refl) _ is),
)
operator_ends (suc (suc (suc zero))) op rest h is = (
  (
    (
      (
        begins_not (class.Symbol OPEN_BRACKET) op rest (apart (class.Symbol AND) (class.Symbol OPEN_BRACKET) refl _ is),
        begins_not (class.Symbol OPEN_PAREN) op rest (apart (class.Symbol AND) (class.Symbol OPEN_PAREN) refl _ is),
      ),
      begins_not class.Scaling op rest (apart (class.Symbol AND) class.Scaling refl _ is),
    ),
    begins_not class.Adding op rest (apart (class.Symbol AND) class.Adding refl _ is),
  ),
  begins_not class.Shifting op rest (apart (class.Symbol AND) class.Shifting refl _ is),
)
operator_ends (suc (suc (suc (suc zero)))) op rest h is = (
  (
    (
      (
        (
          begins_not (class.Symbol OPEN_BRACKET) op rest (apart (class.Symbol XOR) (class.Symbol OPEN_BRACKET) refl _ is),
          begins_not (class.Symbol OPEN_PAREN) op rest (apart (class.Symbol XOR) (class.Symbol OPEN_PAREN) refl _ is),
        ),
        begins_not class.Scaling op rest (apart (class.Symbol XOR) class.Scaling refl _ is),
      ),
      begins_not class.Adding op rest (apart (class.Symbol XOR) class.Adding refl _ is),
    ),
    begins_not class.Shifting op rest (apart (class.Symbol XOR) class.Shifting refl _ is),
  ),
  begins_not (class.Symbol AND) op rest (apart (class.Symbol XOR) (class.Symbol AND) refl _ is),
)
operator_ends (suc (suc (suc (suc (suc zero))))) op rest h is = (
  (
    (
      (
        (
          (
            begins_not (class.Symbol OPEN_BRACKET) op rest (apart (class.Symbol OR) (class.Symbol OPEN_BRACKET) refl _ is),
            begins_not (class.Symbol OPEN_PAREN) op rest (apart (class.Symbol OR) (class.Symbol OPEN_PAREN) refl _ is),
          ),
          begins_not class.Scaling op rest (apart (class.Symbol OR) class.Scaling refl _ is),
        ),
        begins_not class.Adding op rest (apart (class.Symbol OR) class.Adding refl _ is),
      ),
      begins_not class.Shifting op rest (apart (class.Symbol OR) class.Shifting refl _ is),
    ),
    begins_not (class.Symbol AND) op rest (apart (class.Symbol OR) (class.Symbol AND) refl _ is),
  ),
  begins_not (class.Symbol XOR) op rest (apart (class.Symbol OR) (class.Symbol XOR) refl _ is),
)
operator_ends (suc (suc (suc (suc (suc (suc zero)))))) op rest h is = (
  (
    (
      (
        (
          (
            (
              begins_not (class.Symbol OPEN_BRACKET) op rest (apart class.Comparing (class.Symbol OPEN_BRACKET) (refl, refl) _ is),
              begins_not (class.Symbol OPEN_PAREN) op rest (apart class.Comparing (class.Symbol OPEN_PAREN) (refl, refl) _ is),
            ),
            begins_not class.Scaling op rest (apart class.Comparing class.Scaling (refl, refl) _ is),
          ),
          begins_not class.Adding op rest (apart class.Comparing class.Adding (refl, refl) _ is),
        ),
        begins_not class.Shifting op rest (apart class.Comparing class.Shifting (refl, refl) _ is),
      ),
      begins_not (class.Symbol AND) op rest (apart class.Comparing (class.Symbol AND) (refl, refl) _ is),
    ),
    begins_not (class.Symbol XOR) op rest (apart class.Comparing (class.Symbol XOR) (refl, refl) _ is),
  ),
  begins_not (class.Symbol OR) op rest (apart class.Comparing (class.Symbol OR) (refl, refl) _ is),
)
operator_ends (suc (suc (suc (suc (suc (suc (suc level))))))) op rest h is = absurd (omega arith)

-- what stands behind an expression ends it
closing_ends : (row : ℕ) → fits_kind (class.Symbol OPEN_BRACKET) (kinds.Symbol row) ≡ false → fits_kind (class.Symbol OPEN_PAREN) (kinds.Symbol row) ≡ false → fits_kind class.Scaling (kinds.Symbol row) ≡ false →
    fits_kind class.Adding (kinds.Symbol row) ≡ false → fits_kind class.Shifting (kinds.Symbol row) ≡ false → fits_kind (class.Symbol AND) (kinds.Symbol row) ≡ false →
    fits_kind (class.Symbol XOR) (kinds.Symbol row) ≡ false → fits_kind (class.Symbol OR) (kinds.Symbol row) ≡ false → fits_kind class.Comparing (kinds.Symbol row) ≡ false →
    (token : Token) (rest : List Token) → Is (class.Symbol row) token → ExprEnds 7 (token ∷ rest)
closing_ends row a p b c d e f g h token rest is = (
  (
    (
      (
        (
          (
            (
              (
                begins_not (class.Symbol OPEN_BRACKET) token rest (apart (class.Symbol row) (class.Symbol OPEN_BRACKET) a _ is),
                begins_not (class.Symbol OPEN_PAREN) token rest (apart (class.Symbol row) (class.Symbol OPEN_PAREN) p _ is),
              ),
              begins_not class.Scaling token rest (apart (class.Symbol row) class.Scaling b _ is),
            ),
            begins_not class.Adding token rest (apart (class.Symbol row) class.Adding c _ is),
          ),
          begins_not class.Shifting token rest (apart (class.Symbol row) class.Shifting d _ is),
        ),
        begins_not (class.Symbol AND) token rest (apart (class.Symbol row) (class.Symbol AND) e _ is),
      ),
      begins_not (class.Symbol XOR) token rest (apart (class.Symbol row) (class.Symbol XOR) f _ is),
    ),
    begins_not (class.Symbol OR) token rest (apart (class.Symbol row) (class.Symbol OR) g _ is),
  ),
  begins_not class.Comparing token rest (apart (class.Symbol row) class.Comparing h _ is),
)

pub paren_ends : (token : Token) (rest : List Token) → Is (class.Symbol CLOSE_PAREN) token → ExprEnds 7 (token ∷ rest)
paren_ends = closing_ends CLOSE_PAREN refl refl refl refl refl refl refl refl refl

pub comma_ends : (token : Token) (rest : List Token) → Is (class.Symbol COMMA) token → ExprEnds 7 (token ∷ rest)
comma_ends = closing_ends COMMA refl refl refl refl refl refl refl refl refl

pub semicolon_ends : (token : Token) (rest : List Token) → Is (class.Symbol SEMICOLON) token → ExprEnds 7 (token ∷ rest)
semicolon_ends = closing_ends SEMICOLON refl refl refl refl refl refl refl refl refl

-- a symbol that ends a constant
pub const_closing : (row : ℕ) → fits_kind class.Scaling (kinds.Symbol row) ≡ false → fits_kind class.Adding (kinds.Symbol row) ≡ false →
    (token : Token) (rest : List Token) → Is (class.Symbol row) token → ConstEnds 3 (token ∷ rest)
const_closing row a b token rest is = (
  (tt, begins_not class.Scaling token rest (apart (class.Symbol row) class.Scaling a _ is)),
  begins_not class.Adding token rest (apart (class.Symbol row) class.Adding b _ is),
)

pub bracketed_full : {room : ℕ} {size : Token × ConstExpr} {before after : List Token} → IsIndex room (Some size) before after →
    bracketed room before ≡ Ok (size, after)
unfolding bracketed
bracketed_full {after = after} (IsIndex.present {room = room} {open_token = open_token} {close_token = close_token} {index = index} {before = before} is d shut) =
    rw (
      one_is (class.Symbol OPEN_BRACKET) open_token before is,
      const_in_is room 3 open_token before,
      const_full d (omega arith) (const_closing CLOSE_BRACKET refl refl close_token after shut),
      after_is (class.Symbol CLOSE_BRACKET) close_token after shut,
    )

present_begins : {room : ℕ} {size : Token × ConstExpr} {before after : List Token} → IsIndex room (Some size) before after → begins (class.Symbol OPEN_BRACKET) before ≡ true
present_begins (IsIndex.present {open_token = open_token} {before = before} is d shut) = begins_is (class.Symbol OPEN_BRACKET) open_token before is

index_some : (room : ℕ) (size : Token × ConstExpr) (before after : List Token) → begins (class.Symbol OPEN_BRACKET) before ≡ true → bracketed room before ≡ Ok (size, after) →
    index_at room before ≡ Ok (Some size, after)
unfolding index_at
index_some room size before after b d = rw (b, d)

index_none : (room : ℕ) (after : List Token) → begins (class.Symbol OPEN_BRACKET) after ≡ false → index_at room after ≡ Ok (None, after)
unfolding index_at
index_none room after b = rw b

pub index_full : {room : ℕ} {size : Option (Token × ConstExpr)} {before after : List Token} → IsIndex room size before after →
    begins (class.Symbol OPEN_BRACKET) after ≡ false → index_at room before ≡ Ok (size, after)
index_full {room = room} {after = after} IsIndex.absent b = index_none room after b
index_full {after = after} (IsIndex.present {room = room} {open_token = open_token} {index = index} {before = before} is d shut) b =
    index_some (suc room) (open_token, index) (open_token ∷ before) after (begins_is (class.Symbol OPEN_BRACKET) open_token before is)
    (bracketed_full (IsIndex.present is d shut))

pub item_full : {room : ℕ} {place : Item} {before after : List Token} → IsItem room place before after →
    begins (class.Symbol OPEN_BRACKET) after ≡ false → item_at room before ≡ Ok (place, after)
unfolding item_at
item_full {after = after} (IsItem.place {name = token} {index = index} {before = before} is d) b = rw (one_is class.Name token before is, index_full d b)

pub index_shrinks : {room : ℕ} {size : Option (Token × ConstExpr)} {before after : List Token} → IsIndex room size before after → length after ≤ length before
index_shrinks IsIndex.absent = omega arith
index_shrinks (IsIndex.present is d shut) = let h = const_shrinks d in omega (arith, h)

pub item_shrinks : {room : ℕ} {place : Item} {before after : List Token} → IsItem room place before after → length after ≤ length before
item_shrinks (IsItem.place is d) = let h = index_shrinks d in omega (arith, h)

amounts_shrink : {room : ℕ} {rest : List (Token × ConstExpr)} {before after : List Token} → AreAmounts room rest before after → length after ≤ length before
amounts_shrink AreAmounts.none = omega arith
amounts_shrink (AreAmounts.more is d r) = let h = const_shrinks d in let k = amounts_shrink r in omega (arith, h, k)

mutual
  pub expr_shrinks : {level room : ℕ} {e : Expr} {before after : List Token} → IsExpr level room e before after → length after ≤ length before
  expr_shrinks (IsExpr.item d) = item_shrinks d
  expr_shrinks (IsExpr.paren is d shut) = let h = expr_shrinks d in omega (arith, h)
  expr_shrinks (IsExpr.lit w t o d shut) = let h = const_shrinks d in omega (arith, h)
  expr_shrinks (IsExpr.resize w t o d shut) = let h = expr_shrinks d in omega (arith, h)
  expr_shrinks (IsExpr.mux w o a p b q c shut) = let h = expr_shrinks a in let k = expr_shrinks b in let l = expr_shrinks c in omega (arith, h, k, l)
  expr_shrinks (IsExpr.choose w o a p b shut) = let h = expr_shrinks a in let k = expr_shrinks b in omega (arith, h, k)
  expr_shrinks (IsExpr.count w o a shut) = let h = expr_shrinks a in omega (arith, h)
  expr_shrinks (IsExpr.«not» is d) = let h = expr_shrinks d in omega (arith, h)
  expr_shrinks (IsExpr.alone d) = expr_shrinks d
  expr_shrinks (IsExpr.chain l d r) = let h = expr_shrinks d in let k = exprs_shrink r in omega (arith, h, k)
  expr_shrinks (IsExpr.shift d r) = let h = expr_shrinks d in let k = amounts_shrink r in omega (arith, h, k)
  expr_shrinks (IsExpr.compare d is s) = let h = expr_shrinks d in let k = expr_shrinks s in omega (arith, h, k)

  exprs_shrink : {level room : ℕ} {rest : List (Token × Expr)} {before after : List Token} → AreExprs level room rest before after → length after ≤ length before
  exprs_shrink AreExprs.none = omega arith
  exprs_shrink (AreExprs.more is d r) = let h = expr_shrinks d in let k = exprs_shrink r in omega (arith, h, k)

amounts_full : {room : ℕ} {rest : List (Token × ConstExpr)} {before after : List Token} → AreAmounts room rest before after →
    begins class.Shifting after ≡ false → (most : ℕ) → length before ≤ most → operands (const_at room 0) class.Shifting most before ≡ Ok (rest, after)
amounts_full {room = room} {after = after} AreAmounts.none g most m = operands_none (const_at room 0) class.Shifting most after g
amounts_full (AreAmounts.more is d r) g zero m = absurd (omega arith)
amounts_full {room = room} {after = after} (AreAmounts.more {op = op} {amount = amount} {rest = rest} {before = before} {middle = middle} is d r) g (suc most) m =
    operands_step (const_at room 0) class.Shifting most op amount rest before middle after is
    (const_full d (omega arith) tt) (amounts_full r g most (let k = const_shrinks d in omega (arith, k)))

amounts_end : {room : ℕ} {rest : List (Token × ConstExpr)} {before after : List Token} → AreAmounts room rest before after → ExprEnds 3 after → ExprEnds 2 before
amounts_end AreAmounts.none e = e.0
amounts_end (AreAmounts.more {op = op} {before = before} is d r) e = operator_ends 2 op before (omega arith) is

exprs_end : {level room : ℕ} {rest : List (Token × Expr)} {before after : List Token} → level < 7 →
    AreExprs (suc level) room rest before after → ExprEnds (suc level) after → ExprEnds level before
exprs_end h AreExprs.none e = e.0
exprs_end {level} h (AreExprs.more {op = op} {before = before} is d r) e = operator_ends level op before h is

in_is : (room level : ℕ) (token : Token) (rest : List Token) → expr_in (suc room) level (token ∷ rest) ≡ expr_at room level rest
unfolding expr_in expr_at
in_is room level token rest = refl

at_zero : (room : ℕ) (tokens : List Token) → expr_at room 0 tokens ≡ unary_at (expr_in room) room tokens
unfolding expr_at expr_from
at_zero room tokens = refl

at_more : (room level : ℕ) (tokens : List Token) → expr_at room (suc level) tokens ≡ level_at (operators (suc level)) (expr_at room level) room tokens
unfolding expr_at expr_from
at_more room level tokens = refl

-- the first token decides what an operand is
name_no : (word : Keyword) → words.is_name (text_of word) ≡ false → (token : Token) → Is class.Name token → fits (class.Word word) token ≡ false
name_no word h token is = apart class.Name (class.Word word) (λ text e. name_apart word h text e) token is

-- the words of calls are names elsewhere
call_named : (words.is_name (call_text callable.Min) ≡ true) × (words.is_name (call_text callable.Max) ≡ true) × (words.is_name (call_text callable.Count) ≡ true)
unfolding call_text words.is_keyword
call_named = (refl, refl, refl)

within : (c d : Class) → Kinds c (λ kind. fits_kind d kind ≡ true) → (token : Token) → Is c token → Is d token
within c d h token is = by_kind d token ∙ each_kind c token.kind (λ kind. fits_kind d kind ≡ true) h (sym (by_kind c token) ∙ is)

pub choosing_named : (token : Token) → Is class.Choosing token → Is class.Name token
choosing_named token is = within class.Choosing class.Name (call_named.0, call_named.1) token is

pub counting_named : (token : Token) → Is class.Counting token → Is class.Name token
counting_named token is = within class.Counting class.Name call_named.2 token is

pub counting_apart : (token : Token) → Is class.Counting token → fits class.Choosing token ≡ false
unfolding call_text
counting_apart token is = apart class.Counting class.Choosing refl token is

calls_is : (c : Class) (word open_token : Token) (rest : List Token) → Is c word → Is (class.Symbol OPEN_PAREN) open_token → calls c (word ∷ open_token ∷ rest) ≡ true
unfolding calls begins
calls_is c word open_token rest w o = rw (w, o) refl

neither : (b : Bool) → (b && false) ≡ false
neither true = refl
neither false = refl

calls_not : (c : Class) (word : Token) (rest : List Token) → begins (class.Symbol OPEN_PAREN) rest ≡ false → calls c (word ∷ rest) ≡ false
unfolding calls
calls_not c word rest b = ap (λ o. fits c word && o) b ∙ neither (fits c word)

calls_other : (c : Class) (word : Token) (rest : List Token) → fits c word ≡ false → calls c (word ∷ rest) ≡ false
unfolding calls
calls_other c word rest w = rw w refl

unary_item : (room : ℕ) (place : Item) (token : Token) (before after : List Token) → Is class.Name token → begins (class.Symbol OPEN_PAREN) before ≡ false →
    item_at room (token ∷ before) ≡ Ok (place, after) → unary_at (expr_in room) room (token ∷ before) ≡ Ok (expr.Item place, after)
unfolding unary_at name_at place_at
unary_item room place token before after is b d =
    rw (
      begins_not (class.Symbol NOT) token before (apart class.Name (class.Symbol NOT) (λ text e. refl) _ is),
      begins_is class.Name token before is,
      calls_not class.Choosing token before b,
      calls_not class.Counting token before b,
      d,
    )

unary_choose : (room : ℕ) (word open_token comma close_token : Token) (first second : Expr) (before middle after : List Token) →
    Is class.Choosing word → Is (class.Symbol OPEN_PAREN) open_token →
    expr_at room 7 before ≡ Ok (first, comma ∷ middle) → Is (class.Symbol COMMA) comma →
    expr_at room 7 middle ≡ Ok (second, close_token ∷ after) → Is (class.Symbol CLOSE_PAREN) close_token →
    unary_at (expr_in (suc room)) (suc room) (word ∷ open_token ∷ before) ≡ Ok (expr.Call word (first ∷ second ∷ []), after)
unfolding unary_at name_at choose_at
unary_choose room word open_token comma close_token first second before middle after w o a p b shut =
    rw (
      begins_not (class.Symbol NOT) word (open_token ∷ before) (apart class.Choosing (class.Symbol NOT) (refl, refl) _ w),
      begins_is class.Name word (open_token ∷ before) (choosing_named word w),
      calls_is class.Choosing word open_token before w o,
      one_is class.Choosing word (open_token ∷ before) w,
      after_is (class.Symbol OPEN_PAREN) open_token before o,
      in_is room 7 open_token before,
      a,
      after_is (class.Symbol COMMA) comma middle p,
      in_is room 7 comma middle,
      b,
      after_is (class.Symbol CLOSE_PAREN) close_token after shut,
    )

unary_count : (room : ℕ) (word open_token close_token : Token) (operand : Expr) (before after : List Token) →
    Is class.Counting word → Is (class.Symbol OPEN_PAREN) open_token →
    expr_at room 7 before ≡ Ok (operand, close_token ∷ after) → Is (class.Symbol CLOSE_PAREN) close_token →
    unary_at (expr_in (suc room)) (suc room) (word ∷ open_token ∷ before) ≡ Ok (expr.Call word (operand ∷ []), after)
unfolding unary_at name_at count_at
unary_count room word open_token close_token operand before after w o a shut =
    rw (
      begins_not (class.Symbol NOT) word (open_token ∷ before) (apart class.Counting (class.Symbol NOT) refl _ w),
      begins_is class.Name word (open_token ∷ before) (counting_named word w),
      calls_other class.Choosing word (open_token ∷ before) (counting_apart word w),
      calls_is class.Counting word open_token before w o,
      one_is class.Counting word (open_token ∷ before) w,
      after_is (class.Symbol OPEN_PAREN) open_token before o,
      in_is room 7 open_token before,
      a,
      after_is (class.Symbol CLOSE_PAREN) close_token after shut,
    )

unary_paren : (room : ℕ) (open_token close_token : Token) (inner : Expr) (before after : List Token) → Is (class.Symbol OPEN_PAREN) open_token →
    expr_at room 7 before ≡ Ok (inner, close_token ∷ after) → Is (class.Symbol CLOSE_PAREN) close_token →
    unary_at (expr_in (suc room)) (suc room) (open_token ∷ before) ≡ Ok (expr.Paren open_token inner, after)
unfolding unary_at paren_at
unary_paren room open_token close_token inner before after is d shut =
    rw (
      begins_not (class.Symbol NOT) open_token before (apart (class.Symbol OPEN_PAREN) (class.Symbol NOT) refl _ is),
      begins_not class.Name open_token before (apart (class.Symbol OPEN_PAREN) class.Name refl _ is),
      begins_not (class.Word keyword.Lit) open_token before (apart (class.Symbol OPEN_PAREN) (class.Word keyword.Lit) refl _ is),
      begins_not (class.Word keyword.Resize) open_token before (apart (class.Symbol OPEN_PAREN) (class.Word keyword.Resize) refl _ is),
      begins_not (class.Word keyword.Mux) open_token before (apart (class.Symbol OPEN_PAREN) (class.Word keyword.Mux) refl _ is),
      one_is (class.Symbol OPEN_PAREN) open_token before is,
      in_is room 7 open_token before,
      d,
      after_is (class.Symbol CLOSE_PAREN) close_token after shut,
    )

unary_not : (room : ℕ) (op : Token) (operand : Expr) (before after : List Token) → Is (class.Symbol NOT) op →
    expr_at room 0 before ≡ Ok (operand, after) → unary_at (expr_in (suc room)) (suc room) (op ∷ before) ≡ Ok (expr.Not op operand, after)
unfolding unary_at not_at
unary_not room op operand before after is d =
    rw (begins_is (class.Symbol NOT) op before is, one_is (class.Symbol NOT) op before is, in_is room 0 op before, d)

unary_lit : (room : ℕ) (word ty open_token close_token : Token) (value : ConstExpr) (before after : List Token) →
    Is (class.Word keyword.Lit) word → Is class.Type ty → Is (class.Symbol OPEN_PAREN) open_token →
    const_at room 3 before ≡ Ok (value, close_token ∷ after) → Is (class.Symbol CLOSE_PAREN) close_token →
    unary_at (expr_in (suc room)) (suc room) (word ∷ ty ∷ open_token ∷ before) ≡ Ok (expr.Lit word ty value, after)
unfolding unary_at lit_at text_of words.is_keyword
unary_lit room word ty open_token close_token value before after w t o d shut =
    rw (
      begins_not (class.Symbol NOT) word (ty ∷ open_token ∷ before) (apart (class.Word keyword.Lit) (class.Symbol NOT) refl _ w),
      begins_not class.Name word (ty ∷ open_token ∷ before) (apart (class.Word keyword.Lit) class.Name refl _ w),
      begins_is (class.Word keyword.Lit) word (ty ∷ open_token ∷ before) w,
      one_is (class.Word keyword.Lit) word (ty ∷ open_token ∷ before) w,
      one_is class.Type ty (open_token ∷ before) t,
      after_is (class.Symbol OPEN_PAREN) open_token before o,
      const_in_is room 3 open_token before,
      d,
      after_is (class.Symbol CLOSE_PAREN) close_token after shut,
    )

unary_resize : (room : ℕ) (word ty open_token close_token : Token) (operand : Expr) (before after : List Token) →
    Is (class.Word keyword.Resize) word → Is class.Type ty → Is (class.Symbol OPEN_PAREN) open_token →
    expr_at room 7 before ≡ Ok (operand, close_token ∷ after) → Is (class.Symbol CLOSE_PAREN) close_token →
    unary_at (expr_in (suc room)) (suc room) (word ∷ ty ∷ open_token ∷ before) ≡ Ok (expr.Resize word ty operand, after)
unfolding unary_at resize_at text_of words.is_keyword
unary_resize room word ty open_token close_token operand before after w t o d shut =
    rw (
      begins_not (class.Symbol NOT) word (ty ∷ open_token ∷ before) (apart (class.Word keyword.Resize) (class.Symbol NOT) refl _ w),
      begins_not class.Name word (ty ∷ open_token ∷ before) (apart (class.Word keyword.Resize) class.Name refl _ w),
      begins_not (class.Word keyword.Lit) word (ty ∷ open_token ∷ before) (apart (class.Word keyword.Resize) (class.Word keyword.Lit) refl _ w),
      begins_is (class.Word keyword.Resize) word (ty ∷ open_token ∷ before) w,
      one_is (class.Word keyword.Resize) word (ty ∷ open_token ∷ before) w,
      one_is class.Type ty (open_token ∷ before) t,
      after_is (class.Symbol OPEN_PAREN) open_token before o,
      in_is room 7 open_token before,
      d,
      after_is (class.Symbol CLOSE_PAREN) close_token after shut,
    )

unary_mux : (room : ℕ) (word open_token comma second_comma close_token : Token) (condition chosen other : Expr) (before second third after : List Token) →
    Is (class.Word keyword.Mux) word → Is (class.Symbol OPEN_PAREN) open_token →
    expr_at room 7 before ≡ Ok (condition, comma ∷ second) → Is (class.Symbol COMMA) comma →
    expr_at room 7 second ≡ Ok (chosen, second_comma ∷ third) → Is (class.Symbol COMMA) second_comma →
    expr_at room 7 third ≡ Ok (other, close_token ∷ after) → Is (class.Symbol CLOSE_PAREN) close_token →
    unary_at (expr_in (suc room)) (suc room) (word ∷ open_token ∷ before) ≡ Ok (expr.Mux word (condition ∷ chosen ∷ other ∷ []), after)
unfolding unary_at mux_at text_of words.is_keyword
unary_mux room word open_token comma second_comma close_token condition chosen other before second third after w o a p b q c shut =
    rw (
      begins_not (class.Symbol NOT) word (open_token ∷ before) (apart (class.Word keyword.Mux) (class.Symbol NOT) refl _ w),
      begins_not class.Name word (open_token ∷ before) (apart (class.Word keyword.Mux) class.Name refl _ w),
      begins_not (class.Word keyword.Lit) word (open_token ∷ before) (apart (class.Word keyword.Mux) (class.Word keyword.Lit) refl _ w),
      begins_not (class.Word keyword.Resize) word (open_token ∷ before) (apart (class.Word keyword.Mux) (class.Word keyword.Resize) refl _ w),
      begins_is (class.Word keyword.Mux) word (open_token ∷ before) w,
      one_is (class.Word keyword.Mux) word (open_token ∷ before) w,
      after_is (class.Symbol OPEN_PAREN) open_token before o,
      in_is room 7 open_token before,
      a,
      after_is (class.Symbol COMMA) comma second p,
      in_is room 7 comma second,
      b,
      after_is (class.Symbol COMMA) second_comma third q,
      in_is room 7 second_comma third,
      c,
      after_is (class.Symbol CLOSE_PAREN) close_token after shut,
    )

listed_is : (c : Class) (operand : List Token → Read Expr) (room : ℕ) (tokens : List Token) → is_listed c ≡ true → level_at c operand room tokens ≡ chain_at operand c tokens
listed_is (class.Word word) operand room tokens h = refl
listed_is (class.Symbol row) operand room tokens h = refl
listed_is class.Number operand room tokens h = refl
listed_is class.Name operand room tokens h = refl
listed_is class.Type operand room tokens h = refl
listed_is class.Party operand room tokens h = refl
listed_is class.Choosing operand room tokens h = refl
listed_is class.Counting operand room tokens h = refl
listed_is class.Adding operand room tokens h = refl
listed_is class.Scaling operand room tokens h = refl
listed_is class.Shifting operand room tokens h = absurd (cc)
listed_is class.Comparing operand room tokens h = absurd (cc)

chain_alone : (operand : List Token → Read Expr) (c : Class) (e : Expr) (before after : List Token) →
    operand before ≡ Ok (e, after) → begins c after ≡ false → chain_at operand c before ≡ Ok (e, after)
unfolding chain_at
chain_alone operand c e before after d h = rw (d, operands_none operand c (length after) after h)

shift_alone : (operand : List Token → Read Expr) (room : ℕ) (e : Expr) (before after : List Token) →
    operand before ≡ Ok (e, after) → begins class.Shifting after ≡ false → shift_at operand room before ≡ Ok (e, after)
unfolding shift_at
shift_alone operand room e before after d h = rw (d, operands_none (const_at room 0) class.Shifting (length after) after h)

compare_alone : (operand : List Token → Read Expr) (e : Expr) (before after : List Token) →
    operand before ≡ Ok (e, after) → begins class.Comparing after ≡ false → compare_at operand before ≡ Ok (e, after)
unfolding compare_at compare_from
compare_alone operand e before after d h = rw (d, h)

level_alone : (c : Class) (operand : List Token → Read Expr) (room : ℕ) (e : Expr) (before after : List Token) →
    operand before ≡ Ok (e, after) → begins c after ≡ false → level_at c operand room before ≡ Ok (e, after)
level_alone (class.Word word) operand room e before after d h = chain_alone operand (class.Word word) e before after d h
level_alone (class.Symbol row) operand room e before after d h = chain_alone operand (class.Symbol row) e before after d h
level_alone class.Number operand room e before after d h = chain_alone operand class.Number e before after d h
level_alone class.Name operand room e before after d h = chain_alone operand class.Name e before after d h
level_alone class.Type operand room e before after d h = chain_alone operand class.Type e before after d h
level_alone class.Party operand room e before after d h = chain_alone operand class.Party e before after d h
level_alone class.Choosing operand room e before after d h = chain_alone operand class.Choosing e before after d h
level_alone class.Counting operand room e before after d h = chain_alone operand class.Counting e before after d h
level_alone class.Adding operand room e before after d h = chain_alone operand class.Adding e before after d h
level_alone class.Scaling operand room e before after d h = chain_alone operand class.Scaling e before after d h
level_alone class.Shifting operand room e before after d h = shift_alone operand room e before after d h
level_alone class.Comparing operand room e before after d h = compare_alone operand e before after d h

chain_more : (operand : List Token → Read Expr) (c : Class) (first : Expr) (second : Token × Expr) (rest : List (Token × Expr)) (before middle after : List Token) →
    operand before ≡ Ok (first, middle) → operands operand c (length middle) middle ≡ Ok (second ∷ rest, after) →
    chain_at operand c before ≡ Ok (expr.Chain first (second ∷ rest), after)
unfolding chain_at
chain_more operand c first second rest before middle after d r = rw (d, r)

shift_more : (operand : List Token → Read Expr) (room : ℕ) (first : Expr) (second : Token × ConstExpr) (rest : List (Token × ConstExpr)) (before middle after : List Token) →
    operand before ≡ Ok (first, middle) → operands (const_at room 0) class.Shifting (length middle) middle ≡ Ok (second ∷ rest, after) →
    shift_at operand room before ≡ Ok (expr.Shift first (second ∷ rest), after)
unfolding shift_at
shift_more operand room first second rest before middle after d r = rw (d, r)

compare_more : (operand : List Token → Read Expr) (op : Token) (first second : Expr) (before middle after : List Token) →
    operand before ≡ Ok (first, op ∷ middle) → Is class.Comparing op → operand middle ≡ Ok (second, after) →
    compare_at operand before ≡ Ok (expr.Chain first ((op, second) ∷ []), after)
unfolding compare_at compare_from
compare_more operand op first second before middle after d is s =
    rw (d, begins_is class.Comparing op middle is, one_is class.Comparing op middle is, s)

index_no_paren : {room : ℕ} {size : Option (Token × ConstExpr)} {before after : List Token} → IsIndex room size before after →
    begins (class.Symbol OPEN_PAREN) after ≡ false → begins (class.Symbol OPEN_PAREN) before ≡ false
index_no_paren IsIndex.absent b = b
index_no_paren (IsIndex.present {open_token = open_token} {before = before} is d shut) b =
    begins_not (class.Symbol OPEN_PAREN) open_token before (apart (class.Symbol OPEN_BRACKET) (class.Symbol OPEN_PAREN) refl _ is)

item_case : {room : ℕ} {place : Item} {before after : List Token} → IsItem room place before after → ExprEnds 0 after →
    expr_at room 0 before ≡ Ok (expr.Item place, after)
item_case {room = room} {after = after} (IsItem.place {name = token} {index = index} {before = before} is d) b =
    at_zero room (token ∷ before)
    ∙ unary_item room (item_of token index) token before after is (index_no_paren d b.1) (item_full (IsItem.place is d) b.0)

-- one less
abbrev below : ℕ → ℕ
below zero = zero
below (suc n) = n

mutual
  pub expr_full : {level room : ℕ} {e : Expr} {before after : List Token} → IsExpr level room e before after → level ≤ 7 → ExprEnds level after →
      expr_at room level before ≡ Ok (e, after)
  expr_full {after = after} (IsExpr.item d) h f = item_case d f
  expr_full {after = after} (IsExpr.paren {room = room} {open_token = open_token} {close_token = close_token} {inner = inner} {before = before} is d shut) h f =
      at_zero (suc room) (open_token ∷ before)
      ∙ unary_paren room open_token close_token inner before after is (expr_full d (omega arith) (paren_ends close_token after shut)) shut
  expr_full {after = after} (IsExpr.lit {room = room} {word = word} {ty = ty} {open_token = open_token} {close_token = close_token} {value = value} {before = before} w t o d shut) h f =
      at_zero (suc room) (word ∷ ty ∷ open_token ∷ before)
      ∙ unary_lit room word ty open_token close_token value before after w t o (const_full d (omega arith) (const_closing CLOSE_PAREN refl refl close_token after shut)) shut
  expr_full {after = after} (IsExpr.resize {room = room} {word = word} {ty = ty} {open_token = open_token} {close_token = close_token} {operand = operand} {before = before} w t o d shut) h f =
      at_zero (suc room) (word ∷ ty ∷ open_token ∷ before)
      ∙ unary_resize room word ty open_token close_token operand before after w t o (expr_full d (omega arith) (paren_ends close_token after shut)) shut
  expr_full {after = after} (IsExpr.mux {room = room} {word = word} {open_token = open_token} {comma = comma} {second_comma = second_comma} {close_token = close_token} {condition = condition} {yes = chosen} {no = other} {before = before} {second = second} {third = third} w o a p b q c shut) h f =
      at_zero (suc room) (word ∷ open_token ∷ before)
      ∙ unary_mux room word open_token comma second_comma close_token condition chosen other before second third after w o
      (expr_full a (omega arith) (comma_ends comma second p)) p (expr_full b (omega arith) (comma_ends second_comma third q)) q
      (expr_full c (omega arith) (paren_ends close_token after shut)) shut
  expr_full {after = after} (IsExpr.choose {room = room} {word = word} {open_token = open_token} {comma = comma} {close_token = close_token} {first = first} {second = second} {before = before} {middle = middle} w o a p b shut) h f =
      at_zero (suc room) (word ∷ open_token ∷ before)
      ∙ unary_choose room word open_token comma close_token first second before middle after w o
      (expr_full a (omega arith) (comma_ends comma middle p)) p (expr_full b (omega arith) (paren_ends close_token after shut)) shut
  expr_full {after = after} (IsExpr.count {room = room} {word = word} {open_token = open_token} {close_token = close_token} {operand = operand} {before = before} w o a shut) h f =
      at_zero (suc room) (word ∷ open_token ∷ before)
      ∙ unary_count room word open_token close_token operand before after w o (expr_full a (omega arith) (paren_ends close_token after shut)) shut
  expr_full {after = after} (IsExpr.«not» {room = room} {op = op} {operand = operand} {before = before} is d) h f =
      at_zero (suc room) (op ∷ before) ∙ unary_not room op operand before after is (expr_full d (omega arith) f)
  expr_full {room = room} {e = e} {before = before} {after = after} (IsExpr.alone {level = level} d) h f =
      at_more room level before ∙ level_alone (operators (suc level)) (expr_at room level) room e before after (expr_full d (omega arith) f.0) f.1
  expr_full {room = room} {before = before} {after = after} (IsExpr.chain {level = level} {first = first} {second = second} {rest = rest} {middle = middle} l d r) h f =
      at_more room level before ∙ listed_is (operators (suc level)) (expr_at room level) room before l
      ∙ chain_more (expr_at room level) (operators (suc level)) first second rest before middle after
      (expr_full d (omega arith) (exprs_end (omega arith) r f)) (exprs_full r (omega arith) f f.1 (length middle) (omega arith))
  expr_full {room = room} {before = before} {after = after} (IsExpr.shift {first = first} {second = second} {rest = rest} {middle = middle} d r) h f =
      at_more room 2 before ∙ shift_more (expr_at room 2) room first second rest before middle after
      (expr_full d (omega arith) (amounts_end r f)) (amounts_full r f.1 (length middle) (omega arith))
  expr_full {room = room} {before = before} {after = after} (IsExpr.compare {op = op} {first = first} {second = second} {middle = middle} d is s) h f =
      at_more room 6 before ∙ compare_more (expr_at room 6) op first second before middle after
      (expr_full d (omega arith) (operator_ends 6 op middle (omega arith) is)) is (expr_full s (omega arith) f.0)

  exprs_full : {upper room : ℕ} {rest : List (Token × Expr)} {before after : List Token} → AreExprs upper room rest before after → upper ≤ 7 →
      ExprEnds upper after → begins (operators upper) after ≡ false → (most : ℕ) → length before ≤ most →
      operands (expr_at room (below upper)) (operators upper) most before ≡ Ok (rest, after)
  exprs_full {upper = upper} {room = room} {after = after} AreExprs.none h f g most m =
      operands_none (expr_at room (below upper)) (operators upper) most after g
  exprs_full (AreExprs.more is d r) h f g zero m = absurd (omega arith)
  exprs_full {room = room} {after = after} (AreExprs.more {level = level} {op = op} {operand = operand} {rest = rest} {before = before} {middle = middle} is d r) h f g (suc most) m =
      operands_step (expr_at room level) (operators (suc level)) most op operand rest before middle after is
      (expr_full d (omega arith) (exprs_end (omega arith) r f))
      (exprs_full r h f g most (let k = expr_shrinks d in omega (arith, k)))
