-- What is made of a tree is what is made of its tokens.
use Rattle.std.proofs.Common.{◌≡◌, ℕ, zero, suc, ◌+◌, ◌*◌, ◌<◌, ◌≤◌, true, List, [], ◌∷◌, ◌++◌, refl, ap, sym, ◌∙◌, append_assoc, arith}
use Rattle.std.specs.Prelude.{Option, Some, codes}
use Rattle.std.specs.List.{flat_map}
use Rattle.std.proofs.lemmas.List.Concat.{flat_map-cons}
use Rattle.std.specs.Str.{bytes_eq}
use Rattle.std.proofs.lemmas.Bool.{eqb-true}
use Rattle.std.proofs.lemmas.List.{append-nil}
use Rattle.std.proofs.lemmas.Slice.Eq.{bytes_eq-Decides}
use Rattle.mage_lex.specs.Symbols.{DOTS, SEMICOLON, COLON, COMMA, OPEN_PAREN, CLOSE_PAREN, CLOSE_BRACKET, OPEN_BRACE, CLOSE_BRACE, ASSIGN}
use Rattle.mage_lex.specs.declared.token.Token.{Token}
use Rattle.mage_lex.specs.declared.token.TokenKind.{TokenKind}
use Rattle.mage_lex.specs.declared.token.TokenKind.TheVariants as kinds
use Rattle.mage_tree.specs.declared.class.Keyword.{Keyword}
use Rattle.mage_tree.specs.declared.class.Keyword.TheVariants as keyword
use Rattle.mage_tree.specs.declared.class.Class.TheVariants as class
use Rattle.mage_tree.specs.declared.tree.ConstExpr.{ConstExpr}
use Rattle.mage_tree.specs.declared.tree.ConstExpr.TheVariants as const
use Rattle.mage_tree.specs.declared.tree.Expr.{Expr}
use Rattle.mage_tree.specs.declared.tree.Expr.TheVariants as expr
use Rattle.mage_tree.specs.declared.tree.Item.{Item}
use Rattle.mage_tree.specs.declared.tree.Stmt.{Stmt}
use Rattle.mage_tree.specs.declared.tree.Stmt.TheVariants as stmt
use Rattle.mage_tree.specs.Classes.{text_of, is_word_with, is_symbol_kind}
use Rattle.mage_tree.specs.Grammar.{Is, IsConst, AreOperands, IsIndex, IsItem, AreAmounts, IsExpr, AreExprs, IsStmt, IsBlock, IsElse, AreStmts}
use Rattle.mage_tree.specs.Sources.{MOST_DEPTH, IsSource}
use Rattle.mage_printer.specs.Made.{CONST_NODES, EXPR_NODES, STMT_NODES, tokens_made, terms_made, const_layer, const_made, bracketed_made, index_made, item_made, args_made, call_made, expr_layer, expr_made, head_made, value_made, constant_made, input_made, let_made, array_made, assign_made, move_made, output_made, for_made, if_made, block_made, else_made, stmt_layer, stmt_made, workers_made, source_made}
use Rattle.mage_tree.proofs.Apart.{by_kind}
use Rattle.mage_tree.proofs.Opened as opened

symbol_kind : (row : ℕ) (kind : TokenKind) → is_symbol_kind row kind ≡ true → kind ≡ kinds.Symbol row
symbol_kind row (kinds.Word text) e = absurd (cc)
symbol_kind row (kinds.Number value) e = absurd (cc)
symbol_kind row (kinds.Symbol other) e = ap kinds.Symbol (eqb-true other row e)

word_kind : (text : List ℕ) (kind : TokenKind) → is_word_with (λ own. bytes_eq own text) kind ≡ true → kind ≡ kinds.Word text
word_kind text (kinds.Word own) e = ap kinds.Word ((bytes_eq-Decides own text).0 e)
word_kind text (kinds.Number value) e = absurd (cc)
word_kind text (kinds.Symbol other) e = absurd (cc)

-- a token that the grammar fixes is of one kind
symbol_is : (row : ℕ) (token : Token) → Is (class.Symbol row) token → token.kind ≡ kinds.Symbol row
symbol_is row token is = symbol_kind row token.kind (sym (by_kind (class.Symbol row) token) ∙ is)

word_is : (word : Keyword) (token : Token) → Is (class.Word word) token → token.kind ≡ kinds.Word (text_of word)
word_is word token is = word_kind (text_of word) token.kind (sym (by_kind (class.Word word) token) ∙ is)

in_is : (token : Token) → Is (class.Word keyword.In) token → token.kind ≡ kinds.Word (codes "in")
unfolding text_of
in_is token is = word_is keyword.In token is

else_is : (token : Token) → Is (class.Word keyword.Else) token → token.kind ≡ kinds.Word (codes "else")
unfolding text_of
else_is token is = word_is keyword.Else token is

workers_is : (token : Token) → Is (class.Word keyword.Workers) token → token.kind ≡ kinds.Word (codes "workers")
unfolding text_of
workers_is token is = word_is keyword.Workers token is

-- a list is these elements and then the rest
record Begins {A : Type 0} (whole text rest : List A) : Type 0 where
  is : whole ≡ text ++ rest

then : {A : Type 0} {whole text middle more rest : List A} → Begins whole text middle → Begins middle more rest → Begins whole (text ++ more) rest
then {A} {whole} {text} {middle} {more} {rest} b c = record { is = b.is ∙ ap (λ l. text ++ l) c.is ∙ sym (append_assoc text more rest) }

nothing : {A : Type 0} {rest : List A} → Begins rest [] rest
nothing = record { is = refl }

a_token : {A : Type 0} (put : TokenKind → List A) (token : Token) (rest : List Token) → Begins (tokens_made put (token ∷ rest)) (put token.kind) (tokens_made put rest)
unfolding tokens_made
a_token put token rest = record { is = refl }

fixed : {A : Type 0} (put : TokenKind → List A) (token : Token) (kind : TokenKind) (rest : List Token) → token.kind ≡ kind → Begins (tokens_made put (token ∷ rest)) (put kind) (tokens_made put rest)
unfolding tokens_made
fixed put token kind rest e = record { is = ap (λ k. put k ++ tokens_made put rest) e }

a_symbol : {A : Type 0} (put : TokenKind → List A) (row : ℕ) (token : Token) (rest : List Token) → Is (class.Symbol row) token → Begins (tokens_made put (token ∷ rest)) (put (kinds.Symbol row)) (tokens_made put rest)
a_symbol put row token rest is = fixed put token (kinds.Symbol row) rest (symbol_is row token is)

-- the same elements by another name
named : {A : Type 0} {whole text more rest : List A} → text ≡ more → Begins whole more rest → Begins whole text rest
named {A} {whole} {text} {more} {rest} e b = record { is = b.is ∙ ap (λ l. l ++ rest) (sym e) }

terms_more : {A B : Type 0} (put : TokenKind → List A) (inner : B → List A) (op : Token) (operand : B) (rest : List (Token × B)) →
    terms_made put inner ((op, operand) ∷ rest) ≡ (put op.kind ++ inner operand) ++ terms_made put inner rest
terms_more {A} {B} put inner op operand rest = flat_map-cons (λ (term : Token × B). put term.0.kind ++ inner term.1) (op, operand) rest

-- the nodes of a constant
const_chain_made : {A : Type 0} (put : TokenKind → List A) (depth : ℕ) (first : ConstExpr) (rest : List (Token × ConstExpr)) → const_made put (suc depth) (const.Chain first rest) ≡ const_made put depth first ++ terms_made put (const_made put depth) rest
unfolding const_made
const_chain_made put depth first rest = ap (const_layer put (const_made put depth)) (opened.const_chain first rest)

const_minus_made : {A : Type 0} (put : TokenKind → List A) (depth : ℕ) (op : Token) (operand : ConstExpr) → const_made put (suc depth) (const.Minus op operand) ≡ put op.kind ++ const_made put depth operand
unfolding const_made
const_minus_made put depth op operand = ap (const_layer put (const_made put depth)) (opened.const_minus op operand)

const_number_made : {A : Type 0} (put : TokenKind → List A) (depth : ℕ) (token : Token) → const_made put (suc depth) (const.Number token) ≡ put token.kind
unfolding const_made
const_number_made put depth token = ap (const_layer put (const_made put depth)) (opened.const_number token)

const_name_made : {A : Type 0} (put : TokenKind → List A) (depth : ℕ) (token : Token) → const_made put (suc depth) (const.Name token) ≡ put token.kind
unfolding const_made
const_name_made put depth token = ap (const_layer put (const_made put depth)) (opened.const_name token)

const_paren_made : {A : Type 0} (put : TokenKind → List A) (depth : ℕ) (bracket : Token) (inner : ConstExpr) → const_made put (suc depth) (const.Paren bracket inner) ≡ put bracket.kind ++ const_made put depth inner ++ put (kinds.Symbol CLOSE_PAREN)
unfolding const_made
const_paren_made put depth bracket inner = ap (const_layer put (const_made put depth)) (opened.const_paren bracket inner)

mutual
  const_is : {A : Type 0} (put : TokenKind → List A) {level room : ℕ} {e : ConstExpr} {before after : List Token} (depth : ℕ) → IsConst level room e before after → 4 * room + level < depth →
      Begins (tokens_made put before) (const_made put depth e) (tokens_made put after)
  const_is put zero d h = absurd (omega arith)
  const_is put (suc depth) (IsConst.number {token} is) h = named (const_number_made put depth token) (a_token put token _)
  const_is put (suc depth) (IsConst.name {token} is) h = named (const_name_made put depth token) (a_token put token _)
  const_is put (suc depth) (IsConst.paren {open_token} {inner} is d shut) h =
      named (const_paren_made put depth open_token inner) (then (then (a_token put open_token _) (const_is put depth d (omega arith))) (a_symbol put CLOSE_PAREN _ _ shut))
  const_is put (suc depth) (IsConst.minus {op} {operand} is d) h =
      named (const_minus_made put depth op operand) (then (a_token put op _) (const_is put depth d (omega arith)))
  const_is put (suc depth) (IsConst.alone d) h = const_is put (suc depth) d (omega arith)
  const_is put (suc depth) (IsConst.chain {first} {second} {rest} d r) h =
      named (const_chain_made put depth first (second ∷ rest)) (then (const_is put depth d (omega arith)) (operands_is put depth r (omega arith)))

  operands_is : {A : Type 0} (put : TokenKind → List A) {level room : ℕ} {rest : List (Token × ConstExpr)} {before after : List Token} (depth : ℕ) → AreOperands level room rest before after → 4 * room + level < suc depth →
      Begins (tokens_made put before) (terms_made put (const_made put depth) rest) (tokens_made put after)
  operands_is put depth AreOperands.none h = nothing
  operands_is put depth (AreOperands.more {op} {operand} {rest} is d r) h =
      named (terms_more put (const_made put depth) op operand rest) (then (then (a_token put op _) (const_is put depth d (omega arith))) (operands_is put depth r h))

bracketed_is : {A : Type 0} (put : TokenKind → List A) {room : ℕ} {size : Token × ConstExpr} {before after : List Token} → IsIndex room (Some size) before after → room ≤ MOST_DEPTH →
    Begins (tokens_made put before) (bracketed_made put size) (tokens_made put after)
unfolding bracketed_made
bracketed_is put (IsIndex.present {open_token} is d shut) h = then (then (a_token put open_token _) (const_is put CONST_NODES d (omega arith))) (a_symbol put CLOSE_BRACKET _ _ shut)

index_is : {A : Type 0} (put : TokenKind → List A) {room : ℕ} {size : Option (Token × ConstExpr)} {before after : List Token} → IsIndex room size before after → room ≤ MOST_DEPTH →
    Begins (tokens_made put before) (index_made put size) (tokens_made put after)
unfolding index_made bracketed_made
index_is put IsIndex.absent h = nothing
index_is put (IsIndex.present {open_token} is d shut) h = then (then (a_token put open_token _) (const_is put CONST_NODES d (omega arith))) (a_symbol put CLOSE_BRACKET _ _ shut)

item_is : {A : Type 0} (put : TokenKind → List A) {room : ℕ} {place : Item} {before after : List Token} → IsItem room place before after → room ≤ MOST_DEPTH →
    Begins (tokens_made put before) (item_made put place) (tokens_made put after)
unfolding item_made
item_is put (IsItem.place {name} is d) h = then (a_token put name _) (index_is put d h)

amounts_is : {A : Type 0} (put : TokenKind → List A) {room : ℕ} {rest : List (Token × ConstExpr)} {before after : List Token} → AreAmounts room rest before after → room ≤ MOST_DEPTH →
    Begins (tokens_made put before) (terms_made put (const_made put CONST_NODES) rest) (tokens_made put after)
amounts_is put AreAmounts.none h = nothing
amounts_is put (AreAmounts.more {op} {amount} {rest} is d r) h =
    named (terms_more put (const_made put CONST_NODES) op amount rest) (then (then (a_token put op _) (const_is put CONST_NODES d (omega arith))) (amounts_is put r h))

-- the nodes of an expression
chain_made : {A : Type 0} (put : TokenKind → List A) (depth : ℕ) (first : Expr) (rest : List (Token × Expr)) → expr_made put (suc depth) (expr.Chain first rest) ≡ expr_made put depth first ++ terms_made put (expr_made put depth) rest
unfolding expr_made
chain_made put depth first rest = ap (expr_layer put (expr_made put depth)) (opened.expr_chain first rest)

shift_made : {A : Type 0} (put : TokenKind → List A) (depth : ℕ) (first : Expr) (rest : List (Token × ConstExpr)) → expr_made put (suc depth) (expr.Shift first rest) ≡ expr_made put depth first ++ terms_made put (const_made put CONST_NODES) rest
unfolding expr_made
shift_made put depth first rest = ap (expr_layer put (expr_made put depth)) (opened.expr_shift first rest)

not_made : {A : Type 0} (put : TokenKind → List A) (depth : ℕ) (op : Token) (operand : Expr) → expr_made put (suc depth) (expr.Not op operand) ≡ put op.kind ++ expr_made put depth operand
unfolding expr_made
not_made put depth op operand = ap (expr_layer put (expr_made put depth)) (opened.expr_not op operand)

place_made : {A : Type 0} (put : TokenKind → List A) (depth : ℕ) (item : Item) → expr_made put (suc depth) (expr.Item item) ≡ item_made put item
unfolding expr_made
place_made put depth item = ap (expr_layer put (expr_made put depth)) (opened.expr_item item)

paren_made : {A : Type 0} (put : TokenKind → List A) (depth : ℕ) (bracket : Token) (inner : Expr) → expr_made put (suc depth) (expr.Paren bracket inner) ≡ put bracket.kind ++ expr_made put depth inner ++ put (kinds.Symbol CLOSE_PAREN)
unfolding expr_made
paren_made put depth bracket inner = ap (expr_layer put (expr_made put depth)) (opened.expr_paren bracket inner)

lit_made : {A : Type 0} (put : TokenKind → List A) (depth : ℕ) (word ty : Token) (value : ConstExpr) → expr_made put (suc depth) (expr.Lit word ty value) ≡ head_made put word ty OPEN_PAREN ++ const_made put CONST_NODES value ++ put (kinds.Symbol CLOSE_PAREN)
unfolding expr_made
lit_made put depth word ty value = ap (expr_layer put (expr_made put depth)) (opened.expr_lit word ty value)

resize_made : {A : Type 0} (put : TokenKind → List A) (depth : ℕ) (word ty : Token) (operand : Expr) → expr_made put (suc depth) (expr.Resize word ty operand) ≡ head_made put word ty OPEN_PAREN ++ expr_made put depth operand ++ put (kinds.Symbol CLOSE_PAREN)
unfolding expr_made
resize_made put depth word ty operand = ap (expr_layer put (expr_made put depth)) (opened.expr_resize word ty operand)

a_call_made : {A : Type 0} (put : TokenKind → List A) (depth : ℕ) (word : Token) (args : List Expr) → expr_made put (suc depth) (expr.Call word args) ≡ call_made put (expr_made put depth) word args
unfolding expr_made
a_call_made put depth word args = ap (expr_layer put (expr_made put depth)) (opened.expr_call word args)

mux_made : {A : Type 0} (put : TokenKind → List A) (depth : ℕ) (word : Token) (args : List Expr) → expr_made put (suc depth) (expr.Mux word args) ≡ put word.kind ++ put (kinds.Symbol OPEN_PAREN) ++ args_made put (expr_made put depth) args ++ put (kinds.Symbol CLOSE_PAREN)
unfolding expr_made
mux_made put depth word args = ap (expr_layer put (expr_made put depth)) (opened.expr_mux word args)

head_is : {A : Type 0} (put : TokenKind → List A) (row : ℕ) (word name sign : Token) (after : List Token) → Is (class.Symbol row) sign →
    Begins (tokens_made put (word ∷ name ∷ sign ∷ after)) (head_made put word name row) (tokens_made put after)
unfolding head_made
head_is put row word name sign after is = then (then (a_token put word _) (a_token put name _)) (a_symbol put row sign after is)

-- the three arguments of `mux`
three_made : {A : Type 0} (put : TokenKind → List A) (inner : Expr → List A) (first second third : Expr) →
    args_made put inner (first ∷ second ∷ third ∷ []) ≡ inner first ++ ((put (kinds.Symbol COMMA) ++ inner second) ++ ((put (kinds.Symbol COMMA) ++ inner third) ++ []))
three_made put inner first second third =
    ap (λ l. inner first ++ l) (flat_map-cons (λ (arg : Expr). put (kinds.Symbol COMMA) ++ inner arg) second (third ∷ []) ∙ ap (λ l. (put (kinds.Symbol COMMA) ++ inner second) ++ l) (flat_map-cons (λ (arg : Expr). put (kinds.Symbol COMMA) ++ inner arg) third []))

-- one argument, and two
one_made : {A : Type 0} (put : TokenKind → List A) (inner : Expr → List A) (first : Expr) → args_made put inner (first ∷ []) ≡ inner first ++ []
one_made put inner first = refl

two_made : {A : Type 0} (put : TokenKind → List A) (inner : Expr → List A) (first second : Expr) →
    args_made put inner (first ∷ second ∷ []) ≡ inner first ++ ((put (kinds.Symbol COMMA) ++ inner second) ++ [])
two_made put inner first second = ap (λ l. inner first ++ l) (flat_map-cons (λ (arg : Expr). put (kinds.Symbol COMMA) ++ inner arg) second [])

mutual
  expr_is : {A : Type 0} (put : TokenKind → List A) {level room : ℕ} {e : Expr} {before after : List Token} (depth : ℕ) → IsExpr level room e before after → room ≤ MOST_DEPTH → 8 * room + level < depth →
      Begins (tokens_made put before) (expr_made put depth e) (tokens_made put after)
  expr_is put zero d m h = absurd (omega arith)
  expr_is put (suc depth) (IsExpr.item {place} d) m h = named (place_made put depth place) (item_is put d m)
  expr_is put (suc depth) (IsExpr.paren {open_token} {inner} is d shut) m h =
      named (paren_made put depth open_token inner) (then (then (a_token put open_token _) (expr_is put depth d (omega arith) (omega arith))) (a_symbol put CLOSE_PAREN _ _ shut))
  expr_is put (suc depth) (IsExpr.lit {word} {ty} {value} w t o d shut) m h =
      named (lit_made put depth word ty value) (then (then (head_is put OPEN_PAREN word ty _ _ o) (const_is put CONST_NODES d (omega arith))) (a_symbol put CLOSE_PAREN _ _ shut))
  expr_is put (suc depth) (IsExpr.resize {word} {ty} {operand} w t o d shut) m h =
      named (resize_made put depth word ty operand) (then (then (head_is put OPEN_PAREN word ty _ _ o) (expr_is put depth d (omega arith) (omega arith))) (a_symbol put CLOSE_PAREN _ _ shut))
  expr_is put (suc depth) (IsExpr.mux {word} {condition} {yes} {no} w o a p b q c shut) m h =
      named (mux_made put depth word (condition ∷ yes ∷ no ∷ [])) (then (then (then (a_token put word _) (a_symbol put OPEN_PAREN _ _ o))
      (named (three_made put (expr_made put depth) condition yes no) (then (expr_is put depth a (omega arith) (omega arith)) (then
      (then (a_symbol put COMMA _ _ p) (expr_is put depth b (omega arith) (omega arith))) (then
      (then (a_symbol put COMMA _ _ q) (expr_is put depth c (omega arith) (omega arith))) nothing)))))
      (a_symbol put CLOSE_PAREN _ _ shut))
  expr_is put (suc depth) (IsExpr.choose {word} {first} {second} w o a p b shut) m h =
      named (a_call_made put depth word (first ∷ second ∷ [])) (then (then (then (a_token put word _) (a_symbol put OPEN_PAREN _ _ o))
      (named (two_made put (expr_made put depth) first second) (then (expr_is put depth a (omega arith) (omega arith)) (then
      (then (a_symbol put COMMA _ _ p) (expr_is put depth b (omega arith) (omega arith))) nothing))))
      (a_symbol put CLOSE_PAREN _ _ shut))
  expr_is put (suc depth) (IsExpr.count {word} {operand} w o a shut) m h =
      named (a_call_made put depth word (operand ∷ [])) (then (then (then (a_token put word _) (a_symbol put OPEN_PAREN _ _ o))
      (named (one_made put (expr_made put depth) operand) (then (expr_is put depth a (omega arith) (omega arith)) nothing)))
      (a_symbol put CLOSE_PAREN _ _ shut))
  expr_is put (suc depth) (IsExpr.«not» {op} {operand} is d) m h =
      named (not_made put depth op operand) (then (a_token put op _) (expr_is put depth d (omega arith) (omega arith)))
  expr_is put (suc depth) (IsExpr.alone d) m h = expr_is put (suc depth) d m (omega arith)
  expr_is put (suc depth) (IsExpr.chain {first} {second} {rest} l d r) m h =
      named (chain_made put depth first (second ∷ rest)) (then (expr_is put depth d m (omega arith)) (exprs_is put depth r m (omega arith)))
  expr_is put (suc depth) (IsExpr.shift {first} {second} {rest} d r) m h =
      named (shift_made put depth first (second ∷ rest)) (then (expr_is put depth d m (omega arith)) (amounts_is put r m))
  expr_is put (suc depth) (IsExpr.compare {op} {first} {second} d is s) m h =
      named (chain_made put depth first ((op, second) ∷ [])) (then (expr_is put depth d m (omega arith)) (named (terms_more put (expr_made put depth) op second []) (then (then (a_token put op _) (expr_is put depth s m (omega arith))) nothing)))

  exprs_is : {A : Type 0} (put : TokenKind → List A) {level room : ℕ} {rest : List (Token × Expr)} {before after : List Token} (depth : ℕ) → AreExprs level room rest before after → room ≤ MOST_DEPTH → 8 * room + level < suc depth →
      Begins (tokens_made put before) (terms_made put (expr_made put depth) rest) (tokens_made put after)
  exprs_is put depth AreExprs.none m h = nothing
  exprs_is put depth (AreExprs.more {op} {operand} {rest} is d r) m h =
      named (terms_more put (expr_made put depth) op operand rest) (then (then (a_token put op _) (expr_is put depth d m (omega arith))) (exprs_is put depth r m h))

-- the nodes of a statement
constant_node : {A : Type 0} (put : TokenKind → List A) (depth : ℕ) (word name : Token) (value : ConstExpr) → stmt_made put (suc depth) (stmt.Constant word name value) ≡ constant_made put word name value
unfolding stmt_made
constant_node put depth word name value = ap (stmt_layer put (stmt_made put depth)) (opened.stmt_constant word name value)

input_node : {A : Type 0} (put : TokenKind → List A) (depth : ℕ) (word party name ty : Token) (size : Option (Token × ConstExpr)) → stmt_made put (suc depth) (stmt.Input word party name ty size) ≡ input_made put word party name ty size
unfolding stmt_made
input_node put depth word party name ty size = ap (stmt_layer put (stmt_made put depth)) (opened.stmt_input word party name ty size)

let_node : {A : Type 0} (put : TokenKind → List A) (depth : ℕ) (word name : Token) (value : Expr) → stmt_made put (suc depth) (stmt.Let word name value) ≡ let_made put word name value
unfolding stmt_made
let_node put depth word name value = ap (stmt_layer put (stmt_made put depth)) (opened.stmt_let word name value)

array_node : {A : Type 0} (put : TokenKind → List A) (depth : ℕ) (word name ty : Token) (size : Token × ConstExpr) (eq : Token) (value : Expr) → stmt_made put (suc depth) (stmt.Array word name ty size eq value) ≡ array_made put word name ty size eq value
unfolding stmt_made
array_node put depth word name ty size eq value = ap (stmt_layer put (stmt_made put depth)) (opened.stmt_array word name ty size eq value)

assign_node : {A : Type 0} (put : TokenKind → List A) (depth : ℕ) (place : Item) (eq : Token) (value : Expr) → stmt_made put (suc depth) (stmt.Assign place eq value) ≡ assign_made put place eq value
unfolding stmt_made
assign_node put depth place eq value = ap (stmt_layer put (stmt_made put depth)) (opened.stmt_assign place eq value)

move_node : {A : Type 0} (put : TokenKind → List A) (depth : ℕ) (word name : Token) (place : Item) → stmt_made put (suc depth) (stmt.Move word name place) ≡ move_made put word name place
unfolding stmt_made
move_node put depth word name place = ap (stmt_layer put (stmt_made put depth)) (opened.stmt_move word name place)

on_node : {A : Type 0} (put : TokenKind → List A) (depth : ℕ) (word : Token) (worker : ConstExpr) (body : List Stmt) → stmt_made put (suc depth) (stmt.On word worker body) ≡ put word.kind ++ const_made put CONST_NODES worker ++ block_made put (stmt_made put depth) body
unfolding stmt_made
on_node put depth word worker body = ap (stmt_layer put (stmt_made put depth)) (opened.stmt_on word worker body)

for_node : {A : Type 0} (put : TokenKind → List A) (depth : ℕ) (word name : Token) (from to : ConstExpr) (body : List Stmt) → stmt_made put (suc depth) (stmt.For word name from to body) ≡ for_made put word name from to ++ block_made put (stmt_made put depth) body
unfolding stmt_made
for_node put depth word name from to body = ap (stmt_layer put (stmt_made put depth)) (opened.stmt_for word name from to body)

if_node : {A : Type 0} (put : TokenKind → List A) (depth : ℕ) (word : Token) (left : ConstExpr) (op : Token) (right : ConstExpr) (body : List Stmt) (other : Option (List Stmt)) → stmt_made put (suc depth) (stmt.If word left op right body other) ≡ if_made put word left op right ++ block_made put (stmt_made put depth) body ++ else_made put (stmt_made put depth) other
unfolding stmt_made
if_node put depth word left op right body other = ap (stmt_layer put (stmt_made put depth)) (opened.stmt_if word left op right body other)

output_node : {A : Type 0} (put : TokenKind → List A) (depth : ℕ) (word : Token) (value : Expr) → stmt_made put (suc depth) (stmt.Output word value) ≡ output_made put word value
unfolding stmt_made
output_node put depth word value = ap (stmt_layer put (stmt_made put depth)) (opened.stmt_output word value)

value_is : {A : Type 0} (put : TokenKind → List A) {room : ℕ} {e : Expr} {end : Token} {before after : List Token} → IsExpr 7 room e before (end ∷ after) → Is (class.Symbol SEMICOLON) end → room ≤ MOST_DEPTH →
    Begins (tokens_made put before) (value_made put e) (tokens_made put after)
unfolding value_made
value_is put d shut m = then (expr_is put EXPR_NODES d m (omega arith)) (a_symbol put SEMICOLON _ _ shut)

else_token : {A : Type 0} (put : TokenKind → List A) (token : Token) (after : List Token) → Is (class.Word keyword.Else) token → Begins (tokens_made put (token ∷ after)) (put (kinds.Word (codes "else"))) (tokens_made put after)
else_token put token after is = fixed put token (kinds.Word (codes "else")) after (else_is token is)

mutual
  unfolding constant_made input_made let_made array_made assign_made move_made output_made for_made if_made block_made else_made

  stmt_is : {A : Type 0} (put : TokenKind → List A) {room : ℕ} {s : Stmt} {before after : List Token} (depth : ℕ) → IsStmt room s before after → room ≤ MOST_DEPTH → room < depth →
      Begins (tokens_made put before) (stmt_made put depth s) (tokens_made put after)
  stmt_is put zero d m h = absurd (omega arith)
  stmt_is put (suc depth) (IsStmt.constant {word} {name} {value} w n q d shut) m h =
      named (constant_node put depth word name value) (then (then (head_is put ASSIGN word name _ _ q) (const_is put CONST_NODES d (omega arith))) (a_symbol put SEMICOLON _ _ shut))
  stmt_is put (suc depth) (IsStmt.input {word} {party} {name} {ty} {size} w p n c t d shut) m h =
      named (input_node put depth word party name ty size) (then (then (then (then (a_token put word _) (head_is put COLON party name _ _ c)) (a_token put ty _)) (index_is put d m)) (a_symbol put SEMICOLON _ _ shut))
  stmt_is put (suc depth) (IsStmt.«let» {word} {name} {value} w n q d shut) m h =
      named (let_node put depth word name value) (then (head_is put ASSIGN word name _ _ q) (value_is put d shut m))
  stmt_is put (suc depth) (IsStmt.array {word} {name} {ty} {eq} {size} {value} w n c t d q f shut) m h =
      named (array_node put depth word name ty size eq value) (then (then (then (then (head_is put COLON word name _ _ c) (a_token put ty _)) (bracketed_is put d m)) (a_token put eq _)) (value_is put f shut m))
  stmt_is put (suc depth) (IsStmt.assign {place} {eq} {value} d q f shut) m h =
      named (assign_node put depth place eq value) (then (then (item_is put d m) (a_token put eq _)) (value_is put f shut m))
  stmt_is put (suc depth) (IsStmt.move {word} {name} {place} w n q d shut) m h =
      named (move_node put depth word name place) (then (then (head_is put ASSIGN word name _ _ q) (item_is put d m)) (a_symbol put SEMICOLON _ _ shut))
  stmt_is put (suc depth) (IsStmt.on {word} {worker} {body} w d b) m h =
      named (on_node put depth word worker body) (then (then (a_token put word _) (const_is put CONST_NODES d (omega arith))) (block_is put depth b m h))
  stmt_is put (suc depth) (IsStmt.for {word} {name} {within} {from} {to} {body} w n i d q f b) m h =
      named (for_node put depth word name from to body) (then (then (then (then (then (then (a_token put word _) (a_token put name _)) (fixed put within (kinds.Word (codes "in")) _ (in_is within i))) (const_is put CONST_NODES d (omega arith))) (a_symbol put DOTS _ _ q)) (const_is put CONST_NODES f (omega arith))) (block_is put depth b m h))
  stmt_is put (suc depth) (IsStmt.choice {word} {op} {left} {right} {yes} {no} w d q f b o) m h =
      named (if_node put depth word left op right yes no) (then (then (then (then (then (a_token put word _) (const_is put CONST_NODES d (omega arith))) (a_token put op _)) (const_is put CONST_NODES f (omega arith))) (block_is put depth b m h)) (otherwise_is put depth o m h))
  stmt_is put (suc depth) (IsStmt.output {word} {value} w d shut) m h =
      named (output_node put depth word value) (then (a_token put word _) (value_is put d shut m))

  block_is : {A : Type 0} (put : TokenKind → List A) {room : ℕ} {body : List Stmt} {before after : List Token} (depth : ℕ) → IsBlock room body before after → room ≤ MOST_DEPTH → room < suc depth →
      Begins (tokens_made put before) (block_made put (stmt_made put depth) body) (tokens_made put after)
  block_is put depth (IsBlock.block o d shut) m h = then (then (a_symbol put OPEN_BRACE _ _ o) (stmts_is put depth d (omega arith) (omega arith))) (a_symbol put CLOSE_BRACE _ _ shut)

  otherwise_is : {A : Type 0} (put : TokenKind → List A) {room : ℕ} {body : Option (List Stmt)} {before after : List Token} (depth : ℕ) → IsElse room body before after → room ≤ MOST_DEPTH → room < suc depth →
      Begins (tokens_made put before) (else_made put (stmt_made put depth) body) (tokens_made put after)
  otherwise_is put depth IsElse.nothing m h = nothing
  otherwise_is put depth (IsElse.otherwise w b) m h = then (else_token put _ _ w) (block_is put depth b m h)

  stmts_is : {A : Type 0} (put : TokenKind → List A) {room : ℕ} {body : List Stmt} {before after : List Token} (depth : ℕ) → AreStmts room body before after → room ≤ MOST_DEPTH → room < depth →
      Begins (tokens_made put before) (flat_map (stmt_made put depth) body) (tokens_made put after)
  stmts_is put depth AreStmts.none m h = nothing
  stmts_is put depth (AreStmts.more {first} {rest} d r) m h =
      named (flat_map-cons (stmt_made put depth) first rest) (then (stmt_is put depth d m h) (stmts_is put depth r m h))

source_begins : {A : Type 0} (put : TokenKind → List A) {workers : Option Token} {body : List Stmt} {tokens : List Token} → IsSource MOST_DEPTH workers body tokens →
    Begins (tokens_made put tokens) (source_made put workers body) (tokens_made put [])
unfolding source_made workers_made
source_begins put (IsSource.counted {word} {number} w n e d) =
    then (then (then (fixed put word (kinds.Word (codes "workers")) _ (workers_is word w)) (a_token put number _)) (a_symbol put SEMICOLON _ _ e)) (stmts_is put STMT_NODES d (omega arith) (omega arith))
source_begins put (IsSource.uncounted d) = then nothing (stmts_is put STMT_NODES d (omega arith) (omega arith))

-- what is made of a source is what is made of its tokens
pub source_is : {A : Type 0} (put : TokenKind → List A) {workers : Option Token} {body : List Stmt} {tokens : List Token} → IsSource MOST_DEPTH workers body tokens → tokens_made put tokens ≡ source_made put workers body
unfolding tokens_made
source_is put {workers} {body} s = (source_begins put s).is ∙ append-nil (source_made put workers body)
