-- Reading finds a text too deep only where it has more tokens than there is room for brackets and signs.
use Rattle.std.proofs.Common.{◌≡◌, ℕ, zero, suc, ◌≤◌, ◌<◌, Bool, true, false, List, [], ◌∷◌, length, cond, refl, ap, arith}
use Rattle.std.specs.Prelude.{Option, Result, Ok, Err, IfOk}
use Rattle.mage_lex.specs.Symbols.{DOTS, SEMICOLON, COLON, COMMA, OPEN_PAREN, CLOSE_PAREN, OPEN_BRACKET, CLOSE_BRACKET, OPEN_BRACE, CLOSE_BRACE, ASSIGN, MINUS, NOT}
use Rattle.mage_lex.specs.declared.token.Token.{Token}
use Rattle.mage_tree.specs.declared.class.Class.{Class}
use Rattle.mage_tree.specs.declared.class.Class.TheVariants as class
use Rattle.mage_tree.specs.declared.class.Keyword.TheVariants as keyword
use Rattle.mage_parser.specs.declared.stop.Stop.{Stop}
use Rattle.mage_parser.specs.declared.stop.Stop.TheVariants as stops
use Rattle.mage_tree.specs.declared.tree.ConstExpr.{ConstExpr}
use Rattle.mage_tree.specs.declared.tree.Expr.{Expr}
use Rattle.mage_tree.specs.declared.tree.Item.{Item}
use Rattle.mage_tree.specs.declared.tree.Stmt.{Stmt}
use Rattle.mage_tree.specs.Classes.{fits}
use Rattle.mage_parser.specs.Reads.{◌>>=◌, Read, begins, calls, one, after_one, operands}
use Rattle.mage_tree.specs.Grammar.{const_operators, operators}
use Rattle.mage_parser.specs.Constants.{const_atom, const_unary, const_chain, const_from, const_in, const_at}
use Rattle.mage_parser.specs.Expressions.{bracketed, index_at, item_at, lit_at, resize_at, mux_at, paren_at, not_at, place_at, choose_at, count_at, name_at, unary_at, chain_at, shift_at, compare_from, compare_at, level_at, expr_from, expr_in, expr_at}
use Rattle.mage_parser.specs.Statements.{constant_at, input_at, let_at, array_at, assign_at, move_at, output_at, block_at, on_at, for_at, else_at, choice_at, stmt_from, are_over, stmts_from, stmts_in, stmt_at, stmts_at, workers_at, at_end, source_at}
use Rattle.mage_parser.proofs.Sound.{one_then, after_then, if_then, const_sound}
use Rattle.mage_parser.proofs.SoundExpressions.{bracketed_sound, item_sound, expr_in_sound, expr_sound}
use Rattle.mage_parser.proofs.SoundStatements.{block_sound, stmts_in_sound, stmt_at_sound}
use Rattle.mage_parser.proofs.FullConstants.{const_shrinks}
use Rattle.mage_parser.proofs.FullExpressions.{index_shrinks, item_shrinks, expr_shrinks}
use Rattle.mage_parser.proofs.FullStatements.{stmt_shrinks, block_shrinks}

-- too deep only where there are more tokens than room
abbrev pub Deep : {A : Type 0} → ℕ → ℕ → Result A Stop → Type 0
Deep room n (Ok x) = Unit {0}
Deep room n (Err (stops.TooDeep left)) = room < n
Deep room n (Err (stops.Syntax left)) = Unit {0}
Deep room n (Err stops.Memory) = ⊥

d_read : {A B : Type 0} (room n : ℕ) (read : Result A Stop) (f : A → Result B Stop) → Deep room n read → ((x : A) → read ≡ Ok x → Deep room n (f x)) → Deep room n (read >>= f)
d_read room n (Ok x) f d h = h x refl
d_read room n (Err (stops.Syntax left)) f d h = tt
d_read room n (Err (stops.TooDeep left)) f d h = d
d_read room n (Err stops.Memory) f d h = d

d_if : {B : Type 0} (room n : ℕ) (b : Bool) (first second : Result B Stop) → Deep room n first → Deep room n second → Deep room n (cond b first second)
d_if room n true first second f s = f
d_if room n false first second f s = s

d_one : {B : Type 0} (room n : ℕ) (c : Class) (tokens : List Token) (f : Token × List Token → Result B Stop) → ((token : Token) (rest : List Token) → tokens ≡ token ∷ rest → Deep room n (f (token, rest))) → Deep room n (one c tokens >>= f)
unfolding one
d_one room n c [] f h = tt
d_one {B} room n c (token ∷ rest) f h = go (fits c token)
  where
    go : (b : Bool) → Deep room n (cond b (Ok (token, rest)) (Err (stops.Syntax (length (token ∷ rest)))) >>= f)
    go true = h token rest refl
    go false = tt

d_after : {B : Type 0} (room n : ℕ) (c : Class) (tokens : List Token) (f : List Token → Result B Stop) → ((token : Token) (rest : List Token) → tokens ≡ token ∷ rest → Deep room n (f rest)) → Deep room n (after_one c tokens >>= f)
unfolding after_one
d_after room n c [] f h = tt
d_after {B} room n c (token ∷ rest) f h = go (fits c token)
  where
    go : (b : Bool) → Deep room n (cond b (Ok rest) (Err (stops.Syntax (length (token ∷ rest)))) >>= f)
    go true = h token rest refl
    go false = tt

d_up : {A : Type 0} (room n : ℕ) (read : Result A Stop) → Deep room n read → Deep (suc room) (suc n) read
d_up room n (Ok x) d = tt
d_up room n (Err (stops.Syntax left)) d = tt
d_up room n (Err (stops.TooDeep left)) d = omega arith
d_up room n (Err stops.Memory) d = d

shorter : (tokens : List Token) (token : Token) (rest : List Token) (n : ℕ) → tokens ≡ token ∷ rest → length tokens ≤ n → length rest ≤ n
shorter tokens token rest n e m = let l = ap length e in omega (arith, l)

d_operands : {A : Type 0} (room n : ℕ) (operand : List Token → Read A) (c : Class) → ((tokens : List Token) (x : A × List Token) → operand tokens ≡ Ok x → length x.1 ≤ length tokens) →
    ((tokens : List Token) → length tokens ≤ n → Deep room n (operand tokens)) → (most : ℕ) (tokens : List Token) → length tokens ≤ n → Deep room n (operands operand c most tokens)
unfolding operands
d_operands room n operand c shrinks deep zero tokens m = tt
d_operands room n operand c shrinks deep (suc most) tokens m =
    d_if room n (begins c tokens) _ _
    (d_one room n c tokens _ (λ token rest e.
    d_read room n (operand rest) _ (deep rest (shorter tokens token rest n e m)) (λ value v.
    d_read room n (operands operand c most value.1) _
    (d_operands room n operand c shrinks deep most value.1 (let k = shrinks rest value v in let l = shorter tokens token rest n e m in omega (arith, k, l)))
    (λ more i. tt))))
    tt

-- constants
abbrev ConstIn : ℕ → Type 0
ConstIn room = (level : ℕ) (tokens : List Token) (token : Token) (rest : List Token) → tokens ≡ token ∷ rest → (n : ℕ) → length tokens ≤ n → Deep room n (const_in room level tokens)

d_const_atom : (room : ℕ) → ConstIn room → (tokens : List Token) (n : ℕ) → length tokens ≤ n → Deep room n (const_atom (const_in room) tokens)
unfolding const_atom
d_const_atom room deep tokens n m =
    d_if room n (begins class.Number tokens) _ _ (d_one room n class.Number tokens _ (λ token rest e. tt))
    (d_if room n (begins class.Name tokens) _ _ (d_one room n class.Name tokens _ (λ token rest e. tt))
    (d_one room n (class.Symbol OPEN_PAREN) tokens _ (λ token rest e.
    d_read room n (const_in room 3 tokens) _ (deep 3 tokens token rest e n m) (λ inner i. d_after room n (class.Symbol CLOSE_PAREN) inner.1 _ (λ last others f. tt)))))

d_const_unary : (room : ℕ) → ConstIn room → (tokens : List Token) (n : ℕ) → length tokens ≤ n → Deep room n (const_unary (const_in room) tokens)
unfolding const_unary
d_const_unary room deep tokens n m =
    d_if room n (begins (class.Symbol MINUS) tokens) _ _
    (d_one room n (class.Symbol MINUS) tokens _ (λ token rest e. d_read room n (const_in room 1 tokens) _ (deep 1 tokens token rest e n m) (λ operand i. tt)))
    (d_const_atom room deep tokens n m)

const_shorter : (room level : ℕ) (tokens : List Token) (x : ConstExpr × List Token) → const_at room level tokens ≡ Ok x → length x.1 ≤ length tokens
const_shorter room level tokens x e = const_shrinks (rw e at (const_sound room level tokens))

from_shorter : (room level : ℕ) (tokens : List Token) (x : ConstExpr × List Token) → const_from (const_in room) level tokens ≡ Ok x → length x.1 ≤ length tokens
unfolding const_at
from_shorter room level tokens x e = const_shorter room level tokens x e

d_const_from : (room : ℕ) → ConstIn room → (level : ℕ) (tokens : List Token) (n : ℕ) → length tokens ≤ n → Deep room n (const_from (const_in room) level tokens)
unfolding const_from const_chain
d_const_from room deep zero tokens n m = d_const_atom room deep tokens n m
d_const_from room deep (suc zero) tokens n m = d_const_unary room deep tokens n m
d_const_from room deep (suc (suc level)) tokens n m =
    d_read room n (const_from (const_in room) (suc level) tokens) _ (d_const_from room deep (suc level) tokens n m) (λ first f.
    d_read room n (operands (const_from (const_in room) (suc level)) (const_operators (suc (suc level))) (length first.1) first.1) _
    (d_operands room n (const_from (const_in room) (suc level)) (const_operators (suc (suc level))) (λ others x e. from_shorter room (suc level) others x e)
    (λ others k. d_const_from room deep (suc level) others n k) (length first.1) first.1 (let k = from_shorter room (suc level) tokens first f in omega (arith, k)))
    (λ rest r. tt))

d_const_in : (room : ℕ) → ConstIn room
unfolding const_in
d_const_in zero level tokens token rest e n m = let l = ap length e in omega (arith, l)
d_const_in (suc room) level tokens token rest e zero m = absurd (let l = ap length e in omega (arith, l))
d_const_in (suc room) level tokens token rest e (suc n) m =
    rw e (d_up room n (const_from (const_in room) level rest) (d_const_from room (d_const_in room) level rest n (let l = ap length e in omega (arith, l))))

d_const : (room level : ℕ) (tokens : List Token) (n : ℕ) → length tokens ≤ n → Deep room n (const_at room level tokens)
unfolding const_at
d_const room level tokens n m = d_const_from room (d_const_in room) level tokens n m

-- expressions
d_bracketed : (room : ℕ) (tokens : List Token) (n : ℕ) → length tokens ≤ n → Deep room n (bracketed room tokens)
unfolding bracketed
d_bracketed room tokens n m =
    d_one room n (class.Symbol OPEN_BRACKET) tokens _ (λ token rest e.
    d_read room n (const_in room 3 tokens) _ (d_const_in room 3 tokens token rest e n m) (λ value v. d_after room n (class.Symbol CLOSE_BRACKET) value.1 _ (λ last others f. tt)))

d_index : (room : ℕ) (tokens : List Token) (n : ℕ) → length tokens ≤ n → Deep room n (index_at room tokens)
unfolding index_at
d_index room tokens n m = d_if room n (begins (class.Symbol OPEN_BRACKET) tokens) _ _ (d_read room n (bracketed room tokens) _ (d_bracketed room tokens n m) (λ value v. tt)) tt

d_item : (room : ℕ) (tokens : List Token) (n : ℕ) → length tokens ≤ n → Deep room n (item_at room tokens)
unfolding item_at
d_item room tokens n m =
    d_one room n class.Name tokens _ (λ token rest e. d_read room n (index_at room rest) _ (d_index room rest n (shorter tokens token rest n e m)) (λ value v. tt))

abbrev ExprIn : ℕ → Type 0
ExprIn room = (level : ℕ) → level < 8 → (tokens : List Token) (token : Token) (rest : List Token) → tokens ≡ token ∷ rest → (n : ℕ) → length tokens ≤ n → Deep room n (expr_in room level tokens)

seven : 7 < 8
seven = omega arith

in_shorter : (room : ℕ) (tokens : List Token) (token : Token) (rest : List Token) → tokens ≡ token ∷ rest → (x : Expr × List Token) → expr_in room 7 tokens ≡ Ok x → length x.1 ≤ length tokens
in_shorter room tokens token rest e x f = let known = rw f at (expr_in_sound room 7 seven tokens token rest e) in let k = expr_shrinks known.2 in let l = ap length e in omega (arith, k, l)

d_place : (room : ℕ) (tokens : List Token) (n : ℕ) → length tokens ≤ n → Deep room n (place_at room tokens)
unfolding place_at
d_place room tokens n m = d_read room n (item_at room tokens) _ (d_item room tokens n m) (λ item i. tt)

d_choose : (room : ℕ) → ExprIn room → (tokens : List Token) (n : ℕ) → length tokens ≤ n → Deep room n (choose_at (expr_in room) tokens)
unfolding choose_at
d_choose room deep tokens n m =
    d_one room n class.Choosing tokens _ (λ word r1 e1. d_after room n (class.Symbol OPEN_PAREN) r1 _ (λ bracket r2 e2.
    d_read room n (expr_in room 7 r1) _ (deep 7 seven r1 bracket r2 e2 n (shorter tokens word r1 n e1 m)) (λ first i.
    d_after room n (class.Symbol COMMA) first.1 _ (λ comma r3 e3.
    d_read room n (expr_in room 7 first.1) _ (deep 7 seven first.1 comma r3 e3 n (let k = in_shorter room r1 bracket r2 e2 first i in let l = shorter tokens word r1 n e1 m in omega (arith, k, l))) (λ second j.
    d_after room n (class.Symbol CLOSE_PAREN) second.1 _ (λ last others f. tt))))))

d_count : (room : ℕ) → ExprIn room → (tokens : List Token) (n : ℕ) → length tokens ≤ n → Deep room n (count_at (expr_in room) tokens)
unfolding count_at
d_count room deep tokens n m =
    d_one room n class.Counting tokens _ (λ word r1 e1. d_after room n (class.Symbol OPEN_PAREN) r1 _ (λ bracket r2 e2.
    d_read room n (expr_in room 7 r1) _ (deep 7 seven r1 bracket r2 e2 n (shorter tokens word r1 n e1 m)) (λ operand i.
    d_after room n (class.Symbol CLOSE_PAREN) operand.1 _ (λ last others f. tt))))

d_unary : (room : ℕ) → ExprIn room → (tokens : List Token) (n : ℕ) → length tokens ≤ n → Deep room n (unary_at (expr_in room) room tokens)
unfolding unary_at not_at name_at lit_at resize_at mux_at paren_at
d_unary room deep tokens n m =
    d_if room n (begins (class.Symbol NOT) tokens) _ _
    (d_one room n (class.Symbol NOT) tokens _ (λ token rest e. d_read room n (expr_in room 0 tokens) _ (deep 0 (omega arith) tokens token rest e n m) (λ operand i. tt)))
    (d_if room n (begins class.Name tokens) _ _
    (d_if room n (calls class.Choosing tokens) _ _ (d_choose room deep tokens n m)
    (d_if room n (calls class.Counting tokens) _ _ (d_count room deep tokens n m)
    (d_place room tokens n m)))
    (d_if room n (begins (class.Word keyword.Lit) tokens) _ _
    (d_one room n (class.Word keyword.Lit) tokens _ (λ word r1 e1. d_one room n class.Type r1 _ (λ ty r2 e2. d_after room n (class.Symbol OPEN_PAREN) r2 _ (λ bracket r3 e3.
    d_read room n (const_in room 3 r2) _ (d_const_in room 3 r2 bracket r3 e3 n (shorter r1 ty r2 n e2 (shorter tokens word r1 n e1 m))) (λ value v. d_after room n (class.Symbol CLOSE_PAREN) value.1 _ (λ last others f. tt))))))
    (d_if room n (begins (class.Word keyword.Resize) tokens) _ _
    (d_one room n (class.Word keyword.Resize) tokens _ (λ word r1 e1. d_one room n class.Type r1 _ (λ ty r2 e2. d_after room n (class.Symbol OPEN_PAREN) r2 _ (λ bracket r3 e3.
    d_read room n (expr_in room 7 r2) _ (deep 7 seven r2 bracket r3 e3 n (shorter r1 ty r2 n e2 (shorter tokens word r1 n e1 m))) (λ value v. d_after room n (class.Symbol CLOSE_PAREN) value.1 _ (λ last others f. tt))))))
    (d_if room n (begins (class.Word keyword.Mux) tokens) _ _
    (d_one room n (class.Word keyword.Mux) tokens _ (λ word r1 e1. d_after room n (class.Symbol OPEN_PAREN) r1 _ (λ bracket r2 e2.
    d_read room n (expr_in room 7 r1) _ (deep 7 seven r1 bracket r2 e2 n (shorter tokens word r1 n e1 m)) (λ condition i.
    d_after room n (class.Symbol COMMA) condition.1 _ (λ comma r3 e3.
    d_read room n (expr_in room 7 condition.1) _ (deep 7 seven condition.1 comma r3 e3 n (let k = in_shorter room r1 bracket r2 e2 condition i in let l = shorter tokens word r1 n e1 m in omega (arith, k, l))) (λ chosen j.
    d_after room n (class.Symbol COMMA) chosen.1 _ (λ second_comma r4 e4.
    d_read room n (expr_in room 7 chosen.1) _ (deep 7 seven chosen.1 second_comma r4 e4 n
    (let k = in_shorter room r1 bracket r2 e2 condition i in let l = shorter tokens word r1 n e1 m in let q = in_shorter room condition.1 comma r3 e3 chosen j in omega (arith, k, l, q)))
    (λ other o. d_after room n (class.Symbol CLOSE_PAREN) other.1 _ (λ last others f. tt)))))))))
    (d_one room n (class.Symbol OPEN_PAREN) tokens _ (λ token rest e.
    d_read room n (expr_in room 7 tokens) _ (deep 7 seven tokens token rest e n m) (λ inner i. d_after room n (class.Symbol CLOSE_PAREN) inner.1 _ (λ last others f. tt))))))))

d_level : (c : Class) (room n : ℕ) (operand : List Token → Read Expr) → ((tokens : List Token) (x : Expr × List Token) → operand tokens ≡ Ok x → length x.1 ≤ length tokens) →
    ((tokens : List Token) → length tokens ≤ n → Deep room n (operand tokens)) → (tokens : List Token) → length tokens ≤ n → Deep room n (chain_at operand c tokens)
unfolding chain_at
d_level c room n operand shrinks deep tokens m =
    d_read room n (operand tokens) _ (deep tokens m) (λ first f.
    d_read room n (operands operand c (length first.1) first.1) _
    (d_operands room n operand c shrinks deep (length first.1) first.1 (let k = shrinks tokens first f in omega (arith, k))) (λ rest r. tt))

d_shift : (room n : ℕ) (operand : List Token → Read Expr) → ((tokens : List Token) (x : Expr × List Token) → operand tokens ≡ Ok x → length x.1 ≤ length tokens) →
    ((tokens : List Token) → length tokens ≤ n → Deep room n (operand tokens)) → (tokens : List Token) → length tokens ≤ n → Deep room n (shift_at operand room tokens)
unfolding shift_at
d_shift room n operand shrinks deep tokens m =
    d_read room n (operand tokens) _ (deep tokens m) (λ first f.
    d_read room n (operands (const_at room 0) class.Shifting (length first.1) first.1) _
    (d_operands room n (const_at room 0) class.Shifting (λ others x e. const_shorter room 0 others x e) (λ others k. d_const room 0 others n k) (length first.1) first.1
    (let k = shrinks tokens first f in omega (arith, k))) (λ rest r. tt))

d_compare : (room n : ℕ) (operand : List Token → Read Expr) → ((tokens : List Token) (x : Expr × List Token) → operand tokens ≡ Ok x → length x.1 ≤ length tokens) →
    ((tokens : List Token) → length tokens ≤ n → Deep room n (operand tokens)) → (tokens : List Token) → length tokens ≤ n → Deep room n (compare_at operand tokens)
unfolding compare_at compare_from
d_compare room n operand shrinks deep tokens m =
    d_read room n (operand tokens) _ (deep tokens m) (λ first f.
    d_if room n (begins class.Comparing first.1) _ _
    (d_one room n class.Comparing first.1 _ (λ op rest e. d_read room n (operand rest) _ (deep rest (let k = shrinks tokens first f in let l = ap length e in omega (arith, k, l))) (λ second s. tt)))
    tt)

d_at : (c : Class) (room n : ℕ) (operand : List Token → Read Expr) → ((tokens : List Token) (x : Expr × List Token) → operand tokens ≡ Ok x → length x.1 ≤ length tokens) →
    ((tokens : List Token) → length tokens ≤ n → Deep room n (operand tokens)) → (tokens : List Token) → length tokens ≤ n → Deep room n (level_at c operand room tokens)
d_at (class.Word word) room n operand shrinks deep tokens m = d_level (class.Word word) room n operand shrinks deep tokens m
d_at (class.Symbol row) room n operand shrinks deep tokens m = d_level (class.Symbol row) room n operand shrinks deep tokens m
d_at class.Number room n operand shrinks deep tokens m = d_level class.Number room n operand shrinks deep tokens m
d_at class.Name room n operand shrinks deep tokens m = d_level class.Name room n operand shrinks deep tokens m
d_at class.Type room n operand shrinks deep tokens m = d_level class.Type room n operand shrinks deep tokens m
d_at class.Party room n operand shrinks deep tokens m = d_level class.Party room n operand shrinks deep tokens m
d_at class.Choosing room n operand shrinks deep tokens m = d_level class.Choosing room n operand shrinks deep tokens m
d_at class.Counting room n operand shrinks deep tokens m = d_level class.Counting room n operand shrinks deep tokens m
d_at class.Adding room n operand shrinks deep tokens m = d_level class.Adding room n operand shrinks deep tokens m
d_at class.Scaling room n operand shrinks deep tokens m = d_level class.Scaling room n operand shrinks deep tokens m
d_at class.Shifting room n operand shrinks deep tokens m = d_shift room n operand shrinks deep tokens m
d_at class.Comparing room n operand shrinks deep tokens m = d_compare room n operand shrinks deep tokens m

expr_shorter : (room level : ℕ) → level < 8 → (tokens : List Token) (x : Expr × List Token) → expr_at room level tokens ≡ Ok x → length x.1 ≤ length tokens
expr_shorter room level h tokens x e = expr_shrinks (rw e at (expr_sound room level h tokens))

expr_from_shorter : (room level : ℕ) → level < 8 → (tokens : List Token) (x : Expr × List Token) → expr_from (expr_in room) room level tokens ≡ Ok x → length x.1 ≤ length tokens
unfolding expr_at
expr_from_shorter room level h tokens x e = expr_shorter room level h tokens x e

d_expr_from : (room : ℕ) → ExprIn room → (level : ℕ) → level < 8 → (tokens : List Token) (n : ℕ) → length tokens ≤ n → Deep room n (expr_from (expr_in room) room level tokens)
unfolding expr_from
d_expr_from room deep zero h tokens n m = d_unary room deep tokens n m
d_expr_from room deep (suc level) h tokens n m =
    d_at (operators (suc level)) room n (expr_from (expr_in room) room level) (λ others x e. expr_from_shorter room level (omega arith) others x e)
    (λ others k. d_expr_from room deep level (omega arith) others n k) tokens m

d_expr_in : (room : ℕ) → ExprIn room
unfolding expr_in
d_expr_in zero level h tokens token rest e n m = let l = ap length e in omega (arith, l)
d_expr_in (suc room) level h tokens token rest e zero m = absurd (let l = ap length e in omega (arith, l))
d_expr_in (suc room) level h tokens token rest e (suc n) m =
    rw e (d_up room n (expr_from (expr_in room) room level rest) (d_expr_from room (d_expr_in room) level h rest n (let l = ap length e in omega (arith, l))))

d_expr : (room : ℕ) (tokens : List Token) (n : ℕ) → length tokens ≤ n → Deep room n (expr_at room 7 tokens)
unfolding expr_at
d_expr room tokens n m = d_expr_from room (d_expr_in room) 7 seven tokens n m

-- statements
abbrev StmtsIn : ℕ → Type 0
StmtsIn room = (tokens : List Token) (token : Token) (rest : List Token) → tokens ≡ token ∷ rest → (n : ℕ) → length tokens ≤ n → Deep room n (stmts_in room tokens)

d_block : (room : ℕ) → StmtsIn room → (tokens : List Token) (n : ℕ) → length tokens ≤ n → Deep room n (block_at (stmts_in room) tokens)
unfolding block_at
d_block room deep tokens n m =
    d_after room n (class.Symbol OPEN_BRACE) tokens _ (λ token rest e. d_read room n (stmts_in room tokens) _ (deep tokens token rest e n m) (λ body b. d_after room n (class.Symbol CLOSE_BRACE) body.1 _ (λ last others f. tt)))

block_shorter : (room : ℕ) (tokens : List Token) (x : List Stmt × List Token) → block_at (stmts_in room) tokens ≡ Ok x → length x.1 < length tokens
block_shorter room tokens x e = block_shrinks (rw e at (block_sound room (stmts_in room) (stmts_in_sound room) tokens))

bracketed_shorter : (room : ℕ) (tokens : List Token) (x : (Token × ConstExpr) × List Token) → bracketed room tokens ≡ Ok x → length x.1 ≤ length tokens
bracketed_shorter room tokens x e = index_shrinks (rw e at (bracketed_sound room tokens))

item_shorter : (room : ℕ) (tokens : List Token) (x : Item × List Token) → item_at room tokens ≡ Ok x → length x.1 ≤ length tokens
item_shorter room tokens x e = item_shrinks (rw e at (item_sound room tokens))

d_else : (room : ℕ) → StmtsIn room → (tokens : List Token) (n : ℕ) → length tokens ≤ n → Deep room n (else_at (stmts_in room) tokens)
unfolding else_at
d_else room deep tokens n m =
    d_if room n (begins (class.Word keyword.Else) tokens) _ _
    (d_after room n (class.Word keyword.Else) tokens _ (λ token rest e. d_read room n (block_at (stmts_in room) rest) _ (d_block room deep rest n (shorter tokens token rest n e m)) (λ body b. tt)))
    tt

d_stmt : (room : ℕ) → StmtsIn room → (tokens : List Token) (n : ℕ) → length tokens ≤ n → Deep room n (stmt_from (stmts_in room) room tokens)
unfolding stmt_from constant_at input_at let_at array_at assign_at move_at output_at on_at for_at choice_at
d_stmt room deep tokens n m =
    d_if room n (begins (class.Word keyword.Const) tokens) _ _
    (d_one room n (class.Word keyword.Const) tokens _ (λ w r1 e1. d_one room n class.Name r1 _ (λ a r2 e2. d_after room n (class.Symbol ASSIGN) r2 _ (λ q r3 e3.
    d_read room n (const_at room 3 r3) _ (d_const room 3 r3 n (shorter r2 q r3 n e3 (shorter r1 a r2 n e2 (shorter tokens w r1 n e1 m)))) (λ v i. d_after room n (class.Symbol SEMICOLON) v.1 _ (λ l o f. tt))))))
    (d_if room n (begins (class.Word keyword.Input) tokens) _ _
    (d_one room n (class.Word keyword.Input) tokens _ (λ w r1 e1. d_one room n class.Party r1 _ (λ p r2 e2. d_one room n class.Name r2 _ (λ a r3 e3. d_after room n (class.Symbol COLON) r3 _ (λ q r4 e4. d_one room n class.Type r4 _ (λ ty r5 e5.
    d_read room n (index_at room r5) _ (d_index room r5 n (shorter r4 ty r5 n e5 (shorter r3 q r4 n e4 (shorter r2 a r3 n e3 (shorter r1 p r2 n e2 (shorter tokens w r1 n e1 m)))))) (λ v i. d_after room n (class.Symbol SEMICOLON) v.1 _ (λ l o f. tt))))))))
    (d_if room n (begins (class.Word keyword.Let) tokens) _ _
    (d_one room n (class.Word keyword.Let) tokens _ (λ w r1 e1. d_one room n class.Name r1 _ (λ a r2 e2. d_after room n (class.Symbol ASSIGN) r2 _ (λ q r3 e3.
    d_read room n (expr_at room 7 r3) _ (d_expr room r3 n (shorter r2 q r3 n e3 (shorter r1 a r2 n e2 (shorter tokens w r1 n e1 m)))) (λ v i. d_after room n (class.Symbol SEMICOLON) v.1 _ (λ l o f. tt))))))
    (d_if room n (begins (class.Word keyword.Array) tokens) _ _
    (d_one room n (class.Word keyword.Array) tokens _ (λ w r1 e1. d_one room n class.Name r1 _ (λ a r2 e2. d_after room n (class.Symbol COLON) r2 _ (λ q r3 e3. d_one room n class.Type r3 _ (λ ty r4 e4.
    d_read room n (bracketed room r4) _ (d_bracketed room r4 n (shorter r3 ty r4 n e4 (shorter r2 q r3 n e3 (shorter r1 a r2 n e2 (shorter tokens w r1 n e1 m))))) (λ size b.
    d_one room n (class.Symbol ASSIGN) size.1 _ (λ eq r5 e5.
    d_read room n (expr_at room 7 r5) _ (d_expr room r5 n (shorter size.1 eq r5 n e5 (let k = bracketed_shorter room r4 size b in let l = shorter r3 ty r4 n e4 (shorter r2 q r3 n e3 (shorter r1 a r2 n e2 (shorter tokens w r1 n e1 m))) in omega (arith, k, l))))
    (λ v i. d_after room n (class.Symbol SEMICOLON) v.1 _ (λ l o f. tt)))))))))
    (d_if room n (begins (class.Word keyword.Move) tokens) _ _
    (d_one room n (class.Word keyword.Move) tokens _ (λ w r1 e1. d_one room n class.Name r1 _ (λ a r2 e2. d_after room n (class.Symbol ASSIGN) r2 _ (λ q r3 e3.
    d_read room n (item_at room r3) _ (d_item room r3 n (shorter r2 q r3 n e3 (shorter r1 a r2 n e2 (shorter tokens w r1 n e1 m)))) (λ v i. d_after room n (class.Symbol SEMICOLON) v.1 _ (λ l o f. tt))))))
    (d_if room n (begins (class.Word keyword.On) tokens) _ _
    (d_one room n (class.Word keyword.On) tokens _ (λ w r1 e1. d_read room n (const_at room 3 r1) _ (d_const room 3 r1 n (shorter tokens w r1 n e1 m)) (λ v i.
    d_read room n (block_at (stmts_in room) v.1) _ (d_block room deep v.1 n (let k = const_shorter room 3 r1 v i in let l = shorter tokens w r1 n e1 m in omega (arith, k, l))) (λ body b. tt))))
    (d_if room n (begins (class.Word keyword.For) tokens) _ _
    (d_one room n (class.Word keyword.For) tokens _ (λ w r1 e1. d_one room n class.Name r1 _ (λ a r2 e2. d_after room n (class.Word keyword.In) r2 _ (λ q r3 e3.
    d_read room n (const_at room 3 r3) _ (d_const room 3 r3 n (shorter r2 q r3 n e3 (shorter r1 a r2 n e2 (shorter tokens w r1 n e1 m)))) (λ v i.
    d_after room n (class.Symbol DOTS) v.1 _ (λ dots r4 e4.
    d_read room n (const_at room 3 r4) _ (d_const room 3 r4 n (shorter v.1 dots r4 n e4 (let k = const_shorter room 3 r3 v i in let l = shorter r2 q r3 n e3 (shorter r1 a r2 n e2 (shorter tokens w r1 n e1 m)) in omega (arith, k, l)))) (λ u j.
    d_read room n (block_at (stmts_in room) u.1) _ (d_block room deep u.1 n
    (let k = const_shorter room 3 r3 v i in let l = shorter r2 q r3 n e3 (shorter r1 a r2 n e2 (shorter tokens w r1 n e1 m)) in let o = shorter v.1 dots r4 (length v.1) e4 (omega arith) in let p = const_shorter room 3 r4 u j in omega (arith, k, l, o, p))) (λ body b. tt))))))))
    (d_if room n (begins (class.Word keyword.If) tokens) _ _
    (d_one room n (class.Word keyword.If) tokens _ (λ w r1 e1. d_read room n (const_at room 3 r1) _ (d_const room 3 r1 n (shorter tokens w r1 n e1 m)) (λ v i.
    d_one room n class.Comparing v.1 _ (λ op r2 e2.
    d_read room n (const_at room 3 r2) _ (d_const room 3 r2 n (shorter v.1 op r2 n e2 (let k = const_shorter room 3 r1 v i in let l = shorter tokens w r1 n e1 m in omega (arith, k, l)))) (λ u j.
    d_read room n (block_at (stmts_in room) u.1) _ (d_block room deep u.1 n
    (let k = const_shorter room 3 r1 v i in let l = shorter tokens w r1 n e1 m in let o = shorter v.1 op r2 (length v.1) e2 (omega arith) in let p = const_shorter room 3 r2 u j in omega (arith, k, l, o, p))) (λ chosen b.
    d_read room n (else_at (stmts_in room) chosen.1) _ (d_else room deep chosen.1 n
    (let k = const_shorter room 3 r1 v i in let l = shorter tokens w r1 n e1 m in let o = shorter v.1 op r2 (length v.1) e2 (omega arith) in let p = const_shorter room 3 r2 u j in let q = block_shorter room u.1 chosen b in omega (arith, k, l, o, p, q))) (λ other x. tt)))))))
    (d_if room n (begins (class.Word keyword.Output) tokens) _ _
    (d_one room n (class.Word keyword.Output) tokens _ (λ w r1 e1. d_read room n (expr_at room 7 r1) _ (d_expr room r1 n (shorter tokens w r1 n e1 m)) (λ v i. d_after room n (class.Symbol SEMICOLON) v.1 _ (λ l o f. tt))))
    (d_read room n (item_at room tokens) _ (d_item room tokens n m) (λ place p.
    d_one room n (class.Symbol ASSIGN) place.1 _ (λ eq r1 e1.
    d_read room n (expr_at room 7 r1) _ (d_expr room r1 n (shorter place.1 eq r1 n e1 (let k = item_shorter room tokens place p in omega (arith, k)))) (λ v i. d_after room n (class.Symbol SEMICOLON) v.1 _ (λ l o f. tt)))))))))))))

stmt_shorter : (room : ℕ) (tokens : List Token) (x : Stmt × List Token) → stmt_from (stmts_in room) room tokens ≡ Ok x → length x.1 < length tokens
stmt_shorter room tokens x e = stmt_shrinks (rw e at (stmt_at_sound room tokens))

d_stmts_from : (room : ℕ) → StmtsIn room → (most : ℕ) (tokens : List Token) (n : ℕ) → length tokens ≤ n → Deep room n (stmts_from (stmt_from (stmts_in room) room) most tokens)
unfolding stmts_from
d_stmts_from room deep zero tokens n m = tt
d_stmts_from room deep (suc most) tokens n m =
    d_if room n (are_over tokens) _ _ tt
    (d_read room n (stmt_from (stmts_in room) room tokens) _ (d_stmt room deep tokens n m) (λ first f.
    d_read room n (stmts_from (stmt_from (stmts_in room) room) most first.1) _
    (d_stmts_from room deep most first.1 n (let k = stmt_shorter room tokens first f in omega (arith, k))) (λ rest r. tt)))

d_stmts_in : (room : ℕ) → StmtsIn room
unfolding stmts_in
d_stmts_in zero tokens token rest e n m = let l = ap length e in omega (arith, l)
d_stmts_in (suc room) tokens token rest e zero m = absurd (let l = ap length e in omega (arith, l))
d_stmts_in (suc room) tokens token rest e (suc n) m =
    rw e (d_up room n (stmts_from (stmt_from (stmts_in room) room) (length rest) rest) (d_stmts_from room (d_stmts_in room) (length rest) rest n (let l = ap length e in omega (arith, l))))

d_workers : (room n : ℕ) (tokens : List Token) → Deep room n (workers_at tokens)
unfolding workers_at
d_workers room n tokens =
    d_if room n (begins (class.Word keyword.Workers) tokens) _ _
    (d_after room n (class.Word keyword.Workers) tokens _ (λ w r1 e1. d_one room n class.Number r1 _ (λ a r2 e2. d_after room n (class.Symbol SEMICOLON) r2 _ (λ q r3 e3. tt))))
    tt

workers_if : (tokens : List Token) → IfOk (workers_at tokens) (λ x. length x.1 ≤ length tokens)
unfolding workers_at
workers_if tokens =
    if_then (begins (class.Word keyword.Workers) tokens) _ _ _
    (after_then (class.Word keyword.Workers) tokens _ _ (λ w r1 e1 i1. one_then class.Number r1 _ _ (λ a r2 e2 i2. after_then (class.Symbol SEMICOLON) r2 _ _ (λ q r3 e3 i3.
    let k = ap length e1 in let l = ap length e2 in let o = ap length e3 in omega (arith, k, l, o)))))
    (omega arith)

workers_shorter : (tokens : List Token) (x : Option Token × List Token) → workers_at tokens ≡ Ok x → length x.1 ≤ length tokens
workers_shorter tokens x e = rw e at (workers_if tokens)

d_end : (room n : ℕ) (tokens : List Token) → Deep room n (at_end tokens)
unfolding at_end
d_end room n [] = tt
d_end room n (token ∷ rest) = tt

pub d_source : (room : ℕ) (tokens : List Token) (n : ℕ) → length tokens ≤ n → Deep room n (source_at room tokens)
unfolding source_at workers_at stmts_at stmt_at
d_source room tokens n m =
    d_read room n (workers_at tokens) (λ workers. stmts_at room workers.1 >>= λ body. at_end body.1 >>= λ end. Ok (workers.0, body.0)) (d_workers room n tokens) (λ count c.
    d_read room n (stmts_from (stmt_from (stmts_in room) room) (length count.1) count.1) _ (d_stmts_from room (d_stmts_in room) (length count.1) count.1 n (let k = workers_shorter tokens count c in omega (arith, k)))
    (λ body b. d_read room n (at_end body.1) _ (d_end room n body.1) (λ end e. tt)))
