-- A statement of the grammar is read, whatever follows that doesn't continue it.
use Rattle.std.proofs.Common.{◌≡◌, ℕ, zero, suc, ◌≤◌, ◌<◌, true, false, List, [], ◌∷◌, length, refl, ◌∙◌, arith}
use Rattle.std.specs.Prelude.{Option, None, Some, Ok}
use Rattle.mage_lex.specs.Symbols.{DOTS, SEMICOLON, COLON, OPEN_BRACKET, OPEN_BRACE, CLOSE_BRACE, ASSIGN}
use Rattle.mage_lex.specs.declared.token.Token.{Token}
use Rattle.mage_lex.specs.declared.token.TokenKind.TheVariants as kinds
use Rattle.mage_lex.specs.Words as words
use Rattle.mage_tree.specs.declared.class.Class.TheVariants as class
use Rattle.mage_tree.specs.declared.class.Keyword.{Keyword}
use Rattle.mage_tree.specs.declared.class.Keyword.TheVariants as keyword
use Rattle.mage_tree.specs.declared.tree.ConstExpr.{ConstExpr}
use Rattle.mage_tree.specs.declared.tree.Expr.{Expr}
use Rattle.mage_tree.specs.declared.tree.Item.{Item}
use Rattle.mage_tree.specs.declared.tree.Stmt.{Stmt}
use Rattle.mage_tree.specs.declared.tree.Stmt.TheVariants as stmt
use Rattle.mage_tree.specs.Classes.{text_of, fits}
use Rattle.mage_parser.specs.Reads.{Read, begins}
use Rattle.mage_tree.specs.Grammar.{Is, IsItem, IsStmt, IsBlock, IsElse, AreStmts}
use Rattle.mage_tree.specs.Sources.{IsSource}
use Rattle.mage_parser.specs.Constants.{const_at}
use Rattle.mage_parser.specs.Expressions.{bracketed, index_at, item_at, expr_at}
use Rattle.mage_parser.specs.Statements.{constant_at, input_at, let_at, array_at, assign_at, move_at, output_at, block_at, on_at, for_at, else_at, choice_at, stmt_from, are_over, stmts_from, stmts_in, stmt_at, stmts_at, workers_at, at_end, source_at}
use Rattle.mage_tree.proofs.Apart.{apart, fits_kind, name_apart}
use Rattle.mage_parser.proofs.Fronts.{stmts_none}
use Rattle.mage_parser.proofs.FullConstants.{begins_is, begins_not, one_is, after_is, ConstEnds, const_full, const_shrinks}
use Rattle.mage_parser.proofs.FullExpressions.{semicolon_ends, const_closing, bracketed_full, index_full, item_full, index_shrinks, item_shrinks, expr_full, expr_shrinks}

pick_const : (deeper : List Token → Read (List Stmt)) (room : ℕ) (word : Token) (rest : List Token) → Is (class.Word keyword.Const) word →
    stmt_from deeper room (word ∷ rest) ≡ constant_at room (word ∷ rest)
unfolding stmt_from text_of
pick_const deeper room word rest is =
    rw (begins_is (class.Word keyword.Const) word rest is)

pick_input : (deeper : List Token → Read (List Stmt)) (room : ℕ) (word : Token) (rest : List Token) → Is (class.Word keyword.Input) word →
    stmt_from deeper room (word ∷ rest) ≡ input_at room (word ∷ rest)
unfolding stmt_from text_of
pick_input deeper room word rest is =
    rw (
      begins_not (class.Word keyword.Const) word rest (apart (class.Word keyword.Input) (class.Word keyword.Const) refl _ is),
      begins_is (class.Word keyword.Input) word rest is,
    )

pick_let : (deeper : List Token → Read (List Stmt)) (room : ℕ) (word : Token) (rest : List Token) → Is (class.Word keyword.Let) word →
    stmt_from deeper room (word ∷ rest) ≡ let_at room (word ∷ rest)
unfolding stmt_from text_of
pick_let deeper room word rest is =
    rw (
      begins_not (class.Word keyword.Const) word rest (apart (class.Word keyword.Let) (class.Word keyword.Const) refl _ is),
      begins_not (class.Word keyword.Input) word rest (apart (class.Word keyword.Let) (class.Word keyword.Input) refl _ is),
      begins_is (class.Word keyword.Let) word rest is,
    )

pick_array : (deeper : List Token → Read (List Stmt)) (room : ℕ) (word : Token) (rest : List Token) → Is (class.Word keyword.Array) word →
    stmt_from deeper room (word ∷ rest) ≡ array_at room (word ∷ rest)
unfolding stmt_from text_of
pick_array deeper room word rest is =
    rw (
      begins_not (class.Word keyword.Const) word rest (apart (class.Word keyword.Array) (class.Word keyword.Const) refl _ is),
      begins_not (class.Word keyword.Input) word rest (apart (class.Word keyword.Array) (class.Word keyword.Input) refl _ is),
      begins_not (class.Word keyword.Let) word rest (apart (class.Word keyword.Array) (class.Word keyword.Let) refl _ is),
      begins_is (class.Word keyword.Array) word rest is,
    )

pick_move : (deeper : List Token → Read (List Stmt)) (room : ℕ) (word : Token) (rest : List Token) → Is (class.Word keyword.Move) word →
    stmt_from deeper room (word ∷ rest) ≡ move_at room (word ∷ rest)
unfolding stmt_from text_of
pick_move deeper room word rest is =
    rw (
      begins_not (class.Word keyword.Const) word rest (apart (class.Word keyword.Move) (class.Word keyword.Const) refl _ is),
      begins_not (class.Word keyword.Input) word rest (apart (class.Word keyword.Move) (class.Word keyword.Input) refl _ is),
      begins_not (class.Word keyword.Let) word rest (apart (class.Word keyword.Move) (class.Word keyword.Let) refl _ is),
      begins_not (class.Word keyword.Array) word rest (apart (class.Word keyword.Move) (class.Word keyword.Array) refl _ is),
      begins_is (class.Word keyword.Move) word rest is,
    )

pick_on : (deeper : List Token → Read (List Stmt)) (room : ℕ) (word : Token) (rest : List Token) → Is (class.Word keyword.On) word →
    stmt_from deeper room (word ∷ rest) ≡ on_at deeper room (word ∷ rest)
unfolding stmt_from text_of
pick_on deeper room word rest is =
    rw (
      begins_not (class.Word keyword.Const) word rest (apart (class.Word keyword.On) (class.Word keyword.Const) refl _ is),
      begins_not (class.Word keyword.Input) word rest (apart (class.Word keyword.On) (class.Word keyword.Input) refl _ is),
      begins_not (class.Word keyword.Let) word rest (apart (class.Word keyword.On) (class.Word keyword.Let) refl _ is),
      begins_not (class.Word keyword.Array) word rest (apart (class.Word keyword.On) (class.Word keyword.Array) refl _ is),
      begins_not (class.Word keyword.Move) word rest (apart (class.Word keyword.On) (class.Word keyword.Move) refl _ is),
      begins_is (class.Word keyword.On) word rest is,
    )

pick_for : (deeper : List Token → Read (List Stmt)) (room : ℕ) (word : Token) (rest : List Token) → Is (class.Word keyword.For) word →
    stmt_from deeper room (word ∷ rest) ≡ for_at deeper room (word ∷ rest)
unfolding stmt_from text_of
pick_for deeper room word rest is =
    rw (
      begins_not (class.Word keyword.Const) word rest (apart (class.Word keyword.For) (class.Word keyword.Const) refl _ is),
      begins_not (class.Word keyword.Input) word rest (apart (class.Word keyword.For) (class.Word keyword.Input) refl _ is),
      begins_not (class.Word keyword.Let) word rest (apart (class.Word keyword.For) (class.Word keyword.Let) refl _ is),
      begins_not (class.Word keyword.Array) word rest (apart (class.Word keyword.For) (class.Word keyword.Array) refl _ is),
      begins_not (class.Word keyword.Move) word rest (apart (class.Word keyword.For) (class.Word keyword.Move) refl _ is),
      begins_not (class.Word keyword.On) word rest (apart (class.Word keyword.For) (class.Word keyword.On) refl _ is),
      begins_is (class.Word keyword.For) word rest is,
    )

pick_if : (deeper : List Token → Read (List Stmt)) (room : ℕ) (word : Token) (rest : List Token) → Is (class.Word keyword.If) word →
    stmt_from deeper room (word ∷ rest) ≡ choice_at deeper room (word ∷ rest)
unfolding stmt_from text_of
pick_if deeper room word rest is =
    rw (
      begins_not (class.Word keyword.Const) word rest (apart (class.Word keyword.If) (class.Word keyword.Const) refl _ is),
      begins_not (class.Word keyword.Input) word rest (apart (class.Word keyword.If) (class.Word keyword.Input) refl _ is),
      begins_not (class.Word keyword.Let) word rest (apart (class.Word keyword.If) (class.Word keyword.Let) refl _ is),
      begins_not (class.Word keyword.Array) word rest (apart (class.Word keyword.If) (class.Word keyword.Array) refl _ is),
      begins_not (class.Word keyword.Move) word rest (apart (class.Word keyword.If) (class.Word keyword.Move) refl _ is),
      begins_not (class.Word keyword.On) word rest (apart (class.Word keyword.If) (class.Word keyword.On) refl _ is),
      begins_not (class.Word keyword.For) word rest (apart (class.Word keyword.If) (class.Word keyword.For) refl _ is),
      begins_is (class.Word keyword.If) word rest is,
    )

pick_output : (deeper : List Token → Read (List Stmt)) (room : ℕ) (word : Token) (rest : List Token) → Is (class.Word keyword.Output) word →
    stmt_from deeper room (word ∷ rest) ≡ output_at room (word ∷ rest)
unfolding stmt_from text_of
pick_output deeper room word rest is =
    rw (
      begins_not (class.Word keyword.Const) word rest (apart (class.Word keyword.Output) (class.Word keyword.Const) refl _ is),
      begins_not (class.Word keyword.Input) word rest (apart (class.Word keyword.Output) (class.Word keyword.Input) refl _ is),
      begins_not (class.Word keyword.Let) word rest (apart (class.Word keyword.Output) (class.Word keyword.Let) refl _ is),
      begins_not (class.Word keyword.Array) word rest (apart (class.Word keyword.Output) (class.Word keyword.Array) refl _ is),
      begins_not (class.Word keyword.Move) word rest (apart (class.Word keyword.Output) (class.Word keyword.Move) refl _ is),
      begins_not (class.Word keyword.On) word rest (apart (class.Word keyword.Output) (class.Word keyword.On) refl _ is),
      begins_not (class.Word keyword.For) word rest (apart (class.Word keyword.Output) (class.Word keyword.For) refl _ is),
      begins_not (class.Word keyword.If) word rest (apart (class.Word keyword.Output) (class.Word keyword.If) refl _ is),
      begins_is (class.Word keyword.Output) word rest is,
    )

name_no : (word : Keyword) → words.is_name (text_of word) ≡ false → (token : Token) → Is class.Name token → fits (class.Word word) token ≡ false
name_no word h token is = apart class.Name (class.Word word) (λ text e. name_apart word h text e) token is

pick_assign : (deeper : List Token → Read (List Stmt)) (room : ℕ) (token : Token) (rest : List Token) → Is class.Name token →
    stmt_from deeper room (token ∷ rest) ≡ assign_at room (token ∷ rest)
unfolding stmt_from text_of words.is_keyword
pick_assign deeper room token rest is =
    rw (
      begins_not (class.Word keyword.Const) token rest (name_no keyword.Const refl token is),
      begins_not (class.Word keyword.Input) token rest (name_no keyword.Input refl token is),
      begins_not (class.Word keyword.Let) token rest (name_no keyword.Let refl token is),
      begins_not (class.Word keyword.Array) token rest (name_no keyword.Array refl token is),
      begins_not (class.Word keyword.Move) token rest (name_no keyword.Move refl token is),
      begins_not (class.Word keyword.On) token rest (name_no keyword.On refl token is),
      begins_not (class.Word keyword.For) token rest (name_no keyword.For refl token is),
      begins_not (class.Word keyword.If) token rest (name_no keyword.If refl token is),
      begins_not (class.Word keyword.Output) token rest (name_no keyword.Output refl token is),
    )

stmt_is : (room : ℕ) (tokens : List Token) → stmt_at room tokens ≡ stmt_from (stmts_in room) room tokens
unfolding stmt_at
stmt_is room tokens = refl

constant_full : (room : ℕ) (word token eq end : Token) (value : ConstExpr) (before after : List Token) →
    Is (class.Word keyword.Const) word → Is class.Name token → Is (class.Symbol ASSIGN) eq → const_at room 3 before ≡ Ok (value, end ∷ after) → Is (class.Symbol SEMICOLON) end →
    constant_at room (word ∷ token ∷ eq ∷ before) ≡ Ok (stmt.Constant word token value, after)
unfolding constant_at
constant_full room word token eq end value before after w n q d shut =
    rw (
      one_is (class.Word keyword.Const) word (token ∷ eq ∷ before) w,
      one_is class.Name token (eq ∷ before) n,
      after_is (class.Symbol ASSIGN) eq before q,
      d,
      after_is (class.Symbol SEMICOLON) end after shut,
    )

input_full : (room : ℕ) (word party token colon ty end : Token) (size : Option (Token × ConstExpr)) (before after : List Token) →
    Is (class.Word keyword.Input) word → Is class.Party party → Is class.Name token → Is (class.Symbol COLON) colon → Is class.Type ty →
    index_at room before ≡ Ok (size, end ∷ after) → Is (class.Symbol SEMICOLON) end →
    input_at room (word ∷ party ∷ token ∷ colon ∷ ty ∷ before) ≡ Ok (stmt.Input word party token ty size, after)
unfolding input_at
input_full room word party token colon ty end size before after w p n c t d shut =
    rw (
      one_is (class.Word keyword.Input) word (party ∷ token ∷ colon ∷ ty ∷ before) w,
      one_is class.Party party (token ∷ colon ∷ ty ∷ before) p,
      one_is class.Name token (colon ∷ ty ∷ before) n,
      after_is (class.Symbol COLON) colon (ty ∷ before) c,
      one_is class.Type ty before t,
      d,
      after_is (class.Symbol SEMICOLON) end after shut,
    )

let_full : (room : ℕ) (word token eq end : Token) (value : Expr) (before after : List Token) →
    Is (class.Word keyword.Let) word → Is class.Name token → Is (class.Symbol ASSIGN) eq → expr_at room 7 before ≡ Ok (value, end ∷ after) → Is (class.Symbol SEMICOLON) end →
    let_at room (word ∷ token ∷ eq ∷ before) ≡ Ok (stmt.Let word token value, after)
unfolding let_at
let_full room word token eq end value before after w n q d shut =
    rw (
      one_is (class.Word keyword.Let) word (token ∷ eq ∷ before) w,
      one_is class.Name token (eq ∷ before) n,
      after_is (class.Symbol ASSIGN) eq before q,
      d,
      after_is (class.Symbol SEMICOLON) end after shut,
    )

array_full : (room : ℕ) (word token colon ty eq end : Token) (size : Token × ConstExpr) (value : Expr) (before middle after : List Token) →
    Is (class.Word keyword.Array) word → Is class.Name token → Is (class.Symbol COLON) colon → Is class.Type ty →
    bracketed room before ≡ Ok (size, eq ∷ middle) → Is (class.Symbol ASSIGN) eq → expr_at room 7 middle ≡ Ok (value, end ∷ after) → Is (class.Symbol SEMICOLON) end →
    array_at room (word ∷ token ∷ colon ∷ ty ∷ before) ≡ Ok (stmt.Array word token ty size eq value, after)
unfolding array_at
array_full room word token colon ty eq end size value before middle after w n c t d q f shut =
    rw (
      one_is (class.Word keyword.Array) word (token ∷ colon ∷ ty ∷ before) w,
      one_is class.Name token (colon ∷ ty ∷ before) n,
      after_is (class.Symbol COLON) colon (ty ∷ before) c,
      one_is class.Type ty before t,
      d,
      one_is (class.Symbol ASSIGN) eq middle q,
      f,
      after_is (class.Symbol SEMICOLON) end after shut,
    )

assign_full : (room : ℕ) (place : Item) (eq end : Token) (value : Expr) (before middle after : List Token) →
    item_at room before ≡ Ok (place, eq ∷ middle) → Is (class.Symbol ASSIGN) eq → expr_at room 7 middle ≡ Ok (value, end ∷ after) → Is (class.Symbol SEMICOLON) end →
    assign_at room before ≡ Ok (stmt.Assign place eq value, after)
unfolding assign_at
assign_full room place eq end value before middle after d q f shut =
    rw (d, one_is (class.Symbol ASSIGN) eq middle q, f, after_is (class.Symbol SEMICOLON) end after shut)

move_full : (room : ℕ) (word token eq end : Token) (place : Item) (before after : List Token) →
    Is (class.Word keyword.Move) word → Is class.Name token → Is (class.Symbol ASSIGN) eq → item_at room before ≡ Ok (place, end ∷ after) → Is (class.Symbol SEMICOLON) end →
    move_at room (word ∷ token ∷ eq ∷ before) ≡ Ok (stmt.Move word token place, after)
unfolding move_at
move_full room word token eq end place before after w n q d shut =
    rw (
      one_is (class.Word keyword.Move) word (token ∷ eq ∷ before) w,
      one_is class.Name token (eq ∷ before) n,
      after_is (class.Symbol ASSIGN) eq before q,
      d,
      after_is (class.Symbol SEMICOLON) end after shut,
    )

output_full : (room : ℕ) (word end : Token) (value : Expr) (before after : List Token) →
    Is (class.Word keyword.Output) word → expr_at room 7 before ≡ Ok (value, end ∷ after) → Is (class.Symbol SEMICOLON) end →
    output_at room (word ∷ before) ≡ Ok (stmt.Output word value, after)
unfolding output_at
output_full room word end value before after w d shut =
    rw (one_is (class.Word keyword.Output) word before w, d, after_is (class.Symbol SEMICOLON) end after shut)

stmts_in_is : (room : ℕ) (token : Token) (rest : List Token) → stmts_in (suc room) (token ∷ rest) ≡ stmts_at room rest
unfolding stmts_in stmts_at stmt_at
stmts_in_is room token rest = refl

stmts_at_is : (room : ℕ) (tokens : List Token) → stmts_at room tokens ≡ stmts_from (stmt_at room) (length tokens) tokens
unfolding stmts_at
stmts_at_is room tokens = refl

block_read : (room : ℕ) (open_token close_token : Token) (body : List Stmt) (before after : List Token) →
    Is (class.Symbol OPEN_BRACE) open_token → stmts_at room before ≡ Ok (body, close_token ∷ after) → Is (class.Symbol CLOSE_BRACE) close_token →
    block_at (stmts_in (suc room)) (open_token ∷ before) ≡ Ok (body, after)
unfolding block_at
block_read room open_token close_token body before after is d shut =
    rw (after_is (class.Symbol OPEN_BRACE) open_token before is, stmts_in_is room open_token before, d, after_is (class.Symbol CLOSE_BRACE) close_token after shut)

on_full : (deeper : List Token → Read (List Stmt)) (room : ℕ) (word : Token) (worker : ConstExpr) (body : List Stmt) (before middle after : List Token) →
    Is (class.Word keyword.On) word → const_at room 3 before ≡ Ok (worker, middle) → block_at deeper middle ≡ Ok (body, after) →
    on_at deeper room (word ∷ before) ≡ Ok (stmt.On word worker body, after)
unfolding on_at
on_full deeper room word worker body before middle after w d b = rw (one_is (class.Word keyword.On) word before w, d, b)

for_full : (deeper : List Token → Read (List Stmt)) (room : ℕ) (word token within dots : Token) (from to : ConstExpr) (body : List Stmt) (before middle last after : List Token) →
    Is (class.Word keyword.For) word → Is class.Name token → Is (class.Word keyword.In) within →
    const_at room 3 before ≡ Ok (from, dots ∷ middle) → Is (class.Symbol DOTS) dots → const_at room 3 middle ≡ Ok (to, last) → block_at deeper last ≡ Ok (body, after) →
    for_at deeper room (word ∷ token ∷ within ∷ before) ≡ Ok (stmt.For word token from to body, after)
unfolding for_at
for_full deeper room word token within dots from to body before middle last after w n i d q f b =
    rw (
      one_is (class.Word keyword.For) word (token ∷ within ∷ before) w,
      one_is class.Name token (within ∷ before) n,
      after_is (class.Word keyword.In) within before i,
      d,
      after_is (class.Symbol DOTS) dots middle q,
      f,
      b,
    )

else_read : (deeper : List Token → Read (List Stmt)) (word : Token) (body : List Stmt) (before after : List Token) →
    Is (class.Word keyword.Else) word → block_at deeper before ≡ Ok (body, after) → else_at deeper (word ∷ before) ≡ Ok (Some body, after)
unfolding else_at
else_read deeper word body before after w b = rw (begins_is (class.Word keyword.Else) word before w, after_is (class.Word keyword.Else) word before w, b)

else_none : (deeper : List Token → Read (List Stmt)) (after : List Token) → begins (class.Word keyword.Else) after ≡ false → else_at deeper after ≡ Ok (None, after)
unfolding else_at
else_none deeper after e = rw e

choice_full : (deeper : List Token → Read (List Stmt)) (room : ℕ) (word op : Token) (left right : ConstExpr) (chosen : List Stmt) (other : Option (List Stmt)) (before middle block last after : List Token) →
    Is (class.Word keyword.If) word → const_at room 3 before ≡ Ok (left, op ∷ middle) → Is class.Comparing op → const_at room 3 middle ≡ Ok (right, block) →
    block_at deeper block ≡ Ok (chosen, last) → else_at deeper last ≡ Ok (other, after) →
    choice_at deeper room (word ∷ before) ≡ Ok (stmt.If word left op right chosen other, after)
unfolding choice_at
choice_full deeper room word op left right chosen other before middle block last after w d q f b o =
    rw (one_is (class.Word keyword.If) word before w, d, one_is class.Comparing op middle q, f, b, o)

comparing_ends : (op : Token) (rest : List Token) → Is class.Comparing op → ConstEnds 3 (op ∷ rest)
comparing_ends op rest is = (
  (tt, begins_not class.Scaling op rest (apart class.Comparing class.Scaling (refl, refl) _ is)),
  begins_not class.Adding op rest (apart class.Comparing class.Adding (refl, refl) _ is),
)

block_ends : {room : ℕ} {body : List Stmt} {before after : List Token} → IsBlock room body before after → ConstEnds 3 before
block_ends (IsBlock.block {open_token = open_token} {before = before} is d shut) = const_closing OPEN_BRACE refl refl open_token before is

-- a token that begins a statement
record Begins (tokens : List Token) : Type 0 where
  going : are_over tokens ≡ false
  no_else : begins (class.Word keyword.Else) tokens ≡ false
  no_workers : begins (class.Word keyword.Workers) tokens ≡ false

word_begins : (word : Keyword) → fits_kind (class.Word keyword.Else) (kinds.Word (text_of word)) ≡ false → fits_kind (class.Word keyword.Workers) (kinds.Word (text_of word)) ≡ false → (token : Token) (rest : List Token) → Is (class.Word word) token → Begins (token ∷ rest)
unfolding text_of
word_begins word h k token rest is = record {
  going = begins_not (class.Symbol CLOSE_BRACE) token rest (apart (class.Word word) (class.Symbol CLOSE_BRACE) refl _ is);
  no_else = begins_not (class.Word keyword.Else) token rest (apart (class.Word word) (class.Word keyword.Else) h _ is);
  no_workers = begins_not (class.Word keyword.Workers) token rest (apart (class.Word word) (class.Word keyword.Workers) k _ is);
}

name_begins : (token : Token) (rest : List Token) → Is class.Name token → Begins (token ∷ rest)
unfolding text_of words.is_keyword
name_begins token rest is = record {
  going = begins_not (class.Symbol CLOSE_BRACE) token rest (apart class.Name (class.Symbol CLOSE_BRACE) (λ text e. refl) _ is);
  no_else = begins_not (class.Word keyword.Else) token rest (name_no keyword.Else refl token is);
  no_workers = begins_not (class.Word keyword.Workers) token rest (name_no keyword.Workers refl token is);
}

item_begins : {room : ℕ} {place : Item} {before after : List Token} → IsItem room place before after → Begins before
item_begins (IsItem.place {name = token} {before = before} is d) = name_begins token before is

stmt_begins : {room : ℕ} {s : Stmt} {before after : List Token} → IsStmt room s before after → Begins before
unfolding text_of
stmt_begins (IsStmt.constant {word = word} {name = token} {eq = eq} {before = before} w n q d shut) = word_begins keyword.Const refl refl word (token ∷ eq ∷ before) w
stmt_begins (IsStmt.input {word = word} {party = party} {name = token} {colon = colon} {ty = ty} {before = before} w p n c t d shut) = word_begins keyword.Input refl refl word (party ∷ token ∷ colon ∷ ty ∷ before) w
stmt_begins (IsStmt.«let» {word = word} {name = token} {eq = eq} {before = before} w n q d shut) = word_begins keyword.Let refl refl word (token ∷ eq ∷ before) w
stmt_begins (IsStmt.array {word = word} {name = token} {colon = colon} {ty = ty} {before = before} w n c t d q f shut) = word_begins keyword.Array refl refl word (token ∷ colon ∷ ty ∷ before) w
stmt_begins (IsStmt.assign d q f shut) = item_begins d
stmt_begins (IsStmt.move {word = word} {name = token} {eq = eq} {before = before} w n q d shut) = word_begins keyword.Move refl refl word (token ∷ eq ∷ before) w
stmt_begins (IsStmt.on {word = word} {before = before} w d b) = word_begins keyword.On refl refl word before w
stmt_begins (IsStmt.for {word = word} {name = token} {within = within} {before = before} w n i d q f b) = word_begins keyword.For refl refl word (token ∷ within ∷ before) w
stmt_begins (IsStmt.choice {word = word} {before = before} w d q f b o) = word_begins keyword.If refl refl word before w
stmt_begins (IsStmt.output {word = word} {before = before} w d shut) = word_begins keyword.Output refl refl word before w

over_no_else : (tokens : List Token) → are_over tokens ≡ true → begins (class.Word keyword.Else) tokens ≡ false
unfolding begins text_of
over_no_else [] h = refl
over_no_else (token ∷ rest) h = apart (class.Symbol CLOSE_BRACE) (class.Word keyword.Else) refl token h

stmts_no_else : {room : ℕ} {body : List Stmt} {before after : List Token} → AreStmts room body before after → are_over after ≡ true →
    begins (class.Word keyword.Else) before ≡ false
stmts_no_else {after = after} AreStmts.none h = over_no_else after h
stmts_no_else (AreStmts.more d r) h = (stmt_begins d).no_else

close_over : (token : Token) (rest : List Token) → Is (class.Symbol CLOSE_BRACE) token → are_over (token ∷ rest) ≡ true
close_over token rest is = begins_is (class.Symbol CLOSE_BRACE) token rest is

stmts_step : (first : List Token → Read Stmt) (most : ℕ) (s : Stmt) (rest : List Stmt) (before middle after : List Token) → are_over before ≡ false →
    first before ≡ Ok (s, middle) → stmts_from first most middle ≡ Ok (rest, after) → stmts_from first (suc most) before ≡ Ok (s ∷ rest, after)
unfolding stmts_from
stmts_step first most s rest before middle after g d r = rw (g, d, r)

mutual
  pub stmt_shrinks : {room : ℕ} {s : Stmt} {before after : List Token} → IsStmt room s before after → length after < length before
  stmt_shrinks (IsStmt.constant w n q d shut) = let h = const_shrinks d in omega (arith, h)
  stmt_shrinks (IsStmt.input w p n c t d shut) = let h = index_shrinks d in omega (arith, h)
  stmt_shrinks (IsStmt.«let» w n q d shut) = let h = expr_shrinks d in omega (arith, h)
  stmt_shrinks (IsStmt.array w n c t d q f shut) = let h = index_shrinks d in let k = expr_shrinks f in omega (arith, h, k)
  stmt_shrinks (IsStmt.assign d q f shut) = let h = item_shrinks d in let k = expr_shrinks f in omega (arith, h, k)
  stmt_shrinks (IsStmt.move w n q d shut) = let h = item_shrinks d in omega (arith, h)
  stmt_shrinks (IsStmt.on w d b) = let h = const_shrinks d in let k = block_shrinks b in omega (arith, h, k)
  stmt_shrinks (IsStmt.for w n i d q f b) = let h = const_shrinks d in let k = const_shrinks f in let l = block_shrinks b in omega (arith, h, k, l)
  stmt_shrinks (IsStmt.choice w d q f b o) = let h = const_shrinks d in let k = const_shrinks f in let l = block_shrinks b in let m = else_shrinks o in omega (arith, h, k, l, m)
  stmt_shrinks (IsStmt.output w d shut) = let h = expr_shrinks d in omega (arith, h)

  pub block_shrinks : {room : ℕ} {body : List Stmt} {before after : List Token} → IsBlock room body before after → length after < length before
  block_shrinks (IsBlock.block is d shut) = let h = stmts_shrink d in omega (arith, h)

  else_shrinks : {room : ℕ} {body : Option (List Stmt)} {before after : List Token} → IsElse room body before after → length after ≤ length before
  else_shrinks IsElse.nothing = omega arith
  else_shrinks (IsElse.otherwise w b) = let h = block_shrinks b in omega (arith, h)

  stmts_shrink : {room : ℕ} {body : List Stmt} {before after : List Token} → AreStmts room body before after → length after ≤ length before
  stmts_shrink AreStmts.none = omega arith
  stmts_shrink (AreStmts.more d r) = let h = stmt_shrinks d in let k = stmts_shrink r in omega (arith, h, k)

symbol_no_index : (token : Token) (rest : List Token) (row : ℕ) → fits_kind (class.Symbol OPEN_BRACKET) (kinds.Symbol row) ≡ false → Is (class.Symbol row) token → begins (class.Symbol OPEN_BRACKET) (token ∷ rest) ≡ false
symbol_no_index token rest row h is = begins_not (class.Symbol OPEN_BRACKET) token rest (apart (class.Symbol row) (class.Symbol OPEN_BRACKET) h _ is)

assign_case : {room : ℕ} {place : Item} {before middle : List Token} (deeper : List Token → Read (List Stmt)) → IsItem room place before middle →
    stmt_from deeper room before ≡ assign_at room before
assign_case {room = room} deeper (IsItem.place {name = token} {before = before} is d) = pick_assign deeper room token before is

mutual
  stmt_full : {room : ℕ} {s : Stmt} {before after : List Token} → IsStmt room s before after → begins (class.Word keyword.Else) after ≡ false →
      stmt_at room before ≡ Ok (s, after)
  stmt_full {room = room} {after = after} (IsStmt.constant {word = word} {name = token} {eq = eq} {end = end} {value = value} {before = before} w n q d shut) g =
      stmt_is room (word ∷ token ∷ eq ∷ before) ∙ pick_const (stmts_in room) room word (token ∷ eq ∷ before) w
      ∙ constant_full room word token eq end value before after w n q (const_full d (omega arith) (const_closing SEMICOLON refl refl end after shut)) shut
  stmt_full {room = room} {after = after} (IsStmt.input {word = word} {party = party} {name = token} {colon = colon} {ty = ty} {end = end} {size = size} {before = before} w p n c t d shut) g =
      stmt_is room (word ∷ party ∷ token ∷ colon ∷ ty ∷ before) ∙ pick_input (stmts_in room) room word (party ∷ token ∷ colon ∷ ty ∷ before) w
      ∙ input_full room word party token colon ty end size before after w p n c t (index_full d (symbol_no_index end after SEMICOLON refl shut)) shut
  stmt_full {room = room} {after = after} (IsStmt.«let» {word = word} {name = token} {eq = eq} {end = end} {value = value} {before = before} w n q d shut) g =
      stmt_is room (word ∷ token ∷ eq ∷ before) ∙ pick_let (stmts_in room) room word (token ∷ eq ∷ before) w
      ∙ let_full room word token eq end value before after w n q (expr_full d (omega arith) (semicolon_ends end after shut)) shut
  stmt_full {room = room} {after = after} (IsStmt.array {word = word} {name = token} {colon = colon} {ty = ty} {eq = eq} {end = end} {size = size} {value = value} {before = before} {middle = middle} w n c t d q f shut) g =
      stmt_is room (word ∷ token ∷ colon ∷ ty ∷ before) ∙ pick_array (stmts_in room) room word (token ∷ colon ∷ ty ∷ before) w
      ∙ array_full room word token colon ty eq end size value before middle after w n c t (bracketed_full d) q
      (expr_full f (omega arith) (semicolon_ends end after shut)) shut
  stmt_full {room = room} {before = before} {after = after} (IsStmt.assign {place = place} {eq = eq} {end = end} {value = value} {middle = middle} d q f shut) g =
      stmt_is room before ∙ assign_case (stmts_in room) d
      ∙ assign_full room place eq end value before middle after (item_full d (symbol_no_index eq middle ASSIGN refl q)) q
      (expr_full f (omega arith) (semicolon_ends end after shut)) shut
  stmt_full {room = room} {after = after} (IsStmt.move {word = word} {name = token} {eq = eq} {end = end} {place = place} {before = before} w n q d shut) g =
      stmt_is room (word ∷ token ∷ eq ∷ before) ∙ pick_move (stmts_in room) room word (token ∷ eq ∷ before) w
      ∙ move_full room word token eq end place before after w n q (item_full d (symbol_no_index end after SEMICOLON refl shut)) shut
  stmt_full {room = room} {after = after} (IsStmt.on {word = word} {worker = worker} {body = body} {before = before} {middle = middle} w d b) g =
      stmt_is room (word ∷ before) ∙ pick_on (stmts_in room) room word before w
      ∙ on_full (stmts_in room) room word worker body before middle after w (const_full d (omega arith) (block_ends b)) (block_full b)
  stmt_full {room = room} {after = after} (IsStmt.for {word = word} {name = token} {within = within} {dots = dots} {from = from} {to = to} {body = body} {before = before} {middle = middle} {last = last} w n i d q f b) g =
      stmt_is room (word ∷ token ∷ within ∷ before) ∙ pick_for (stmts_in room) room word (token ∷ within ∷ before) w
      ∙ for_full (stmts_in room) room word token within dots from to body before middle last after w n i
      (const_full d (omega arith) (const_closing DOTS refl refl dots middle q)) q (const_full f (omega arith) (block_ends b)) (block_full b)
  stmt_full {room = room} {after = after} (IsStmt.choice {word = word} {op = op} {left = left} {right = right} {yes = chosen} {no = other} {before = before} {middle = middle} {block = block} {last = last} w d q f b o) g =
      stmt_is room (word ∷ before) ∙ pick_if (stmts_in room) room word before w
      ∙ choice_full (stmts_in room) room word op left right chosen other before middle block last after w
      (const_full d (omega arith) (comparing_ends op middle q)) q (const_full f (omega arith) (block_ends b)) (block_full b) (else_full o g)
  stmt_full {room = room} {after = after} (IsStmt.output {word = word} {end = end} {value = value} {before = before} w d shut) g =
      stmt_is room (word ∷ before) ∙ pick_output (stmts_in room) room word before w
      ∙ output_full room word end value before after w (expr_full d (omega arith) (semicolon_ends end after shut)) shut

  block_full : {room : ℕ} {body : List Stmt} {before after : List Token} → IsBlock room body before after → block_at (stmts_in room) before ≡ Ok (body, after)
  block_full {after = after} (IsBlock.block {room = room} {open_token = open_token} {close_token = close_token} {body = body} {before = before} is d shut) =
      block_read room open_token close_token body before after is
      (stmts_at_is room before ∙ stmts_full d (close_over close_token after shut) (length before) (omega arith)) shut

  else_full : {room : ℕ} {body : Option (List Stmt)} {before after : List Token} → IsElse room body before after → begins (class.Word keyword.Else) after ≡ false →
      else_at (stmts_in room) before ≡ Ok (body, after)
  else_full {room = room} {after = after} IsElse.nothing g = else_none (stmts_in room) after g
  else_full {room = room} {after = after} (IsElse.otherwise {word = word} {body = body} {before = before} w b) g = else_read (stmts_in room) word body before after w (block_full b)

  stmts_full : {room : ℕ} {body : List Stmt} {before after : List Token} → AreStmts room body before after → are_over after ≡ true → (most : ℕ) → length before ≤ most →
      stmts_from (stmt_at room) most before ≡ Ok (body, after)
  stmts_full {room = room} {after = after} AreStmts.none g most m = stmts_none (stmt_at room) most after g
  stmts_full (AreStmts.more d r) g zero m = absurd (let h = stmt_shrinks d in omega (arith, h))
  stmts_full {room = room} {before = before} {after = after} (AreStmts.more {first = first} {rest = rest} {middle = middle} d r) g (suc most) m =
      stmts_step (stmt_at room) most first rest before middle after (stmt_begins d).going (stmt_full d (stmts_no_else r g))
      (stmts_full r g most (let h = stmt_shrinks d in omega (arith, h)))

source_counted : (room : ℕ) (word number end : Token) (body : List Stmt) (rest : List Token) →
    Is (class.Word keyword.Workers) word → Is class.Number number → Is (class.Symbol SEMICOLON) end → stmts_at room rest ≡ Ok (body, []) →
    source_at room (word ∷ number ∷ end ∷ rest) ≡ Ok (Some number, body)
unfolding source_at workers_at at_end
source_counted room word number end body rest w n e d =
    rw (
      begins_is (class.Word keyword.Workers) word (number ∷ end ∷ rest) w,
      after_is (class.Word keyword.Workers) word (number ∷ end ∷ rest) w,
      one_is class.Number number (end ∷ rest) n,
      after_is (class.Symbol SEMICOLON) end rest e,
      d,
    )

source_uncounted : (room : ℕ) (body : List Stmt) (tokens : List Token) → begins (class.Word keyword.Workers) tokens ≡ false → stmts_at room tokens ≡ Ok (body, []) →
    source_at room tokens ≡ Ok (None, body)
unfolding source_at workers_at at_end
source_uncounted room body tokens b d = rw (b, d)

stmts_no_workers : {room : ℕ} {body : List Stmt} {before after : List Token} → AreStmts room body before after → after ≡ [] → begins (class.Word keyword.Workers) before ≡ false
unfolding begins
stmts_no_workers AreStmts.none e = rw e
stmts_no_workers (AreStmts.more d r) e = (stmt_begins d).no_workers

-- every source of the grammar is read
pub source_full : {room : ℕ} {workers : Option Token} {body : List Stmt} {tokens : List Token} → IsSource room workers body tokens → source_at room tokens ≡ Ok (workers, body)
source_full {room = room} {body = body} (IsSource.counted {word = word} {number = number} {end = end} {rest = rest} w n e d) =
    source_counted room word number end body rest w n e (stmts_at_is room rest ∙ stmts_full d refl (length rest) (omega arith))
source_full {room = room} {body = body} {tokens = tokens} (IsSource.uncounted d) =
    source_uncounted room body tokens (stmts_no_workers d refl) (stmts_at_is room tokens ∙ stmts_full d refl (length tokens) (omega arith))
