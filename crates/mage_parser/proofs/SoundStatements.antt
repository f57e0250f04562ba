-- What is read as a statement is in the grammar.
use Rattle.std.proofs.Common.{◌≡◌, ℕ, zero, suc, ◌<◌, List, [], ◌∷◌, length, refl, arith}
use Rattle.std.specs.Prelude.{IfOk}
use Rattle.mage_lex.specs.Symbols.{DOTS, SEMICOLON, COLON, OPEN_BRACE, CLOSE_BRACE, ASSIGN}
use Rattle.mage_lex.specs.declared.token.Token.{Token}
use Rattle.mage_tree.specs.declared.class.Class.TheVariants as class
use Rattle.mage_tree.specs.declared.class.Keyword.TheVariants as keyword
use Rattle.mage_tree.specs.declared.tree.Stmt.{Stmt}
use Rattle.mage_parser.specs.Reads.{Read, begins}
use Rattle.mage_tree.specs.Grammar.{IsStmt, IsBlock, IsElse, AreStmts}
use Rattle.mage_tree.specs.Sources.{IsSource}
use Rattle.mage_parser.specs.Constants.{const_at}
use Rattle.mage_parser.specs.Expressions.{bracketed, index_at, item_at, expr_at}
use Rattle.mage_parser.specs.Statements.{constant_at, input_at, let_at, array_at, assign_at, move_at, output_at, block_at, on_at, for_at, else_at, choice_at, stmt_from, are_over, stmts_from, stmts_in, stmt_at, stmts_at, workers_at, at_end, source_at}
use Rattle.mage_parser.proofs.Sound.{one_then, after_then, read_then, if_then, weaker, const_sound}
use Rattle.mage_parser.proofs.SoundExpressions.{bracketed_sound, index_sound, item_sound, expr_sound}

whole : 7 < 8
whole = omega arith

constant_sound : (room : ℕ) (tokens : List Token) → IfOk (constant_at room tokens) (λ x. IsStmt room x.0 tokens x.1)
unfolding constant_at
constant_sound room tokens =
    one_then (class.Word keyword.Const) tokens _ _ (λ word r1 e1 i1.
    one_then class.Name r1 _ _ (λ token r2 e2 i2.
    after_then (class.Symbol ASSIGN) r2 _ _ (λ eq r3 e3 i3.
    read_then (const_at room 3 r3) _ _ _ (const_sound room 3 r3) (λ value d.
    after_then (class.Symbol SEMICOLON) value.1 _ _ (λ end after last shut.
    rw (e1, e2, e3) (IsStmt.constant i1 i2 i3 (rw last at d) shut))))))

input_sound : (room : ℕ) (tokens : List Token) → IfOk (input_at room tokens) (λ x. IsStmt room x.0 tokens x.1)
unfolding input_at
input_sound room tokens =
    one_then (class.Word keyword.Input) tokens _ _ (λ word r1 e1 i1.
    one_then class.Party r1 _ _ (λ party r2 e2 i2.
    one_then class.Name r2 _ _ (λ token r3 e3 i3.
    after_then (class.Symbol COLON) r3 _ _ (λ colon r4 e4 i4.
    one_then class.Type r4 _ _ (λ ty r5 e5 i5.
    read_then (index_at room r5) _ _ _ (index_sound room r5) (λ size d.
    after_then (class.Symbol SEMICOLON) size.1 _ _ (λ end after last shut.
    rw (e1, e2, e3, e4, e5) (IsStmt.input i1 i2 i3 i4 i5 (rw last at d) shut))))))))

let_sound : (room : ℕ) (tokens : List Token) → IfOk (let_at room tokens) (λ x. IsStmt room x.0 tokens x.1)
unfolding let_at
let_sound room tokens =
    one_then (class.Word keyword.Let) tokens _ _ (λ word r1 e1 i1.
    one_then class.Name r1 _ _ (λ token r2 e2 i2.
    after_then (class.Symbol ASSIGN) r2 _ _ (λ eq r3 e3 i3.
    read_then (expr_at room 7 r3) _ _ _ (expr_sound room 7 whole r3) (λ value d.
    after_then (class.Symbol SEMICOLON) value.1 _ _ (λ end after last shut.
    rw (e1, e2, e3) (IsStmt.«let» i1 i2 i3 (rw last at d) shut))))))

array_sound : (room : ℕ) (tokens : List Token) → IfOk (array_at room tokens) (λ x. IsStmt room x.0 tokens x.1)
unfolding array_at
array_sound room tokens =
    one_then (class.Word keyword.Array) tokens _ _ (λ word r1 e1 i1.
    one_then class.Name r1 _ _ (λ token r2 e2 i2.
    after_then (class.Symbol COLON) r2 _ _ (λ colon r3 e3 i3.
    one_then class.Type r3 _ _ (λ ty r4 e4 i4.
    read_then (bracketed room r4) _ _ _ (bracketed_sound room r4) (λ size d.
    one_then (class.Symbol ASSIGN) size.1 _ _ (λ eq r5 e5 i5.
    read_then (expr_at room 7 r5) _ _ _ (expr_sound room 7 whole r5) (λ value f.
    after_then (class.Symbol SEMICOLON) value.1 _ _ (λ end after last shut.
    rw (e1, e2, e3, e4) (IsStmt.array i1 i2 i3 i4 (rw e5 at d) i5 (rw last at f) shut)))))))))

assign_sound : (room : ℕ) (tokens : List Token) → IfOk (assign_at room tokens) (λ x. IsStmt room x.0 tokens x.1)
unfolding assign_at
assign_sound room tokens =
    read_then (item_at room tokens) _ _ _ (item_sound room tokens) (λ place d.
    one_then (class.Symbol ASSIGN) place.1 _ _ (λ eq r1 e1 i1.
    read_then (expr_at room 7 r1) _ _ _ (expr_sound room 7 whole r1) (λ value f.
    after_then (class.Symbol SEMICOLON) value.1 _ _ (λ end after last shut.
    IsStmt.assign (rw e1 at d) i1 (rw last at f) shut))))

move_sound : (room : ℕ) (tokens : List Token) → IfOk (move_at room tokens) (λ x. IsStmt room x.0 tokens x.1)
unfolding move_at
move_sound room tokens =
    one_then (class.Word keyword.Move) tokens _ _ (λ word r1 e1 i1.
    one_then class.Name r1 _ _ (λ token r2 e2 i2.
    after_then (class.Symbol ASSIGN) r2 _ _ (λ eq r3 e3 i3.
    read_then (item_at room r3) _ _ _ (item_sound room r3) (λ place d.
    after_then (class.Symbol SEMICOLON) place.1 _ _ (λ end after last shut.
    rw (e1, e2, e3) (IsStmt.move i1 i2 i3 (rw last at d) shut))))))

output_sound : (room : ℕ) (tokens : List Token) → IfOk (output_at room tokens) (λ x. IsStmt room x.0 tokens x.1)
unfolding output_at
output_sound room tokens =
    one_then (class.Word keyword.Output) tokens _ _ (λ word r1 e1 i1.
    read_then (expr_at room 7 r1) _ _ _ (expr_sound room 7 whole r1) (λ value d.
    after_then (class.Symbol SEMICOLON) value.1 _ _ (λ end after last shut.
    rw e1 (IsStmt.output i1 (rw last at d) shut))))

-- what `deeper` reads behind a bracket is in the grammar, with less room
abbrev pub IsSoundIn : ℕ → (List Token → Read (List Stmt)) → Type 0
IsSoundIn room deeper = (tokens : List Token) (token : Token) (rest : List Token) → tokens ≡ token ∷ rest →
    IfOk (deeper tokens) (λ x. (less : ℕ) × (room ≡ suc less) × AreStmts less x.0 rest x.1)

pub block_sound : (room : ℕ) (deeper : List Token → Read (List Stmt)) → IsSoundIn room deeper → (tokens : List Token) →
    IfOk (block_at deeper tokens) (λ x. IsBlock room x.0 tokens x.1)
unfolding block_at
block_sound room deeper deep tokens =
    after_then (class.Symbol OPEN_BRACE) tokens _ _ (λ bracket r1 e1 i1.
    read_then (deeper tokens) _ _ _ (deep tokens bracket r1 e1) (λ body d.
    after_then (class.Symbol CLOSE_BRACE) body.1 _ _ (λ close_token after last shut.
    rw (e1, d.1) (IsBlock.block i1 (rw last at d.2) shut))))

on_sound : (room : ℕ) (deeper : List Token → Read (List Stmt)) → IsSoundIn room deeper → (tokens : List Token) →
    IfOk (on_at deeper room tokens) (λ x. IsStmt room x.0 tokens x.1)
unfolding on_at
on_sound room deeper deep tokens =
    one_then (class.Word keyword.On) tokens _ _ (λ word r1 e1 i1.
    read_then (const_at room 3 r1) _ _ _ (const_sound room 3 r1) (λ worker d.
    read_then (block_at deeper worker.1) _ _ _ (block_sound room deeper deep worker.1) (λ body b.
    rw e1 (IsStmt.on i1 d b))))

for_sound : (room : ℕ) (deeper : List Token → Read (List Stmt)) → IsSoundIn room deeper → (tokens : List Token) →
    IfOk (for_at deeper room tokens) (λ x. IsStmt room x.0 tokens x.1)
unfolding for_at
for_sound room deeper deep tokens =
    one_then (class.Word keyword.For) tokens _ _ (λ word r1 e1 i1.
    one_then class.Name r1 _ _ (λ token r2 e2 i2.
    after_then (class.Word keyword.In) r2 _ _ (λ within r3 e3 i3.
    read_then (const_at room 3 r3) _ _ _ (const_sound room 3 r3) (λ from d.
    after_then (class.Symbol DOTS) from.1 _ _ (λ dots r4 e4 i4.
    read_then (const_at room 3 r4) _ _ _ (const_sound room 3 r4) (λ to f.
    read_then (block_at deeper to.1) _ _ _ (block_sound room deeper deep to.1) (λ body b.
    rw (e1, e2, e3) (IsStmt.for i1 i2 i3 (rw e4 at d) i4 f b))))))))

else_sound : (room : ℕ) (deeper : List Token → Read (List Stmt)) → IsSoundIn room deeper → (tokens : List Token) →
    IfOk (else_at deeper tokens) (λ x. IsElse room x.0 tokens x.1)
unfolding else_at
else_sound room deeper deep tokens =
    if_then (begins (class.Word keyword.Else) tokens) _ _ _
    (after_then (class.Word keyword.Else) tokens _ _ (λ word r1 e1 i1.
    read_then (block_at deeper r1) _ _ _ (block_sound room deeper deep r1) (λ body b.
    rw e1 (IsElse.otherwise i1 b))))
    IsElse.nothing

choice_sound : (room : ℕ) (deeper : List Token → Read (List Stmt)) → IsSoundIn room deeper → (tokens : List Token) →
    IfOk (choice_at deeper room tokens) (λ x. IsStmt room x.0 tokens x.1)
unfolding choice_at
choice_sound room deeper deep tokens =
    one_then (class.Word keyword.If) tokens _ _ (λ word r1 e1 i1.
    read_then (const_at room 3 r1) _ _ _ (const_sound room 3 r1) (λ left d.
    one_then class.Comparing left.1 _ _ (λ op r2 e2 i2.
    read_then (const_at room 3 r2) _ _ _ (const_sound room 3 r2) (λ right f.
    read_then (block_at deeper right.1) _ _ _ (block_sound room deeper deep right.1) (λ chosen b.
    read_then (else_at deeper chosen.1) _ _ _ (else_sound room deeper deep chosen.1) (λ other o.
    rw e1 (IsStmt.choice i1 (rw e2 at d) i2 f b o)))))))

stmt_sound : (room : ℕ) (deeper : List Token → Read (List Stmt)) → IsSoundIn room deeper → (tokens : List Token) →
    IfOk (stmt_from deeper room tokens) (λ x. IsStmt room x.0 tokens x.1)
unfolding stmt_from
stmt_sound room deeper deep tokens =
    if_then (begins (class.Word keyword.Const) tokens) _ _ _ (constant_sound room tokens)
    (if_then (begins (class.Word keyword.Input) tokens) _ _ _ (input_sound room tokens)
    (if_then (begins (class.Word keyword.Let) tokens) _ _ _ (let_sound room tokens)
    (if_then (begins (class.Word keyword.Array) tokens) _ _ _ (array_sound room tokens)
    (if_then (begins (class.Word keyword.Move) tokens) _ _ _ (move_sound room tokens)
    (if_then (begins (class.Word keyword.On) tokens) _ _ _ (on_sound room deeper deep tokens)
    (if_then (begins (class.Word keyword.For) tokens) _ _ _ (for_sound room deeper deep tokens)
    (if_then (begins (class.Word keyword.If) tokens) _ _ _ (choice_sound room deeper deep tokens)
    (if_then (begins (class.Word keyword.Output) tokens) _ _ _ (output_sound room tokens)
    (assign_sound room tokens)))))))))

stmts_from_sound : (room : ℕ) (first : List Token → Read Stmt) →
    ((tokens : List Token) → IfOk (first tokens) (λ x. IsStmt room x.0 tokens x.1)) → (most : ℕ) (tokens : List Token) →
    IfOk (stmts_from first most tokens) (λ x. AreStmts room x.0 tokens x.1)
unfolding stmts_from
stmts_from_sound room first sound zero tokens = AreStmts.none
stmts_from_sound room first sound (suc most) tokens =
    if_then (are_over tokens) _ _ _ AreStmts.none
    (read_then (first tokens) _ _ _ (sound tokens) (λ one_stmt d.
    read_then (stmts_from first most one_stmt.1) _ _ _ (stmts_from_sound room first sound most one_stmt.1) (λ rest m.
    AreStmts.more d m)))

pub stmts_in_sound : (room : ℕ) → IsSoundIn room (stmts_in room)
unfolding stmts_in
stmts_in_sound zero tokens token rest e = tt
stmts_in_sound (suc room) tokens token rest e =
    rw e (weaker (stmts_from (stmt_from (stmts_in room) room) (length rest) rest) _ _ (λ x a. (room, refl, a))
    (stmts_from_sound room (stmt_from (stmts_in room) room) (λ others. stmt_sound room (stmts_in room) (stmts_in_sound room) others) (length rest) rest))

pub stmts_sound : (room : ℕ) (tokens : List Token) → IfOk (stmts_at room tokens) (λ x. AreStmts room x.0 tokens x.1)
unfolding stmts_at stmt_at
stmts_sound room tokens =
    stmts_from_sound room (stmt_at room) (λ others. stmt_sound room (stmts_in room) (stmts_in_sound room) others) (length tokens) tokens

end_then : (tokens : List Token) → IfOk (at_end tokens) (λ x. tokens ≡ [])
unfolding at_end
end_then [] = refl
end_then (token ∷ rest) = tt

-- what is read as a source is one
pub source_sound : (room : ℕ) (tokens : List Token) → IfOk (source_at room tokens) (λ x. IsSource room x.0 x.1 tokens)
unfolding source_at workers_at
source_sound room tokens =
    read_then (workers_at tokens) (λ workers. (body : List Stmt) → AreStmts room body workers.1 [] → IsSource room workers.0 body tokens) _ _
    (if_then (begins (class.Word keyword.Workers) tokens) _ _ _
    (after_then (class.Word keyword.Workers) tokens _ _ (λ word r1 e1 i1.
    one_then class.Number r1 _ _ (λ number r2 e2 i2.
    after_then (class.Symbol SEMICOLON) r2 _ _ (λ end r3 e3 i3.
    λ body d. rw (e1, e2, e3) (IsSource.counted i1 i2 i3 d)))))
    (λ body d. IsSource.uncounted d))
    (λ workers w.
    read_then (stmts_at room workers.1) _ _ _ (stmts_sound room workers.1) (λ body d.
    read_then (at_end body.1) _ _ _ (end_then body.1) (λ end last.
    w body.0 (rw last at d))))

pub stmt_at_sound : (room : ℕ) (tokens : List Token) → IfOk (stmt_from (stmts_in room) room tokens) (λ x. IsStmt room x.0 tokens x.1)
stmt_at_sound room tokens = stmt_sound room (stmts_in room) (stmts_in_sound room) tokens
