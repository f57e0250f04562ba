-- What is in the grammar within a depth is so within every greater one.
use Rattle.std.proofs.Common.{◌≡◌, ℕ, zero, suc, ◌+◌, List, arith}
use Rattle.std.specs.Prelude.{Option}
use Rattle.mage_lex.specs.declared.token.Token.{Token}
use Rattle.mage_tree.specs.declared.tree.ConstExpr.{ConstExpr}
use Rattle.mage_tree.specs.declared.tree.Expr.{Expr}
use Rattle.mage_tree.specs.declared.tree.Item.{Item}
use Rattle.mage_tree.specs.declared.tree.Stmt.{Stmt}
use Rattle.mage_tree.specs.Grammar.{IsConst, AreOperands, IsIndex, IsItem, AreAmounts, IsExpr, AreExprs, IsStmt, IsBlock, IsElse, AreStmts}
use Rattle.mage_tree.specs.Sources.{IsSource}

mutual
  const_wider : {level room : ℕ} {e : ConstExpr} {before after : List Token} → IsConst level room e before after → IsConst level (suc room) e before after
  const_wider (IsConst.number is) = IsConst.number is
  const_wider (IsConst.name is) = IsConst.name is
  const_wider (IsConst.paren is d shut) = IsConst.paren is (const_wider d) shut
  const_wider (IsConst.minus is d) = IsConst.minus is (const_wider d)
  const_wider (IsConst.alone d) = IsConst.alone (const_wider d)
  const_wider (IsConst.chain d r) = IsConst.chain (const_wider d) (operands_wider r)

  operands_wider : {level room : ℕ} {rest : List (Token × ConstExpr)} {before after : List Token} → AreOperands level room rest before after → AreOperands level (suc room) rest before after
  operands_wider AreOperands.none = AreOperands.none
  operands_wider (AreOperands.more is d r) = AreOperands.more is (const_wider d) (operands_wider r)

index_wider : {room : ℕ} {size : Option (Token × ConstExpr)} {before after : List Token} → IsIndex room size before after → IsIndex (suc room) size before after
index_wider IsIndex.absent = IsIndex.absent
index_wider (IsIndex.present is d shut) = IsIndex.present is (const_wider d) shut

item_wider : {room : ℕ} {place : Item} {before after : List Token} → IsItem room place before after → IsItem (suc room) place before after
item_wider (IsItem.place is d) = IsItem.place is (index_wider d)

amounts_wider : {room : ℕ} {rest : List (Token × ConstExpr)} {before after : List Token} → AreAmounts room rest before after → AreAmounts (suc room) rest before after
amounts_wider AreAmounts.none = AreAmounts.none
amounts_wider (AreAmounts.more is d r) = AreAmounts.more is (const_wider d) (amounts_wider r)

mutual
  expr_wider : {level room : ℕ} {e : Expr} {before after : List Token} → IsExpr level room e before after → IsExpr level (suc room) e before after
  expr_wider (IsExpr.item d) = IsExpr.item (item_wider d)
  expr_wider (IsExpr.paren is d shut) = IsExpr.paren is (expr_wider d) shut
  expr_wider (IsExpr.lit w t o d shut) = IsExpr.lit w t o (const_wider d) shut
  expr_wider (IsExpr.resize w t o d shut) = IsExpr.resize w t o (expr_wider d) shut
  expr_wider (IsExpr.mux w o a p b q c shut) = IsExpr.mux w o (expr_wider a) p (expr_wider b) q (expr_wider c) shut
  expr_wider (IsExpr.choose w o a p b shut) = IsExpr.choose w o (expr_wider a) p (expr_wider b) shut
  expr_wider (IsExpr.count w o a shut) = IsExpr.count w o (expr_wider a) shut
  expr_wider (IsExpr.«not» is d) = IsExpr.«not» is (expr_wider d)
  expr_wider (IsExpr.alone d) = IsExpr.alone (expr_wider d)
  expr_wider (IsExpr.chain l d r) = IsExpr.chain l (expr_wider d) (exprs_wider r)
  expr_wider (IsExpr.shift d r) = IsExpr.shift (expr_wider d) (amounts_wider r)
  expr_wider (IsExpr.compare d is s) = IsExpr.compare (expr_wider d) is (expr_wider s)

  exprs_wider : {level room : ℕ} {rest : List (Token × Expr)} {before after : List Token} → AreExprs level room rest before after → AreExprs level (suc room) rest before after
  exprs_wider AreExprs.none = AreExprs.none
  exprs_wider (AreExprs.more is d r) = AreExprs.more is (expr_wider d) (exprs_wider r)

mutual
  stmt_wider : {room : ℕ} {s : Stmt} {before after : List Token} → IsStmt room s before after → IsStmt (suc room) s before after
  stmt_wider (IsStmt.constant w n q d shut) = IsStmt.constant w n q (const_wider d) shut
  stmt_wider (IsStmt.input w p n c t d shut) = IsStmt.input w p n c t (index_wider d) shut
  stmt_wider (IsStmt.«let» w n q d shut) = IsStmt.«let» w n q (expr_wider d) shut
  stmt_wider (IsStmt.array w n c t d q f shut) = IsStmt.array w n c t (index_wider d) q (expr_wider f) shut
  stmt_wider (IsStmt.assign d q f shut) = IsStmt.assign (item_wider d) q (expr_wider f) shut
  stmt_wider (IsStmt.move w n q d shut) = IsStmt.move w n q (item_wider d) shut
  stmt_wider (IsStmt.on w d b) = IsStmt.on w (const_wider d) (block_wider b)
  stmt_wider (IsStmt.for w n i d q f b) = IsStmt.for w n i (const_wider d) q (const_wider f) (block_wider b)
  stmt_wider (IsStmt.choice w d q f b o) = IsStmt.choice w (const_wider d) q (const_wider f) (block_wider b) (else_wider o)
  stmt_wider (IsStmt.output w d shut) = IsStmt.output w (expr_wider d) shut

  block_wider : {room : ℕ} {body : List Stmt} {before after : List Token} → IsBlock room body before after → IsBlock (suc room) body before after
  block_wider (IsBlock.block is d shut) = IsBlock.block is (stmts_wider d) shut

  else_wider : {room : ℕ} {body : Option (List Stmt)} {before after : List Token} → IsElse room body before after → IsElse (suc room) body before after
  else_wider IsElse.nothing = IsElse.nothing
  else_wider (IsElse.otherwise w b) = IsElse.otherwise w (block_wider b)

  stmts_wider : {room : ℕ} {body : List Stmt} {before after : List Token} → AreStmts room body before after → AreStmts (suc room) body before after
  stmts_wider AreStmts.none = AreStmts.none
  stmts_wider (AreStmts.more d r) = AreStmts.more (stmt_wider d) (stmts_wider r)

source_wider : {room : ℕ} {workers : Option Token} {body : List Stmt} {tokens : List Token} → IsSource room workers body tokens → IsSource (suc room) workers body tokens
source_wider (IsSource.counted w n e d) = IsSource.counted w n e (stmts_wider d)
source_wider (IsSource.uncounted d) = IsSource.uncounted (stmts_wider d)

pub source_within : (more room : ℕ) {workers : Option Token} {body : List Stmt} {tokens : List Token} → IsSource room workers body tokens → IsSource (room + more) workers body tokens
source_within zero room s = rw (same room) s
  where
    same : (n : ℕ) → n + 0 ≡ n
    same n = omega arith
source_within (suc more) room s = rw (next room more) (source_wider (source_within more room s))
  where
    next : (n m : ℕ) → n + suc m ≡ suc (n + m)
    next n m = omega arith
