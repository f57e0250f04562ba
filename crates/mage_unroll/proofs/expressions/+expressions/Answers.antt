use Rattle.std.proofs.Common.{rules}
use Rattle.mage_tree.specs.declared.tree.Expr.{the_lemmas}
use Rattle.mage_unroll.specs.Unroller.{state_of}
use Rattle.mage_unroll.proofs.Trees.{variable_of-chain}
use Rattle.mage_unroll.proofs.expressions.+expressions.Goals as goal

pub variable_of-chained-requires : goal.variable_of-chained-requires
variable_of-chained-requires t c =
    (search (rules, the_lemmas, c.as_slice.ensures, c.in-Chain.is), tt)

pub variable_of-returns-in_ok-first-in-Chain : goal.variable_of-returns-in_ok-first-in-Chain
variable_of-returns-in_ok-first-in-Chain t c =
    let chain = variable_of-chain c.args.word.now (state_of c.args.unroller.now) c.in-Chain.first c.in-Chain.rest in
    let first = c.in_ok-first-in-Chain.ensures in
    rw (c.in-Chain.is, chain, ← c.as_slice.ensures, ← c.get-in-Chain.ensures, first) c.chained.ensures
