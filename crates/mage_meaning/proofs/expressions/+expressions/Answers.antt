use Rattle.std.proofs.Common.{rules}
use Rattle.mage_tree.specs.declared.tree.Expr.{the_lemmas}
use Rattle.mage_meaning.specs.Run.{moment_of}
use Rattle.mage_meaning.proofs.TreeLemmas.{number_of_expr-chain, number_of_expr-mux}
use Rattle.mage_meaning.proofs.expressions.+expressions.Goals as goal

pub number_of_expr-chained-requires : goal.number_of_expr-chained-requires
number_of_expr-chained-requires t c =
    (search (rules, the_lemmas, c.as_slice.ensures, c.in-Chain.is), tt)

pub number_of_expr-returns-in-Chain : goal.number_of_expr-returns-in-Chain
number_of_expr-returns-in-Chain t c =
    let chain = number_of_expr-chain (moment_of c.args.run.now) c.in-Chain.first c.in-Chain.rest in
    rw (c.in-Chain.is, chain, ← c.as_slice.ensures, ← c.get-in-Chain.ensures, ← c.number_of_expr-first.ensures) c.chained.ensures

pub number_of_expr-returns-in-Mux : goal.number_of_expr-returns-in-Mux
number_of_expr-returns-in-Mux t c =
    let mux = number_of_expr-mux (moment_of c.args.run.now) c.in-Mux.word c.in-Mux.args in
    rw (c.in-Mux.is, mux, ← c.as_slice-in-Mux.ensures) c.chosen.ensures
