use Rattle.std.proofs.Common.{rules, FitsSigned}
use Rattle.std.specs.Int.{w128}
use Rattle.std.proofs.lemmas.Int.{to_z-of_z}
use Rattle.mage_tree.specs.declared.tree.ConstExpr.{the_lemmas}
use Rattle.mage_constants.proofs.Trees.{constant_of-chain}
use Rattle.mage_constants.proofs.constants.+constants.Goals as goal

pub constant_of-chained-requires : goal.constant_of-chained-requires
constant_of-chained-requires g t c κs within = search (rules, the_lemmas, within, c.as_slice.ensures, c.in-Chain.is)

pub constant_of-returns-in_ok-value-in-Chain : goal.constant_of-returns-in_ok-value-in-Chain
constant_of-returns-in_ok-value-in-Chain g t c =
    let fits : FitsSigned w128 c.in_ok-value-in-Chain.value = search rules in
    let names = g.N.KnownConstants.constants c.args.names.now in
    let chain = constant_of-chain names c.in-Chain.first c.in-Chain.rest in
    let first = c.in_ok-value-in-Chain.ensures in
    rw (c.in-Chain.is, chain, ← c.as_slice.ensures, ← c.get-in-Chain.ensures, ← first) (simp to_z-of_z at c.chained.ensures)
