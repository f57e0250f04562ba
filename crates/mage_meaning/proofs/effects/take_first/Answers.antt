use Rattle.std.proofs.Common.{arith}
use Rattle.mage_meaning.proofs.EffectLemmas.{take_first-is}
use Rattle.mage_meaning.proofs.effects.take_first.Goals as goal

pub returns-then-worker-len : goal.returns-then-worker-len
returns-then-worker-len c =
    let a = c.index.ensures in
    let b = c.without.ensures in
    take_first-is (λ own. own.now) c.args.lists.now.items c.args.worker c.args.count c.index.result.now c.without.result (omega (arith, c.args.lists.now.ok.0)) a b
