use Rattle.std.proofs.Common.{arith}
use Rattle.mage_meaning.proofs.EffectLemmas.{add_output-is}
use Rattle.mage_meaning.proofs.effects.add_output.Goals as goal

pub returns-in_ok-push : goal.returns-in_ok-push
returns-in_ok-push c =
    let a = c.index_mut.ensures.value in
    let b = c.in_ok-push.ensures.items in
    let d = c.if-worker-len.true in
    let e = c.len.ensures in
    add_output-is (λ own. own.items) c.args.outputs.now.items c.args.worker c.args.value c.index_mut.result.now c.push.new.self (omega (arith, c.args.outputs.now.ok.0)) a b
