use Rattle.std.proofs.Common.{arith}
use Rattle.mage_meaning.specs.Value.{first_of}
use Rattle.mage_meaning.proofs.EffectLemmas.{first_of-turn}
use Rattle.mage_meaning.proofs.effects.first_of.Goals as goal

pub loop-place-preserved : goal.loop-place-preserved
loop-place-preserved c =
    first_of-turn c.loop-place.items.items c.push.new.self.items c.args.values.now (first_of c.args.count c.args.values.now) c.args.count c.loop-place.place c.entry.result (omega arith) c.in_ok-push.ensures.items c.entry.ensures c.loop-place.invariant
