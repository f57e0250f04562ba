use Rattle.std.proofs.Common.{◌-◌, sym, ◌∙◌, arith}
use Rattle.mage_belady.proofs.Scans.{ascends-last}
use Rattle.mage_belady.proofs.costs.is_ascending.Goals as goal

pub returns : goal.returns
returns c = sym (ascends-last c.args.set.now (c.loop-k.k - 1) (omega arith))
    ∙ c.loop-k.invariant.rest
