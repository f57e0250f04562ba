use Rattle.std.proofs.Common.{◌∙◌, arith, length-append}
use Rattle.mage_log_store.proofs.LogDeskLemmas.{logs_grown}
use Rattle.mage_log_store.proofs.log_desk.reach.Goals as goal

pub loop-preserved : goal.loop-preserved
loop-preserved c =
    let items = c.in_ok-push.ensures.items in
    record {
      count = rw items (grind (arith, length-append, c.loop.invariant.count));
      longer = rw items (grind (arith, length-append, c.loop.invariant.longer));
      same = rw items (logs_grown c.loop.logs.items c.new.result c.new.ensures ∙ c.loop.invariant.same);
    }
