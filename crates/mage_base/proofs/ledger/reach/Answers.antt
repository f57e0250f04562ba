use Rattle.std.proofs.Common.{◌+◌, arith}
use Rattle.std.proofs.lemmas.List.{take_all}
use Rattle.mage_base.proofs.Ledgers.{returned_grown}
use Rattle.mage_base.proofs.ledger.reach.Goals as goal

pub returns-in_ok-resize-clause-returned : goal.returns-in_ok-resize-clause-returned
returns-in_ok-resize-clause-returned c =
    let old = c.args.totals.now.items in
    rw (c.in_ok-resize.ensures.items, take_all (c.args.worker + 1) old (grind arith)) (returned_grown old _)
