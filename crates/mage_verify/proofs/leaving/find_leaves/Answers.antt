use Rattle.std.proofs.Common.{refl}
use Rattle.mage_verify.proofs.Frames.{found_first, found_next, found_all, table_behind}
use Rattle.mage_verify.proofs.leaving.find_leaves.Goals as goal

pub loop-behind-init : goal.loop-behind-init
loop-behind-init c = found_first c.args.directives.now c.args.left.now c.args.leaves.now c.requires.table c.requires.count

pub loop-behind-preserved : goal.loop-behind-preserved
loop-behind-preserved c =
    let behind = table_behind c.args.directives.now c.loop-behind.behind c.loop-behind.left c.loop-behind.leaves c.loop-behind.invariant c.loop-behind-test.true in
    found_next c.args.directives.now c.loop-behind.behind c.loop-behind.left c.loop-behind.leaves c.loop-behind.invariant c.loop-behind-test.true
    _ _ c.leaves_first.result c.step_back.new.left refl (c.leaves_first.ensures _ behind) (c.step_back.ensures.table _ behind)

pub returns : goal.returns
returns c = found_all c.args.directives.now c.loop-behind.behind c.loop-behind.left c.loop-behind.leaves c.loop-behind.invariant c.loop-behind-test.false
