use Rattle.std.proofs.Common.{rules, ◌≤◌, length, IfOk, arith}
use Rattle.std.proofs.lemmas.Result.{IfOk-weaker}
use Rattle.mage_place.specs.Places.{next_page, ArePlaces}
use Rattle.mage_place.specs.Steps.{AreSteps}
use Rattle.mage_pipe.proofs.FitsTrace.{FitsTrace-from_place}
use Rattle.mage_pipe.proofs.worker.placed.Goals as goal

pub returns-clause-few : goal.returns-clause-few
returns-clause-few c =
    let placed : IfOk c.map_err.result (λ placed. next_page placed.0.items ≤ length c.args.instrs.now) = search rules in
    let instrs = c.requires.sound.count in
    IfOk-weaker c.map_err.result _ _ (λ placed few. omega (arith, few, instrs)) placed

pub returns-clause-fits : goal.returns-clause-fits
returns-clause-fits c =
    let placed : IfOk c.map_err.result (λ placed. ArePlaces c.args.instrs.now c.args.limits.page placed.0.items × AreSteps c.args.instrs.now placed.0.items placed.1.items) = search rules in
    IfOk-weaker c.map_err.result _ _ (λ placed are. FitsTrace-from_place c.args.instrs.now c.args.limits.page placed.0.items placed.1.items c.requires.sound are.0 are.1) placed
