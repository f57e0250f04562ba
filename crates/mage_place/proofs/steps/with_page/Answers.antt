use Rattle.std.proofs.Common.{◌≢◌, ◌<◌, get_or, arith}
use Rattle.mage_place.proofs.Stepped.{increases, members}
use Rattle.mage_place.proofs.steps.with_page.Goals as goal
use Rattle.mage_place.proofs.steps.with_page.Goals.{else-at-from-via-then-at-from+else-step-at, else-at-from-via-else-at-from}

pub returns-clause-ok : goal.returns-clause-ok
returns-clause-ok c =
    let at = c.below-at.result in let xs = c.args.step.pages in let n = c.args.step.count in
    let other : at < n → get_or xs at 0 ≢ c.args.page = elim c.else-at-from.branch [
      | else-at-from-via-then-at-from+else-step-at w ↦ λ l. w.if-step-at.false
      | else-at-from-via-else-at-from w ↦ λ l. absurd (omega (arith, w.if-at-from.false, c.from.ensures))
    ] in (
      omega (arith, c.requires.room),
      increases xs c.inserted.result n at c.args.page (omega arith) (omega arith) c.requires.room c.below-at.ensures.within c.requires.ok.1 c.below-at.ensures.below c.below-at.ensures.above other c.inserted.ensures.before c.inserted.ensures.here c.inserted.ensures.behind,
    )

pub returns-clause-pages : goal.returns-clause-pages
returns-clause-pages c =
    let at = c.below-at.result in let xs = c.args.step.pages in let n = c.args.step.count in
    let other : at < n → get_or xs at 0 ≢ c.args.page = elim c.else-at-from.branch [
      | else-at-from-via-then-at-from+else-step-at w ↦ λ l. w.if-step-at.false
      | else-at-from-via-else-at-from w ↦ λ l. absurd (omega (arith, w.if-at-from.false, c.from.ensures))
    ] in
    members xs c.inserted.result n at c.args.page (omega arith) (omega arith) c.requires.room c.below-at.ensures.within c.requires.ok.1 c.below-at.ensures.below c.below-at.ensures.above other c.inserted.ensures.before c.inserted.ensures.here c.inserted.ensures.behind
