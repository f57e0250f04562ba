use Rattle.std.proofs.Common.{◌≡◌, ◌≢◌, arith, ⊎_elim}
use Rattle.std.proofs.lemmas.Bool.{cases_eq}
use Rattle.mage_place.proofs.Stepped.{ascending_at}
use Rattle.mage_place.proofs.steps.below.Goals as goal

pub returns-then-page-step-clause-above : goal.returns-then-page-step-clause-above
returns-then-page-step-clause-above c = λ k l m.
    ⊎_elim (λ (e : k ≡ c.loop-k.k). rw e (omega (arith, c.if-page-step.true)))
    (λ (ne : k ≢ c.loop-k.k). let up = ascending_at c.args.step.pages c.args.step.count c.loop-k.k k c.requires.1 (omega (arith, ne)) m (omega (arith, c.requires.0)) in omega (arith, up, c.if-page-step.true))
    (cases_eq k c.loop-k.k)
