use Rattle.std.proofs.Common.{true}
use Rattle.mage_words.specs.Answers.{gen_view}
use Rattle.mage_planner.specs.Outcome.{gen_outcome}
use Rattle.mage_planner.specs.Found.{nothing_found}
use Rattle.mage_planner.proofs.GeneratedLemmas.{told_any}
use Rattle.mage_planner.proofs.command.answer.Goals as goal

pub returns-in-Stats-clause-cause : goal.returns-in-Stats-clause-cause
returns-in-Stats-clause-cause g c = c.said.ensures.counts _ _ c.stats.ensures.cause

pub returns-in-Deal-clause-cause : goal.returns-in-Deal-clause-cause
returns-in-Deal-clause-cause g c = c.dealt.ensures.counts _ _ c.deal.ensures.cause

pub returns-in-Plan-clause-cause : goal.returns-in-Plan-clause-cause
returns-in-Plan-clause-cause g c = c.written.ensures.counts _ _ c.plan.ensures.cause

pub returns-in-Check-clause-cause : goal.returns-in-Check-clause-cause
returns-in-Check-clause-cause g c = c.said-in-Check.ensures.counts _ _ c.check.ensures.cause

pub returns-in-Upgrade-clause-cause : goal.returns-in-Upgrade-clause-cause
returns-in-Upgrade-clause-cause g c = c.written-in-Upgrade.ensures.counts _ _ c.upgrade.ensures.cause

pub returns-in-Solo-clause-told : goal.returns-in-Solo-clause-told
returns-in-Solo-clause-told g c =
    rw c.in-Solo.is c.driven.ensures.told

pub returns-in-Gen-clause-cause : goal.returns-in-Gen-clause-cause
returns-in-Gen-clause-cause g c = c.to_generate.ensures.counts _ _ (c.generated.ensures.quiet _)

pub returns-in-Gen-clause-some : goal.returns-in-Gen-clause-some
returns-in-Gen-clause-some g c = rw c.in-Gen.is (nothing_found, c.to_generate.ensures.gives true (gen_outcome (gen_view c.in-Gen.request)) c.generated.ensures.gives)

pub returns-in-Gen-clause-told : goal.returns-in-Gen-clause-told
returns-in-Gen-clause-told g c =
    rw c.in-Gen.is (told_any (g.D.Desk.tells c.args.desk.now).files
    (c.to_generate.ensures.gives (g.D.Desk.tells c.args.desk.now).steady (gen_outcome (gen_view c.in-Gen.request)) c.generated.ensures.gives))
