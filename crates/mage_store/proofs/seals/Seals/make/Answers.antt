use Rattle.std.proofs.Common.{◌<◌, refl, ap, ◌∙◌, length, replicate, get_or, arith}
use Rattle.std.specs.Prelude.{◌==◌}
use Rattle.std.specs.List.{list_any}
use Rattle.std.proofs.lemmas.List.{take_all}
use Rattle.mage_store.proofs.SealLemmas.{room_more}
use Rattle.mage_store.proofs.seals.Seals.make.Goals as goal

pub loop-page-preserved : goal.loop-page-preserved
loop-page-preserved c =
    let pages = c.args.pages.now in
    let index = c.loop-page.page-index in
    let within : index < length pages = omega arith in
    λ other. room_more c.loop-page.digests c.insert.new.self pages index (get_or pages index 0) (replicate 32 0) other within refl c.in_ok-insert.ensures.updates (c.loop-page.invariant other)

pub returns : goal.returns
returns c =
    λ other. c.loop-page.invariant other ∙ ap (list_any (λ p. p == other)) (take_all c.loop-page.page-index c.args.pages.now (omega arith))
