use Rattle.std.proofs.Common.{◌++◌, ◌∷◌, [], ap, ◌∙◌, arith}
use Rattle.mage_base.specs.MemStore.{store_told}
use Rattle.mage_small_programs.proofs.Suiting.{parts_long, suits_of, lone_shelf}
use Rattle.mage_solo_tests.proofs.evaluated.evaluate_alone.Goals as goal

pub run_evaluating-ended-requires-clause-labels : goal.run_evaluating-ended-requires-clause-labels
run_evaluating-ended-requires-clause-labels c =
    let parts = parts_long c.in_ok-plan.plan c.parts.result.items (c.parts.ensures.parts ∙ c.in-Ok.ensures.parts) in
    let workers = c.in_ok-plan.ensures.workers in
    let items = c.push.new.self.ok.0 in
    let len = c.in_ok-push.ensures.len in
    let none = c.new-dealt.ensures.len in
    omega (arith, parts, workers, items, len, none)

pub run_evaluating-ended-requires-clause-sources : goal.run_evaluating-ended-requires-clause-sources
run_evaluating-ended-requires-clause-sources c =
    let parts = parts_long c.in_ok-plan.plan c.parts.result.items (c.parts.ensures.parts ∙ c.in-Ok.ensures.parts) in
    let workers = c.in_ok-plan.ensures.workers in
    let items = c.push-2.new.self.ok.0 in
    let len = c.in_ok-push-2.ensures.len in
    let none = c.new-sources.ensures.len in
    omega (arith, parts, workers, items, len, none)

pub run_evaluating-ended-requires-clause-stores : goal.run_evaluating-ended-requires-clause-stores
run_evaluating-ended-requires-clause-stores c =
    let parts = parts_long c.in_ok-plan.plan c.parts.result.items (c.parts.ensures.parts ∙ c.in-Ok.ensures.parts) in
    let workers = c.in_ok-plan.ensures.workers in
    let items = c.push-3.new.self.ok.0 in
    let len = c.in_ok-push-3.ensures.len in
    let none = c.new-stores.ensures.len in
    omega (arith, parts, workers, items, len, none)

pub run_evaluating-ended-requires-clause-suits : goal.run_evaluating-ended-requires-clause-suits
run_evaluating-ended-requires-clause-suits c =
    suits_of 16 store_told c.in_ok-plan.plan c.parts.result.items c.push-3.new.self.items (c.parts.ensures.parts ∙ c.in-Ok.ensures.parts) c.in_ok-plan.ensures.page
    (lone_shelf 16 store_told c.push-3.new.self.items c.in_ok-shelf.field-0
    (c.in_ok-push-3.ensures.items ∙ ap (λ l. l ++ c.in_ok-shelf.field-0 ∷ []) c.new-stores.ensures.items)
    (record { one = c.in_ok-shelf.ensures.0; bytes = c.in_ok-shelf.ensures.1 }))
