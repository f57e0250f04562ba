use Rattle.std.proofs.Common.{◌++◌, ◌∷◌, [], ap, ◌∙◌, sym, arith}
use Rattle.mage_base.specs.MemStore.{store_told}
use Rattle.mage_small_programs.proofs.Suiting.{parts_long, suits_of, lone_shelf}
use Rattle.mage_solo_tests.proofs.garbled.garble_alone.Goals as goal

pub run_garbling-ended-requires-clause-garbler : goal.run_garbling-ended-requires-clause-garbler
run_garbling-ended-requires-clause-garbler c =
    let parts = parts_long c.in_ok-plan.plan c.parts.result.items (c.parts.ensures.parts ∙ c.in-Ok.ensures.parts) in
    c.in_ok-garbler.ensures ∙ sym (parts ∙ c.in_ok-plan.ensures.workers)

pub run_garbling-ended-requires-clause-sinks : goal.run_garbling-ended-requires-clause-sinks
run_garbling-ended-requires-clause-sinks c =
    let parts = parts_long c.in_ok-plan.plan c.parts.result.items (c.parts.ensures.parts ∙ c.in-Ok.ensures.parts) in
    let workers = c.in_ok-plan.ensures.workers in
    let items = c.push.new.self.ok.0 in
    let len = c.in_ok-push.ensures.len in
    let none = c.new-sinks.ensures.len in
    omega (arith, parts, workers, items, len, none)

pub run_garbling-ended-requires-clause-stores : goal.run_garbling-ended-requires-clause-stores
run_garbling-ended-requires-clause-stores c =
    let parts = parts_long c.in_ok-plan.plan c.parts.result.items (c.parts.ensures.parts ∙ c.in-Ok.ensures.parts) in
    let workers = c.in_ok-plan.ensures.workers in
    let items = c.push-2.new.self.ok.0 in
    let len = c.in_ok-push-2.ensures.len in
    let none = c.new-stores.ensures.len in
    omega (arith, parts, workers, items, len, none)

pub run_garbling-ended-requires-clause-suits : goal.run_garbling-ended-requires-clause-suits
run_garbling-ended-requires-clause-suits c =
    suits_of 16 store_told c.in_ok-plan.plan c.parts.result.items c.push-2.new.self.items (c.parts.ensures.parts ∙ c.in-Ok.ensures.parts) c.in_ok-plan.ensures.page
    (lone_shelf 16 store_told c.push-2.new.self.items c.in_ok-shelf.field-0
    (c.in_ok-push-2.ensures.items ∙ ap (λ l. l ++ c.in_ok-shelf.field-0 ∷ []) c.new-stores.ensures.items)
    (record { one = c.in_ok-shelf.ensures.0; bytes = c.in_ok-shelf.ensures.1 }))
