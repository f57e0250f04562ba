use Rattle.std.proofs.Common.{◌++◌, ◌∷◌, [], ap, ◌∙◌, arith}
use Rattle.mage_base.specs.MemStore.{store_told}
use Rattle.mage_small_programs.proofs.Suiting.{parts_long, suits_of, two_shelves}
use Rattle.mage_core_tests.proofs.two.run_pair.Goals as goal

pub solo-requires-clause-drivers : goal.solo-requires-clause-drivers
solo-requires-clause-drivers c κs =
    let parts = parts_long c.args.plan c.parts.result.items (c.parts.ensures.parts ∙ c.in-Ok.ensures.parts) in
    let workers = c.requires.workers in
    let items = c.push-2.new.self.ok.0 in
    let second = c.in_ok-push-2.ensures.len in
    let first = c.in_ok-push.ensures.len in
    let none = c.new-drivers.ensures.len in
    omega (arith, parts, workers, items, first, second, none)

pub solo-requires-clause-stores : goal.solo-requires-clause-stores
solo-requires-clause-stores c κs =
    let parts = parts_long c.args.plan c.parts.result.items (c.parts.ensures.parts ∙ c.in-Ok.ensures.parts) in
    let workers = c.requires.workers in
    let items = c.push-4.new.self.ok.0 in
    let second = c.in_ok-push-4.ensures.len in
    let first = c.in_ok-push-3.ensures.len in
    let none = c.new-stores.ensures.len in
    omega (arith, parts, workers, items, first, second, none)

pub solo-requires-clause-suits : goal.solo-requires-clause-suits
solo-requires-clause-suits c κs =
    suits_of 1 store_told c.args.plan c.parts.result.items c.push-4.new.self.items (c.parts.ensures.parts ∙ c.in-Ok.ensures.parts) c.requires.wires
    (two_shelves 1 store_told c.push-4.new.self.items c.in_ok-shelf.field-0 c.in_ok-shelf-2.field-0
    (c.in_ok-push-4.ensures.items ∙ ap (λ l. l ++ c.in_ok-shelf-2.field-0 ∷ [])
    (c.in_ok-push-3.ensures.items ∙ ap (λ l. l ++ c.in_ok-shelf.field-0 ∷ []) c.new-stores.ensures.items))
    (record { one = c.in_ok-shelf.ensures.0; bytes = c.in_ok-shelf.ensures.1 }) (record { one = c.in_ok-shelf-2.ensures.0; bytes = c.in_ok-shelf-2.ensures.1 }))
