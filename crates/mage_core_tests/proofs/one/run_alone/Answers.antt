use Rattle.std.proofs.Common.{◌++◌, ◌∷◌, [], ap, ◌∙◌, arith}
use Rattle.mage_small_programs.proofs.Suiting.{parts_long, suits_of, one_shelf}
use Rattle.mage_core_tests.proofs.one.run_alone.Goals as goal

pub solo-requires-clause-drivers : goal.solo-requires-clause-drivers
solo-requires-clause-drivers g c κs within =
    let parts = parts_long c.args.plan c.parts.result.items (c.parts.ensures.parts ∙ c.in-Ok.ensures.parts) in
    let workers = c.requires.workers in
    let items = c.push.new.self.ok.0 in
    let len = c.in_ok-push.ensures.len in
    let none = c.new-drivers.ensures.len in
    omega (arith, parts, workers, items, len, none)

pub solo-requires-clause-stores : goal.solo-requires-clause-stores
solo-requires-clause-stores g c κs within =
    let parts = parts_long c.args.plan c.parts.result.items (c.parts.ensures.parts ∙ c.in-Ok.ensures.parts) in
    let workers = c.requires.workers in
    let items = c.push-3.new.self.ok.0 in
    let len = c.in_ok-push-3.ensures.len in
    let none = c.new-stores.ensures.len in
    omega (arith, parts, workers, items, len, none)

pub solo-requires-clause-suits : goal.solo-requires-clause-suits
solo-requires-clause-suits g c κs within =
    suits_of 1 g.S.Store.tells c.args.plan c.parts.result.items c.push-3.new.self.items (c.parts.ensures.parts ∙ c.in-Ok.ensures.parts) c.requires.wires
    (one_shelf 1 g.S.Store.tells c.push-3.new.self.items c.push-2.new.self c.args.store
    (c.in_ok-push-3.ensures.items ∙ ap (λ l. l ++ c.push-2.new.self ∷ []) c.new-stores.ensures.items)
    (c.in_ok-push-2.ensures.items ∙ ap (λ l. l ++ c.args.store ∷ []) c.new-shelf.ensures.items) c.requires.page)
