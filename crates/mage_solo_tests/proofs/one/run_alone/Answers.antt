use Rattle.std.proofs.Common.{◌++◌, ◌∷◌, [], ap, ◌∙◌, sym, arith}
use Rattle.mage_small_programs.proofs.Suiting.{parts_long, suits_of, one_shelf}
use Rattle.mage_solo_tests.proofs.one.run_alone.Goals as goal

pub run_plain-requires-clause-garbler : goal.run_plain-requires-clause-garbler
run_plain-requires-clause-garbler g c =
    let parts = parts_long c.args.plan c.parts.result.items (c.parts.ensures.parts ∙ c.in-Ok.ensures.parts) in
    c.in_ok-garbler.ensures ∙ sym (parts ∙ c.requires.workers)

pub run_plain-requires-clause-evaluator : goal.run_plain-requires-clause-evaluator
run_plain-requires-clause-evaluator g c =
    let parts = parts_long c.args.plan c.parts.result.items (c.parts.ensures.parts ∙ c.in-Ok.ensures.parts) in
    c.in_ok-evaluator.ensures ∙ sym (parts ∙ c.requires.workers)

pub run_plain-requires-clause-stores : goal.run_plain-requires-clause-stores
run_plain-requires-clause-stores g c =
    let parts = parts_long c.args.plan c.parts.result.items (c.parts.ensures.parts ∙ c.in-Ok.ensures.parts) in
    let workers = c.requires.workers in
    let items = c.push-2.new.self.ok.0 in
    let len = c.in_ok-push-2.ensures.len in
    let none = c.new-stores.ensures.len in
    omega (arith, parts, workers, items, len, none)

pub run_plain-requires-clause-suits : goal.run_plain-requires-clause-suits
run_plain-requires-clause-suits g c =
    suits_of 1 g.S.Store.tells c.args.plan c.parts.result.items c.push-2.new.self.items (c.parts.ensures.parts ∙ c.in-Ok.ensures.parts) c.requires.wires
    (one_shelf 1 g.S.Store.tells c.push-2.new.self.items c.push.new.self c.args.store
    (c.in_ok-push-2.ensures.items ∙ ap (λ l. l ++ c.push.new.self ∷ []) c.new-stores.ensures.items)
    (c.in_ok-push.ensures.items ∙ ap (λ l. l ++ c.args.store ∷ []) c.new-shelf.ensures.items) c.requires.page)
