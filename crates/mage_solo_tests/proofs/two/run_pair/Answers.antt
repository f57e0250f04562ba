use Rattle.std.proofs.Common.{◌++◌, ◌∷◌, [], ap, ◌∙◌, sym, arith}
use Rattle.mage_base.specs.MemStore.{store_told}
use Rattle.mage_small_programs.proofs.Suiting.{parts_long, suits_of, two_shelves}
use Rattle.mage_solo_tests.proofs.two.run_pair.Goals as goal

pub run_plain-requires-clause-garbler : goal.run_plain-requires-clause-garbler
run_plain-requires-clause-garbler c =
    let parts = parts_long c.args.plan c.parts.result.items (c.parts.ensures.parts ∙ c.in-Ok.ensures.parts) in
    c.in_ok-garbler.ensures ∙ sym (parts ∙ c.requires.workers)

pub run_plain-requires-clause-evaluator : goal.run_plain-requires-clause-evaluator
run_plain-requires-clause-evaluator c =
    let parts = parts_long c.args.plan c.parts.result.items (c.parts.ensures.parts ∙ c.in-Ok.ensures.parts) in
    c.in_ok-evaluator.ensures ∙ sym (parts ∙ c.requires.workers)

pub run_plain-requires-clause-stores : goal.run_plain-requires-clause-stores
run_plain-requires-clause-stores c =
    let parts = parts_long c.args.plan c.parts.result.items (c.parts.ensures.parts ∙ c.in-Ok.ensures.parts) in
    let workers = c.requires.workers in
    let items = c.push-2.new.self.ok.0 in
    let second = c.in_ok-push-2.ensures.len in
    let first = c.in_ok-push.ensures.len in
    let none = c.new-stores.ensures.len in
    omega (arith, parts, workers, items, first, second, none)

pub run_plain-requires-clause-suits : goal.run_plain-requires-clause-suits
run_plain-requires-clause-suits c =
    suits_of 1 store_told c.args.plan c.parts.result.items c.push-2.new.self.items (c.parts.ensures.parts ∙ c.in-Ok.ensures.parts) c.requires.wires
    (two_shelves 1 store_told c.push-2.new.self.items c.in_ok-shelf.field-0 c.in_ok-shelf-2.field-0
    (c.in_ok-push-2.ensures.items ∙ ap (λ l. l ++ c.in_ok-shelf-2.field-0 ∷ [])
    (c.in_ok-push.ensures.items ∙ ap (λ l. l ++ c.in_ok-shelf.field-0 ∷ []) c.new-stores.ensures.items))
    (record { one = c.in_ok-shelf.ensures.0; bytes = c.in_ok-shelf.ensures.1 }) (record { one = c.in_ok-shelf-2.ensures.0; bytes = c.in_ok-shelf-2.ensures.1 }))
