use Rattle.std.proofs.Common.{refl, ◌∙◌}
use Rattle.std.proofs.lemmas.Result.{err_from_is_err_and}
use Rattle.mage_words.specs.Answers.{gen_view}
use Rattle.mage_planner.specs.declared.work.Running.{Running}
use Rattle.mage_planner.specs.Outcome.{found_for_gen, gen_outcome, solo_for}
use Rattle.mage_planner.proofs.GeneratedLemmas.{evaluator_is, garbler_is, gen-all, gen-evaluator, gen-garbler, gen-limits, gen-source, made_so, read_source}
use Rattle.mage_planner.proofs.ProgramLemmas.{memory_alone}
use Rattle.mage_planner.proofs.SoloLemmas.{can_be_run, run_found}
use Rattle.mage_planner.proofs.generated.generated.Goals as goal

pub returns-in_err-made-clause-gives : goal.returns-in_err-made-clause-gives
returns-in_err-made-clause-gives c =
    let p = err_from_is_err_and c.from_residual.result c.from_residual.ensures.1 in
    rw (p.1, p.2, c.in_err-made.ensures.memory) tt

pub returns-in_err-loaded-clause-gives : goal.returns-in_err-loaded-clause-gives
returns-in_err-loaded-clause-gives c =
    let p = err_from_is_err_and c.from_residual-in_err-loaded.result c.from_residual-in_err-loaded.ensures.1 in
    let is = made_so (gen_view c.args.request) _ c.in_ok-made.made c.order_of-order.ensures.order c.in_ok-made.ensures.text c.in_ok-made.ensures.garbler c.in_ok-made.ensures.evaluator in
    rw (p.1, p.2) (gen-source (gen_view c.args.request) c.in_ok-made.made is c.in_err-loaded.field-0.0
    (rw c.deref.ensures.value at c.in_err-loaded.ensures.loaded))

pub returns-in_err-planned-clause-gives : goal.returns-in_err-planned-clause-gives
returns-in_err-planned-clause-gives c =
    let p = err_from_is_err_and c.from_residual-in_err-planned.result c.from_residual-in_err-planned.ensures.1 in
    let is = made_so (gen_view c.args.request) _ c.in_ok-made.made c.order_of-order.ensures.order c.in_ok-made.ensures.text c.in_ok-made.ensures.garbler c.in_ok-made.ensures.evaluator in
    rw (p.1, p.2) (gen-limits (gen_view c.args.request) c.in_ok-made.made is c.in_ok-loaded.loaded
    (rw c.deref.ensures.value at c.in_ok-loaded.ensures.read) c.in_err-planned.field-0.0 c.in_err-planned.ensures.program)

pub returns-in_err-summary-clause-gives : goal.returns-in_err-summary-clause-gives
returns-in_err-summary-clause-gives c =
    let p = err_from_is_err_and c.from_residual-in_err-summary.result c.from_residual-in_err-summary.ensures.1 in
    rw (p.1, p.2) (memory_alone c.in_err-summary.field-0.0 _ (gen_outcome (gen_view c.args.request)) c.in_err-summary.ensures.text)

pub returns-in_err-parts-clause-gives : goal.returns-in_err-parts-clause-gives
returns-in_err-parts-clause-gives c =
    let p = err_from_is_err_and c.from_residual-in_err-parts.result c.from_residual-in_err-parts.ensures.1 in
    rw (p.1, p.2) (memory_alone c.in_err-parts.field-0.0 _ (gen_outcome (gen_view c.args.request)) c.in_err-parts.ensures.parts)

pub returns-in_err-garbler-clause-gives : goal.returns-in_err-garbler-clause-gives
returns-in_err-garbler-clause-gives c =
    let p = err_from_is_err_and c.from_residual-in_err-garbler.result c.from_residual-in_err-garbler.ensures.1 in
    let is = made_so (gen_view c.args.request) _ c.in_ok-made.made c.order_of-order.ensures.order c.in_ok-made.ensures.text c.in_ok-made.ensures.garbler c.in_ok-made.ensures.evaluator in
    rw (p.1, p.2) (gen-garbler (gen_view c.args.request) c.in_ok-made.made is c.in_ok-loaded.loaded
    (rw c.deref.ensures.value at c.in_ok-loaded.ensures.read) c.in_err-garbler.field-0.0 c.in_ok-planned.planned.program c.in_ok-planned.ensures.program
    (rw c.deref-3.ensures.value at c.in_err-garbler.ensures.numbers))

pub returns-in_err-evaluator-clause-gives : goal.returns-in_err-evaluator-clause-gives
returns-in_err-evaluator-clause-gives c =
    let p = err_from_is_err_and c.from_residual-in_err-evaluator.result c.from_residual-in_err-evaluator.ensures.1 in
    let is = made_so (gen_view c.args.request) _ c.in_ok-made.made c.order_of-order.ensures.order c.in_ok-made.ensures.text c.in_ok-made.ensures.garbler c.in_ok-made.ensures.evaluator in
    rw (p.1, p.2) (gen-evaluator (gen_view c.args.request) c.in_ok-made.made is c.in_ok-loaded.loaded
    (rw c.deref.ensures.value at c.in_ok-loaded.ensures.read) c.in_err-evaluator.field-0.0 c.in_ok-planned.planned.program c.in_ok-planned.ensures.program _
    (rw c.deref-3.ensures.value at c.in_ok-garbler.ensures.numbers) (rw c.deref-4.ensures.value at c.in_err-evaluator.ensures.numbers))

pub returns-clause-gives : goal.returns-clause-gives
returns-clause-gives c =
    let gen = gen_view c.args.request in
    let is = made_so gen _ c.in_ok-made.made c.order_of-order.ensures.order c.in_ok-made.ensures.text c.in_ok-made.ensures.garbler c.in_ok-made.ensures.evaluator in
    let made = c.in_ok-made.made in
    let loaded = c.in_ok-loaded.loaded in
    let read = rw c.deref.ensures.value at c.in_ok-loaded.ensures.read in
    let running : Running = record { parts = c.in_ok-parts.parts; garbler = c.in_ok-garbler.garbler; evaluator = c.in_ok-evaluator.evaluator } in
    let run = run_found running c.args.request.limits c.requires.limits made.text.items loaded c.in_ok-planned.planned.program read c.in_ok-planned.ensures.program
    c.in_ok-parts.ensures.parts c.in_ok-garbler.ensures.fit c.in_ok-evaluator.ensures.fit (solo_for gen) (found_for_gen gen) refl (read_source gen made is loaded read)
    (garbler_is gen made is loaded ∙ rw c.deref-3.ensures.value at c.in_ok-garbler.ensures.numbers)
    (evaluator_is gen made is loaded ∙ rw c.deref-4.ensures.value at c.in_ok-evaluator.ensures.numbers) in
    gen-all gen (record { out = c.args.request.out; made = made; summary = c.in_ok-summary.summary; running = running }) loaded _ run.0 is refl read
    c.in_ok-planned.ensures.costs (rw c.deref-2.ensures.value at c.in_ok-summary.ensures.text) run.1 run.2

pub returns-clause-can : goal.returns-clause-can
returns-clause-can c =
    let read = rw c.deref.ensures.value at c.in_ok-loaded.ensures.read in
    can_be_run (record { parts = c.in_ok-parts.parts; garbler = c.in_ok-garbler.garbler; evaluator = c.in_ok-evaluator.evaluator })
    c.args.request.limits c.requires.limits c.in_ok-made.made.text.items c.in_ok-loaded.loaded c.in_ok-planned.planned.program read c.in_ok-planned.ensures.program
    c.in_ok-parts.ensures.parts c.in_ok-garbler.ensures.fit c.in_ok-evaluator.ensures.fit c.in_ok-parts.ensures.verified
