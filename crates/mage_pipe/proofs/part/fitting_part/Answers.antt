use Rattle.std.proofs.Common.{◌≡◌, ◌∙◌, ap, sym, Ok}
use Rattle.std.proofs.lemmas.Result.{err_from_is_err_and}
use Rattle.mage_pipe.specs.MemoryProgram.{homed_with}
use Rattle.mage_pipe.specs.Summary.{cost_of}
use Rattle.mage_pipe.proofs.Judging.{worker_fault, worker_unplanned, worker_planned, unscheduled, uncounted, counted}
use Rattle.mage_pipe.proofs.part.fitting_part.Goals as goal

pub returns-in_err-list-clause-part : goal.returns-in_err-list-clause-part
returns-in_err-list-clause-part c =
    let p = err_from_is_err_and c.from_residual-in_err-list.result c.from_residual-in_err-list.ensures.1 in
    let places = c.deref.ensures.value ∙ c.in_ok-places.ensures.places in
    let trace = c.deref-2.ensures.value ∙ c.in_ok-places.ensures.trace in
    rw (p.1, p.2) (worker_unplanned c.args.limits c.args.instrs.now c.deref.result.now c.deref-2.result.now places trace c.in_err-list.field-0.0 c.in_err-list.ensures.list)

pub returns-in_err-list-clause-stats : goal.returns-in_err-list-clause-stats
returns-in_err-list-clause-stats c =
    let p = err_from_is_err_and c.from_residual-in_err-list.result c.from_residual-in_err-list.ensures.1 in
    let places = c.deref.ensures.value ∙ c.in_ok-places.ensures.places in
    let trace = c.deref-2.ensures.value ∙ c.in_ok-places.ensures.trace in
    rw (p.1, p.2) (worker_fault c.args.limits c.args.instrs.now c.deref.result.now c.deref-2.result.now places trace c.in_err-list.field-0.0 c.in_err-list.ensures.list)

pub returns-in_err-directives-clause-part : goal.returns-in_err-directives-clause-part
returns-in_err-directives-clause-part c =
    let p = err_from_is_err_and c.from_residual-in_err-directives.result c.from_residual-in_err-directives.ensures.1 in
    let places = c.deref.ensures.value ∙ c.in_ok-places.ensures.places in
    let trace = c.deref-2.ensures.value ∙ c.in_ok-places.ensures.trace in
    let list = c.in_ok-list.ensures.list ∙ ap Ok (sym c.deref-3.ensures.value) in
    rw (p.1, p.2) (unscheduled c.args.limits c.args.instrs.now c.deref.result.now c.deref-2.result.now places trace c.deref-3.result.now list c.in_err-directives.field-0.0 c.in_err-directives.ensures)

pub returns-in_err-directives-clause-stats : goal.returns-in_err-directives-clause-stats
returns-in_err-directives-clause-stats c =
    let p = err_from_is_err_and c.from_residual-in_err-directives.result c.from_residual-in_err-directives.ensures.1 in
    let places = c.deref.ensures.value ∙ c.in_ok-places.ensures.places in
    let trace = c.deref-2.ensures.value ∙ c.in_ok-places.ensures.trace in
    let list = c.in_ok-list.ensures.list ∙ ap Ok (sym c.deref-3.ensures.value) in
    rw (p.1, p.2) (uncounted c.args.limits c.args.instrs.now c.deref.result.now c.deref-2.result.now places trace c.deref-3.result.now list c.in_err-directives.field-0.0 c.in_err-directives.ensures)

pub returns-clause-part : goal.returns-clause-part
returns-clause-part c =
    let places = c.deref.ensures.value ∙ c.in_ok-places.ensures.places in
    let trace = c.deref-2.ensures.value ∙ c.in_ok-places.ensures.trace in
    let list = c.in_ok-list.ensures.list ∙ ap Ok (sym c.deref-3.ensures.value) in
    worker_planned c.args.limits c.args.instrs.now c.deref.result.now c.deref-2.result.now places trace c.deref-3.result.now list ∙ c.in_ok-directives.ensures

pub returns-clause-stats : goal.returns-clause-stats
returns-clause-stats c =
    let places = c.deref.ensures.value ∙ c.in_ok-places.ensures.places in
    let trace = c.deref-2.ensures.value ∙ c.in_ok-places.ensures.trace in
    let list = c.in_ok-list.ensures.list ∙ ap Ok (sym c.deref-3.ensures.value) in
    let cost : cost_of c.args.instrs.now c.deref.result.now c.deref-2.result.now c.deref-3.result.now ≡ c.cost-stats.result = sym (rw (c.deref-4.ensures.value, c.deref-5.ensures.value, c.deref-6.ensures.value, sym c.deref.ensures.value, sym c.deref-2.ensures.value, sym c.deref-3.ensures.value) at c.cost-stats.ensures) in
    counted c.args.limits c.args.instrs.now c.deref.result.now c.deref-2.result.now places trace c.deref-3.result.now list (homed_with c.in_ok-directives.directives.items c.in_ok-directives.store) c.in_ok-directives.ensures ∙ ap Ok cost
