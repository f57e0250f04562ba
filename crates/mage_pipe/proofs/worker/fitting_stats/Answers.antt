use Rattle.std.proofs.Common.{◌≡◌, ◌∙◌, ap, sym, Ok}
use Rattle.std.proofs.lemmas.Result.{err_from_is_err_and}
use Rattle.mage_pipe.specs.Summary.{cost_of, unless_tight}
use Rattle.mage_pipe.proofs.Judging.{worker_fault, worker_listed}
use Rattle.mage_pipe.proofs.worker.fitting_stats.Goals as goal

pub returns-in_err-list : goal.returns-in_err-list
returns-in_err-list c =
    let p = err_from_is_err_and c.from_residual-in_err-list.result c.from_residual-in_err-list.ensures.1 in
    let places = c.deref.ensures.value ∙ c.in_ok-places.ensures.places in
    let trace = c.deref-2.ensures.value ∙ c.in_ok-places.ensures.trace in
    rw (p.1, p.2) (worker_fault c.args.limits c.args.instrs.now c.deref.result.now c.deref-2.result.now places trace c.in_err-list.field-0.0 c.in_err-list.ensures.list)

pub returns-in-Some : goal.returns-in-Some
returns-in-Some c =
    let places = c.deref.ensures.value ∙ c.in_ok-places.ensures.places in
    let trace = c.deref-2.ensures.value ∙ c.in_ok-places.ensures.trace in
    let list = c.in_ok-list.ensures.list ∙ ap Ok (sym c.deref-3.ensures.value) in
    worker_listed c.args.limits c.args.instrs.now c.deref.result.now c.deref-2.result.now places trace c.deref-3.result.now list
    ∙ ap (λ o. unless_tight o (cost_of c.args.instrs.now c.deref.result.now c.deref-2.result.now c.deref-3.result.now)) (sym c.in-Some.ensures)

pub returns : goal.returns
returns c =
    let places = c.deref.ensures.value ∙ c.in_ok-places.ensures.places in
    let trace = c.deref-2.ensures.value ∙ c.in_ok-places.ensures.trace in
    let list = c.in_ok-list.ensures.list ∙ ap Ok (sym c.deref-3.ensures.value) in
    let stats = worker_listed c.args.limits c.args.instrs.now c.deref.result.now c.deref-2.result.now places trace c.deref-3.result.now list in
    let fits = ap (λ o. unless_tight o (cost_of c.args.instrs.now c.deref.result.now c.deref-2.result.now c.deref-3.result.now)) (sym c.in_default.ensures) in
    let cost : cost_of c.args.instrs.now c.deref.result.now c.deref-2.result.now c.deref-3.result.now ≡ c.cost.result = sym (rw (c.deref-4.ensures.value, c.deref-5.ensures.value, c.deref-6.ensures.value, sym c.deref.ensures.value, sym c.deref-2.ensures.value, sym c.deref-3.ensures.value) at c.cost.ensures) in
    stats ∙ fits ∙ ap Ok cost
