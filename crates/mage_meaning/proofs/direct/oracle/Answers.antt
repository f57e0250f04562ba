use Rattle.std.proofs.Common.{map, sym, ap, ◌∙◌}
use Rattle.mage_meaning.specs.Run.{moment_of}
use Rattle.mage_meaning.specs.Value.{Moment, all_changes, change_of, opening, value_of, worker_count}
use Rattle.mage_meaning.proofs.ProgramLaw.{unrolled_means_the_same}
use Rattle.mage_meaning.proofs.direct.oracle.Goals as goal

pub returns-clause-same : goal.returns-clause-same
unfolding moment_of value_of
returns-clause-same c program h =
    let workers = c.args.source.now.workers in
    let body = c.args.source.now.body in
    let begun = c.in_ok-run.ensures ∙ ap (λ n. opening n c.args.inputs.now) (c.worker_count.ensures ∙ ap worker_count c.workers.ensures.value) in
    let done = c.in_ok-execute_all.ensures
    ∙ ap (λ l. all_changes (map change_of l) (moment_of c.in_ok-run.run')) c.body.ensures.value
    ∙ ap (λ m. all_changes (map change_of body) m) begun in
    unrolled_means_the_same workers body program c.args.inputs.now h ∙ sym (ap (λ (m : Moment). m.outputs) done)
