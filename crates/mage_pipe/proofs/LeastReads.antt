-- The reads of the definitions are the fewest.
use Rattle.std.proofs.Common.{◌≡◌, ◌∙◌, ap, sym, List, length, Option, Some, None, Result, Ok, refl}
use Rattle.std.specs.Option.{option_or}
use Rattle.mage_instr.specs.declared.instr.Instr.{Instr}
use Rattle.mage_instr.specs.declared.replaced.Limits.{Limits}
use Rattle.mage_instr.specs.declared.replaced.Tight.{Tight}
use Rattle.mage_instr.specs.Sound.{IsSound}
use Rattle.mage_instr.specs.Trace.{IsTrace}
use Rattle.mage_belady.specs.Rule.{tight_of, sets_of}
use Rattle.mage_belady.proofs.Fits.{ReadsLeast-rule_of}
use Rattle.mage_place.specs.TooWide.{page_tight}
use Rattle.mage_place.proofs.PlacesComputed.{ArePlaces-computed}
use Rattle.mage_place.proofs.Stepped.{IsTrace-from_steps}
use Rattle.mage_place.proofs.StepsComputed.{AreSteps-computed}
use Rattle.mage_pipe.specs.declared.stats.WorkerStats.{WorkerStats}
use Rattle.mage_pipe.specs.Least.{ReadsAreLeast}
use Rattle.mage_sched.specs.Schedule.{buffer_tight}
use Rattle.mage_pipe.specs.Summary.{places_for, trace_for, list_for, cost_for, unless_tight, if_it_fits, fitting_stats_of, worker_stats_of}

none_tight : {T : Type 0} (o p : Option Tight) (x y : T) → unless_tight (option_or o p) x ≡ Ok y → (o ≡ None) × (x ≡ y)
none_tight (Some t) p x y h = absurd (cc)
none_tight None (Some t) x y h = absurd (cc)
none_tight None None x y h = (refl, cc)

-- what is given fits
it_fits : {T : Type 0} (o : Option Tight) (fitting : Result T Tight) (x : T) → if_it_fits o fitting ≡ Ok x → fitting ≡ Ok x
it_fits None fitting x is = is
it_fits (Some t) fitting x is = absurd (cc)

-- the trace of a worker is a trace, with a step for each instruction
are_steps : (limits : Limits) (instrs : List Instr) → IsSound instrs → IsTrace (trace_for limits instrs) × (length instrs ≡ length (trace_for limits instrs))
are_steps limits instrs sound =
    let places = ArePlaces-computed instrs limits.page in
    let steps = AreSteps-computed instrs (places_for limits instrs) sound places.count in
    (IsTrace-from_steps instrs (places_for limits instrs) (trace_for limits instrs) sound steps, sym steps.count)

pub reads_are_least : ReadsAreLeast
unfolding fitting_stats_of worker_stats_of
reads_are_least limits instrs stats in_range sound is =
    let fitting = it_fits (page_tight limits.page instrs) (fitting_stats_of limits instrs) stats is in
    let known = none_tight (tight_of limits.frames 0 (trace_for limits instrs)) (buffer_tight limits.buffer (list_for limits instrs)) (cost_for limits instrs) stats fitting in
    let steps = are_steps limits instrs sound in
    let reads = ReadsLeast-rule_of limits.frames instrs (places_for limits instrs) (trace_for limits instrs) steps.0 steps.1 known.0 in
    let same = ap (λ (s : WorkerStats). s.reads) known.1 in
    record {
      reached = (sets_of (list_for limits instrs), reads.serves, reads.reads ∙ same);
      least = λ plan serves. rw (sym same) (reads.least plan serves);
    }
