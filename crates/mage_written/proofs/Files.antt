-- The files of what the passes make, and of what they made before.
use Rattle.std.proofs.Common.{◌≡◌, ◌≤◌, ◌+◌, ◌*◌, ◌∙◌, ℕ, List, [], ◌∷◌, map, max, length, Option, None, Some, Result, Ok, Err, refl, sym, ap, ap₂, subst, arith}
use Rattle.std.specs.List.{All}
use Rattle.std.specs.Option.{option_or}
use Rattle.std.proofs.lemmas.List.Elements.{All-tail}
use Rattle.mage_chains.specs.Chains.{◌>>=◌}
use Rattle.mage_chains.proofs.Ends.{then_ok, same_Ok}
use Rattle.mage_instr.specs.declared.instr.Instr.{Instr}
use Rattle.mage_instr.specs.declared.instr.Program.{Program}
use Rattle.mage_instr.specs.declared.directive.Directive.{Directive}
use Rattle.mage_instr.specs.declared.directive.Directive.TheVariants as entry
use Rattle.mage_instr.specs.declared.directive.MemProgram.{MemProgram}
use Rattle.mage_instr.specs.declared.replaced.Limits.{Limits}
use Rattle.mage_instr.specs.declared.replaced.Tight.{Tight}
use Rattle.mage_instr.specs.Limits.{AreInRange}
use Rattle.mage_instr.specs.Opcodes.{most_workers}
use Rattle.mage_instr.specs.Sound.{IsSound}
use Rattle.mage_lex.specs.Tokens.{tokens_of}
use Rattle.mage_lex.specs.declared.fault.LangFault.{LangFault}
use Rattle.mage_linked.specs.declared.emitted.Emitted.{Emitted}
use Rattle.mage_linked.specs.Emission.{program_of as emitted_program}
use Rattle.mage_linked.specs.Linked.{AreLinked}
use Rattle.mage_parser.specs.Faults.{parsed}
use Rattle.mage_place.specs.TooWide.{page_tight}
use Rattle.mage_belady.specs.Rule.{tight_of}
use Rattle.mage_sched.specs.Homes.{Homed}
use Rattle.mage_sched.specs.Schedule.{buffer_tight}
use Rattle.mage_residency.specs.Carried.{HaveArguments}
use Rattle.mage_schedulable.specs.Planning.{program_of}
use Rattle.mage_schedulable.specs.PlanOf.{CanBePlanned, AllCanBePlanned, passed}
use Rattle.mage_schedulable.proofs.PlansOf.{passes_plan}
use Rattle.mage_unroll.specs.Limits.{MOST_INSTRS}
use Rattle.mage_unroll.specs.Unrolled.{workers_of, emitted_by, unrolled_of}
use Rattle.mage_unroll.proofs.SoundPrograms.{workers_of-few, parts_of, unrolled_is_sound}
use Rattle.mage_accepted.specs.Accepting.{IsAccepted, directives_in}
use Rattle.mage_accepted.proofs.Ranges.{passed_plans_are_accepted}
use Rattle.mage_accepted.proofs.Short.{passed_plans_are_short}
use Rattle.mage_file.specs.Grammar.{most_first_bytes, spelling_of, spelling_first_of, read_of}
use Rattle.mage_file.specs.Stores.{above as above_told, store_above}
use Rattle.mage_file.specs.Laws.{HasFirstStores}
use Rattle.mage_file.proofs.FileLaws.{reads_back, reads_first_back}
use Rattle.mage_file.proofs.LengthLaws.{so_long}
use Rattle.mage_pipe.specs.declared.loaded.Loaded.{Loaded}
use Rattle.mage_pipe.specs.Loading.{loaded_of}
use Rattle.mage_pipe.specs.MemoryProgram.{directives_for, fitting_directives_of, worker_directives_of, parts_from, memory_program_of, plan_of}
use Rattle.mage_pipe.specs.Summary.{trace_for, list_for, unless_tight, if_it_fits, tight_at, or_language}
use Rattle.mage_pipe.proofs.PlanningLemmas.{none_tight, it_fits, is_given, is_loaded}
use Rattle.mage_rehome.specs.Earlier.{scheduled, above, above_all, earlier_of}
use Rattle.mage_rehome.proofs.Passed.{earlier_plans_are_accepted, earlier_plans_come_to_todays}
use Rattle.mage_written.specs.Written.{IsFiledPlan, LoadedHaveArguments, PlansArePlans, EarlierFilesComeToPlans}
use Rattle.mage_written.proofs.Arguments.{unrolled_have_arguments}
use Rattle.mage_written.proofs.Passes.{passed_have_arguments, earlier_have_arguments, as_many}
use Rattle.mage_written.proofs.Values.{accepted_are_values}

-- ---- where the definitions give a memory program, no limit is too low

can_be : (limits : Limits) (instrs : List Instr) (part : Homed) → IsSound instrs → HaveArguments instrs → worker_directives_of limits instrs ≡ Ok part → CanBePlanned limits instrs × (passed limits instrs ≡ part)
unfolding worker_directives_of fitting_directives_of
can_be limits instrs part sound have h =
    let fits = it_fits (page_tight limits.page instrs) (fitting_directives_of limits instrs) part h in
    let none = none_tight (tight_of limits.frames 0 (trace_for limits instrs)) (buffer_tight limits.buffer (list_for limits instrs)) (directives_for limits instrs) part fits.1 in
    (record { sound = sound; have = have; page = fits.0; frames = none.0; buffer = none.1 }, none.2)

all_can_be : (limits : Limits) (worker : ℕ) (workers : List (List Instr)) (parts : List Homed) → All IsSound workers → All HaveArguments workers → parts_from limits worker workers ≡ Ok parts
    → AllCanBePlanned limits workers × (map (passed limits) workers ≡ parts)
unfolding parts_from
all_can_be limits worker [] parts sound have h = (tt, same_Ok [] parts h)
all_can_be limits worker (instrs ∷ workers) parts sound have h =
    let first = then_ok (tight_at worker (worker_directives_of limits instrs)) (λ part. parts_from limits (worker + 1) workers >>= (λ others. Ok (part ∷ others))) parts h in
    let rest = then_ok (parts_from limits (worker + 1) workers) (λ others. Ok (first.0 ∷ others)) parts first.2 in
    let one = can_be limits instrs first.0 (sound 0 instrs (omega arith)) (have 0 instrs (omega arith)) (is_given worker (worker_directives_of limits instrs) first.0 first.1) in
    let others = all_can_be limits (worker + 1) workers rest.0 (All-tail IsSound instrs workers sound) (All-tail HaveArguments instrs workers have) rest.1 in
    ((one.0, others.0), ap₂ (λ (part : Homed) (parts : List Homed). part ∷ parts) one.1 others.1 ∙ same_Ok (first.0 ∷ rest.0) parts rest.2)

-- the memory program that is given is the one of the passes
pub is_passed : (limits : Limits) (workers : List (List Instr)) (plan : MemProgram) → All IsSound workers → All HaveArguments workers → memory_program_of limits workers ≡ Ok plan
    → AllCanBePlanned limits workers × (program_of limits (map (passed limits) workers) ≡ plan)
unfolding memory_program_of
is_passed limits workers plan sound have h =
    let parts = then_ok (parts_from limits 0 workers) _ plan h in
    let all = all_can_be limits 0 workers parts.0 sound have parts.1 in
    (all.0, ap (program_of limits) all.1 ∙ same_Ok (program_of limits parts.0) plan parts.2)

-- ---- the program of a source

is_unrolled : (text : List ℕ) (loaded : Loaded) → loaded_of text ≡ Ok loaded → unrolled_of loaded.source.workers loaded.source.body ≡ Ok loaded.program
unfolding loaded_of
is_unrolled text loaded h =
    let tokens = then_ok (tokens_of text) _ loaded h in
    let tree = then_ok (parsed text tokens.0) _ loaded tokens.2 in
    let program = then_ok (unrolled_of tree.0.0 tree.0.1) _ loaded tree.2 in
    subst (λ (l : Loaded). unrolled_of l.source.workers l.source.body ≡ Ok l.program) (same_Ok _ loaded program.2) program.1

pub loaded_have_arguments : LoadedHaveArguments
loaded_have_arguments text loaded h = unrolled_have_arguments loaded.source.workers loaded.source.body loaded.program (is_unrolled text loaded h)

-- what is known of it: its workers are linked, and few, and they have few instructions together
record IsMade (program : Program) : Type 0 where
  count : ℕ
  emitted : List Emitted
  some : 1 ≤ count
  few : count ≤ most_workers
  short : length emitted ≤ MOST_INSTRS
  linked : AreLinked count emitted
  is : emitted_program count emitted ≡ program

is_made : (text : List ℕ) (loaded : Loaded) → loaded_of text ≡ Ok loaded → IsMade loaded.program
unfolding unrolled_of
is_made text loaded h =
    let unrolled = is_unrolled text loaded h in
    let parts = parts_of loaded.source.workers loaded.source.body loaded.program unrolled in
    let workers = then_ok (workers_of loaded.source.workers) _ loaded.program unrolled in
    let emitted = then_ok (emitted_by workers.0 loaded.source.body) _ loaded.program workers.2 in
    let known = workers_of-few loaded.source.workers workers.0 workers.1 in
    let same = known.0 in
    let counted = parts.count_is in
    let most = known.2 in
    let some = parts.some in
    record {
      count = parts.workers;
      emitted = parts.emitted;
      some = omega (arith, some);
      few = omega (arith, same, counted, most);
      short = parts.are.few;
      linked = parts.are.linked;
      is = parts.program_is;
    }

-- ---- files

module _ (limits : Limits) (range : AreInRange limits) (program : Program) (made : IsMade program) (can : AllCanBePlanned limits program.workers) where
  abbrev today : MemProgram
  today = program_of limits (map (passed limits) program.workers)

  abbrev before : MemProgram
  before = earlier_of limits program.workers

  can_made : AllCanBePlanned limits (emitted_program made.count made.emitted).workers
  can_made = subst (λ (p : Program). AllCanBePlanned limits p.workers) (sym made.is) can

  accepted : IsAccepted today
  accepted = subst (λ (p : Program). IsAccepted (program_of limits (map (passed limits) p.workers))) made.is
      (passed_plans_are_accepted limits made.count made.emitted range made.some made.few made.short made.linked can_made)

  accepted_before : IsAccepted before
  accepted_before = subst (λ (p : Program). IsAccepted (earlier_of limits p.workers)) made.is
      (earlier_plans_are_accepted limits made.count made.emitted range made.some made.few made.short made.linked can_made)

  few_directives : directives_in today ≤ 18 * MOST_INSTRS
  few_directives =
      let few = subst (λ (p : Program). directives_in (program_of limits (map (passed limits) p.workers)) ≤ 18 * length made.emitted) made.is
      (passed_plans_are_short limits made.count made.emitted made.linked can_made) in
      let short = made.short in
      omega (arith, few, short)

  read_back : read_of (spelling_of today) ≡ Ok today
  read_back =
      let fields = accepted.fields in
      let long = (so_long today fields.counted).second in
      let few = fields.few in
      reads_back today fields (accepted_are_values today accepted (passed_have_arguments limits program.workers can)) (omega (arith, long, few, few_directives))

  short_before : length (spelling_first_of before) ≤ most_first_bytes
  short_before =
      let fields = accepted_before.fields in
      let long = (so_long before fields.counted).first in
      let few = fields.few in
      let same = as_many limits program.workers in
      omega (arith, long, few, few_directives, same)

-- one above the greatest page is the same number
above_same : (one : Directive) → above one ≡ above_told one
above_same (entry.Fresh frame page) = refl
above_same (entry.IssueIn slot page) = refl
above_same (entry.FinishIn slot frame) = refl
above_same (entry.IssueOut slot frame page) = refl
above_same (entry.FinishOut slot) = refl
above_same (entry.Do job) = refl

store_same : (part : List Directive) → above_all part ≡ store_above part
store_same [] = refl
store_same (one ∷ part) = ap₂ max (above_same one) (store_same part)

first_stores : (limits : Limits) (workers : List (List Instr)) → HasFirstStores (earlier_of limits workers)
first_stores limits [] = refl
first_stores limits (instrs ∷ workers) = ap₂ (λ (n : ℕ) (ns : List ℕ). n ∷ ns) (store_same (scheduled limits instrs)) (first_stores limits workers)

-- ---- the laws

pub plans_are_plans : PlansArePlans
unfolding plan_of
plans_are_plans limits text plan range h =
    let found = then_ok (or_language (loaded_of text)) _ plan h in
    let loaded : Loaded = found.0 in
    let is = is_loaded (loaded_of text) loaded found.1 in
    let sound = unrolled_is_sound loaded.source.workers loaded.source.body loaded.program (is_unrolled text loaded is) in
    let passes = is_passed limits loaded.program.workers plan sound (loaded_have_arguments text loaded is) found.2 in
    let made = is_made text loaded is in
    subst (λ (m : MemProgram). IsFiledPlan limits text m) passes.1 (record {
      is_plan = (loaded, is, passes_plan limits loaded.program passes.0);
      accepted = accepted limits range loaded.program made passes.0;
      read_back = read_back limits range loaded.program made passes.0;
    })

pub earlier_files_come_to_plans : EarlierFilesComeToPlans
earlier_files_come_to_plans limits text loaded today range is h =
    let sound = unrolled_is_sound loaded.source.workers loaded.source.body loaded.program (is_unrolled text loaded is) in
    let passes = is_passed limits loaded.program.workers today sound (loaded_have_arguments text loaded is) h in
    let made = is_made text loaded is in
    let old = earlier_of limits loaded.program.workers in
    let accepted = accepted_before limits range loaded.program made passes.0 in
    let stores = first_stores limits loaded.program.workers in
    record {
      accepted = accepted;
      read_back = reads_first_back old accepted.fields (accepted_are_values old accepted (earlier_have_arguments limits loaded.program.workers passes.0)) stores
          (short_before limits range loaded.program made passes.0);
      rehomed = earlier_plans_come_to_todays limits loaded.program.workers ∙ passes.1;
    }
