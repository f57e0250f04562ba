-- The memory program of a source carries it, is accepted, and means the same.
use Rattle.std.proofs.Common.{◌≡◌, ◌∙◌, ℕ, List, [], ◌∷◌, map, length, Result, Ok, Err, refl, sym, ap, subst, arith}
use Rattle.std.specs.List.{All}
use Rattle.std.proofs.lemmas.List.{length-map}
use Rattle.mage_chains.specs.Chains.{◌>>=◌}
use Rattle.mage_chains.proofs.Ends.{then_ok, same_Ok}
use Rattle.mage_instr.specs.declared.instr.Instr.{Instr}
use Rattle.mage_instr.specs.declared.instr.Program.{Program}
use Rattle.mage_instr.specs.declared.directive.Directive.{Directive}
use Rattle.mage_instr.specs.declared.directive.MemProgram.{MemProgram}
use Rattle.mage_instr.specs.declared.replaced.Limits.{Limits}
use Rattle.mage_lex.specs.Tokens.{tokens_of}
use Rattle.mage_linked.specs.declared.emitted.Emitted.{Emitted}
use Rattle.mage_linked.specs.Emission.{program_of}
use Rattle.mage_linked.proofs.WorkerLemmas.{length-map_below}
use Rattle.mage_linked.specs.Emission.{own_instrs}
use Rattle.mage_parser.specs.Faults.{parsed}
use Rattle.mage_unroll.specs.Unrolled.{unrolled_of}
use Rattle.mage_unroll.proofs.SoundPrograms.{Parts, parts_of}
use Rattle.mage_carry.specs.declared.carry.Carry.TheVariants as carry
use Rattle.mage_carry.specs.Carrying.{carries_of}
use Rattle.mage_schedulable.specs.PlanOf.{AreParts}
use Rattle.mage_meaning.proofs.ProgramLaw.{unrolled_means_the_same}
use Rattle.mage_meaning.specs.Means.{means_of}
use Rattle.mage_meaning.specs.Value.{value_of}
use Rattle.mage_pipe.specs.declared.loaded.Loaded.{Loaded}
use Rattle.mage_pipe.specs.Loading.{loaded_of}
use Rattle.mage_pipe.specs.MemoryProgram.{memory_program_of, plan_of}
use Rattle.mage_pipe.specs.Summary.{or_language}
use Rattle.mage_written.proofs.Files.{plans_are_plans}
use Rattle.mage_source_runs.specs.Runs.{RunsSource, SourcesCanBeRun}

-- the program of a source that was loaded is the one that its tree unrolls to
pub is_unrolled : (text : List ℕ) (loaded : Loaded) → loaded_of text ≡ Ok loaded → unrolled_of loaded.source.workers loaded.source.body ≡ Ok loaded.program
unfolding loaded_of
is_unrolled text loaded h =
    let tokens = then_ok (tokens_of text) _ loaded h in
    let tree = then_ok (parsed text tokens.0) _ loaded tokens.2 in
    let program = then_ok (unrolled_of tree.0.0 tree.0.1) _ loaded tree.2 in
    subst (λ (l : Loaded). unrolled_of l.source.workers l.source.body ≡ Ok l.program) (same_Ok _ loaded program.2) program.1

-- the plan of a text whose source was loaded
is_planned : (limits : Limits) (text : List ℕ) (loaded : Loaded) (plan : MemProgram) → loaded_of text ≡ Ok loaded
    → memory_program_of limits loaded.program.workers ≡ Ok plan → plan_of limits text ≡ Ok plan
unfolding plan_of
is_planned limits text loaded plan is planned =
    ap (λ r. or_language r >>= (λ l. memory_program_of limits l.program.workers)) is ∙ planned

-- as many workers have directives as have instructions
as_many : (limits : Limits) (workers : List (List Instr)) (stores : List ℕ) (parts : List (List Directive)) → AreParts limits workers stores parts
    → length parts ≡ length workers
as_many limits [] [] [] are = refl
as_many limits [] [] (part ∷ parts) are = absurd are
as_many limits [] (store ∷ stores) parts are = absurd are
as_many limits (instrs ∷ workers) [] parts are = absurd are
as_many limits (instrs ∷ workers) (store ∷ stores) [] are = absurd are
as_many limits (instrs ∷ workers) (store ∷ stores) (part ∷ parts) are = let rest = as_many limits workers stores parts are.1 in omega (arith, rest)

pub sources_can_be_run : SourcesCanBeRun
sources_can_be_run limits text loaded plan range is planned =
    let filed = plans_are_plans limits text plan range (is_planned limits text loaded plan is planned) in
    let same : filed.is_plan.0 ≡ loaded = same_Ok filed.is_plan.0 loaded (sym filed.is_plan.1 ∙ is) in
    let of_program = subst (λ (l : Loaded). carries_of l.program plan ≡ carry.Yes) same filed.is_plan.2.carries in
    let parts = parts_of loaded.source.workers loaded.source.body loaded.program (is_unrolled text loaded is) in
    let workers : length loaded.program.workers ≡ parts.workers =
    sym (ap (λ (p : Program). length p.workers) parts.program_is) ∙ length-map_below (own_instrs parts.emitted) parts.workers in
    let program_workers : length plan.workers ≡ length loaded.program.workers =
    subst (λ (l : Loaded). length plan.workers ≡ length l.program.workers) same (as_many limits filed.is_plan.0.program.workers plan.stores plan.workers filed.is_plan.2.parts) in
    record {
      count = parts.workers;
      emitted = parts.emitted;
      program_is = parts.program_is;
      many = program_workers ∙ workers;
      runs = record { linked = parts.are.linked; sound = λ worker inside. parts.are.sound worker };
      carries = subst (λ (p : Program). carries_of p plan ≡ carry.Yes) (sym parts.program_is) of_program;
      accepted = filed.accepted;
      means = λ given. ap (λ (p : Program). means_of p given) parts.program_is
          ∙ unrolled_means_the_same loaded.source.workers loaded.source.body loaded.program given (is_unrolled text loaded is);
    }
