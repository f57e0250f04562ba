-- The verifier accepts the memory program of a source.
use Rattle.std.proofs.Common.{◌≡◌, ◌≤◌, ◌*◌, ◌∙◌, ℕ, List, map, length, Result, Ok, Err, IfOk, sym, ap, subst, arith}
use Rattle.std.specs.List.{All}
use Rattle.std.proofs.lemmas.List.{length-map}
use Rattle.mage_chains.proofs.Ends.{then_ok}
use Rattle.mage_instr.specs.declared.instr.Program.{Program}
use Rattle.mage_instr.specs.declared.directive.MemProgram.{MemProgram}
use Rattle.mage_instr.specs.declared.replaced.Limits.{Limits}
use Rattle.mage_instr.specs.Limits.{AreInRange}
use Rattle.mage_instr.specs.Opcodes.{most_workers}
use Rattle.mage_instr.specs.Sound.{IsSound}
use Rattle.mage_linked.specs.declared.emitted.Emitted.{Emitted}
use Rattle.mage_linked.specs.Emission.{own_instrs, program_of as unplaced_of}
use Rattle.mage_linked.specs.Workers.{below}
use Rattle.mage_lex.specs.Tokens.{tokens_of}
use Rattle.mage_parser.specs.Faults.{parsed}
use Rattle.mage_unroll.specs.Unrolled.{unrolled_of}
use Rattle.mage_unroll.specs.Limits.{MOST_INSTRS}
use Rattle.mage_unroll.proofs.SoundPrograms.{Parts, parts_of, unrolled_is_sound}
use Rattle.mage_schedulable.specs.Planning.{program_of}
use Rattle.mage_schedulable.specs.PlanOf.{AllCanBePlanned, passed}
use Rattle.mage_accepted.specs.Accepting.{directives_in, IsAccepted}
use Rattle.mage_accepted.proofs.Ranges.{passed_plans_are_accepted}
use Rattle.mage_accepted.proofs.Short.{passed_plans_are_short}
use Rattle.mage_pipe.specs.declared.fault.PlanFault.{PlanFault}
use Rattle.mage_pipe.specs.declared.loaded.Loaded.{Loaded}
use Rattle.mage_pipe.specs.Loading.{loaded_of}
use Rattle.mage_pipe.specs.MemoryProgram.{IsPassed}
use Rattle.mage_pipe.specs.Summary.{or_language}
use Rattle.mage_pipe.proofs.Few.{length-below, few_workers}
use Rattle.mage_pipe.proofs.PlanningLemmas.{is_loaded}

ok_is : {X E : Type 0} (x y : X) → ◌≡◌ {A = Result X E} (Ok x) (Ok y) → x ≡ y
ok_is x y h = cc

-- the program of a source that was loaded is the one that its tree unrolls to
is_unrolled : (text : List ℕ) (loaded : Loaded) → loaded_of text ≡ Ok loaded → unrolled_of loaded.source.workers loaded.source.body ≡ Ok loaded.program
unfolding loaded_of
is_unrolled text loaded h =
    let tokens = then_ok (tokens_of text) _ loaded h in
    let tree = then_ok (parsed text tokens.0) _ loaded tokens.2 in
    let program = then_ok (unrolled_of tree.0.0 tree.0.1) _ loaded tree.2 in
    subst (λ (l : Loaded). unrolled_of l.source.workers l.source.body ≡ Ok l.program) (ok_is _ loaded program.2) program.1

worker_count : (workers : ℕ) (emitted : List Emitted) → length (unplaced_of workers emitted).workers ≡ workers
worker_count workers emitted = length-map (below workers) (own_instrs emitted) ∙ length-below workers

-- Below, a memory program is what the passes make of a source's program.
module _ (limits : Limits) (text : List ℕ) (loaded : Loaded) (is : loaded_of text ≡ Ok loaded) where
  -- the workers and the instructions of which the program is made
  source_parts : Parts loaded.source.workers loaded.source.body loaded.program
  source_parts = parts_of loaded.source.workers loaded.source.body loaded.program (is_unrolled text loaded is)

  -- what holds of what the passes make of them holds of it
  passed_has : (P : MemProgram → Type 0) (plan : MemProgram) → IsPassed limits loaded.program plan
      → ((parts : Parts loaded.source.workers loaded.source.body loaded.program) → AllCanBePlanned limits (unplaced_of parts.workers parts.emitted).workers
      → P (program_of limits (map (passed limits) (unplaced_of parts.workers parts.emitted).workers)))
      → P plan
  passed_has P plan passes law =
      let parts = source_parts in
      let can : AllCanBePlanned limits (unplaced_of parts.workers parts.emitted).workers =
      subst (λ (p : Program). AllCanBePlanned limits p.workers) (sym parts.program_is) passes.0 in
      subst P (sym passes.1) (subst (λ (p : Program). P (program_of limits (map (passed limits) p.workers))) parts.program_is (law parts can))

  is_accepted : (plan : MemProgram) → AreInRange limits → length loaded.program.workers ≤ most_workers
      → IsPassed limits loaded.program plan → IsAccepted plan
  is_accepted plan range few passes = passed_has (λ x. IsAccepted x) plan passes (λ parts can.
      let count : length loaded.program.workers ≡ parts.workers =
      sym (ap (λ (p : Program). length p.workers) parts.program_is) ∙ worker_count parts.workers parts.emitted in
      passed_plans_are_accepted limits parts.workers parts.emitted range (let s = parts.some in omega (arith, s))
      (subst (λ n. n ≤ most_workers) count few) parts.are.few parts.are.linked can)

  is_short : (plan : MemProgram) → IsPassed limits loaded.program plan → directives_in plan ≤ 18 * MOST_INSTRS
  is_short plan passes = passed_has (λ x. directives_in x ≤ 18 * MOST_INSTRS) plan passes (λ parts can.
      let short = passed_plans_are_short limits parts.workers parts.emitted parts.are.linked can in
      let few = parts.are.few in
      omega (arith, short, few))

  -- a loaded program's workers can run, and are few
  pub loaded_is_sound : All IsSound loaded.program.workers
  loaded_is_sound = unrolled_is_sound loaded.source.workers loaded.source.body loaded.program (is_unrolled text loaded is)

  pub loaded_is_few : length loaded.program.workers ≤ most_workers
  loaded_is_few = few_workers loaded.source.workers loaded.source.body loaded.program (is_unrolled text loaded is)

  -- an answer of which a part, seen by view, is the memory program
  module _ {X : Type 0} (view : X → MemProgram) where
    pub planned_accepted : (answer : Result X PlanFault) → AreInRange limits → IfOk answer (λ x. IsPassed limits loaded.program (view x)) → IfOk answer (λ x. IsAccepted (view x))
    planned_accepted (Ok x) range passes = is_accepted (view x) range loaded_is_few passes
    planned_accepted (Err fault) range passes = tt

    pub planned_short : (answer : Result X PlanFault) → IfOk answer (λ x. IsPassed limits loaded.program (view x)) → IfOk answer (λ x. directives_in (view x) ≤ 18 * MOST_INSTRS)
    planned_short (Ok x) passes = is_short (view x) passes
    planned_short (Err fault) passes = tt

pub accepted_answer : (limits : Limits) (text : List ℕ) (loaded : Loaded) (answer : Result MemProgram PlanFault) → AreInRange limits
    → or_language (loaded_of text) ≡ Ok loaded → IfOk answer (IsPassed limits loaded.program) → IfOk answer IsAccepted
accepted_answer limits text loaded answer range is passes =
    planned_accepted limits text loaded (is_loaded (loaded_of text) loaded is) (λ plan. plan) answer range passes
