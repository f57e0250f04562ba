-- What `solo` runs is what it comes to.
use Rattle.std.proofs.Common.{◌≡◌, ℕ, List, [], ◌∷◌, Vec, length, Option, Some, None, Result, Ok, Err, refl, sym, ap, ◌∙◌, subst, arith}
use Rattle.std.specs.List.{AllZip}
use Rattle.std.specs.Option.{IfSome}
use Rattle.std.specs.declared.alloc.Global.{Global}
use Rattle.std.proofs.lemmas.List.{length-map}
use Rattle.mage_base.specs.Desk.{Files}
use Rattle.mage_instr.specs.declared.directive.MemProgram.{MemProgram}
use Rattle.mage_instr.specs.declared.instr.Program.{Program}
use Rattle.mage_instr.specs.declared.party.Party.{Party}
use Rattle.mage_instr.specs.declared.party.Party.TheVariants as party
use Rattle.mage_instr.specs.declared.replaced.Limits.{Limits}
use Rattle.mage_instr.specs.Inputs.{input_widths_of, widths_in}
use Rattle.mage_instr.specs.Limits.{AreInRange}
use Rattle.mage_lex.specs.Limits.{MOST_BYTES}
use Rattle.mage_texts.specs.InputText.{FitWidths}
use Rattle.mage_texts.specs.Lists.{lists_of}
use Rattle.mage_linked.specs.Emission.{own_instrs}
use Rattle.mage_linked.proofs.WorkerLemmas.{length-map_below}
use Rattle.mage_verify.specs.Parts.{WorkerPart, parts_of}
use Rattle.mage_verify.specs.Runs.{AreVerified}
use Rattle.mage_verify.proofs.Walked.{directives_of}
use Rattle.mage_source_runs.specs.Runs.{RunsSource}
use Rattle.mage_source_runs.proofs.Running.{sources_can_be_run}
use Rattle.mage_pipe.specs.declared.fault.PlanFault.{PlanFault}
use Rattle.mage_pipe.specs.declared.loaded.Loaded.{Loaded}
use Rattle.mage_pipe.specs.Loading.{loaded_of}
use Rattle.mage_pipe.specs.MemoryProgram.{memory_program_of}
use Rattle.mage_source_runs.specs.Moves.{moves_of}
use Rattle.mage_words.specs.Words.{Solo, SoloRequest}
use Rattle.mage_planner.specs.declared.refusal.Refusal.{Refusal}
use Rattle.mage_planner.specs.declared.work.Running.{Running}
use Rattle.mage_planner.specs.Outcome.{Done, source_of, numbers_of, or_limits, program_for, runs, said_of, solo_outcome}
use Rattle.mage_planner.specs.Found.{Found, found_in, file_at, file_named, garbler_of, evaluator_of, INPUT_LIMIT}
use Rattle.mage_planner.specs.Work.{CanBeRun, IsRunOf}
use Rattle.mage_planner.proofs.StepLemmas.{solo-all}

pub same_ok : {X : Type 0} (x y : X) → ◌≡◌ {A = Result X Refusal} (Ok x) (Ok y) → x ≡ y
same_ok x y e = cc

-- the memory program that is given is the one of the passes
pub is_given : (r : Result MemProgram PlanFault) (program : MemProgram) → or_limits r ≡ Ok program → r ≡ Ok program
is_given (Ok x) program e = let same : x ≡ program = same_ok x program e in ap (λ (p : MemProgram). Ok p) same
is_given (Err fault) program e = absurd (cc)

-- as many numbers as widths
pub zip_count : {A B : Type 0} (R : A → B → Type 0) (xs : List A) (ys : List B) → AllZip R xs ys → length xs ≡ length ys
zip_count R [] [] each = refl
zip_count R [] (y ∷ ys) each = absurd each
zip_count R (x ∷ xs) [] each = absurd each
zip_count R (x ∷ xs) (y ∷ ys) each = let rest = zip_count R xs ys each.1 in omega (arith, rest)

-- Below, these are the memory program of a source, its parts, and inputs that fit it.
module _ (running : Running) (limits : Limits) (range : AreInRange limits) (text : List ℕ) (loaded : Loaded) (program : MemProgram)
    (loads : loaded_of text ≡ Ok loaded) (planned : program_for limits loaded ≡ Ok program)
    (parts : ◌≡◌ {A = Result (List WorkerPart) Refusal} (Ok (parts_of program)) (Ok running.parts.items))
    (garbler : FitWidths (input_widths_of party.Garbler loaded.program) (lists_of running.garbler.items))
    (evaluator : FitWidths (input_widths_of party.Evaluator loaded.program) (lists_of running.evaluator.items))
  where
    abbrev own : Done
    own = runs (said_of loaded (record { garbler = lists_of running.garbler.items; evaluator = lists_of running.evaluator.items })) (moves_of program)

    is_run : IsRunOf running own
    is_run = record {
      limits = limits;
      text = text;
      loaded = loaded;
      plan = program;
      in_range = range;
      loads = loads;
      planned = is_given (memory_program_of limits loaded.program.workers) program planned;
      parts = sym (same_ok (parts_of program) running.parts.items parts);
      garbler = garbler;
      evaluator = evaluator;
      is = refl;
    }

    source : RunsSource loaded program
    source = sources_can_be_run limits text loaded program range loads (is_given (memory_program_of limits loaded.program.workers) program planned)

    -- there are as many parts as workers
    parts_count : length running.parts.items ≡ length loaded.program.workers
    parts_count =
        ap length (sym (same_ok (parts_of program) running.parts.items parts))
        ∙ sym (length-map (parts_of program) (λ part. part.directives)) ∙ ap length (directives_of program)
        ∙ source.many ∙ sym (length-map_below (own_instrs source.emitted) source.count) ∙ ap (λ (p : Program). length p.workers) source.program_is

    -- and as many lists of each party's numbers
    lists_count : (whose : Party) (numbers : List (Vec ℕ Global)) → FitWidths (input_widths_of whose loaded.program) (lists_of numbers) → length numbers ≡ length running.parts.items
    lists_count whose numbers fit =
        sym (length-map numbers (λ v. v.items)) ∙ sym (zip_count _ (input_widths_of whose loaded.program) (lists_of numbers) fit)
        ∙ length-map loaded.program.workers (widths_in whose) ∙ sym parts_count

    pub can_be_run : AreVerified running.parts.items → CanBeRun running
    can_be_run verified = record {
      verified = verified;
      garbler = lists_count party.Garbler running.garbler.items garbler;
      evaluator = lists_count party.Evaluator running.evaluator.items evaluator;
    }

    -- it does what `solo` comes to
    pub run_found : (solo : SoloRequest) (found : Found) → solo.limits ≡ limits → source_of found.source ≡ Ok loaded
        → numbers_of party.Garbler loaded found.garbler ≡ Ok (lists_of running.garbler.items)
        → numbers_of party.Evaluator loaded found.evaluator ≡ Ok (lists_of running.evaluator.items)
        → (done : Done) × IsRunOf running done × (solo_outcome found solo ≡ Ok done)
    run_found solo found same read read_too read_last = (
      own,
      is_run,
      solo-all solo found loaded program (lists_of running.garbler.items) (lists_of running.evaluator.items) read
          (subst (λ (l : Limits). program_for l loaded ≡ Ok program) (sym same) planned) read_too read_last,
    )

    pub run_told : (files : Option Files) (solo : SoloRequest) → solo.limits ≡ limits
        → IfSome files (λ f. source_of (file_at f solo.source MOST_BYTES) ≡ Ok loaded)
        → IfSome files (λ f. numbers_of party.Garbler loaded (file_named f (garbler_of solo.driver) INPUT_LIMIT) ≡ Ok (lists_of running.garbler.items))
        → IfSome files (λ f. numbers_of party.Evaluator loaded (file_named f (evaluator_of solo.driver) INPUT_LIMIT) ≡ Ok (lists_of running.evaluator.items))
        → IfSome files (λ f. (done : Done) × IsRunOf running done × (solo_outcome (found_in f (Solo solo)) solo ≡ Ok done))
    run_told None solo same read read_too read_last = tt
    run_told (Some f) solo same read read_too read_last = run_found solo (found_in f (Solo solo)) same read read_too read_last
