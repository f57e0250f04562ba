-- What `solo` evaluates is what it comes to over the evaluator.
use Rattle.std.proofs.Common.{◌≡◌, ◌*◌, ◌==◌, ◌+◌, ℕ, zero, suc, List, [], ◌∷◌, length, Bool, true, false, cond, Option, Some, None, Vec, Result, Ok, Err, refl, sym, ap, ◌∙◌, subst, arith}
use Rattle.std.specs.Option.{IfSome}
use Rattle.std.specs.declared.alloc.Global.{Global}
use Rattle.std.proofs.lemmas.Bool.Decides.{nat_tests}
use Rattle.std.proofs.lemmas.List.{length-map}
use Rattle.mage_base.specs.Desk.{Files}
use Rattle.mage_chains.specs.Chains.{◌>>=◌}
use Rattle.mage_chains.proofs.Ends.{then_ok}
use Rattle.mage_garbled_runs.specs.Runs.{AreWhole}
use Rattle.mage_instr.specs.declared.directive.MemProgram.{MemProgram}
use Rattle.mage_instr.specs.declared.instr.Instr.{Instr}
use Rattle.mage_instr.specs.declared.instr.Program.{Program}
use Rattle.mage_instr.specs.declared.replaced.Limits.{Limits}
use Rattle.mage_instr.specs.Limits.{AreInRange}
use Rattle.mage_label.specs.declared.labels.Label.{Label}
use Rattle.mage_label_files.specs.Labels.{labels_from, wires_in}
use Rattle.mage_label_files.proofs.Reading.{read_labels_are_whole}
use Rattle.mage_lex.specs.Limits.{MOST_BYTES}
use Rattle.mage_linked.specs.Emission.{own_instrs}
use Rattle.mage_linked.specs.Workers.{list_at}
use Rattle.mage_linked.proofs.WorkerLemmas.{length-map_below}
use Rattle.mage_verify.specs.Parts.{WorkerPart, parts_of}
use Rattle.mage_verify.specs.Runs.{AreVerified}
use Rattle.mage_verify.proofs.Walked.{directives_of}
use Rattle.mage_solo.specs.Evaluating.{labels_in}
use Rattle.mage_source_runs.specs.Moves.{moves_of}
use Rattle.mage_source_runs.specs.Runs.{RunsSource}
use Rattle.mage_source_runs.proofs.Running.{sources_can_be_run}
use Rattle.mage_pipe.specs.declared.loaded.Loaded.{Loaded}
use Rattle.mage_pipe.specs.Loading.{loaded_of}
use Rattle.mage_pipe.specs.MemoryProgram.{memory_program_of}
use Rattle.mage_words.specs.Words.{Driver, Eval, Solo, SoloRequest}
use Rattle.mage_planner.specs.declared.eval.EvalRequest.{EvalRequest}
use Rattle.mage_planner.specs.declared.refusal.Refusal.{Refusal}
use Rattle.mage_planner.specs.declared.refusal.Refusal.TheVariants as refusal
use Rattle.mage_planner.specs.declared.work.Evaluating.{Evaluating}
use Rattle.mage_planner.specs.EvalAsked.{evaluation_asked}
use Rattle.mage_planner.specs.Outcome.{Done, if_labels, labels_due, labels_of, source_of, program_for, evaluates, eval_outcome, driven_outcome}
use Rattle.mage_planner.specs.Found.{File, Absent, Long, Held, Found, nothing_found, found_in, file_at}
use Rattle.mage_planner.specs.Steps.{Refuses}
use Rattle.mage_planner.specs.Work.{CanBeEvaluated, IsEvaluationOf}
use Rattle.mage_planner.proofs.StepLemmas.{at_first, after_first, both_done, told_so, only_source}
use Rattle.mage_planner.proofs.SoloLemmas.{is_given, same_ok}
use Rattle.mage_planner.proofs.LabelFileLemmas.{found_labels, in_front, labels_count, own_due, with_others, same_lists}

-- ---- labels that were read are whole

same_labels_ok : (xs ys : List Label) → ◌≡◌ {A = Result (List Label) Refusal} (Ok xs) (Ok ys) → xs ≡ ys
same_labels_ok xs ys e = cc

own_whole : (wires worker : ℕ) (bytes : List ℕ) (own : List Label) → if_labels wires worker bytes ≡ Ok own → AreWhole own
own_whole wires worker bytes own due = go (length bytes == 16 * wires) refl due where
  go : (same : Bool) → (length bytes == 16 * wires) ≡ same
      → cond {A = Result (List Label) Refusal} same (Ok (labels_from wires bytes)) (Err (refusal.InputLabels worker)) ≡ Ok own → AreWhole own
  go true is e =
      let long : length bytes ≡ 16 * wires = grind (arith, nat_tests) in
      subst AreWhole (same_labels_ok (labels_from wires bytes) own e) (read_labels_are_whole wires bytes long)
  go false is e = cc

due_whole : (wires worker : ℕ) (file : File) (own : List Label) → labels_due wires worker file ≡ Ok own → AreWhole own
unfolding labels_due
due_whole wires worker Absent own due = cc
due_whole wires worker Long own due = cc
due_whole wires worker (Held bytes) own due = own_whole wires worker bytes own due

none_whole : (w : ℕ) → AreWhole (list_at {A = Label} [] w)
none_whole zero = tt
none_whole (suc w) = tt

all_whole : (files : ℕ → File) (first : ℕ) (workers : List (List Instr)) (all : List (List Label)) → labels_of files first workers ≡ Ok all
    → (w : ℕ) → AreWhole (list_at all w)
all_whole files first [] all none w = subst (λ (l : List (List Label)). AreWhole (list_at l w)) (same_lists [] all none) (none_whole w)
all_whole files first (next ∷ workers) all read w =
    let begun = then_ok (own_due files first next) (with_others files (first + 1) workers) all read in
    let rest = then_ok (labels_of files (first + 1) workers) (in_front begun.0) all begun.2 in
    subst (λ (l : List (List Label)). AreWhole (list_at l w)) (same_lists (begun.0 ∷ rest.0) all rest.2)
    (each begun.0 rest.0 (due_whole (wires_in next) first (files first) begun.0 begun.1) (all_whole files (first + 1) workers rest.0 rest.1) w)
  where
    each : (own : List Label) (others : List (List Label)) → AreWhole own → ((w : ℕ) → AreWhole (list_at others w)) → (w : ℕ) → AreWhole (list_at (own ∷ others) w)
    each own others whole rest zero = whole
    each own others whole rest (suc w) = rest w

-- ---- the chain

-- what is found where labels were read too
abbrev pub for_eval : (source : File) → (labels : ℕ → File) → Found
for_eval source labels = record nothing_found { source = source; labels = labels }

-- what comes after the labels
abbrev to_evaluation : (stream : List ℕ) → (streams : ℕ → File) → Loaded → MemProgram → List (List Label) → Result Done Refusal
to_evaluation stream streams loaded program labels = Ok (evaluates stream loaded.program labels streams (moves_of program))

-- what comes after the memory program
abbrev to_labels : (stream : List ℕ) → (labels streams : ℕ → File) → Loaded → MemProgram → Result Done Refusal
to_labels stream labels streams loaded program = labels_of labels 0 loaded.program.workers >>= to_evaluation stream streams loaded program

-- what comes after the source
abbrev to_planned : Limits → (stream : List ℕ) → (labels streams : ℕ → File) → Loaded → Result Done Refusal
to_planned limits stream labels streams loaded = program_for limits loaded >>= to_labels stream labels streams loaded

-- no file
abbrev none : ℕ → File
none worker = Absent

module _ (limits : Limits) (stream : List ℕ) where
  pub eval-source : (file : File) (s : Refusal) → Refuses true s (source_of file) → Refuses true s (eval_outcome (only_source file) limits stream)
  unfolding eval_outcome
  eval-source file s refused = at_first s (source_of file) (to_planned limits stream none none) refused

  pub eval-limits : (file : File) (loaded : Loaded) (s : Refusal) → source_of file ≡ Ok loaded → Refuses true s (program_for limits loaded)
      → Refuses true s (eval_outcome (only_source file) limits stream)
  unfolding eval_outcome
  eval-limits file loaded s read refused =
      after_first s (source_of file) loaded (to_planned limits stream none none) read
      (at_first s (program_for limits loaded) (to_labels stream none none loaded) refused)

  pub eval-labels : (file : File) (labels : ℕ → File) (loaded : Loaded) (program : MemProgram) (s : Refusal) → source_of file ≡ Ok loaded → program_for limits loaded ≡ Ok program
      → Refuses true s (labels_of labels 0 loaded.program.workers) → Refuses true s (eval_outcome (for_eval file labels) limits stream)
  unfolding eval_outcome
  eval-labels file labels loaded program s read planned refused =
      after_first s (source_of file) loaded (to_planned limits stream labels none) read
      (after_first s (program_for limits loaded) program (to_labels stream labels none loaded) planned
      (at_first s (labels_of labels 0 loaded.program.workers) (to_evaluation stream none loaded program) refused))

  pub eval-all : (found : Found) (loaded : Loaded) (program : MemProgram) (labels : List (List Label)) → source_of found.source ≡ Ok loaded
      → program_for limits loaded ≡ Ok program → labels_of found.labels 0 loaded.program.workers ≡ Ok labels
      → eval_outcome found limits stream ≡ Ok (evaluates stream loaded.program labels found.streams (moves_of program))
  unfolding eval_outcome
  eval-all found loaded program labels read planned read_too =
      let done = evaluates stream loaded.program labels found.streams (moves_of program) in
      both_done (source_of found.source) loaded (to_planned limits stream found.labels found.streams) done read
      (both_done (program_for limits loaded) program (to_labels stream found.labels found.streams loaded) done planned
      (ap (λ step. step >>= to_evaluation stream found.streams loaded program) read_too))

-- A label file is refused, of a desk that is as it was but for its count of faults.
pub eval-labels-told : (steady : Bool) (files : Option Files) (request : EvalRequest) (loaded : Loaded) (program : MemProgram) (s : Refusal)
    → IfSome files (λ f. source_of (file_at f request.source.now MOST_BYTES) ≡ Ok loaded)
    → program_for request.limits loaded ≡ Ok program
    → IfSome files (λ f. Refuses steady s (labels_of (found_labels f request.labels.now) 0 loaded.program.workers))
    → IfSome files (λ f. Refuses steady s (eval_outcome (found_in f (Solo (evaluation_asked request))) request.limits request.stream.now))
unfolding eval_outcome
eval-labels-told steady None request loaded program s read planned refused = tt
eval-labels-told steady (Some f) request loaded program s read planned refused =
    let labels = found_labels f request.labels.now in
    let streams = (found_in f (Solo (evaluation_asked request))).streams in
    let stream = request.stream.now in
    told_so steady s (labels_of labels 0 loaded.program.workers) (source_of (file_at f request.source.now MOST_BYTES) >>= to_planned request.limits stream labels streams)
    (λ e. ap (λ step. step >>= to_planned request.limits stream labels streams) read
    ∙ (ap (λ step. step >>= to_labels stream labels streams loaded) planned
    ∙ ap (λ step. step >>= to_evaluation stream streams loaded program) e)) refused

-- ---- what is evaluated

-- Below, these are the memory program of a source and its parts, and the labels of each worker.
module _ (evaluating : Evaluating) (limits : Limits) (range : AreInRange limits) (text : List ℕ) (loaded : Loaded) (program : MemProgram)
    (loads : loaded_of text ≡ Ok loaded) (planned : program_for limits loaded ≡ Ok program)
    (parts : ◌≡◌ {A = Result (List WorkerPart) Refusal} (Ok (parts_of program)) (Ok evaluating.parts.items))
    (labels : ℕ → File) (read : labels_of labels 0 loaded.program.workers ≡ Ok (labels_in evaluating.labels.items))
  where
    abbrev own : (streams : ℕ → File) → Done
    own streams = evaluates evaluating.stream.now loaded.program (labels_in evaluating.labels.items) streams (moves_of program)

    is_evaluation : (streams : ℕ → File) → IsEvaluationOf evaluating (own streams)
    is_evaluation streams = record {
      limits = limits;
      text = text;
      loaded = loaded;
      plan = program;
      in_range = range;
      loads = loads;
      planned = is_given (memory_program_of limits loaded.program.workers) program planned;
      parts = sym (same_ok (parts_of program) evaluating.parts.items parts);
      whole = all_whole labels 0 loaded.program.workers (labels_in evaluating.labels.items) read;
      streams = streams;
      is = refl;
    }

    source : RunsSource loaded program
    source = sources_can_be_run limits text loaded program range loads (is_given (memory_program_of limits loaded.program.workers) program planned)

    -- there are as many parts as workers
    parts_count : length evaluating.parts.items ≡ length loaded.program.workers
    parts_count =
        ap length (sym (same_ok (parts_of program) evaluating.parts.items parts))
        ∙ sym (length-map (parts_of program) (λ part. part.directives)) ∙ ap length (directives_of program)
        ∙ source.many ∙ sym (length-map_below (own_instrs source.emitted) source.count) ∙ ap (λ (p : Program). length p.workers) source.program_is

    pub can_be_evaluated : AreVerified evaluating.parts.items → CanBeEvaluated evaluating
    can_be_evaluated verified = record {
      verified = verified;
      labels = sym (length-map evaluating.labels.items (λ (v : Vec Label Global). v.items))
          ∙ labels_count labels 0 loaded.program.workers (labels_in evaluating.labels.items) read ∙ sym parts_count;
    }

    -- it does what `solo` comes to
    pub eval_found : (found : Found) → found.labels ≡ labels → source_of found.source ≡ Ok loaded
        → (done : Done) × IsEvaluationOf evaluating done × (eval_outcome found limits evaluating.stream.now ≡ Ok done)
    eval_found found same read_too = (
      own found.streams,
      is_evaluation found.streams,
      eval-all limits evaluating.stream.now found loaded program (labels_in evaluating.labels.items) read_too planned
          (subst (λ (files : ℕ → File). labels_of files 0 loaded.program.workers ≡ Ok (labels_in evaluating.labels.items)) (sym same) read),
    )

-- the same of a desk that tells its files
module _ (evaluating : Evaluating) (limits : Limits) (range : AreInRange limits) (text : List ℕ) (loaded : Loaded) (program : MemProgram)
    (loads : loaded_of text ≡ Ok loaded) (planned : program_for limits loaded ≡ Ok program)
    (parts : ◌≡◌ {A = Result (List WorkerPart) Refusal} (Ok (parts_of program)) (Ok evaluating.parts.items))
  where
    pub eval_told : (files : Option Files) (request : EvalRequest) → request.limits ≡ limits → request.stream.now ≡ evaluating.stream.now
        → IfSome files (λ f. source_of (file_at f request.source.now MOST_BYTES) ≡ Ok loaded)
        → IfSome files (λ f. labels_of (found_labels f request.labels.now) 0 loaded.program.workers ≡ Ok (labels_in evaluating.labels.items))
        → IfSome files (λ f. (done : Done) × IsEvaluationOf evaluating done
        × (eval_outcome (found_in f (Solo (evaluation_asked request))) request.limits request.stream.now ≡ Ok done))
    eval_told None request same same_stream read read_too = tt
    eval_told (Some f) request same same_stream read read_too =
        let all = eval_found evaluating limits range text loaded program loads planned parts (found_labels f request.labels.now) read_too
        (found_in f (Solo (evaluation_asked request))) refl read in (
          all.0,
          all.1,
          subst (λ (l : Limits). eval_outcome (found_in f (Solo (evaluation_asked request))) l request.stream.now ≡ Ok all.0) (sym same)
              (subst (λ (s : List ℕ). eval_outcome (found_in f (Solo (evaluation_asked request))) limits s ≡ Ok all.0) (sym same_stream) all.2),
        )

-- ---- `solo` by its driver

-- what is known of what `solo` comes to over the evaluator
pub driven_eval : (P : Result Done Refusal → Type 0) (driver : Driver) (stream labels : List ℕ) (found : Found) (solo : SoloRequest)
    → driver ≡ Eval stream labels → P (eval_outcome found solo.limits stream) → P (driven_outcome driver found solo)
driven_eval P driver stream labels found solo is p = subst (λ (d : Driver). P (driven_outcome d found solo)) (sym is) p
