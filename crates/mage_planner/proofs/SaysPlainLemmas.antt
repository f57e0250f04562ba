-- What is evaluated over streams and labels of one seed is what is said in plain.
use Rattle.std.proofs.Common.{◌≡◌, ◌<◌, ◌+◌, ℕ, List, [], length, map, Option, Some, None, slice_get, Result, Ok, Err, refl, sym, ap, ap₂, ◌∙◌, subst, arith}
use Rattle.std.specs.Prelude.{IfSome}
use Rattle.mage_chains.proofs.Ends.{then_ok, same_Ok, err_not_ok}
use Rattle.mage_deal.proofs.Dealt.{dealt_is}
use Rattle.mage_garbled_runs.specs.Meant as meant
use Rattle.mage_garbled_runs.specs.Meant.{CanRunOn}
use Rattle.mage_garbled_runs.proofs.Meant.{whole_dealt}
use Rattle.mage_instr.specs.declared.directive.MemProgram.{MemProgram}
use Rattle.mage_instr.specs.declared.fault.DriverFault.{DriverFault}
use Rattle.mage_instr.specs.declared.instr.Program.{Program}
use Rattle.mage_instr.specs.declared.party.Party.{Party}
use Rattle.mage_instr.specs.declared.party.Party.TheVariants as party
use Rattle.mage_instr.specs.Inputs.{input_widths_of}
use Rattle.mage_instr.specs.Limits.{AreInRange}
use Rattle.mage_label.specs.declared.labels.Label.{Label}
use Rattle.mage_label_files.specs.Labels.{wires_in}
use Rattle.mage_linked.specs.declared.emitted.Emitted.{Emitted}
use Rattle.mage_linked.specs.Emission.{own_instrs, program_of}
use Rattle.mage_linked.specs.Workers.{list_at}
use Rattle.mage_linked.proofs.WorkerLemmas.{length-map_below}
use Rattle.mage_meaning.specs.Given.{Given}
use Rattle.mage_meaning.specs.Means.{means_of}
use Rattle.mage_pipe.specs.declared.loaded.Loaded.{Loaded}
use Rattle.mage_pipe.specs.Loading.{loaded_of}
use Rattle.mage_pipe.specs.MemoryProgram.{memory_program_of}
use Rattle.mage_solo.specs.Evaluating.{AreDealt, AreStreams, decoded_by}
use Rattle.mage_solo.proofs.Dealt.{decoded_meant, streams_right}
use Rattle.mage_source_runs.specs.Moves.{moves_of}
use Rattle.mage_source_runs.specs.Runs.{RunsSource}
use Rattle.mage_source_runs.proofs.Running.{sources_can_be_run}
use Rattle.mage_streams.specs.Garbling.{bytes_of}
use Rattle.mage_streams.specs.Streams.{garbler_calls}
use Rattle.mage_texts.specs.InputText.{FitWidths, inputs_of}
use Rattle.mage_texts.specs.OutputText.{text_of}
use Rattle.mage_texts.proofs.Widths.{FitWidths-from_inputs}
use Rattle.mage_words.specs.Words.{SoloRequest}
use Rattle.mage_planner.specs.declared.refusal.Refusal.{Refusal}
use Rattle.mage_planner.specs.Evaluated.{source_with, fault_with, decoded_with}
use Rattle.mage_planner.specs.Outcome.{Done, label_bytes, labels_due, labels_of, or_line, program_for, source_of, numbers_of, runs, said_of, stops_at, streams_held, solo_outcome, eval_outcome}
use Rattle.mage_planner.specs.Found.{File, Absent, Long, Held, Found}
use Rattle.mage_planner.specs.SaysPlain.{AreOfOneSeed, EvaluatesAs, EvaluatingSaysPlain}
use Rattle.mage_planner.proofs.RanLemmas.{party_fits}
use Rattle.mage_planner.proofs.SoloLemmas.{is_given}
use Rattle.mage_planner.proofs.CarriedLemmas.{or_language_ok}
use Rattle.mage_planner.proofs.EvalLemmas.{eval-all}
use Rattle.mage_planner.proofs.DealtLemmas.{all_due, dealt_at, dealt_count, dealt_from, dealt_long, due_is, streams_at, streams_long, worker_instrs}

-- ---- what was read

-- a source that was read has a text
text_read : (file : File) (loaded : Loaded) → source_of file ≡ Ok loaded → (text : List ℕ) × (loaded_of text ≡ Ok loaded)
unfolding source_of
text_read Absent loaded e = absurd (err_not_ok _ loaded e)
text_read Long loaded e = absurd (err_not_ok _ loaded e)
text_read (Held text) loaded e = (text, or_language_ok (loaded_of text) loaded e)

-- and an input text's numbers fit
or_line_ok : (whose : Party) (r : Result (List (List ℕ)) ℕ) (numbers : List (List ℕ)) → or_line whose r ≡ Ok numbers → r ≡ Ok numbers
or_line_ok whose (Ok own) numbers e = ap (λ (l : List (List ℕ)). Ok l) (same_Ok own numbers e)
or_line_ok whose (Err line) numbers e = absurd (err_not_ok _ numbers e)

numbers_fit : (whose : Party) (loaded : Loaded) (file : File) (numbers : List (List ℕ)) → numbers_of whose loaded file ≡ Ok numbers
    → FitWidths (input_widths_of whose loaded.program) numbers
unfolding numbers_of
numbers_fit whose loaded Absent numbers e = absurd (err_not_ok _ numbers e)
numbers_fit whose loaded Long numbers e = absurd (err_not_ok _ numbers e)
numbers_fit whose loaded (Held text) numbers e =
    FitWidths-from_inputs text (input_widths_of whose loaded.program) numbers (or_line_ok whose (inputs_of text (input_widths_of whose loaded.program)) numbers e)

-- ---- the files of one seed

-- What is known of a program whose streams and labels are found so: the labels are read, what is decoded is what it means, and nothing is
-- wrong with any stream.
record IsRight (found : Found) (given : Given) (means : List (List ℕ)) (program : Program) : Type 0 where
  labels : List (List Label)
  read : labels_of found.labels 0 program.workers ≡ Ok labels
  decoded : decoded_with program labels (streams_held found.streams 0 (length program.workers)) ≡ means
  right : (w : ℕ) → w < length program.workers
      → stops_at w (found.streams w) (fault_with program labels (streams_held found.streams 0 (length program.workers)) w) ≡ None

module _ (count : ℕ) (emitted : List Emitted) (given : Given) (seed : List ℕ) (can : CanRunOn count emitted given) (found : Found)
    (one : AreOfOneSeed found (program_of count emitted) seed given.garbler given.evaluator)
  where
    abbrev program : Program
    program = program_of count emitted

    abbrev dealt : ℕ → List Label
    dealt = meant.labels_of count emitted given seed

    abbrev labels : List (List Label)
    labels = dealt_from dealt 0 (length (program_of count emitted).workers)

    abbrev held : List (List ℕ)
    held = streams_held found.streams 0 (length (program_of count emitted).workers)

    many : length (program_of count emitted).workers ≡ count
    many = length-map_below (own_instrs emitted) count

    -- what a label file has doesn't rest on the garbler's values
    bytes_are : (w : ℕ) → label_bytes (program_of count emitted) seed given.evaluator w ≡ bytes_of (dealt w)
    bytes_are w =
        ap bytes_of (dealt_is (program_of count emitted) seed (λ v. []) (list_at given.evaluator) w
        ∙ sym (dealt_is (program_of count emitted) seed (list_at given.garbler) (list_at given.evaluator) w))

    due : (w : ℕ) → w < length (program_of count emitted).workers
        → labels_due (wires_in (list_at (program_of count emitted).workers w)) w (found.labels w) ≡ Ok (dealt w)
    due w inside =
        let within : w < count = omega (arith, inside, many) in
        let wires = dealt_count count emitted can.runs w within seed (list_at given.garbler) (list_at given.evaluator)
        ∙ ap wires_in (sym (worker_instrs count emitted can.runs w within)) in
        ap (labels_due (wires_in (list_at (program_of count emitted).workers w)) w) (one.labels w inside ∙ ap (λ (bytes : List ℕ). Held bytes) (bytes_are w))
        ∙ due_is (dealt w) (wires_in (list_at (program_of count emitted).workers w)) w
        (whole_dealt (garbler_calls (program_of count emitted) seed (list_at given.garbler) w) (list_at given.evaluator w)) wires

    all_read : labels_of found.labels 0 (program_of count emitted).workers ≡ Ok labels
    all_read =
        all_due found.labels dealt 0 (program_of count emitted).workers
        (λ w inside.
        let at : w ≡ 0 + w = omega arith in
        subst (λ (n : ℕ). labels_due (wires_in (list_at (program_of count emitted).workers w)) n (found.labels n) ≡ Ok (dealt n)) at (due w inside))

    are_dealt : AreDealt count emitted given seed labels
    are_dealt w =
        let at : 0 + w ≡ w = omega arith in
        subst (λ (n : ℕ). IfSome (slice_get labels w) (λ own. own ≡ dealt n)) at (dealt_at dealt 0 (length (program_of count emitted).workers) w)

    are_streams : AreStreams count emitted given seed (map source_with held)
    are_streams w =
        let at : 0 + w ≡ w = omega arith in
        subst (λ (n : ℕ). IfSome (slice_get (map source_with held) w) (λ source. source.left ≡ Some (meant.streams_of count emitted given seed n))) at
        (streams_at found.streams (meant.streams_of count emitted given seed) 0 (length (program_of count emitted).workers)
        (λ v inside.
        let at_v : v ≡ 0 + v = omega arith in
        subst (λ (n : ℕ). found.streams n ≡ Held (meant.streams_of count emitted given seed n)) at_v (one.streams v inside)) w)

    labels_long : length labels ≡ count
    labels_long = dealt_long dealt 0 (length (program_of count emitted).workers) ∙ many

    held_long : length (map source_with held) ≡ count
    held_long = streams_long found.streams 0 (length (program_of count emitted).workers) ∙ many

    -- no fault is found
    faultless : (w : ℕ) → fault_with (program_of count emitted) labels held w ≡ None
    faultless w = streams_right count emitted given seed can labels (map source_with held) labels_long held_long are_dealt are_streams w

    all_right : IsRight found given (means_of (program_of count emitted) given) (program_of count emitted)
    all_right = record {
      labels = labels;
      read = all_read;
      decoded = ap (decoded_by (program_of count emitted) labels (map source_with held)) many ∙ decoded_meant count emitted given seed can labels (map source_with held) labels_long held_long are_dealt are_streams;
      right = λ w inside. ap₂ (λ (file : File) (f : Option DriverFault). stops_at w file f) (one.streams w inside) (faultless w);
    }

-- ---- the same is said

module _ (found : Found) (loaded : Loaded) (seed : List ℕ) (garbler evaluator : List (List ℕ)) (plain : SoloRequest) (stream : List ℕ) (plan : MemProgram)
    (range : AreInRange plain.limits) (read : source_of found.source ≡ Ok loaded) (planned : program_for plain.limits loaded ≡ Ok plan)
    (garbler_read : numbers_of party.Garbler loaded found.garbler ≡ Ok garbler) (evaluator_read : numbers_of party.Evaluator loaded found.evaluator ≡ Ok evaluator)
    (one : AreOfOneSeed found loaded.program seed garbler evaluator)
  where
    abbrev numbers : Given
    numbers = record { garbler = garbler; evaluator = evaluator }

    text : (t : List ℕ) × (loaded_of t ≡ Ok loaded)
    text = text_read found.source loaded read

    run : RunsSource loaded plan
    run = sources_can_be_run plain.limits text.0 loaded plan range text.1 (is_given (memory_program_of plain.limits loaded.program.workers) plan planned)

    fit : (whose : Party) (file : File) (lists : List (List ℕ)) → numbers_of whose loaded file ≡ Ok lists
        → FitWidths (input_widths_of whose (program_of run.count run.emitted)) lists
    fit whose file lists e =
        subst (λ (p : Program). FitWidths (input_widths_of whose p) lists) (sym run.program_is) (numbers_fit whose loaded file lists e)

    can : CanRunOn run.count run.emitted numbers
    can = record {
      runs = run.runs;
      fit = λ n inside. record {
        garbler_fits = party_fits party.Garbler run.count run.emitted garbler (fit party.Garbler found.garbler garbler garbler_read) n inside;
        evaluator_fits = party_fits party.Evaluator run.count run.emitted evaluator (fit party.Evaluator found.evaluator evaluator evaluator_read) n inside;
      };
    }

    right : IsRight found numbers (means_of (program_of run.count run.emitted) numbers) loaded.program
    right =
        subst (λ (p : Program). IsRight found numbers (means_of (program_of run.count run.emitted) numbers) p) run.program_is
        (all_right run.count run.emitted numbers seed can found (subst (λ (p : Program). AreOfOneSeed found p seed garbler evaluator) (sym run.program_is) one))

    evaluating_as : EvaluatesAs (length loaded.program.workers) (runs (said_of loaded (record { garbler = garbler; evaluator = evaluator })) (moves_of plan))
        (eval_outcome found plain.limits stream)
    evaluating_as =
        subst (λ (outcome : Result Done Refusal). EvaluatesAs (length loaded.program.workers) (runs (said_of loaded numbers) (moves_of plan)) outcome)
        (sym (eval-all plain.limits stream found loaded plan right.labels read planned right.read))
        (record { said = ap text_of (right.decoded ∙ run.means numbers); moves = refl; right = right.right })

-- what `solo` says over the evaluator is what it says in plain
pub evaluating_says_plain : EvaluatingSaysPlain
unfolding solo_outcome
evaluating_says_plain found loaded seed garbler evaluator plain stream done range read garbler_read evaluator_read one solo =
    let begun = then_ok (source_of found.source) _ done solo in
    let loaded_is : begun.0 ≡ loaded = same_Ok begun.0 loaded (sym begun.1 ∙ read) in
    let program = then_ok (program_for plain.limits begun.0) _ done begun.2 in
    let first = then_ok (numbers_of party.Garbler begun.0 found.garbler) _ done program.2 in
    let second = then_ok (numbers_of party.Evaluator begun.0 found.evaluator) _ done first.2 in
    let planned : program_for plain.limits loaded ≡ Ok program.0 = subst (λ (l : Loaded). program_for plain.limits l ≡ Ok program.0) loaded_is program.1 in
    let first_is : first.0 ≡ garbler = same_Ok first.0 garbler (sym (subst (λ (l : Loaded). numbers_of party.Garbler l found.garbler ≡ Ok first.0) loaded_is first.1) ∙ garbler_read) in
    let second_is : second.0 ≡ evaluator =
    same_Ok second.0 evaluator (sym (subst (λ (l : Loaded). numbers_of party.Evaluator l found.evaluator ≡ Ok second.0) loaded_is second.1) ∙ evaluator_read) in
    let said : said_of begun.0 (record { garbler = first.0; evaluator = second.0 }) ≡ said_of loaded (record { garbler = garbler; evaluator = evaluator }) =
    ap (λ (l : Loaded). said_of l (record { garbler = first.0; evaluator = second.0 })) loaded_is
    ∙ ap₂ (λ (g e : List (List ℕ)). said_of loaded (record { garbler = g; evaluator = e })) first_is second_is in
    let same : runs (said_of loaded (record { garbler = garbler; evaluator = evaluator })) (moves_of program.0) ≡ done =
    ap (λ (text : List ℕ). runs text (moves_of program.0)) (sym said)
    ∙ same_Ok (runs (said_of begun.0 (record { garbler = first.0; evaluator = second.0 })) (moves_of program.0)) done second.2 in
    subst (λ (d : Done). EvaluatesAs (length loaded.program.workers) d (eval_outcome found plain.limits stream)) same
    (evaluating_as found loaded seed garbler evaluator plain stream program.0 range read planned garbler_read evaluator_read one)
