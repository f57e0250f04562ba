-- What `solo` garbles is what it comes to over the garbler.
use Rattle.std.proofs.Common.{◌≡◌, ℕ, List, length, map, Bool, true, Option, Some, None, Result, Ok, refl, sym, ap, ◌∙◌, subst}
use Rattle.std.specs.Option.{IfSome}
use Rattle.std.proofs.lemmas.List.{length-map}
use Rattle.mage_base.specs.Desk.{Files}
use Rattle.mage_chains.specs.Chains.{◌>>=◌}
use Rattle.mage_instr.specs.declared.directive.MemProgram.{MemProgram}
use Rattle.mage_instr.specs.declared.instr.Program.{Program}
use Rattle.mage_instr.specs.declared.party.Party.TheVariants as party
use Rattle.mage_instr.specs.declared.replaced.Limits.{Limits}
use Rattle.mage_instr.specs.Inputs.{input_widths_of, widths_in}
use Rattle.mage_instr.specs.Limits.{AreInRange}
use Rattle.mage_lex.specs.Limits.{MOST_BYTES}
use Rattle.mage_texts.specs.InputText.{FitWidths}
use Rattle.mage_texts.specs.Lists.{lists_of}
use Rattle.mage_linked.specs.Emission.{own_instrs}
use Rattle.mage_linked.proofs.WorkerLemmas.{length-map_below}
use Rattle.mage_verify.specs.Parts.{WorkerPart, parts_of}
use Rattle.mage_verify.specs.Runs.{AreVerified}
use Rattle.mage_verify.proofs.Walked.{directives_of}
use Rattle.mage_source_runs.specs.Moves.{moves_of}
use Rattle.mage_source_runs.specs.Runs.{RunsSource}
use Rattle.mage_source_runs.proofs.Running.{sources_can_be_run}
use Rattle.mage_stream_length.specs.Length.{length_of}
use Rattle.mage_pipe.specs.declared.loaded.Loaded.{Loaded}
use Rattle.mage_pipe.specs.Loading.{loaded_of}
use Rattle.mage_pipe.specs.MemoryProgram.{memory_program_of}
use Rattle.mage_words.specs.Words.{Driver, Plain, Garble, Solo, SoloRequest}
use Rattle.mage_planner.specs.declared.garble.GarbleRequest.{GarbleRequest}
use Rattle.mage_planner.specs.declared.refusal.Refusal.{Refusal}
use Rattle.mage_planner.specs.declared.work.Garbling.{Garbling}
use Rattle.mage_planner.specs.Garbled.{asked_by}
use Rattle.mage_planner.specs.Outcome.{Done, source_of, numbers_of, seed_of, program_for, garbles, solo_outcome, garble_outcome, driven_outcome}
use Rattle.mage_planner.specs.Found.{File, Absent, Found, nothing_found, found_in, file_at, SEED_BYTES}
use Rattle.mage_planner.specs.Steps.{Refuses}
use Rattle.mage_planner.specs.Work.{CanBeGarbled, IsGarblingOf}
use Rattle.mage_planner.proofs.StepLemmas.{at_first, after_first, both_done, told_so, only_source, source_garbler}
use Rattle.mage_planner.proofs.SoloLemmas.{is_given, same_ok, zip_count}

-- ---- the chain

abbrev pub for_garble : (source garbler seed : File) → Found
for_garble source garbler seed = record nothing_found { source = source; garbler = garbler; seed = seed }

-- what comes after the seed
abbrev to_streams : (stream : List ℕ) → Loaded → MemProgram → (garbler : List (List ℕ)) → (seed : List ℕ) → Result Done Refusal
to_streams stream loaded program garbler seed = Ok (garbles stream loaded.program seed garbler (moves_of program))

-- what comes after the garbler's numbers
abbrev to_seed : (stream : List ℕ) → (seed : File) → Loaded → MemProgram → (garbler : List (List ℕ)) → Result Done Refusal
to_seed stream seed loaded program garbler = seed_of seed >>= to_streams stream loaded program garbler

-- what comes after the memory program
abbrev to_garbler : (stream : List ℕ) → (garbler seed : File) → Loaded → MemProgram → Result Done Refusal
to_garbler stream garbler seed loaded program = numbers_of party.Garbler loaded garbler >>= to_seed stream seed loaded program

-- what comes after the source
abbrev to_planned : Limits → (stream : List ℕ) → (garbler seed : File) → Loaded → Result Done Refusal
to_planned limits stream garbler seed loaded = program_for limits loaded >>= to_garbler stream garbler seed loaded

module _ (limits : Limits) (stream : List ℕ) where
  pub garble-source : (file : File) (s : Refusal) → Refuses true s (source_of file) → Refuses true s (garble_outcome (only_source file) limits stream)
  unfolding garble_outcome
  garble-source file s refused = at_first s (source_of file) (to_planned limits stream Absent Absent) refused

  pub garble-limits : (file : File) (loaded : Loaded) (s : Refusal) → source_of file ≡ Ok loaded → Refuses true s (program_for limits loaded)
      → Refuses true s (garble_outcome (only_source file) limits stream)
  unfolding garble_outcome
  garble-limits file loaded s read refused =
      after_first s (source_of file) loaded (to_planned limits stream Absent Absent) read
      (at_first s (program_for limits loaded) (to_garbler stream Absent Absent loaded) refused)

  pub garble-garbler : (file garbler : File) (loaded : Loaded) (program : MemProgram) (s : Refusal) → source_of file ≡ Ok loaded → program_for limits loaded ≡ Ok program
      → Refuses true s (numbers_of party.Garbler loaded garbler) → Refuses true s (garble_outcome (source_garbler file garbler) limits stream)
  unfolding garble_outcome
  garble-garbler file garbler loaded program s read planned refused =
      after_first s (source_of file) loaded (to_planned limits stream garbler Absent) read
      (after_first s (program_for limits loaded) program (to_garbler stream garbler Absent loaded) planned
      (at_first s (numbers_of party.Garbler loaded garbler) (to_seed stream Absent loaded program) refused))

  pub garble-seed : (file garbler seed : File) (loaded : Loaded) (program : MemProgram) (numbers : List (List ℕ)) (s : Refusal) → source_of file ≡ Ok loaded
      → program_for limits loaded ≡ Ok program → numbers_of party.Garbler loaded garbler ≡ Ok numbers → Refuses true s (seed_of seed)
      → Refuses true s (garble_outcome (for_garble file garbler seed) limits stream)
  unfolding garble_outcome
  garble-seed file garbler seed loaded program numbers s read planned read_too refused =
      after_first s (source_of file) loaded (to_planned limits stream garbler seed) read
      (after_first s (program_for limits loaded) program (to_garbler stream garbler seed loaded) planned
      (after_first s (numbers_of party.Garbler loaded garbler) numbers (to_seed stream seed loaded program) read_too
      (at_first s (seed_of seed) (to_streams stream loaded program numbers) refused)))

  pub garble-all : (found : Found) (loaded : Loaded) (program : MemProgram) (numbers : List (List ℕ)) (seed : List ℕ) → source_of found.source ≡ Ok loaded
      → program_for limits loaded ≡ Ok program → numbers_of party.Garbler loaded found.garbler ≡ Ok numbers → seed_of found.seed ≡ Ok seed
      → garble_outcome found limits stream ≡ Ok (garbles stream loaded.program seed numbers (moves_of program))
  unfolding garble_outcome
  garble-all found loaded program numbers seed read planned read_too has =
      let done = garbles stream loaded.program seed numbers (moves_of program) in
      both_done (source_of found.source) loaded (to_planned limits stream found.garbler found.seed) done read
      (both_done (program_for limits loaded) program (to_garbler stream found.garbler found.seed loaded) done planned
      (both_done (numbers_of party.Garbler loaded found.garbler) numbers (to_seed stream found.seed loaded program) done read_too
      (ap (λ step. step >>= to_streams stream loaded program numbers) has)))

-- The garbler's numbers are refused, of a desk that is as it was but for its count of faults.
pub garble-garbler-told : (steady : Bool) (files : Option Files) (request : GarbleRequest) (loaded : Loaded) (program : MemProgram) (s : Refusal)
    → IfSome files (λ f. source_of (file_at f request.source.now MOST_BYTES) ≡ Ok loaded)
    → program_for request.limits loaded ≡ Ok program
    → IfSome files (λ f. Refuses steady s (numbers_of party.Garbler loaded (found_in f (Solo (asked_by request))).garbler))
    → IfSome files (λ f. Refuses steady s (garble_outcome (found_in f (Solo (asked_by request))) request.limits request.stream.now))
unfolding garble_outcome
garble-garbler-told steady None request loaded program s read planned refused = tt
garble-garbler-told steady (Some f) request loaded program s read planned refused =
    let garbler = (found_in f (Solo (asked_by request))).garbler in
    let seed = file_at f request.seed.now SEED_BYTES in
    let stream = request.stream.now in
    told_so steady s (numbers_of party.Garbler loaded garbler) (source_of (file_at f request.source.now MOST_BYTES) >>= to_planned request.limits stream garbler seed)
    (λ e. ap (λ step. step >>= to_planned request.limits stream garbler seed) read
    ∙ (ap (λ step. step >>= to_garbler stream garbler seed loaded) planned
    ∙ ap (λ step. step >>= to_seed stream seed loaded program) e)) refused

-- The seed is refused, of a desk that is as it was but for its count of faults.
pub garble-seed-told : (steady : Bool) (files : Option Files) (request : GarbleRequest) (loaded : Loaded) (program : MemProgram) (numbers : List (List ℕ)) (s : Refusal)
    → IfSome files (λ f. source_of (file_at f request.source.now MOST_BYTES) ≡ Ok loaded)
    → program_for request.limits loaded ≡ Ok program
    → IfSome files (λ f. numbers_of party.Garbler loaded (found_in f (Solo (asked_by request))).garbler ≡ Ok numbers)
    → IfSome files (λ f. Refuses steady s (seed_of (file_at f request.seed.now SEED_BYTES)))
    → IfSome files (λ f. Refuses steady s (garble_outcome (found_in f (Solo (asked_by request))) request.limits request.stream.now))
unfolding garble_outcome
garble-seed-told steady None request loaded program numbers s read planned read_too refused = tt
garble-seed-told steady (Some f) request loaded program numbers s read planned read_too refused =
    let garbler = (found_in f (Solo (asked_by request))).garbler in
    let seed = file_at f request.seed.now SEED_BYTES in
    let stream = request.stream.now in
    told_so steady s (seed_of seed) (source_of (file_at f request.source.now MOST_BYTES) >>= to_planned request.limits stream garbler seed)
    (λ e. ap (λ step. step >>= to_planned request.limits stream garbler seed) read
    ∙ (ap (λ step. step >>= to_garbler stream garbler seed loaded) planned
    ∙ (ap (λ step. step >>= to_seed stream seed loaded program) read_too ∙ ap (λ step. step >>= to_streams stream loaded program numbers) e))) refused

-- ---- what is garbled

-- Below, these are the memory program of a source, its parts, the rooms of its streams, and inputs that fit it.
module _ (garbling : Garbling) (limits : Limits) (range : AreInRange limits) (text : List ℕ) (loaded : Loaded) (program : MemProgram)
    (loads : loaded_of text ≡ Ok loaded) (planned : program_for limits loaded ≡ Ok program)
    (parts : ◌≡◌ {A = Result (List WorkerPart) Refusal} (Ok (parts_of program)) (Ok garbling.parts.items))
    (rooms : ◌≡◌ {A = Result (List ℕ) Refusal} (Ok (map length_of loaded.program.workers)) (Ok garbling.rooms.items))
    (garbler : FitWidths (input_widths_of party.Garbler loaded.program) (lists_of garbling.garbler.items))
  where
    abbrev own : Done
    own = garbles garbling.stream.now loaded.program garbling.seed (lists_of garbling.garbler.items) (moves_of program)

    is_garbling : IsGarblingOf garbling own
    is_garbling = record {
      limits = limits;
      text = text;
      loaded = loaded;
      plan = program;
      in_range = range;
      loads = loads;
      planned = is_given (memory_program_of limits loaded.program.workers) program planned;
      parts = sym (same_ok (parts_of program) garbling.parts.items parts);
      garbler = garbler;
      rooms = sym (same_ok (map length_of loaded.program.workers) garbling.rooms.items rooms);
      is = refl;
    }

    source : RunsSource loaded program
    source = sources_can_be_run limits text loaded program range loads (is_given (memory_program_of limits loaded.program.workers) program planned)

    -- there are as many parts as workers
    parts_count : length garbling.parts.items ≡ length loaded.program.workers
    parts_count =
        ap length (sym (same_ok (parts_of program) garbling.parts.items parts))
        ∙ sym (length-map (parts_of program) (λ part. part.directives)) ∙ ap length (directives_of program)
        ∙ source.many ∙ sym (length-map_below (own_instrs source.emitted) source.count) ∙ ap (λ (p : Program). length p.workers) source.program_is

    pub can_be_garbled : AreVerified garbling.parts.items → CanBeGarbled garbling
    can_be_garbled verified = record {
      verified = verified;
      garbler = sym (length-map garbling.garbler.items (λ v. v.items)) ∙ sym (zip_count _ (input_widths_of party.Garbler loaded.program) (lists_of garbling.garbler.items) garbler)
          ∙ length-map loaded.program.workers (widths_in party.Garbler) ∙ sym parts_count;
      rooms = ap (λ (l : List ℕ). length l) (sym (same_ok (map length_of loaded.program.workers) garbling.rooms.items rooms))
          ∙ length-map loaded.program.workers length_of ∙ sym parts_count;
    }

    -- it does what `solo` comes to
    pub garble_found : (found : Found) → source_of found.source ≡ Ok loaded → numbers_of party.Garbler loaded found.garbler ≡ Ok (lists_of garbling.garbler.items)
        → seed_of found.seed ≡ Ok garbling.seed → (done : Done) × IsGarblingOf garbling done × (garble_outcome found limits garbling.stream.now ≡ Ok done)
    garble_found found read read_too has = (
      own,
      is_garbling,
      garble-all limits garbling.stream.now found loaded program (lists_of garbling.garbler.items) garbling.seed read planned read_too has,
    )

    pub garble_told : (files : Option Files) (request : GarbleRequest) → request.limits ≡ limits → request.stream.now ≡ garbling.stream.now
        → IfSome files (λ f. source_of (file_at f request.source.now MOST_BYTES) ≡ Ok loaded)
        → IfSome files (λ f. numbers_of party.Garbler loaded (found_in f (Solo (asked_by request))).garbler ≡ Ok (lists_of garbling.garbler.items))
        → IfSome files (λ f. seed_of (file_at f request.seed.now SEED_BYTES) ≡ Ok garbling.seed)
        → IfSome files (λ f. (done : Done) × IsGarblingOf garbling done × (garble_outcome (found_in f (Solo (asked_by request))) request.limits request.stream.now ≡ Ok done))
    garble_told None request same same_stream read read_too has = tt
    garble_told (Some f) request same same_stream read read_too has =
        let all = garble_found (found_in f (Solo (asked_by request))) read read_too has in (
          all.0,
          all.1,
          subst (λ (l : Limits). garble_outcome (found_in f (Solo (asked_by request))) l request.stream.now ≡ Ok all.0) (sym same)
              (subst (λ (s : List ℕ). garble_outcome (found_in f (Solo (asked_by request))) limits s ≡ Ok all.0) (sym same_stream) all.2),
        )

-- ---- `solo` by its driver

-- what is known of what `solo` comes to in plain
pub driven_plain : (P : Result Done Refusal → Type 0) (driver : Driver) (garbler evaluator : Option (List ℕ)) (found : Found) (solo : SoloRequest)
    → driver ≡ Plain garbler evaluator → P (solo_outcome found solo) → P (driven_outcome driver found solo)
driven_plain P driver garbler evaluator found solo is p = subst (λ (d : Driver). P (driven_outcome d found solo)) (sym is) p

-- and over the garbler
pub driven_garble : (P : Result Done Refusal → Type 0) (driver : Driver) (garbler : Option (List ℕ)) (seed stream : List ℕ) (found : Found) (solo : SoloRequest)
    → driver ≡ Garble garbler seed stream → P (garble_outcome found solo.limits stream) → P (driven_outcome driver found solo)
driven_garble P driver garbler seed stream found solo is p = subst (λ (d : Driver). P (driven_outcome d found solo)) (sym is) p

-- where the driver is this one, so is what was asked for
pub asked_same : (solo : SoloRequest) (driver : Driver) → solo.driver ≡ driver → record solo { driver = driver } ≡ solo
asked_same solo driver is = ap (λ (d : Driver). record solo { driver = d }) (sym is)
