-- What `gen` is found to do is what it comes to.
use Rattle.std.specs.Prelude.{codes}
use Rattle.std.proofs.Common.{◌≡◌, ℕ, List, [], ◌∷◌, Bool, true, Option, Some, None, Result, Ok, Err, refl, sym, ap, ap₂, subst, ◌∙◌}
use Rattle.std.specs.Option.{IfSome}
use Rattle.mage_base.specs.Desk.{Files}
use Rattle.mage_gen.specs.declared.order.GenOrder.{GenOrder}
use Rattle.mage_gen.specs.declared.order.Generated.{Generated}
use Rattle.mage_gen.specs.Generator.{garbler_text, evaluator_text}
use Rattle.mage_gen.specs.Source.{source_text}
use Rattle.mage_instr.specs.declared.directive.MemProgram.{MemProgram}
use Rattle.mage_instr.specs.declared.party.Party.{Party}
use Rattle.mage_instr.specs.declared.party.Party.TheVariants as party
use Rattle.mage_instr.specs.Inputs.{input_widths_of}
use Rattle.mage_pipe.specs.declared.loaded.Loaded.{Loaded}
use Rattle.mage_pipe.specs.declared.stats.WorkerStats.{WorkerStats}
use Rattle.mage_pipe.specs.Loading.{loaded_of}
use Rattle.mage_texts.specs.InputText.{inputs_of}
use Rattle.mage_words.specs.Words.{SoloRequest, StatsRequest, GenRequest}
use Rattle.mage_planner.specs.declared.refusal.Refusal.{Refusal}
use Rattle.mage_planner.specs.declared.work.Generating.{Generating}
use Rattle.mage_planner.specs.Outcome.{Done, NewFile, says, or_language, or_line, source_of, numbers_of, program_for, costs_of, ending_file, order_of, found_for_gen, solo_for, stats_for, generated_files, generates, solo_outcome, stats_outcome, gen_outcome}
use Rattle.mage_planner.specs.Found.{Found, Held}
use Rattle.mage_planner.specs.Steps.{Refuses}
use Rattle.mage_planner.specs.SummaryText.{summary_text}
use Rattle.mage_planner.specs.Work.{AreMade, GivesSo, IsGenerationOf, IsRunOf, files_by}
use Rattle.mage_planner.proofs.ProgramLemmas.{steady_too}
use Rattle.mage_planner.proofs.StepLemmas.{at_first, after_first, both_done}

-- ---- a text that is at hand

source_held : (text : List ℕ) → source_of (Held text) ≡ or_language (loaded_of text)
unfolding source_of
source_held text = refl

numbers_held : (whose : Party) (loaded : Loaded) (text : List ℕ) → numbers_of whose loaded (Held text) ≡ or_line whose (inputs_of text (input_widths_of whose loaded.program))
unfolding numbers_of
numbers_held whose loaded text = refl

-- ---- `solo` of whatever was found

module _ (found : Found) (solo : SoloRequest) (s : Refusal) where
  solo_source : Refuses true s (source_of found.source) → Refuses true s (solo_outcome found solo)
  unfolding solo_outcome
  solo_source refused = at_first s (source_of found.source) _ refused

  module _ (loaded : Loaded) (read : source_of found.source ≡ Ok loaded) where
    solo_limits : Refuses true s (program_for solo.limits loaded) → Refuses true s (solo_outcome found solo)
    unfolding solo_outcome
    solo_limits refused = after_first s (source_of found.source) loaded _ read (at_first s (program_for solo.limits loaded) _ refused)

    module _ (program : MemProgram) (planned : program_for solo.limits loaded ≡ Ok program) where
      solo_garbler : Refuses true s (numbers_of party.Garbler loaded found.garbler) → Refuses true s (solo_outcome found solo)
      unfolding solo_outcome
      solo_garbler refused =
          after_first s (source_of found.source) loaded _ read
          (after_first s (program_for solo.limits loaded) program _ planned
          (at_first s (numbers_of party.Garbler loaded found.garbler) _ refused))

      solo_evaluator : (numbers : List (List ℕ)) → numbers_of party.Garbler loaded found.garbler ≡ Ok numbers
          → Refuses true s (numbers_of party.Evaluator loaded found.evaluator) → Refuses true s (solo_outcome found solo)
      unfolding solo_outcome
      solo_evaluator numbers own refused =
          after_first s (source_of found.source) loaded _ read
          (after_first s (program_for solo.limits loaded) program _ planned
          (after_first s (numbers_of party.Garbler loaded found.garbler) numbers _ own
          (at_first s (numbers_of party.Evaluator loaded found.evaluator) _ refused)))

-- `stats` of whatever was found
stats_found : (found : Found) (stats : StatsRequest) (loaded : Loaded) (costs : List WorkerStats) → source_of found.source ≡ Ok loaded → costs_of stats.limits loaded ≡ Ok costs
    → stats_outcome found stats ≡ Ok (says (summary_text costs))
unfolding stats_outcome
stats_found found stats loaded costs read counted = both_done (source_of found.source) loaded _ _ read (both_done (costs_of stats.limits loaded) costs _ _ counted refl)

-- ---- `gen`

-- what holds whatever the files are
pub told_any : {P : Type 0} (files : Option Files) → P → IfSome files (λ told. P)
told_any None p = tt
told_any (Some told) p = p

-- what may refuse a step where nothing is known of the desk may refuse it where something is
pub gives_any : {X : Type 0} (steady : Bool) (Is : X → Done → Type 0) (r : Result X Refusal) (outcome : Result Done Refusal) → GivesSo true Is r outcome → GivesSo steady Is r outcome
gives_any steady Is (Ok x) outcome gives = gives
gives_any steady Is (Err why) outcome refused = steady_too steady why outcome refused

-- what refuses `solo` refuses `gen`
gen_solo : (gen : GenRequest) (s : Refusal) → Refuses true s (solo_outcome (found_for_gen gen) (solo_for gen)) → Refuses true s (gen_outcome gen)
unfolding gen_outcome
gen_solo gen s refused = at_first s (solo_outcome (found_for_gen gen) (solo_for gen)) _ refused

gen_done : (gen : GenRequest) (run : Done) (summary : List ℕ) → solo_outcome (found_for_gen gen) (solo_for gen) ≡ Ok run
    → stats_outcome (found_for_gen gen) (stats_for gen) ≡ Ok (says summary) → gen_outcome gen ≡ Ok (generates (generated_files gen) summary run)
unfolding gen_outcome
gen_done gen run summary ran said =
    both_done (solo_outcome (found_for_gen gen) (solo_for gen)) run _ _ ran
    (both_done (stats_outcome (found_for_gen gen) (stats_for gen)) (says summary) _ _ said refl)

-- what was made of the order is what is asked for
pub made_so : (gen : GenRequest) (order : GenOrder) (made : Generated) → order ≡ order_of gen → made.text.items ≡ source_text order
    → made.garbler.items ≡ garbler_text order → made.evaluator.items ≡ evaluator_text order → AreMade gen made
made_so gen order made is text garbler evaluator = record {
  text = text ∙ ap source_text is;
  garbler = garbler ∙ ap garbler_text is;
  evaluator = evaluator ∙ ap evaluator_text is;
}

-- Below, this was made.
module _ (gen : GenRequest) (made : Generated) (is : AreMade gen made) where
  source_is : source_of (found_for_gen gen).source ≡ or_language (loaded_of made.text.items)
  source_is = source_held (source_text (order_of gen)) ∙ ap (λ (text : List ℕ). or_language (loaded_of text)) (sym is.text)

  pub read_source : (loaded : Loaded) → loaded_of made.text.items ≡ Ok loaded → source_of (found_for_gen gen).source ≡ Ok loaded
  read_source loaded read = source_is ∙ ap or_language read

  pub garbler_is : (loaded : Loaded) → numbers_of party.Garbler loaded (found_for_gen gen).garbler
      ≡ or_line party.Garbler (inputs_of made.garbler.items (input_widths_of party.Garbler loaded.program))
  garbler_is loaded =
      numbers_held party.Garbler loaded (garbler_text (order_of gen))
      ∙ ap (λ (text : List ℕ). or_line party.Garbler (inputs_of text (input_widths_of party.Garbler loaded.program))) (sym is.garbler)

  pub evaluator_is : (loaded : Loaded) → numbers_of party.Evaluator loaded (found_for_gen gen).evaluator
      ≡ or_line party.Evaluator (inputs_of made.evaluator.items (input_widths_of party.Evaluator loaded.program))
  evaluator_is loaded =
      numbers_held party.Evaluator loaded (evaluator_text (order_of gen))
      ∙ ap (λ (text : List ℕ). or_line party.Evaluator (inputs_of text (input_widths_of party.Evaluator loaded.program))) (sym is.evaluator)

  pub gen-source : (s : Refusal) → Refuses true s (or_language (loaded_of made.text.items)) → Refuses true s (gen_outcome gen)
  gen-source s refused = gen_solo gen s (solo_source (found_for_gen gen) (solo_for gen) s (subst (λ (r : Result Loaded Refusal). Refuses true s r) (sym source_is) refused))

  module _ (loaded : Loaded) (read : loaded_of made.text.items ≡ Ok loaded) (s : Refusal) where
    pub gen-limits : Refuses true s (program_for gen.limits loaded) → Refuses true s (gen_outcome gen)
    gen-limits refused = gen_solo gen s (solo_limits (found_for_gen gen) (solo_for gen) s loaded (read_source loaded read) refused)

    module _ (program : MemProgram) (planned : program_for gen.limits loaded ≡ Ok program) where
      pub gen-garbler : Refuses true s (or_line party.Garbler (inputs_of made.garbler.items (input_widths_of party.Garbler loaded.program))) → Refuses true s (gen_outcome gen)
      gen-garbler refused =
          gen_solo gen s (solo_garbler (found_for_gen gen) (solo_for gen) s loaded (read_source loaded read) program planned
          (subst (λ (r : Result (List (List ℕ)) Refusal). Refuses true s r) (sym (garbler_is loaded)) refused))

      pub gen-evaluator : (numbers : List (List ℕ)) → or_line party.Garbler (inputs_of made.garbler.items (input_widths_of party.Garbler loaded.program)) ≡ Ok numbers
          → Refuses true s (or_line party.Evaluator (inputs_of made.evaluator.items (input_widths_of party.Evaluator loaded.program))) → Refuses true s (gen_outcome gen)
      gen-evaluator numbers own refused =
          gen_solo gen s (solo_evaluator (found_for_gen gen) (solo_for gen) s loaded (read_source loaded read) program planned numbers (garbler_is loaded ∙ own)
          (subst (λ (r : Result (List (List ℕ)) Refusal). Refuses true s r) (sym (evaluator_is loaded)) refused))

abbrev said_in : Result Done Refusal → List ℕ
said_in (Ok done) = done.said
said_in (Err why) = []

said_is : (x y : List ℕ) → ◌≡◌ {A = Result Done Refusal} (Ok (says x)) (Ok (says y)) → x ≡ y
said_is x y e = ap said_in e

-- files of the same names and bytes
three_files : (stem stem' source source' garbler garbler' evaluator evaluator' : List ℕ) → stem ≡ stem' → source ≡ source' → garbler ≡ garbler' → evaluator ≡ evaluator'
    → ending_file stem (codes ".mage") source ∷ ending_file stem (codes ".garbler") garbler ∷ ending_file stem (codes ".evaluator") evaluator ∷ []
    ≡ ending_file stem' (codes ".mage") source' ∷ ending_file stem' (codes ".garbler") garbler' ∷ ending_file stem' (codes ".evaluator") evaluator' ∷ []
three_files stem stem' source source' garbler garbler' evaluator evaluator' a b c d = rw (a, b, c, d) refl

-- all is read and planned
pub gen-all : (gen : GenRequest) (generating : Generating) (loaded : Loaded) (costs : List WorkerStats) (run : Done)
    → AreMade gen generating.made → generating.out.now ≡ gen.out → loaded_of generating.made.text.items ≡ Ok loaded → costs_of gen.limits loaded ≡ Ok costs
    → ◌≡◌ {A = Result Done Refusal} (Ok (says (summary_text costs))) (Ok (says generating.summary.items))
    → IsRunOf generating.running run → solo_outcome (found_for_gen gen) (solo_for gen) ≡ Ok run
    → (done : Done) × IsGenerationOf generating done × (gen_outcome gen ≡ Ok done)
gen-all gen generating loaded costs run is named read counted said is_run ran = (
  generates (generated_files gen) (summary_text costs) run,
  record { run = run; is_run = is_run; is = ap₂ (λ (files : List NewFile) (summary : List ℕ). generates files summary run) (sym files_are) (said_is (summary_text costs) generating.summary.items said) },
  gen_done gen run (summary_text costs) ran (stats_found (found_for_gen gen) (stats_for gen) loaded costs (read_source gen generating.made is loaded read) counted),
)
  where
    files_are : files_by generating ≡ generated_files gen
    files_are =
        three_files generating.out.now gen.out generating.made.text.items (source_text (order_of gen)) generating.made.garbler.items (garbler_text (order_of gen))
        generating.made.evaluator.items (evaluator_text (order_of gen)) named is.text is.garbler is.evaluator
