-- A refusal of a step is one of the whole work.
use Rattle.std.proofs.Common.{◌≡◌, ℕ, List, Bool, true, Option, Some, None, Result, Ok, Err, ok_or, ap, ◌∙◌}
use Rattle.std.specs.Option.{IfSome}
use Rattle.mage_base.specs.Desk.{Files}
use Rattle.mage_lex.specs.Limits.{MOST_BYTES}
use Rattle.mage_chains.specs.Chains.{◌>>=◌}
use Rattle.mage_instr.specs.declared.party.Party.TheVariants as party
use Rattle.mage_instr.specs.declared.directive.MemProgram.{MemProgram}
use Rattle.mage_pipe.specs.declared.loaded.Loaded.{Loaded}
use Rattle.mage_pipe.specs.declared.stats.WorkerStats.{WorkerStats}
use Rattle.mage_source_runs.specs.Moves.{moves_of}
use Rattle.mage_words.specs.Words.{Deal, Solo, SoloRequest, StatsRequest, DealRequest}
use Rattle.mage_planner.specs.declared.refusal.Refusal.{Refusal}
use Rattle.mage_planner.specs.declared.refusal.Refusal.TheVariants as refusal
use Rattle.mage_planner.specs.SummaryText.{summary_text}
use Rattle.mage_planner.specs.Outcome.{Done, says, runs, deals, source_of, costs_of, program_for, numbers_of, seed_of, said_of, solo_outcome, stats_outcome, deal_outcome, outcome_for, outcome_of, asked_of}
use Rattle.mage_planner.specs.Found.{File, Absent, Found, nothing_found, found_in, file_at, file_named, INPUT_LIMIT, SEED_BYTES, garbler_of, evaluator_of}
use Rattle.mage_planner.specs.Steps.{Refuses}

-- ---- chains

-- what is refused as a step is, where the step's refusal is the work's
pub refused_so : {T U : Type 0} (s : Refusal) (a : Result T Refusal) (b : Result U Refusal)
    → (a ≡ Err s → b ≡ Err s) → Refuses true s a → Refuses true s b
refused_so refusal.Desk a b f r = λ sure. f (r sure)
refused_so refusal.Memory a b f r = tt
refused_so other a b f r = f r

-- the first step is refused
pub at_first : {T U : Type 0} (s : Refusal) (r : Result T Refusal) (f : T → Result U Refusal)
    → Refuses true s r → Refuses true s (r >>= f)
at_first s r f refused = refused_so s r (r >>= f) (λ e. ap (λ step. step >>= f) e) refused

-- the first step is done, and what comes after it is refused
pub after_first : {T U : Type 0} (s : Refusal) (r : Result T Refusal) (x : T) (f : T → Result U Refusal)
    → r ≡ Ok x → Refuses true s (f x) → Refuses true s (r >>= f)
after_first s r x f done refused = refused_so s (f x) (r >>= f) (λ e. ap (λ step. step >>= f) done ∙ e) refused

-- both are done
pub both_done : {T U : Type 0} (r : Result T Refusal) (x : T) (f : T → Result U Refusal) (y : U)
    → r ≡ Ok x → f x ≡ Ok y → (r >>= f) ≡ Ok y
both_done r x f y done done_too = ap (λ step. step >>= f) done ∙ done_too

-- ---- what is found where no more is read than the source, the source and the garbler's text, or all three

abbrev pub only_source : File → Found
only_source file = record nothing_found { source = file }

abbrev pub source_garbler : File → File → Found
source_garbler source garbler =
    record nothing_found { source = source; garbler = garbler }

abbrev pub all_three : File → File → File → Found
all_three source garbler evaluator =
    record nothing_found { source = source; garbler = garbler; evaluator = evaluator }

abbrev pub for_deal : (source evaluator seed : File) → Found
for_deal source evaluator seed =
    record nothing_found { source = source; evaluator = evaluator; seed = seed }

-- ---- `solo`

-- what comes after the evaluator's numbers
abbrev to_run : Loaded → MemProgram → (garbler evaluator : List (List ℕ)) → Result Done Refusal
to_run loaded program garbler evaluator =
    Ok (runs (said_of loaded (record { garbler = garbler; evaluator = evaluator })) (moves_of program))

-- what comes after the garbler's numbers
abbrev to_evaluator : Loaded → File → MemProgram → (garbler : List (List ℕ)) → Result Done Refusal
to_evaluator loaded evaluator program garbler =
    numbers_of party.Evaluator loaded evaluator >>= to_run loaded program garbler

-- what comes after the memory program
abbrev to_garbler : (garbler evaluator : File) → Loaded → MemProgram → Result Done Refusal
to_garbler garbler evaluator loaded program =
    numbers_of party.Garbler loaded garbler >>= to_evaluator loaded evaluator program

-- what comes after the source
abbrev to_planned : SoloRequest → (garbler evaluator : File) → Loaded → Result Done Refusal
to_planned solo garbler evaluator loaded = program_for solo.limits loaded >>= to_garbler garbler evaluator loaded

-- the source is refused
pub solo-source : (solo : SoloRequest) (file : File) (s : Refusal)
    → Refuses true s (source_of file) → Refuses true s (solo_outcome (only_source file) solo)
unfolding solo_outcome
solo-source solo file s refused = at_first s (source_of file) (to_planned solo Absent Absent) refused

-- a limit is too low
pub solo-limits : (solo : SoloRequest) (file : File) (loaded : Loaded) (s : Refusal)
    → source_of file ≡ Ok loaded → Refuses true s (program_for solo.limits loaded)
    → Refuses true s (solo_outcome (only_source file) solo)
unfolding solo_outcome
solo-limits solo file loaded s read refused =
    after_first s (source_of file) loaded (to_planned solo Absent Absent) read
    (at_first s (program_for solo.limits loaded) (to_garbler Absent Absent loaded) refused)

-- the garbler's text is refused
pub solo-garbler : (solo : SoloRequest) (file garbler : File) (loaded : Loaded) (program : MemProgram) (s : Refusal)
    → source_of file ≡ Ok loaded → program_for solo.limits loaded ≡ Ok program
    → Refuses true s (numbers_of party.Garbler loaded garbler)
    → Refuses true s (solo_outcome (source_garbler file garbler) solo)
unfolding solo_outcome
solo-garbler solo file garbler loaded program s read planned refused =
    after_first s (source_of file) loaded (to_planned solo garbler Absent) read
    (after_first s (program_for solo.limits loaded) program (to_garbler garbler Absent loaded) planned
    (at_first s (numbers_of party.Garbler loaded garbler) (to_evaluator loaded Absent program) refused))

-- the evaluator's text is refused
pub solo-evaluator : (solo : SoloRequest) (file garbler evaluator : File) (loaded : Loaded) (program : MemProgram)
    (numbers : List (List ℕ)) (s : Refusal)
    → source_of file ≡ Ok loaded → program_for solo.limits loaded ≡ Ok program
    → numbers_of party.Garbler loaded garbler ≡ Ok numbers
    → Refuses true s (numbers_of party.Evaluator loaded evaluator)
    → Refuses true s (solo_outcome (all_three file garbler evaluator) solo)
unfolding solo_outcome
solo-evaluator solo file garbler evaluator loaded program numbers s read planned read_too refused =
    after_first s (source_of file) loaded (to_planned solo garbler evaluator) read
    (after_first s (program_for solo.limits loaded) program (to_garbler garbler evaluator loaded) planned
    (after_first s (numbers_of party.Garbler loaded garbler) numbers (to_evaluator loaded evaluator program) read_too
    (at_first s (numbers_of party.Evaluator loaded evaluator) (to_run loaded program numbers) refused)))

-- all is read
pub solo-all : (solo : SoloRequest) (found : Found) (loaded : Loaded) (program : MemProgram)
    (numbers given : List (List ℕ))
    → source_of found.source ≡ Ok loaded → program_for solo.limits loaded ≡ Ok program
    → numbers_of party.Garbler loaded found.garbler ≡ Ok numbers
    → numbers_of party.Evaluator loaded found.evaluator ≡ Ok given
    → solo_outcome found solo
    ≡ Ok (runs (said_of loaded (record { garbler = numbers; evaluator = given })) (moves_of program))
unfolding solo_outcome
solo-all solo found loaded program numbers given read planned read_too read_last =
    let done = runs (said_of loaded (record { garbler = numbers; evaluator = given })) (moves_of program) in
    both_done (source_of found.source) loaded (to_planned solo found.garbler found.evaluator) done read
    (both_done (program_for solo.limits loaded) program (to_garbler found.garbler found.evaluator loaded) done planned
    (both_done (numbers_of party.Garbler loaded found.garbler) numbers (to_evaluator loaded found.evaluator program) done read_too
    (ap (λ step. step >>= to_run loaded program numbers) read_last)))

-- ---- `stats`

-- what comes after the costs
abbrev to_text : List WorkerStats → Result Done Refusal
to_text workers = Ok (says (summary_text workers))

-- what comes after the source
abbrev to_costs : StatsRequest → Loaded → Result Done Refusal
to_costs stats loaded = costs_of stats.limits loaded >>= to_text

-- the source is refused
pub stats-source : (stats : StatsRequest) (file : File) (s : Refusal)
    → Refuses true s (source_of file) → Refuses true s (stats_outcome (only_source file) stats)
unfolding stats_outcome
stats-source stats file s refused = at_first s (source_of file) (to_costs stats) refused

-- a limit is too low
pub stats-limits : (stats : StatsRequest) (file : File) (loaded : Loaded) (s : Refusal)
    → source_of file ≡ Ok loaded → Refuses true s (costs_of stats.limits loaded)
    → Refuses true s (stats_outcome (only_source file) stats)
unfolding stats_outcome
stats-limits stats file loaded s read refused =
    after_first s (source_of file) loaded (to_costs stats) read
    (at_first s (costs_of stats.limits loaded) to_text refused)

-- all is counted
pub stats-all : (stats : StatsRequest) (file : File) (loaded : Loaded) (costs : List WorkerStats)
    → source_of file ≡ Ok loaded → costs_of stats.limits loaded ≡ Ok costs
    → stats_outcome (only_source file) stats ≡ Ok (says (summary_text costs))
unfolding stats_outcome
stats-all stats file loaded costs read counted =
    both_done (source_of file) loaded (to_costs stats) (says (summary_text costs)) read
    (ap (λ step. step >>= to_text) counted)

-- ---- `deal`

-- what comes after the seed
abbrev to_files : DealRequest → Loaded → (evaluator : List (List ℕ)) → (seed : List ℕ) → Result Done Refusal
to_files deal loaded evaluator seed = Ok (deals deal.labels loaded.program seed evaluator)

-- what comes after the evaluator's numbers
abbrev to_seed : DealRequest → (seed : File) → Loaded → (evaluator : List (List ℕ)) → Result Done Refusal
to_seed deal seed loaded evaluator = seed_of seed >>= to_files deal loaded evaluator

-- what comes after the source
abbrev to_numbers : DealRequest → (evaluator seed : File) → Loaded → Result Done Refusal
to_numbers deal evaluator seed loaded =
    numbers_of party.Evaluator loaded evaluator >>= to_seed deal seed loaded

-- the source is refused
pub deal-source : (deal : DealRequest) (file : File) (s : Refusal)
    → Refuses true s (source_of file) → Refuses true s (deal_outcome (only_source file) deal)
unfolding deal_outcome
deal-source deal file s refused = at_first s (source_of file) (to_numbers deal Absent Absent) refused

-- the evaluator's text is refused
pub deal-evaluator : (deal : DealRequest) (file evaluator : File) (loaded : Loaded) (s : Refusal)
    → source_of file ≡ Ok loaded → Refuses true s (numbers_of party.Evaluator loaded evaluator)
    → Refuses true s (deal_outcome (for_deal file evaluator Absent) deal)
unfolding deal_outcome
deal-evaluator deal file evaluator loaded s read refused =
    after_first s (source_of file) loaded (to_numbers deal evaluator Absent) read
    (at_first s (numbers_of party.Evaluator loaded evaluator) (to_seed deal Absent loaded) refused)

-- the seed is refused
pub deal-seed : (deal : DealRequest) (file evaluator seed : File) (loaded : Loaded)
    (numbers : List (List ℕ)) (s : Refusal)
    → source_of file ≡ Ok loaded → numbers_of party.Evaluator loaded evaluator ≡ Ok numbers
    → Refuses true s (seed_of seed)
    → Refuses true s (deal_outcome (for_deal file evaluator seed) deal)
unfolding deal_outcome
deal-seed deal file evaluator seed loaded numbers s read read_too refused =
    after_first s (source_of file) loaded (to_numbers deal evaluator seed) read
    (after_first s (numbers_of party.Evaluator loaded evaluator) numbers (to_seed deal seed loaded) read_too
    (at_first s (seed_of seed) (to_files deal loaded numbers) refused))

-- ---- the same where the desk tells its files

-- what is refused as a step is
pub told_so : {T U : Type 0} (steady : Bool) (s : Refusal) (a : Result T Refusal) (b : Result U Refusal)
    → (a ≡ Err s → b ≡ Err s) → Refuses steady s a → Refuses steady s b
told_so steady refusal.Desk a b f r = λ sure. f (r sure)
told_so steady refusal.Memory a b f r = tt
told_so steady other a b f r = f r

-- The seed is refused, of a desk that is as it was but for its count of faults.
pub deal-seed-told : (steady : Bool) (files : Option Files) (deal : DealRequest) (loaded : Loaded) (numbers : List (List ℕ)) (s : Refusal)
    → IfSome files (λ f. source_of (file_at f deal.source MOST_BYTES) ≡ Ok loaded)
    → IfSome files (λ f. numbers_of party.Evaluator loaded (file_named f deal.evaluator INPUT_LIMIT) ≡ Ok numbers)
    → IfSome files (λ f. Refuses steady s (seed_of (file_at f deal.seed SEED_BYTES)))
    → IfSome files (λ f. Refuses steady s (deal_outcome (found_in f (Deal deal)) deal))
unfolding deal_outcome
deal-seed-told steady None deal loaded numbers s read read_too refused = tt
deal-seed-told steady (Some f) deal loaded numbers s read read_too refused =
    let evaluator = file_named f deal.evaluator INPUT_LIMIT in
    let seed = file_at f deal.seed SEED_BYTES in
    told_so steady s (seed_of seed) (source_of (file_at f deal.source MOST_BYTES) >>= to_numbers deal evaluator seed)
    (λ e. ap (λ step. step >>= to_numbers deal evaluator seed) read
    ∙ (ap (λ step. step >>= to_seed deal seed loaded) read_too ∙ ap (λ step. step >>= to_files deal loaded numbers) e)) refused

-- all is read
pub deal-all : (deal : DealRequest) (file evaluator seed : File) (loaded : Loaded)
    (numbers : List (List ℕ)) (bytes : List ℕ)
    → source_of file ≡ Ok loaded → numbers_of party.Evaluator loaded evaluator ≡ Ok numbers
    → seed_of seed ≡ Ok bytes
    → deal_outcome (for_deal file evaluator seed) deal
    ≡ Ok (deals deal.labels loaded.program bytes numbers)
unfolding deal_outcome
deal-all deal file evaluator seed loaded numbers bytes read read_too has =
    let done = deals deal.labels loaded.program bytes numbers in
    both_done (source_of file) loaded (to_numbers deal evaluator seed) done read
    (both_done (numbers_of party.Evaluator loaded evaluator) numbers (to_seed deal seed loaded) done read_too
    (ap (λ step. step >>= to_files deal loaded numbers) has))

-- `solo` where the desk tells its files: the evaluator's text is refused, and all is read
pub solo-evaluator-told : (steady : Bool) (files : Option Files) (solo : SoloRequest) (loaded : Loaded) (program : MemProgram) (numbers : List (List ℕ)) (s : Refusal)
    → IfSome files (λ f. source_of (file_at f solo.source MOST_BYTES) ≡ Ok loaded)
    → program_for solo.limits loaded ≡ Ok program
    → IfSome files (λ f. numbers_of party.Garbler loaded (file_named f (garbler_of solo.driver) INPUT_LIMIT) ≡ Ok numbers)
    → IfSome files (λ f. Refuses steady s (numbers_of party.Evaluator loaded (file_named f (evaluator_of solo.driver) INPUT_LIMIT)))
    → IfSome files (λ f. Refuses steady s (solo_outcome (found_in f (Solo solo)) solo))
unfolding solo_outcome
solo-evaluator-told steady None solo loaded program numbers s read planned read_too refused = tt
solo-evaluator-told steady (Some f) solo loaded program numbers s read planned read_too refused =
    let garbler = file_named f (garbler_of solo.driver) INPUT_LIMIT in
    let evaluator = file_named f (evaluator_of solo.driver) INPUT_LIMIT in
    told_so steady s (numbers_of party.Evaluator loaded evaluator) (source_of (file_at f solo.source MOST_BYTES) >>= to_planned solo garbler evaluator)
    (λ e. ap (λ step. step >>= to_planned solo garbler evaluator) read
    ∙ (ap (λ step. step >>= to_garbler garbler evaluator loaded) planned
    ∙ (ap (λ step. step >>= to_evaluator loaded evaluator program) read_too ∙ ap (λ step. step >>= to_run loaded program numbers) e))) refused

-- ---- the words

-- the words ask for nothing
pub work-words : (found : Found) (words : List (List ℕ)) (s : Refusal)
    → Refuses true s (ok_or (asked_of words) refusal.Words) → Refuses true s (outcome_of found words)
unfolding outcome_of
work-words found words s refused =
    at_first s (ok_or (asked_of words) refusal.Words) (outcome_for found) refused
