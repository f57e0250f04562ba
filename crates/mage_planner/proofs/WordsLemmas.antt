-- Only words that ask for nothing come to the refusal of words.
use Rattle.std.proofs.Common.{◌≡◌, ◌==◌, ◌+◌, ◌*◌, ℕ, List, [], ◌∷◌, length, Bool, cond, true, false, Option, Some, None, Result, Ok, Err, ok_or, refl, sym, ap, subst, ◌∙◌, inl, inr, arith}
use Rattle.mage_chains.specs.Chains.{◌>>=◌}
use Rattle.mage_base.specs.Desk.{DeskTold}
use Rattle.mage_instr.specs.declared.instr.Instr.{Instr}
use Rattle.mage_instr.specs.declared.party.Party.{Party}
use Rattle.mage_instr.specs.declared.party.Party.TheVariants as party
use Rattle.mage_instr.specs.declared.replaced.Limits.{Limits}
use Rattle.mage_instr.specs.Inputs.{input_widths_of}
use Rattle.mage_label_files.specs.Labels.{labels_from, wires_in}
use Rattle.mage_lex.specs.declared.fault.LangFault.{LangFault}
use Rattle.mage_lex.specs.declared.fault.LangFault.TheVariants as lang
use Rattle.mage_pipe.specs.declared.loaded.Loaded.{Loaded}
use Rattle.mage_pipe.specs.declared.fault.PlanFault.{PlanFault}
use Rattle.mage_pipe.specs.declared.fault.PlanFault.TheVariants as plan
use Rattle.mage_pipe.specs.Loading.{loaded_of}
use Rattle.mage_pipe.specs.Summary.{stats_of}
use Rattle.mage_pipe.specs.MemoryProgram.{memory_program_of}
use Rattle.mage_carry.specs.declared.carry.Carry.{Carry}
use Rattle.mage_carry.specs.declared.carry.Carry.TheVariants as carry
use Rattle.mage_file.specs.declared.fault.FileFault.{FileFault}
use Rattle.mage_file.specs.declared.fault.FileFault.TheVariants as spelled
use Rattle.mage_file.specs.Grammar.{read_of, read_first_of}
use Rattle.mage_verify.specs.declared.fault.VerifyFault.{VerifyFault}
use Rattle.mage_verify.specs.declared.fault.VerifyFault.TheVariants as verified
use Rattle.mage_verify.specs.Faults.{fault_of}
use Rattle.mage_texts.specs.InputText.{inputs_of}
use Rattle.mage_source_runs.specs.Moves.{moves_of}
use Rattle.mage_words.specs.Words.{Driver, Plain, Garble, Eval, Request, Solo, Stats, Deal, Plan, Check, Upgrade, Gen, SoloRequest, StatsRequest, DealRequest, PlanRequest, CheckRequest, UpgradeRequest, GenRequest, request_of}
use Rattle.mage_planner.specs.declared.refusal.Refusal.{Refusal}
use Rattle.mage_planner.specs.declared.refusal.Refusal.TheVariants as refusal
use Rattle.mage_planner.specs.declared.status.Status.{Status}
use Rattle.mage_planner.specs.declared.status.Status.TheVariants as status
use Rattle.mage_planner.specs.Lines.{status_of}
use Rattle.mage_planner.specs.Outcome.{Done, says, runs, deals, bytes_or, or_language, or_limits, or_line, long_source, said_of, source_of, costs_of, program_for, if_seed, seed_of, numbers_of, plans, or_file, unless_faulty, long_program, program_of, carry_of, carried_or, first_program_of, renamed_of, upgrades, solo_outcome, stats_outcome, deal_outcome, plan_outcome, check_outcome, upgrade_outcome, gen_outcome, found_for_gen, solo_for, stats_for, generates, generated_files, outcome_for, outcome_of, asked_of, garbles, garble_outcome, if_labels, labels_due, labels_of, evaluates, eval_outcome, driven_outcome}
use Rattle.mage_planner.specs.Found.{File, Absent, Long, Held, Found, SEED_BYTES}
use Rattle.mage_planner.specs.SummaryText.{summary_text}
use Rattle.mage_planner.specs.Warned.{IsOrMemory}
use Rattle.mage_planner.specs.Answer.{Works, ComesFrom, IsWordsOrMemory, FillsNoStream, WritesNoFile, RunsNothing}

-- another refusal than that of the words, and none of a store or a stream, or none
abbrev IsOther : Refusal → Type 0
IsOther refusal.Words = ⊥
IsOther (refusal.Store worker) = ⊥
IsOther (refusal.Damaged worker damage) = ⊥
IsOther (refusal.Stream worker fault) = ⊥
IsOther other = Unit {0}

abbrev NoWords : {T : Type 0} → Result T Refusal → Type 0
NoWords (Ok x) = Unit {0}
NoWords (Err other) = IsOther other

then_other : {A B : Type 0} (r : Result A Refusal) (f : A → Result B Refusal)
    → NoWords r → ((x : A) → NoWords (f x)) → NoWords (r >>= f)
then_other (Ok x) f first next = next x
then_other (Err other) f first next = first

bytes_other : (too_long : Refusal) (file : File) → IsOther too_long
    → NoWords (bytes_or too_long file)
bytes_other too_long Absent other = tt
bytes_other too_long Long other = other
bytes_other too_long (Held bytes) other = tt

language_other : {T : Type 0} (r : Result T LangFault) → NoWords (or_language r)
language_other (Ok x) = tt
language_other (Err (lang.At kind line column)) = tt
language_other (Err lang.Memory) = tt

limits_other : {T : Type 0} (r : Result T PlanFault) → NoWords (or_limits r)
limits_other (Ok x) = tt
limits_other (Err (plan.Lang (lang.At kind line column))) = tt
limits_other (Err (plan.Lang lang.Memory)) = tt
limits_other (Err (plan.Tight worker tight)) = tt
limits_other (Err plan.Memory) = tt

line_other : (whose : Party) (r : Result (List (List ℕ)) ℕ) → NoWords (or_line whose r)
line_other whose (Ok numbers) = tt
line_other whose (Err line) = tt

source_other : (file : File) → NoWords (source_of file)
unfolding source_of
source_other file =
    then_other (bytes_or long_source file) (λ text. or_language (loaded_of text))
    (bytes_other long_source file tt) (λ text. language_other (loaded_of text))

costs_other : (limits : Limits) (loaded : Loaded) → NoWords (costs_of limits loaded)
costs_other limits loaded = limits_other (stats_of limits loaded.program.workers)

program_other_for : (limits : Limits) (loaded : Loaded) → NoWords (program_for limits loaded)
program_other_for limits loaded = limits_other (memory_program_of limits loaded.program.workers)

numbers_other : (whose : Party) (loaded : Loaded) (file : File)
    → NoWords (numbers_of whose loaded file)
unfolding numbers_of
numbers_other whose loaded file =
    then_other (bytes_or (refusal.InputTooLong whose) file)
    (λ text. or_line whose (inputs_of text (input_widths_of whose loaded.program)))
    (bytes_other (refusal.InputTooLong whose) file tt)
    (λ text. line_other whose (inputs_of text (input_widths_of whose loaded.program)))

solo_other : (found : Found) (solo : SoloRequest) → NoWords (solo_outcome found solo)
unfolding solo_outcome
solo_other found solo =
    then_other (source_of found.source) _ (source_other found.source) (λ loaded.
    then_other (program_for solo.limits loaded) _ (program_other_for solo.limits loaded) (λ program.
    then_other (numbers_of party.Garbler loaded found.garbler) _
    (numbers_other party.Garbler loaded found.garbler) (λ garbler.
    then_other (numbers_of party.Evaluator loaded found.evaluator)
    (λ evaluator. Ok (runs (said_of loaded (record { garbler = garbler; evaluator = evaluator })) (moves_of program)))
    (numbers_other party.Evaluator loaded found.evaluator) (λ evaluator. tt))))

stats_other : (found : Found) (stats : StatsRequest) → NoWords (stats_outcome found stats)
unfolding stats_outcome
stats_other found stats =
    then_other (source_of found.source) _ (source_other found.source) (λ loaded.
    then_other (costs_of stats.limits loaded) (λ costs. Ok (says (summary_text costs)))
    (costs_other stats.limits loaded) (λ costs. tt))

if_seed_other : (bytes : List ℕ) → NoWords (if_seed bytes)
if_seed_other bytes = go (length bytes == SEED_BYTES) where
  go : (b : Bool) → NoWords (cond b (Ok bytes) (Err refusal.InputSeed))
  go true = tt
  go false = tt

seed_other : (file : File) → NoWords (seed_of file)
unfolding seed_of
seed_other file = then_other (bytes_or refusal.InputSeed file) if_seed (bytes_other refusal.InputSeed file tt) if_seed_other

deal_other : (found : Found) (deal : DealRequest) → NoWords (deal_outcome found deal)
unfolding deal_outcome
deal_other found deal =
    then_other (source_of found.source) _ (source_other found.source) (λ loaded.
    then_other (numbers_of party.Evaluator loaded found.evaluator) _
    (numbers_other party.Evaluator loaded found.evaluator) (λ evaluator.
    then_other (seed_of found.seed) (λ seed. Ok (deals deal.labels loaded.program seed evaluator))
    (seed_other found.seed) (λ seed. tt)))

plan_other : (found : Found) (plan : PlanRequest) → NoWords (plan_outcome found plan)
unfolding plan_outcome
plan_other found plan =
    then_other (source_of found.source) _ (source_other found.source) (λ loaded.
    then_other (program_for plan.limits loaded) _ (program_other_for plan.limits loaded) (λ program.
    then_other (costs_of plan.limits loaded) (λ costs. Ok (plans plan.out program costs))
    (costs_other plan.limits loaded) (λ costs. tt)))

file_other : {T : Type 0} (r : Result T FileFault) → NoWords (or_file r)
file_other (Ok x) = tt
file_other (Err spelled.Long) = tt
file_other (Err spelled.Magic) = tt
file_other (Err spelled.Version) = tt
file_other (Err (spelled.Short place)) = tt
file_other (Err (spelled.Field place)) = tt
file_other (Err (spelled.Extra place)) = tt
file_other (Err spelled.Memory) = tt

faulty_other : {T : Type 0} (o : Option VerifyFault) (x : T) → NoWords (unless_faulty o x)
faulty_other None x = tt
faulty_other (Some (verified.Range worker directive)) x = tt
faulty_other (Some (verified.SlotState worker directive)) x = tt
faulty_other (Some (verified.PageState worker directive)) x = tt
faulty_other (Some (verified.Width worker directive)) x = tt
faulty_other (Some (verified.Links worker directive)) x = tt
faulty_other (Some verified.Memory) x = tt

carried_other : (judged : Carry) → NoWords (carried_or judged)
carried_other carry.Yes = tt
carried_other (carry.No worker directive) = tt

program_other : (file : File) → NoWords (program_of file)
unfolding program_of
program_other file =
    then_other (bytes_or long_program file) (λ bytes. or_file (read_of bytes))
    (bytes_other long_program file tt) (λ bytes. file_other (read_of bytes))

check_other : (found : Found) (check : CheckRequest) → NoWords (check_outcome found check)
unfolding check_outcome
check_other found check =
    then_other (source_of found.source) _ (source_other found.source) (λ loaded.
    then_other (program_of found.program) _ (program_other found.program) (λ program.
    then_other (carry_of loaded.program program) carried_or
    (faulty_other (fault_of program) _) carried_other))

first_other : (file : File) → NoWords (first_program_of file)
unfolding first_program_of
first_other file =
    then_other (bytes_or long_program file) (λ bytes. or_file (read_first_of bytes))
    (bytes_other long_program file tt) (λ bytes. file_other (read_first_of bytes))

upgrade_other : (found : Found) (upgrade : UpgradeRequest) → NoWords (upgrade_outcome found upgrade)
unfolding upgrade_outcome
upgrade_other found upgrade =
    then_other (first_program_of found.program) _ (first_other found.program) (λ program.
    then_other (renamed_of program) (λ renamed. Ok (upgrades upgrade.out renamed))
    (faulty_other (fault_of program) _) (λ renamed. tt))

gen_other : (gen : GenRequest) → NoWords (gen_outcome gen)
unfolding gen_outcome
gen_other gen =
    then_other (solo_outcome (found_for_gen gen) (solo_for gen)) _ (solo_other (found_for_gen gen) (solo_for gen)) (λ run.
    then_other (stats_outcome (found_for_gen gen) (stats_for gen)) (λ summary. Ok (generates (generated_files gen) summary.said run))
    (stats_other (found_for_gen gen) (stats_for gen)) (λ summary. tt))

garble_other : (found : Found) (limits : Limits) (stream : List ℕ) → NoWords (garble_outcome found limits stream)
unfolding garble_outcome
garble_other found limits stream =
    then_other (source_of found.source) _ (source_other found.source) (λ loaded.
    then_other (program_for limits loaded) _ (program_other_for limits loaded) (λ program.
    then_other (numbers_of party.Garbler loaded found.garbler) _ (numbers_other party.Garbler loaded found.garbler) (λ garbler.
    then_other (seed_of found.seed) (λ seed. Ok (garbles stream loaded.program seed garbler (moves_of program)))
    (seed_other found.seed) (λ seed. tt))))

if_labels_other : (wires worker : ℕ) (bytes : List ℕ) → NoWords (if_labels wires worker bytes)
if_labels_other wires worker bytes = go (length bytes == 16 * wires) where
  go : (b : Bool) → NoWords (cond b (Ok (labels_from wires bytes)) (Err (refusal.InputLabels worker)))
  go true = tt
  go false = tt

due_other : (wires worker : ℕ) (file : File) → NoWords (labels_due wires worker file)
unfolding labels_due
due_other wires worker file =
    then_other (bytes_or (refusal.InputLabels worker) file) (if_labels wires worker) (bytes_other (refusal.InputLabels worker) file tt) (if_labels_other wires worker)

labels_other : (files : ℕ → File) (first : ℕ) (workers : List (List Instr)) → NoWords (labels_of files first workers)
labels_other files first [] = tt
labels_other files first (instrs ∷ workers) =
    then_other (labels_due (wires_in instrs) first (files first)) _ (due_other (wires_in instrs) first (files first)) (λ own.
    then_other (labels_of files (first + 1) workers) (λ others. Ok (own ∷ others)) (labels_other files (first + 1) workers) (λ others. tt))

eval_other : (found : Found) (limits : Limits) (stream : List ℕ) → NoWords (eval_outcome found limits stream)
unfolding eval_outcome
eval_other found limits stream =
    then_other (source_of found.source) _ (source_other found.source) (λ loaded.
    then_other (program_for limits loaded) _ (program_other_for limits loaded) (λ program.
    then_other (labels_of found.labels 0 loaded.program.workers) (λ labels. Ok (evaluates stream loaded.program labels found.streams (moves_of program)))
    (labels_other found.labels 0 loaded.program.workers) (λ labels. tt)))

driven_other : (driver : Driver) (found : Found) (solo : SoloRequest) → NoWords (driven_outcome driver found solo)
driven_other (Plain garbler evaluator) found solo = solo_other found solo
driven_other (Garble garbler seed stream) found solo = garble_other found solo.limits stream
driven_other (Eval stream labels) found solo = eval_other found solo.limits stream

words_only : (outcome : Result Done Refusal) → NoWords outcome → outcome ≡ Err refusal.Words → ⊥
words_only (Ok done) other e = cc
words_only (Err why) other e = words_not why other (cc) where
  words_not : (why : Refusal) → IsOther why → why ≡ refusal.Words → ⊥
  words_not refusal.Words other e = other
  words_not why other e = cc

-- the words ask for nothing where the outcome is their refusal
asks_nothing : (found : Found) (asked : Option Request)
    → (ok_or asked refusal.Words >>= outcome_for found) ≡ Err refusal.Words → asked ≡ None
asks_nothing found None e = refl
asks_nothing found (Some (Solo solo)) e = absurd (words_only (driven_outcome solo.driver found solo) (driven_other solo.driver found solo) e)
asks_nothing found (Some (Stats stats)) e = absurd (words_only (stats_outcome found stats) (stats_other found stats) e)
asks_nothing found (Some (Deal deal)) e = absurd (words_only (deal_outcome found deal) (deal_other found deal) e)
asks_nothing found (Some (Plan plan)) e = absurd (words_only (plan_outcome found plan) (plan_other found plan) e)
asks_nothing found (Some (Check check)) e = absurd (words_only (check_outcome found check) (check_other found check) e)
asks_nothing found (Some (Upgrade upgrade)) e = absurd (words_only (upgrade_outcome found upgrade) (upgrade_other found upgrade) e)
asks_nothing found (Some (Gen gen)) e = absurd (words_only (gen_outcome gen) (gen_other gen) e)

is_words : (why : Refusal) → status_of why ≡ status.Words → why ≡ refusal.Words
is_words refusal.Words e = refl
is_words why e = cc

-- what comes from the refusal of words
from_words : (why : Refusal) → ComesFrom true (Err refusal.Words) why
    → IsWordsOrMemory (status_of why)
from_words refusal.Words comes = tt
from_words refusal.Memory comes = tt
from_words refusal.Desk comes = let e = comes refl in cc
from_words (refusal.Store worker) comes = absurd (omega (arith, comes))
from_words (refusal.Damaged worker damage) comes = absurd (omega (arith, comes))
from_words (refusal.Stream worker fault) comes = let inside = comes.0 in absurd (omega (arith, inside))
from_words why comes = cc

-- the status of a warned refusal is that of the words just where these ask for nothing, but for want of
-- memory
pub words_refused : (own warned : Refusal) (answer : Status)
    → answer ≡ status_of warned → IsOrMemory own warned
    → (words : List (List ℕ)) (before between : DeskTold)
    → (found : Found) × Works {T = Unit {0}} true (outcome_of found words) (Err own) before between
    → (answer ≡ status.Words → asked_of words ≡ None)
    × (asked_of words ≡ None → IsWordsOrMemory answer)
unfolding outcome_of
words_refused own warned answer is (inl same) words before between works = (
  λ answered. let e = is_words warned (rw (← is) answered) in
      asks_nothing works.0 (request_of words) (rw (← same, e) at works.1.0),
  λ nothing. rw is (from_words warned (rw same (rw nothing at works.1.0))),
)
words_refused own warned answer is (inr memory) words before between works =
    (λ answered. cc, λ nothing. rw (is, memory.0) tt)

-- nothing is done where the words ask for nothing
pub words_done : (words : List (List ℕ)) (before after : DeskTold)
    → (found : Found) × Works {T = Unit {0}} true (outcome_of found words) (Ok tt) before after
    → (status.Ok ≡ status.Words → asked_of words ≡ None)
    × (asked_of words ≡ None → IsWordsOrMemory status.Ok)
unfolding outcome_of
words_done words before after works = (λ same. cc, λ nothing. rw nothing at works.1)

-- ---- commands that write no file

pub then_ok : {A B : Type 0} (r : Result A Refusal) (f : A → Result B Refusal) (y : B) → (r >>= f) ≡ Ok y → (x : A) × (f x ≡ Ok y)
then_ok (Ok x) f y is = (x, is)
then_ok (Err why) f y is = cc

pub same_done : (x done : Done) → ◌≡◌ {A = Result Done Refusal} (Ok x) (Ok done) → x ≡ done
same_done x done is = cc

-- what is done writes no file and fills no stream
abbrev pub IsBare : Done → Type 0
IsBare done = (done.files ≡ []) × (done.streams ≡ [])

bare_too : (x done : Done) → IsBare x → ◌≡◌ {A = Result Done Refusal} (Ok x) (Ok done) → IsBare done
bare_too x done bare is = subst IsBare (same_done x done is) bare

says_no_file : (text : List ℕ) (done : Done) → ◌≡◌ {A = Result Done Refusal} (Ok (says text)) (Ok done) → IsBare done
says_no_file text done is = bare_too (says text) done (refl, refl) is

solo_writes_none : (found : Found) (solo : SoloRequest) (done : Done) → solo_outcome found solo ≡ Ok done → IsBare done
unfolding solo_outcome
solo_writes_none found solo done is =
    let loaded = then_ok (source_of found.source) _ done is in
    let program = then_ok (program_for solo.limits loaded.0) _ done loaded.1 in
    let garbler = then_ok (numbers_of party.Garbler loaded.0 found.garbler) _ done program.1 in
    let evaluator = then_ok (numbers_of party.Evaluator loaded.0 found.evaluator) _ done garbler.1 in
    bare_too _ done (refl, refl) evaluator.1

eval_writes_none : (found : Found) (limits : Limits) (stream : List ℕ) (done : Done) → eval_outcome found limits stream ≡ Ok done → IsBare done
unfolding eval_outcome
eval_writes_none found limits stream done is =
    let loaded = then_ok (source_of found.source) _ done is in
    let program = then_ok (program_for limits loaded.0) _ done loaded.1 in
    let labels = then_ok (labels_of found.labels 0 loaded.0.program.workers) _ done program.1 in
    bare_too _ done (refl, refl) labels.1

-- over a driver that fills no stream
driven_writes_none : (driver : Driver) (found : Found) (solo : SoloRequest) (done : Done) → FillsNoStream driver → driven_outcome driver found solo ≡ Ok done → IsBare done
driven_writes_none (Plain garbler evaluator) found solo done none is = solo_writes_none found solo done is
driven_writes_none (Garble garbler seed stream) found solo done none is = absurd none
driven_writes_none (Eval stream labels) found solo done none is = eval_writes_none found solo.limits stream done is

stats_writes_none : (found : Found) (stats : StatsRequest) (done : Done) → stats_outcome found stats ≡ Ok done → IsBare done
unfolding stats_outcome
stats_writes_none found stats done is =
    let loaded = then_ok (source_of found.source) _ done is in
    let costs = then_ok (costs_of stats.limits loaded.0) _ done loaded.1 in
    says_no_file _ done costs.1

-- what carries says a text
carried_none : (judged : Carry) (done : Done) → carried_or judged ≡ Ok done → IsBare done
carried_none carry.Yes done is = says_no_file _ done is
carried_none (carry.No worker directive) done is = cc

check_writes_none : (found : Found) (check : CheckRequest) (done : Done) → check_outcome found check ≡ Ok done → IsBare done
unfolding check_outcome
check_writes_none found check done is =
    let loaded = then_ok (source_of found.source) _ done is in
    let program = then_ok (program_of found.program) _ done loaded.1 in
    let judged = then_ok (carry_of loaded.0.program program.0) _ done program.1 in
    carried_none judged.0 done judged.1

-- what is done by words that ask for no file has none
pub writes_none_of : (found : Found) (words : List (List ℕ)) (done : Done) → WritesNoFile (asked_of words) → outcome_of found words ≡ Ok done → IsBare done
unfolding outcome_of
writes_none_of found words done none is = go (asked_of words) none is where
  go : (asked : Option Request) → WritesNoFile asked → (ok_or asked refusal.Words >>= outcome_for found) ≡ Ok done → IsBare done
  go None none is = cc
  go (Some (Solo solo)) none is = driven_writes_none solo.driver found solo done none is
  go (Some (Stats stats)) none is = stats_writes_none found stats done is
  go (Some (Deal deal)) none is = absurd none
  go (Some (Plan plan)) none is = absurd none
  go (Some (Check check)) none is = check_writes_none found check done is
  go (Some (Upgrade upgrade)) none is = absurd none
  go (Some (Gen gen)) none is = absurd none

-- ---- commands that ask for no store

-- what is done so asks for none
no_moves : (x done : Done) → x.moves ≡ [] → ◌≡◌ {A = Result Done Refusal} (Ok x) (Ok done) → done.moves ≡ []
no_moves x done none is = ap (λ (d : Done). d.moves) (sym (same_done x done is)) ∙ none

stats_moves_none : (found : Found) (stats : StatsRequest) (done : Done) → stats_outcome found stats ≡ Ok done → done.moves ≡ []
unfolding stats_outcome
stats_moves_none found stats done is =
    let loaded = then_ok (source_of found.source) _ done is in
    let costs = then_ok (costs_of stats.limits loaded.0) _ done loaded.1 in
    no_moves _ done refl costs.1

deal_moves_none : (found : Found) (deal : DealRequest) (done : Done) → deal_outcome found deal ≡ Ok done → done.moves ≡ []
unfolding deal_outcome
deal_moves_none found deal done is =
    let loaded = then_ok (source_of found.source) _ done is in
    let evaluator = then_ok (numbers_of party.Evaluator loaded.0 found.evaluator) _ done loaded.1 in
    let seed = then_ok (seed_of found.seed) _ done evaluator.1 in
    no_moves _ done refl seed.1

plan_moves_none : (found : Found) (plan : PlanRequest) (done : Done) → plan_outcome found plan ≡ Ok done → done.moves ≡ []
unfolding plan_outcome
plan_moves_none found plan done is =
    let loaded = then_ok (source_of found.source) _ done is in
    let program = then_ok (program_for plan.limits loaded.0) _ done loaded.1 in
    let costs = then_ok (costs_of plan.limits loaded.0) _ done program.1 in
    no_moves _ done refl costs.1

carried_moves_none : (judged : Carry) (done : Done) → carried_or judged ≡ Ok done → done.moves ≡ []
carried_moves_none carry.Yes done is = no_moves _ done refl is
carried_moves_none (carry.No worker directive) done is = cc

check_moves_none : (found : Found) (check : CheckRequest) (done : Done) → check_outcome found check ≡ Ok done → done.moves ≡ []
unfolding check_outcome
check_moves_none found check done is =
    let loaded = then_ok (source_of found.source) _ done is in
    let program = then_ok (program_of found.program) _ done loaded.1 in
    let judged = then_ok (carry_of loaded.0.program program.0) _ done program.1 in
    carried_moves_none judged.0 done judged.1

upgrade_moves_none : (found : Found) (upgrade : UpgradeRequest) (done : Done) → upgrade_outcome found upgrade ≡ Ok done → done.moves ≡ []
unfolding upgrade_outcome
upgrade_moves_none found upgrade done is =
    let program = then_ok (first_program_of found.program) _ done is in
    let renamed = then_ok (renamed_of program.0) _ done program.1 in
    no_moves _ done refl renamed.1

-- what is done by words that ask for no run asks for no store
pub moves_none_of : (found : Found) (words : List (List ℕ)) (done : Done) → RunsNothing (asked_of words) → outcome_of found words ≡ Ok done → done.moves ≡ []
unfolding outcome_of
moves_none_of found words done none is = go (asked_of words) none is where
  go : (asked : Option Request) → RunsNothing asked → (ok_or asked refusal.Words >>= outcome_for found) ≡ Ok done → done.moves ≡ []
  go None none is = cc
  go (Some (Solo solo)) none is = absurd none
  go (Some (Stats stats)) none is = stats_moves_none found stats done is
  go (Some (Deal deal)) none is = deal_moves_none found deal done is
  go (Some (Plan plan)) none is = plan_moves_none found plan done is
  go (Some (Check check)) none is = check_moves_none found check done is
  go (Some (Upgrade upgrade)) none is = upgrade_moves_none found upgrade done is
  go (Some (Gen gen)) none is = absurd none

-- ---- no command comes to a fault of a store or a stream by its words and files alone

-- a fault of a store or a stream
abbrev pub IsOfStore : Refusal → Type 0
IsOfStore (refusal.Store worker) = Unit {0}
IsOfStore (refusal.Damaged worker damage) = Unit {0}
IsOfStore (refusal.Stream worker fault) = Unit {0}
IsOfStore other = ⊥

not_of_store : (why : Refusal) → IsOther why → IsOfStore why → ⊥
not_of_store (refusal.Store worker) other of = other
not_of_store (refusal.Damaged worker damage) other of = other
not_of_store (refusal.Stream worker fault) other of = other
not_of_store why other of = of

not_store : (r : Result Done Refusal) → NoWords r → (why : Refusal) → IsOfStore why → r ≡ Err why → ⊥
not_store (Ok done) other why of e = cc
not_store (Err own) other why of e = let same : own ≡ why = cc in not_of_store why (rw same at other) of

not_words : (why : Refusal) → IsOfStore why → ◌≡◌ {A = Result Done Refusal} (Err refusal.Words) (Err why) → ⊥
not_words (refusal.Store worker) of e = cc
not_words (refusal.Damaged worker damage) of e = cc
not_words (refusal.Stream worker fault) of e = cc
not_words why of e = of

pub no_store_fault : (found : Found) (words : List (List ℕ)) (why : Refusal) → IsOfStore why → outcome_of found words ≡ Err why → ⊥
unfolding outcome_of
no_store_fault found words why of e = go (request_of words) e where
  go : (asked : Option Request) → (ok_or asked refusal.Words >>= outcome_for found) ≡ Err why → ⊥
  go None e = not_words why of e
  go (Some (Solo solo)) e = not_store (driven_outcome solo.driver found solo) (driven_other solo.driver found solo) why of e
  go (Some (Stats stats)) e = not_store (stats_outcome found stats) (stats_other found stats) why of e
  go (Some (Deal deal)) e = not_store (deal_outcome found deal) (deal_other found deal) why of e
  go (Some (Plan plan)) e = not_store (plan_outcome found plan) (plan_other found plan) why of e
  go (Some (Check check)) e = not_store (check_outcome found check) (check_other found check) why of e
  go (Some (Upgrade upgrade)) e = not_store (upgrade_outcome found upgrade) (upgrade_other found upgrade) why of e
  go (Some (Gen gen)) e = not_store (gen_outcome gen) (gen_other gen) why of e
