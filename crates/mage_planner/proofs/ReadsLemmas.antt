-- A command reads the stream files that the desk has.
use Rattle.std.proofs.Common.{◌≡◌, ℕ, List, Option, Some, None, Result, Ok, ok_or, refl, sym, ap, subst, ◌∙◌}
use Rattle.mage_base.specs.Desk.{Files}
use Rattle.mage_chains.specs.Chains.{◌>>=◌}
use Rattle.mage_carry.specs.declared.carry.Carry.{Carry}
use Rattle.mage_carry.specs.declared.carry.Carry.TheVariants as carry
use Rattle.mage_instr.specs.declared.party.Party.TheVariants as party
use Rattle.mage_instr.specs.declared.replaced.Limits.{Limits}
use Rattle.mage_lending.specs.Names.{worker_file}
use Rattle.mage_source_runs.specs.Moves.{moves_of}
use Rattle.mage_words.specs.Words.{Driver, Plain, Garble, Eval, Request, Solo, Stats, Deal, Plan, Check, Upgrade, Gen, SoloRequest, StatsRequest, DealRequest, PlanRequest, CheckRequest, UpgradeRequest, GenRequest}
use Rattle.mage_planner.specs.declared.refusal.Refusal.{Refusal}
use Rattle.mage_planner.specs.declared.refusal.Refusal.TheVariants as refusal
use Rattle.mage_planner.specs.Answer.{ReadsThese}
use Rattle.mage_planner.specs.Outcome.{Done, Reading, source_of, costs_of, program_for, seed_of, numbers_of, program_of, carry_of, carried_or, first_program_of, renamed_of, labels_of, evaluates, solo_outcome, stats_outcome, deal_outcome, plan_outcome, check_outcome, upgrade_outcome, gen_outcome, found_for_gen, solo_for, stats_for, garble_outcome, eval_outcome, driven_outcome, outcome_for, outcome_of, outcome_in, asked_of}
use Rattle.mage_planner.specs.Found.{Found, whole_file, streams_for, found_in, found_for}
use Rattle.mage_planner.proofs.WordsLemmas.{then_ok, same_done}

-- ---- what is read is the desk's own

-- what is done that reads no stream
reads_none : (told : Files) (x done : Done) → x.reads ≡ None → ◌≡◌ {A = Result Done Refusal} (Ok x) (Ok done) → ReadsThese (Some told) done.reads
reads_none told x done none is =
    subst (λ (reads : Option Reading). ReadsThese (Some told) reads) (sym none ∙ ap (λ (d : Done). d.reads) (same_done x done is)) tt

solo_reads_none : (told : Files) (found : Found) (solo : SoloRequest) (done : Done) → solo_outcome found solo ≡ Ok done → ReadsThese (Some told) done.reads
unfolding solo_outcome
solo_reads_none told found solo done is =
    let loaded = then_ok (source_of found.source) _ done is in
    let program = then_ok (program_for solo.limits loaded.0) _ done loaded.1 in
    let garbler = then_ok (numbers_of party.Garbler loaded.0 found.garbler) _ done program.1 in
    let evaluator = then_ok (numbers_of party.Evaluator loaded.0 found.evaluator) _ done garbler.1 in
    reads_none told _ done refl evaluator.1

garble_reads_none : (told : Files) (found : Found) (limits : Limits) (stream : List ℕ) (done : Done) → garble_outcome found limits stream ≡ Ok done → ReadsThese (Some told) done.reads
unfolding garble_outcome
garble_reads_none told found limits stream done is =
    let loaded = then_ok (source_of found.source) _ done is in
    let program = then_ok (program_for limits loaded.0) _ done loaded.1 in
    let garbler = then_ok (numbers_of party.Garbler loaded.0 found.garbler) _ done program.1 in
    let seed = then_ok (seed_of found.seed) _ done garbler.1 in
    reads_none told _ done refl seed.1

eval_reads_own : (told : Files) (found : Found) (limits : Limits) (stream : List ℕ) (done : Done) → ((worker : ℕ) → found.streams worker ≡ whole_file (told (worker_file stream worker)))
    → eval_outcome found limits stream ≡ Ok done → ReadsThese (Some told) done.reads
unfolding eval_outcome
eval_reads_own told found limits stream done own is =
    let loaded = then_ok (source_of found.source) _ done is in
    let program = then_ok (program_for limits loaded.0) _ done loaded.1 in
    let labels = then_ok (labels_of found.labels 0 loaded.0.program.workers) _ done program.1 in
    subst (λ (reads : Option Reading). ReadsThese (Some told) reads)
    (ap (λ (d : Done). d.reads) (same_done (evaluates stream loaded.0.program labels.0 found.streams (moves_of program.0)) done labels.1)) own

driven_reads_own : (told : Files) (driver : Driver) (found : Found) (solo : SoloRequest) (done : Done) → ((worker : ℕ) → found.streams worker ≡ streams_for told driver worker)
    → driven_outcome driver found solo ≡ Ok done → ReadsThese (Some told) done.reads
driven_reads_own told (Plain garbler evaluator) found solo done own is = solo_reads_none told found solo done is
driven_reads_own told (Garble garbler seed stream) found solo done own is = garble_reads_none told found solo.limits stream done is
driven_reads_own told (Eval stream labels) found solo done own is = eval_reads_own told found solo.limits stream done own is

stats_reads_none : (told : Files) (found : Found) (stats : StatsRequest) (done : Done) → stats_outcome found stats ≡ Ok done → ReadsThese (Some told) done.reads
unfolding stats_outcome
stats_reads_none told found stats done is =
    let loaded = then_ok (source_of found.source) _ done is in
    let costs = then_ok (costs_of stats.limits loaded.0) _ done loaded.1 in
    reads_none told _ done refl costs.1

deal_reads_none : (told : Files) (found : Found) (deal : DealRequest) (done : Done) → deal_outcome found deal ≡ Ok done → ReadsThese (Some told) done.reads
unfolding deal_outcome
deal_reads_none told found deal done is =
    let loaded = then_ok (source_of found.source) _ done is in
    let evaluator = then_ok (numbers_of party.Evaluator loaded.0 found.evaluator) _ done loaded.1 in
    let seed = then_ok (seed_of found.seed) _ done evaluator.1 in
    reads_none told _ done refl seed.1

plan_reads_none : (told : Files) (found : Found) (plan : PlanRequest) (done : Done) → plan_outcome found plan ≡ Ok done → ReadsThese (Some told) done.reads
unfolding plan_outcome
plan_reads_none told found plan done is =
    let loaded = then_ok (source_of found.source) _ done is in
    let program = then_ok (program_for plan.limits loaded.0) _ done loaded.1 in
    let costs = then_ok (costs_of plan.limits loaded.0) _ done program.1 in
    reads_none told _ done refl costs.1

carried_reads_none : (told : Files) (judged : Carry) (done : Done) → carried_or judged ≡ Ok done → ReadsThese (Some told) done.reads
carried_reads_none told carry.Yes done is = reads_none told _ done refl is
carried_reads_none told (carry.No worker directive) done is = cc

check_reads_none : (told : Files) (found : Found) (check : CheckRequest) (done : Done) → check_outcome found check ≡ Ok done → ReadsThese (Some told) done.reads
unfolding check_outcome
check_reads_none told found check done is =
    let loaded = then_ok (source_of found.source) _ done is in
    let program = then_ok (program_of found.program) _ done loaded.1 in
    let judged = then_ok (carry_of loaded.0.program program.0) _ done program.1 in
    carried_reads_none told judged.0 done judged.1

upgrade_reads_none : (told : Files) (found : Found) (upgrade : UpgradeRequest) (done : Done) → upgrade_outcome found upgrade ≡ Ok done → ReadsThese (Some told) done.reads
unfolding upgrade_outcome
upgrade_reads_none told found upgrade done is =
    let program = then_ok (first_program_of found.program) _ done is in
    let renamed = then_ok (renamed_of program.0) _ done program.1 in
    reads_none told _ done refl renamed.1

gen_reads_none : (told : Files) (gen : GenRequest) (done : Done) → gen_outcome gen ≡ Ok done → ReadsThese (Some told) done.reads
unfolding gen_outcome
gen_reads_none told gen done is =
    let run = then_ok (solo_outcome (found_for_gen gen) (solo_for gen)) _ done is in
    let summary = then_ok (stats_outcome (found_for_gen gen) (stats_for gen)) _ done run.1 in
    reads_none told _ done refl summary.1

-- a command reads the streams of the files that it is told
pub reads_own : (words : List (List ℕ)) (told : Files) (done : Done) → outcome_in told words ≡ Ok done → ReadsThese (Some told) done.reads
unfolding outcome_of
reads_own words told done is = go (asked_of words) is where
  go : (asked : Option Request) → (ok_or asked refusal.Words >>= outcome_for (found_for told asked)) ≡ Ok done → ReadsThese (Some told) done.reads
  go None is = cc
  go (Some (Solo solo)) is = driven_reads_own told solo.driver (found_in told (Solo solo)) solo done (λ worker. refl) is
  go (Some (Stats stats)) is = stats_reads_none told (found_in told (Stats stats)) stats done is
  go (Some (Deal deal)) is = deal_reads_none told (found_in told (Deal deal)) deal done is
  go (Some (Plan plan)) is = plan_reads_none told (found_in told (Plan plan)) plan done is
  go (Some (Check check)) is = check_reads_none told (found_in told (Check check)) check done is
  go (Some (Upgrade upgrade)) is = upgrade_reads_none told (found_in told (Upgrade upgrade)) upgrade done is
  go (Some (Gen gen)) is = gen_reads_none told gen done is
