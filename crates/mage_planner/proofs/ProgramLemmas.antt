-- Of the commands on memory programs: a refusal of a step is one of the whole work.
use Rattle.std.proofs.Common.{◌≡◌, ◌≤◌, ◌*◌, ℕ, List, [], ◌∷◌, Bool, true, length, Option, Some, None, Result, Ok, Err, refl, ap, ap₂, ◌∙◌, arith}
use Rattle.std.specs.Option.{IfSome}
use Rattle.mage_base.specs.Desk.{Files}
use Rattle.mage_chains.specs.Chains.{◌>>=◌}
use Rattle.mage_accepted.specs.Accepting.{IsAccepted, directives_in}
use Rattle.mage_carry.specs.declared.carry.Carry.{Carry}
use Rattle.mage_file.specs.Grammar.{most_bytes, spelling_of}
use Rattle.mage_file.proofs.LengthLaws.{so_long}
use Rattle.mage_unroll.specs.Limits.{MOST_INSTRS}
use Rattle.mage_instr.specs.declared.directive.MemProgram.{MemProgram}
use Rattle.mage_pipe.specs.declared.loaded.Loaded.{Loaded}
use Rattle.mage_pipe.specs.declared.stats.WorkerStats.{WorkerStats}
use Rattle.mage_pipe.specs.MemoryProgram.{memory_program_of}
use Rattle.mage_lex.specs.Limits.{MOST_BYTES}
use Rattle.mage_words.specs.Words.{PlanRequest, Check, CheckRequest, UpgradeRequest}
use Rattle.mage_planner.specs.declared.refusal.Refusal.{Refusal}
use Rattle.mage_planner.specs.declared.refusal.Refusal.TheVariants as refusal
use Rattle.mage_planner.specs.Outcome.{Done, says, says_and_writes, plans, source_of, costs_of, or_limits, program_of, carry_of, carried_or, first_program_of, renamed_of, upgrades, plan_outcome, check_outcome, upgrade_outcome}
use Rattle.mage_planner.specs.Found.{File, Absent, Found, file_at, found_in, nothing_found}
use Rattle.mage_planner.specs.SummaryText.{summary_text}
use Rattle.mage_planner.specs.Steps.{Refuses}
use Rattle.mage_planner.proofs.StepLemmas.{only_source, at_first, after_first, both_done}

-- a step that can't be refused is refused for want of memory alone, which may come anywhere
pub memory_alone : {T U : Type 0} (s : Refusal) (x : T) (work : Result U Refusal) → Refuses true s (Ok x) → Refuses true s work
memory_alone refusal.Desk x work r = let e = r refl in cc
memory_alone refusal.Memory x work r = tt
memory_alone other x work r = cc

abbrev pub for_check : (source program : File) → Found
for_check source program = record nothing_found { source = source; program = program }

-- ---- `plan`

-- what comes after the memory program
abbrev to_file : PlanRequest → Loaded → MemProgram → Result Done Refusal
to_file plan loaded program = costs_of plan.limits loaded >>= (λ costs. Ok (plans plan.out program costs))

-- what comes after the source
abbrev to_program : PlanRequest → Loaded → Result Done Refusal
to_program plan loaded = or_limits (memory_program_of plan.limits loaded.program.workers) >>= to_file plan loaded

-- the source is refused
pub plan-source : (plan : PlanRequest) (file : File) (s : Refusal)
    → Refuses true s (source_of file) → Refuses true s (plan_outcome (only_source file) plan)
unfolding plan_outcome
plan-source plan file s refused = at_first s (source_of file) (to_program plan) refused

-- a limit is too low
pub plan-program : (plan : PlanRequest) (file : File) (loaded : Loaded) (s : Refusal)
    → source_of file ≡ Ok loaded → Refuses true s (or_limits (memory_program_of plan.limits loaded.program.workers))
    → Refuses true s (plan_outcome (only_source file) plan)
unfolding plan_outcome
plan-program plan file loaded s read refused =
    after_first s (source_of file) loaded (to_program plan) read
    (at_first s (or_limits (memory_program_of plan.limits loaded.program.workers)) (to_file plan loaded) refused)

-- all is planned
pub plan-all : (plan : PlanRequest) (file : File) (loaded : Loaded) (program : MemProgram) (costs : List WorkerStats)
    → source_of file ≡ Ok loaded → or_limits (memory_program_of plan.limits loaded.program.workers) ≡ Ok program
    → costs_of plan.limits loaded ≡ Ok costs
    → plan_outcome (only_source file) plan ≡ Ok (plans plan.out program costs)
unfolding plan_outcome
plan-all plan file loaded program costs read planned counted =
    let done = plans plan.out program costs in
    both_done (source_of file) loaded (to_program plan) done read
    (both_done (or_limits (memory_program_of plan.limits loaded.program.workers)) program (to_file plan loaded) done planned
    (ap (λ step. step >>= (λ costs. Ok (plans plan.out program costs))) counted))

-- ---- `check`

-- what comes after the memory program
abbrev to_carry : Loaded → MemProgram → Result Done Refusal
to_carry loaded program = carry_of loaded.program program >>= carried_or

-- what comes after the source
abbrev to_check : (program : File) → Loaded → Result Done Refusal
to_check program loaded = program_of program >>= to_carry loaded

-- the source is refused
pub check-source : (check : CheckRequest) (file : File) (s : Refusal)
    → Refuses true s (source_of file) → Refuses true s (check_outcome (only_source file) check)
unfolding check_outcome
check-source check file s refused = at_first s (source_of file) (to_check Absent) refused

-- the file of the memory program is refused
pub check-program : (check : CheckRequest) (file program : File) (loaded : Loaded) (s : Refusal)
    → source_of file ≡ Ok loaded → Refuses true s (program_of program)
    → Refuses true s (check_outcome (for_check file program) check)
unfolding check_outcome
check-program check file program loaded s read refused =
    after_first s (source_of file) loaded (to_check program) read
    (at_first s (program_of program) (to_carry loaded) refused)

-- the memory program has a fault
pub check-carry : (check : CheckRequest) (file program : File) (loaded : Loaded) (plan : MemProgram) (s : Refusal)
    → source_of file ≡ Ok loaded → program_of program ≡ Ok plan → Refuses true s (carry_of loaded.program plan)
    → Refuses true s (check_outcome (for_check file program) check)
unfolding check_outcome
check-carry check file program loaded plan s read spelled refused =
    after_first s (source_of file) loaded (to_check program) read
    (after_first s (program_of program) plan (to_carry loaded) spelled
    (at_first s (carry_of loaded.program plan) carried_or refused))

-- what is refused where nothing is known of the desk is refused where something is
pub steady_too : {T : Type 0} (steady : Bool) (s : Refusal) (work : Result T Refusal) → Refuses true s work → Refuses steady s work
steady_too steady refusal.Desk work refused = λ sure. refused refl
steady_too steady refusal.Memory work refused = tt
steady_too steady other work refused = refused

-- the same where the desk tells its files
pub check-carry-told : (steady : Bool) (files : Option Files) (check : CheckRequest) (loaded : Loaded) (plan : MemProgram) (s : Refusal)
    → IfSome files (λ f. source_of (file_at f check.source MOST_BYTES) ≡ Ok loaded)
    → IfSome files (λ f. program_of (file_at f check.program most_bytes) ≡ Ok plan)
    → Refuses true s (carry_of loaded.program plan)
    → IfSome files (λ f. Refuses steady s (check_outcome (found_in f (Check check)) check))
unfolding check_outcome
check-carry-told steady None check loaded plan s read spelled refused = tt
check-carry-told steady (Some f) check loaded plan s read spelled refused =
    let source = file_at f check.source MOST_BYTES in
    let program = file_at f check.program most_bytes in
    steady_too steady s (source_of source >>= to_check program)
    (after_first s (source_of source) loaded (to_check program) read
    (after_first s (program_of program) plan (to_carry loaded) spelled
    (at_first s (carry_of loaded.program plan) carried_or refused)))

-- it has none
pub check-all : (check : CheckRequest) (file program : File) (loaded : Loaded) (plan : MemProgram) (carry : Carry)
    → source_of file ≡ Ok loaded → program_of program ≡ Ok plan → carry_of loaded.program plan ≡ Ok carry
    → check_outcome (for_check file program) check ≡ carried_or carry
unfolding check_outcome
check-all check file program loaded plan carry read spelled judged =
    ap (λ step. step >>= to_check program) read
    ∙ (ap (λ step. step >>= to_carry loaded) spelled ∙ ap (λ step. step >>= carried_or) judged)

-- ---- `upgrade`

abbrev pub only_program : File → Found
only_program file = record nothing_found { program = file }

-- what comes after the memory program with store pages
abbrev to_upgrade : UpgradeRequest → MemProgram → Result Done Refusal
to_upgrade upgrade renamed = Ok (upgrades upgrade.out renamed)

-- what comes after the memory program
abbrev to_renamed : UpgradeRequest → MemProgram → Result Done Refusal
to_renamed upgrade program = renamed_of program >>= to_upgrade upgrade

-- the file is refused
pub upgrade-program : (upgrade : UpgradeRequest) (file : File) (s : Refusal)
    → Refuses true s (first_program_of file) → Refuses true s (upgrade_outcome (only_program file) upgrade)
unfolding upgrade_outcome
upgrade-program upgrade file s refused = at_first s (first_program_of file) (to_renamed upgrade) refused

-- the memory program has a fault
pub upgrade-fault : (upgrade : UpgradeRequest) (file : File) (program : MemProgram) (s : Refusal)
    → first_program_of file ≡ Ok program → Refuses true s (renamed_of program)
    → Refuses true s (upgrade_outcome (only_program file) upgrade)
unfolding upgrade_outcome
upgrade-fault upgrade file program s read refused =
    after_first s (first_program_of file) program (to_renamed upgrade) read
    (at_first s (renamed_of program) (to_upgrade upgrade) refused)

-- it has none
pub upgrade-all : (upgrade : UpgradeRequest) (file : File) (program renamed : MemProgram)
    → first_program_of file ≡ Ok program → renamed_of program ≡ Ok renamed
    → upgrade_outcome (only_program file) upgrade ≡ Ok (upgrades upgrade.out renamed)
unfolding upgrade_outcome
upgrade-all upgrade file program renamed read verified =
    let done = upgrades upgrade.out renamed in
    both_done (first_program_of file) program (to_renamed upgrade) done read
    (ap (λ step. step >>= to_upgrade upgrade) verified)

-- ---- how long files are

-- a memory program that the verifier accepts, and that has so few directives, has no file that is too long
pub short_enough : (program : MemProgram) → IsAccepted program → directives_in program ≤ 18 * MOST_INSTRS
    → length (spelling_of program) ≤ most_bytes
short_enough program accepted few =
    let long = (so_long program accepted.fields.counted).second in
    let workers = accepted.fields.few in
    omega (arith, long, workers, few)

-- ---- what is written

abbrev value_or : {T : Type 0} → T → Result T Refusal → T
value_or x (Ok y) = y
value_or x (Err why) = x

-- the bytes of the memory program's file, and the text of what it costs, are what is written and then said
pub plans_written : (out : List ℕ) (program : MemProgram) (costs : List WorkerStats) (bytes text : List ℕ)
    → ◌≡◌ {A = Result (List ℕ) Refusal} (Ok (spelling_of program)) (Ok bytes)
    → ◌≡◌ {A = Result Done Refusal} (Ok (says (summary_text costs))) (Ok (says text))
    → ◌≡◌ {A = Result Done Refusal} (Ok (plans out program costs)) (Ok (says_and_writes text (record { name = out; bytes = bytes } ∷ [])))
plans_written out program costs bytes text spelled said =
    let b : spelling_of program ≡ bytes = ap (λ (r : Result (List ℕ) Refusal). value_or [] r) spelled in
    let t : summary_text costs ≡ text = ap (λ (r : Result Done Refusal). (value_or (says []) r).said) said in
    ap₂ (λ (bs ts : List ℕ). Ok (says_and_writes ts (record { name = out; bytes = bs } ∷ []))) b t

-- the bytes of the memory program's file are what is written, and nothing is said
pub upgrades_written : (out : List ℕ) (program : MemProgram) (bytes text : List ℕ)
    → ◌≡◌ {A = Result (List ℕ) Refusal} (Ok (spelling_of program)) (Ok bytes) → text ≡ []
    → ◌≡◌ {A = Result Done Refusal} (Ok (upgrades out program)) (Ok (says_and_writes text (record { name = out; bytes = bytes } ∷ [])))
upgrades_written out program bytes text spelled none =
    let b : spelling_of program ≡ bytes = ap (λ (r : Result (List ℕ) Refusal). value_or [] r) spelled in
    rw none (ap (λ (bs : List ℕ). Ok (says_and_writes [] (record { name = out; bytes = bs } ∷ []))) b)
