-- What `check` says of a file that `plan` wrote.
use Rattle.std.proofs.Common.{◌≡◌, ◌∙◌, ℕ, List, [], ◌∷◌, Option, Result, Ok, Err, sym, ap, ap₂, subst}
use Rattle.mage_chains.specs.Chains.{◌>>=◌}
use Rattle.mage_chains.proofs.Ends.{then_ok, same_Ok, err_not_ok}
use Rattle.mage_instr.specs.declared.directive.MemProgram.{MemProgram}
use Rattle.mage_instr.specs.declared.replaced.Limits.{Limits}
use Rattle.mage_carry.specs.declared.carry.Carry.{Carry}
use Rattle.mage_carry.specs.declared.carry.Carry.TheVariants as carry
use Rattle.mage_carry.specs.Carrying.{carries_of}
use Rattle.mage_file.specs.Grammar.{spelling_of, read_of}
use Rattle.mage_lex.specs.declared.fault.LangFault.{LangFault}
use Rattle.mage_pipe.specs.declared.fault.PlanFault.{PlanFault}
use Rattle.mage_pipe.specs.declared.loaded.Loaded.{Loaded}
use Rattle.mage_pipe.specs.Loading.{loaded_of}
use Rattle.mage_pipe.specs.MemoryProgram.{memory_program_of, plan_of}
use Rattle.mage_verify.specs.declared.fault.VerifyFault.{VerifyFault}
use Rattle.mage_written.proofs.Files.{plans_are_plans}
use Rattle.mage_planner.specs.declared.refusal.Refusal.{Refusal}
use Rattle.mage_planner.specs.Outcome.{NewFile, Done, source_of, or_language, or_limits, or_file, costs_of, plans, plan_outcome, program_of, unless_faulty, carry_of, carried_or, check_outcome}
use Rattle.mage_planner.specs.Found.{File, Held}
use Rattle.mage_planner.specs.Checking.{PlansAreCarried}
use Rattle.mage_planner.proofs.UpgradeLemmas.{then_is}

pub or_language_ok : {T : Type 0} (r : Result T LangFault) (x : T) → or_language r ≡ Ok x → r ≡ Ok x
or_language_ok {T = T} (Ok y) x h = ap (λ (z : T). Ok z) (same_Ok y x h)
or_language_ok (Err fault) x h = absurd (err_not_ok _ x h)

or_limits_ok : {T : Type 0} (r : Result T PlanFault) (x : T) → or_limits r ≡ Ok x → r ≡ Ok x
or_limits_ok {T = T} (Ok y) x h = ap (λ (z : T). Ok z) (same_Ok y x h)
or_limits_ok (Err fault) x h = absurd (err_not_ok _ x h)

-- what a source that was fetched is
text_is : (file : File) (text : List ℕ) (loaded : Loaded) → file ≡ Held text → source_of file ≡ Ok loaded → loaded_of text ≡ Ok loaded
unfolding source_of
text_is file text loaded is h = or_language_ok (loaded_of text) loaded (rw is at h)

source_is : (file : File) (text : List ℕ) (loaded : Loaded) → file ≡ Held text → loaded_of text ≡ Ok loaded → source_of file ≡ Ok loaded
unfolding source_of
source_is file text loaded is h = rw is (ap or_language h)

file_is : (file : File) (bytes : List ℕ) (program : MemProgram) → file ≡ Held bytes → bytes ≡ spelling_of program → read_of (spelling_of program) ≡ Ok program → program_of file ≡ Ok program
unfolding program_of
file_is file bytes program is same h = rw (is, same) (ap or_file h)

is_plan_of : (limits : Limits) (text : List ℕ) (loaded : Loaded) (program : MemProgram) → loaded_of text ≡ Ok loaded → memory_program_of limits loaded.program.workers ≡ Ok program → plan_of limits text ≡ Ok program
unfolding plan_of
is_plan_of limits text loaded program is h = rw is h

one_file : (x y : NewFile) → x ∷ [] ≡ y ∷ [] → x ≡ y
one_file x y h = cc

pub plans_are_carried : PlansAreCarried
unfolding plan_outcome check_outcome
plans_are_carried text planned plan done range source h file one checked check again held =
    let loaded = then_ok (source_of planned.source) _ done h in
    let program = then_ok (or_limits (memory_program_of plan.limits loaded.0.program.workers)) _ done loaded.2 in
    let costs = then_ok (costs_of plan.limits loaded.0) _ done program.2 in
    let is = text_is planned.source text loaded.0 source loaded.1 in
    let made = or_limits_ok (memory_program_of plan.limits loaded.0.program.workers) program.0 program.1 in
    let filed = plans_are_plans plan.limits text program.0 range (is_plan_of plan.limits text loaded.0 program.0 is made) in
    let same : filed.is_plan.0 ≡ loaded.0 = same_Ok filed.is_plan.0 loaded.0 (sym filed.is_plan.1 ∙ is) in
    let carries : carries_of loaded.0.program program.0 ≡ carry.Yes = subst (λ (l : Loaded). carries_of l.program program.0 ≡ carry.Yes) same filed.is_plan.2.carries in
    let files : (record { name = plan.out; bytes = spelling_of program.0 }) ∷ [] ≡ file ∷ [] = ap (λ (d : Done). d.files) (same_Ok (plans plan.out program.0 costs.0) done costs.2) ∙ one in
    let bytes : file.bytes ≡ spelling_of program.0 = sym (ap (λ (f : NewFile). f.bytes) (one_file _ file files)) in
    let read : program_of checked.program ≡ Ok program.0 = file_is checked.program file.bytes program.0 held bytes filed.read_back in
    let found : carry_of loaded.0.program program.0 ≡ Ok carry.Yes = ap₂ (λ (o : Option VerifyFault) (c : Carry). unless_faulty o c) filed.accepted.none carries in
    let last : MemProgram → Result Done Refusal = λ m. carry_of loaded.0.program m >>= carried_or in
    let from : Loaded → Result Done Refusal = λ l. program_of checked.program >>= (λ m. carry_of l.program m >>= carried_or) in
    then_is (source_of checked.source) from loaded.0 (source_is checked.source text loaded.0 again is)
    ∙ then_is (program_of checked.program) last program.0 read ∙ then_is (carry_of loaded.0.program program.0) carried_or carry.Yes found
