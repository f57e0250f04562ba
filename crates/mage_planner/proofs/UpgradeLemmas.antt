-- What `upgrade` keeps, and what it makes of earlier files.
use Rattle.std.proofs.Common.{◌≡◌, ◌↔◌, ◌∙◌, ℕ, List, Option, None, Some, Result, Ok, Err, refl, sym, ap, ap₂, subst}
use Rattle.mage_chains.specs.Chains.{◌>>=◌}
use Rattle.mage_chains.proofs.Ends.{then_ok, same_Ok, err_not_ok}
use Rattle.mage_instr.specs.declared.directive.MemProgram.{MemProgram}
use Rattle.mage_instr.specs.declared.replaced.Limits.{Limits}
use Rattle.mage_file.specs.declared.fault.FileFault.{FileFault}
use Rattle.mage_carry.specs.declared.carry.Carry.TheVariants as carry
use Rattle.mage_carry.specs.Carrying.{carries_of}
use Rattle.mage_file.specs.Grammar.{spelling_of, spelling_first_of, read_of, read_first_of}
use Rattle.mage_pipe.specs.declared.loaded.Loaded.{Loaded}
use Rattle.mage_pipe.specs.Loading.{loaded_of}
use Rattle.mage_pipe.specs.MemoryProgram.{memory_program_of, plan_of}
use Rattle.mage_rehome.specs.Earlier.{earlier_of}
use Rattle.mage_rehome.specs.Rehomed.{rehomed_of}
use Rattle.mage_rehome.proofs.Renaming.{renaming_keeps_carried}
use Rattle.mage_verify.specs.declared.fault.VerifyFault.{VerifyFault}
use Rattle.mage_verify.specs.Faults.{fault_of}
use Rattle.mage_written.proofs.Files.{earlier_files_come_to_plans}
use Rattle.mage_written.proofs.Renamed.{renamed_are_read}
use Rattle.mage_planner.specs.declared.refusal.Refusal.{Refusal}
use Rattle.mage_planner.specs.Outcome.{Done, or_file, first_program_of, renamed_of, unless_faulty, upgrades, upgrade_outcome}
use Rattle.mage_planner.specs.Found.{File, Held}
use Rattle.mage_planner.specs.Upgrading.{UpgradesKeepCarried, EarlierFilesComeToTodays}

no_fault : {T : Type 0} (o : Option VerifyFault) (x y : T) → unless_faulty o x ≡ Ok y → (o ≡ None) × (x ≡ y)
no_fault None x y h = (refl, same_Ok x y h)
no_fault (Some fault) x y h = absurd (err_not_ok _ y h)

or_file_ok : {T : Type 0} (r : Result T FileFault) (x : T) → or_file r ≡ Ok x → r ≡ Ok x
or_file_ok {T = T} (Ok y) x h = ap (λ (z : T). Ok z) (same_Ok y x h)
or_file_ok (Err fault) x h = absurd (err_not_ok _ x h)

-- what the bytes of a file that was fetched say
bytes_say : (file : File) (bytes : List ℕ) (old : MemProgram) → file ≡ Held bytes → first_program_of file ≡ Ok old → read_first_of bytes ≡ Ok old
unfolding first_program_of
bytes_say file bytes old is h = or_file_ok (read_first_of bytes) old (rw is at h)

pub upgrades_keep_carried : UpgradesKeepCarried
unfolding upgrade_outcome
upgrades_keep_carried found upgrade done h =
    let old = then_ok (first_program_of found.program) _ done h in
    let new = then_ok (renamed_of old.0) _ done old.2 in
    let is = no_fault (fault_of old.0) (rehomed_of old.0) new.0 new.1 in
    let same = same_Ok (upgrades upgrade.out new.0) done new.2 in
    record {
      old = old.0;
      new = new.0;
      read = old.1;
      files = sym (ap (λ (d : Done). d.files) same);
      said = sym (ap (λ (d : Done). d.said) same);
      keeps = λ program. subst (λ (m : MemProgram). (carries_of program m ≡ carry.Yes) ↔ (carries_of program old.0 ≡ carry.Yes)) is.1 (renaming_keeps_carried program old.0 is.0);
      read_back = λ bytes held are. subst (λ (m : MemProgram). read_of (spelling_of m) ≡ Ok m) is.1
          (renamed_are_read bytes old.0 are (bytes_say found.program bytes old.0 held old.1) is.0);
    }

-- a chain that begins well goes on with what it began with
pub then_is : {A B E : Type 0} (r : Result A E) (f : A → Result B E) (x : A) → r ≡ Ok x → (r >>= f) ≡ f x
then_is {A} {B} {E} r f x h = ap (λ (s : Result A E). s >>= f) h

plan_is : (limits : Limits) (text : List ℕ) (loaded : Loaded) (today : MemProgram) → loaded_of text ≡ Ok loaded → plan_of limits text ≡ Ok today → memory_program_of limits loaded.program.workers ≡ Ok today
unfolding plan_of
plan_is limits text loaded today is h = rw is at h

first_is : (old : MemProgram) → read_first_of (spelling_first_of old) ≡ Ok old → first_program_of (Held (spelling_first_of old)) ≡ Ok old
unfolding first_program_of
first_is old h = ap or_file h

pub earlier_files_come_to_todays : EarlierFilesComeToTodays
unfolding upgrade_outcome
earlier_files_come_to_todays limits text loaded today range is h found upgrade held =
    let old = earlier_of limits loaded.program.workers in
    let comes = earlier_files_come_to_plans limits text loaded today range is (plan_is limits text loaded today is h) in
    let read : first_program_of found.program ≡ Ok old = ap first_program_of held ∙ first_is old comes.read_back in
    let renamed : renamed_of old ≡ Ok today = ap₂ (λ (o : Option VerifyFault) (m : MemProgram). unless_faulty o m) comes.accepted.none comes.rehomed in
    let last : MemProgram → Result Done Refusal = λ new. Ok (upgrades upgrade.out new) in
    then_is (first_program_of found.program) (λ program. renamed_of program >>= last) old read ∙ then_is (renamed_of old) last today renamed
