-- What `upgrade` keeps of a memory program, and what it makes of the files that `plan` wrote before.
use Rattle.std.specs.Prelude.{◌≡◌, ◌↔◌, ℕ, List, [], ◌∷◌, Ok}
use Rattle.mage_instr.specs.declared.instr.Program.{Program}
use Rattle.mage_instr.specs.declared.directive.MemProgram.{MemProgram}
use Rattle.mage_instr.specs.declared.replaced.Limits.{Limits}
use Rattle.mage_instr.specs.Limits.{AreInRange}
use Rattle.mage_carry.specs.declared.carry.Carry.TheVariants as carry
use Rattle.mage_carry.specs.Carrying.{carries_of}
use Rattle.mage_file.specs.Grammar.{spelling_of, spelling_first_of, read_of}
use Rattle.mage_file.specs.Laws.{AreBytes}
use Rattle.mage_pipe.specs.declared.loaded.Loaded.{Loaded}
use Rattle.mage_pipe.specs.Loading.{loaded_of}
use Rattle.mage_pipe.specs.MemoryProgram.{plan_of}
use Rattle.mage_rehome.specs.Earlier.{earlier_of}
use Rattle.mage_words.specs.Words.{UpgradeRequest}
use Rattle.mage_planner.specs.Outcome.{Done, first_program_of, upgrades, upgrade_outcome}
use Rattle.mage_planner.specs.Found.{Found, Held}

-- A memory program was read and another one written, under this name, and nothing else: each carries just the programs that the
-- other carries. What was written is read back, where what was read are bytes.
pub record IsUpgraded (found : Found) (out : List ℕ) (done : Done) : Type 0 where
  pub old : MemProgram
  pub new : MemProgram
  pub read : first_program_of found.program ≡ Ok old
  pub files : done.files ≡ record { name = out; bytes = spelling_of new } ∷ []
  pub said : done.said ≡ []
  pub keeps : (program : Program) → (carries_of program new ≡ carry.Yes) ↔ (carries_of program old ≡ carry.Yes)
  pub read_back : (bytes : List ℕ) → found.program ≡ Held bytes → AreBytes bytes → read_of (spelling_of new) ≡ Ok new

-- so is what `upgrade` does, where it isn't refused
abbrev pub UpgradesKeepCarried : Type 0
UpgradesKeepCarried = (found : Found) (upgrade : UpgradeRequest) (done : Done) → upgrade_outcome found upgrade ≡ Ok done → IsUpgraded found upgrade.out done

-- Of a file of the first version that has what the passes made of a source when each page was stored under its own number,
-- `upgrade` writes the file that `plan` writes of the source now: its memory program is the same.
abbrev pub EarlierFilesComeToTodays : Type 0
EarlierFilesComeToTodays =
    (limits : Limits) (text : List ℕ) (loaded : Loaded) (today : MemProgram) → AreInRange limits → loaded_of text ≡ Ok loaded → plan_of limits text ≡ Ok today
    → (found : Found) (upgrade : UpgradeRequest) → found.program ≡ Held (spelling_first_of (earlier_of limits loaded.program.workers))
    → upgrade_outcome found upgrade ≡ Ok (upgrades upgrade.out today)
