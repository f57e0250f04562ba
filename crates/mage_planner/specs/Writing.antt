-- What writing files and doing a command leaves.
use Rattle.std.specs.Prelude.{◌≡◌, ◌≤◌, ◌<◌, ℕ, List, [], length, Result, Ok, Err}
use Rattle.mage_base.specs.Desk.{DeskTold, files_with}
use Rattle.mage_base.specs.Faults.{Rose}
use Rattle.mage_planner.specs.declared.refusal.Refusal.{Refusal}
use Rattle.mage_planner.specs.declared.refusal.Refusal.TheVariants as refusal
use Rattle.mage_planner.specs.Outcome.{Done, NewFile}
use Rattle.mage_planner.specs.Answer.{Finishes, BreaksOff, Ceases, Does, Fails, Stops, Breaks, Damages, Misreads, OthersStay, with_files}

-- what opening a file leaves that is to be written
abbrev pub Opens : {T : Type 0} → (name : List ℕ) → Result T Refusal → (before after : DeskTold) → Type 0
Opens name (Ok x) before after = after ≡ record before { files = files_with before.files name [] }
Opens name (Err refusal.Desk) before after =
    (before.faults ≤ after.faults) × Rose before.faults after.faults
    × (after ≡ record before { faults = after.faults })
Opens name (Err refusal.Memory) before after = after ≡ before
Opens name (Err other) before after = ⊥

-- what filling and closing it leaves: it has the bytes, or after a fault some bytes
abbrev pub Fills : {T : Type 0} → (name bytes : List ℕ) → Result T Refusal → (before after : DeskTold) → Type 0
Fills name bytes (Ok x) before after = after ≡ record before { files = files_with before.files name bytes }
Fills name bytes (Err refusal.Desk) before after =
    (some : List ℕ) × (before.faults ≤ after.faults) × Rose before.faults after.faults
    × (after ≡ record before { files = files_with before.files name some; faults = after.faults })
Fills name bytes (Err other) before after = ⊥

-- a fault of the desk while these files were written, each other file stays
pub record BreaksFiles (written : List NewFile) (before after : DeskTold) : Type 0 where
  pub files : OthersStay written before.files after.files
  pub rises : before.faults ≤ after.faults
  pub rose : Rose before.faults after.faults
  pub rest : after ≡ record before { files = after.files; faults = after.faults }

-- all of the files are written, in order, or one of these two stopped it
abbrev pub Writes : {T : Type 0} → List NewFile → Result T Refusal → (before after : DeskTold) → Type 0
Writes written (Ok x) before after = after ≡ record before { files = with_files before.files written }
Writes written (Err refusal.Desk) before after = BreaksFiles written before after
Writes written (Err refusal.Memory) before after = Ceases written before after
Writes written (Err other) before after = ⊥

-- the text is said, and the files are written, or one of these two stopped it
abbrev pub Finished : {T : Type 0} → (text : List ℕ) → List NewFile → Result T Refusal → (before after : DeskTold) → Type 0
Finished text written (Ok x) before after = Finishes text written before after
Finished text written (Err refusal.Desk) before after = BreaksOff text written before after
Finished text written (Err refusal.Memory) before after = Ceases written before after
Finished text written (Err other) before after = ⊥

-- what may stop a command that is to do this, and what that leaves
abbrev pub Interrupts : Done → Refusal → (before after : DeskTold) → Type 0
Interrupts done refusal.Desk before after = Fails (Ok done) before after
Interrupts done refusal.Memory before after = Stops (Ok done) before after
Interrupts done (refusal.Store worker) before after = (worker < length done.moves) × Breaks (Ok done) worker before after
Interrupts done (refusal.Damaged worker damage) before after =
    (worker < length done.moves) × Damages (Ok done) worker damage before after
Interrupts done (refusal.Stream worker fault) before after =
    (worker < length done.moves) × Misreads (Ok done) worker fault before after
Interrupts done other before after = ⊥

-- what is to be done is done, or stopped
abbrev pub Performs : {T : Type 0} → Done → Result T Refusal → (before after : DeskTold) → Type 0
Performs done (Ok x) before after = Does done before after
Performs done (Err why) before after = Interrupts done why before after
