-- A table that says of each frame whether it is left before some directives.
use Rattle.std.specs.Prelude.{◌≡◌, ◌<◌, ◌&&◌, ℕ, Bool, true, false, List, length, nat_eq, if◌then◌else◌}
use Rattle.std.specs.List.{slice_index_or}
use Rattle.mage_instr.specs.declared.directive.Directive.{Directive}
use Rattle.mage_instr.specs.declared.replaced.Spot.{Spot}
use Rattle.mage_instr.specs.Limits.{most_frames}
use Rattle.mage_verify.specs.Leaving.{is_left}

abbrev pub entry_of : List Bool → (frame : ℕ) → Bool
entry_of table frame = slice_index_or table frame true

pub record IsTable (table : List Bool) (directives : List Directive) : Type 0 where
  pub count : length table ≡ most_frames
  pub each : (frame : ℕ) → frame < most_frames → entry_of table frame ≡ is_left frame directives

-- the frame of a spot isn't left, where the spot is there; the others are as before
pub record IsUsed (old new : List Bool) (there : Bool) (spot : Spot) : Type 0 where
  pub count : length new ≡ length old
  pub each : (frame : ℕ) → entry_of new frame ≡ (if there && nat_eq spot.frame frame then false else entry_of old frame)

-- the entry of one frame is changed
pub record IsSet (old new : List Bool) (at_frame : ℕ) (now : Bool) : Type 0 where
  pub count : length new ≡ length old
  pub each : (frame : ℕ) → entry_of new frame ≡ (if nat_eq at_frame frame then now else entry_of old frame)
