-- A stream that is read from a source, which is asked for more than is due at once.
use Rattle.std.specs.Prelude.{◌≡◌, ◌≤◌, ℕ, zero, suc, ◌-◌, ◌*◌, nat_le, List, [], ◌∷◌, Bool, false, IsTrue, Option, Some, None, is_some, length, drop, if◌then◌else◌}
use Rattle.mage_base.specs.Faults.{Rose, count_after}
use Rattle.mage_base.specs.Source.{SourceTold}
use Rattle.mage_instr.specs.declared.fault.DriverFault.{DriverFault}
use Rattle.mage_instr.specs.declared.fault.DriverFault.TheVariants as fault
use Rattle.mage_label.specs.declared.labels.Label.{Label}

pub record Incoming : Type 0 where
  -- what is left of the stream, where it is told, and how much of it is here already
  pub left : List ℕ
  pub ready : ℕ
  -- how many bytes were taken
  pub at : ℕ
  -- whether the source never fails, and how often it has
  pub steady : Bool
  pub faults : ℕ
  -- whether the source tells what it has left
  pub told : Bool

-- whether a source tells what it has left
abbrev pub tells_left : SourceTold → Bool
tells_left source = is_some source.left

-- so many bytes are taken
abbrev pub after_bytes : Incoming → (count : ℕ) → Incoming
after_bytes s count = record s {
  left = drop count s.left;
  ready = s.ready - count;
  at = count_after s.at count;
}

-- the stream ends before a piece is whole: its length
abbrev pub short_at : (at : ℕ) → (left : List ℕ) → DriverFault
short_at at left = fault.Short (count_after at (length left))

-- what is wrong where so many bytes are due
abbrev pub wrong_piece : (count at : ℕ) → (left : List ℕ) → Option DriverFault
wrong_piece count at left = if nat_le count (length left) then None else Some (short_at at left)

-- what was wrong before, or else what is wrong now
abbrev pub sooner : Option DriverFault → Option DriverFault → Option DriverFault
sooner None now = now
sooner (Some f) now = Some f

-- Why reading failed: the source did, or it is what is wrong with the stream, where that is told.
abbrev pub Fails : (wrong : Option DriverFault) → (before after : Incoming) → DriverFault → Type 0
Fails wrong before after fault.Source =
    (before.steady ≡ false) × (before.faults ≤ after.faults) × Rose before.faults after.faults
Fails wrong before after fault.Sink = ⊥
Fails wrong before after (fault.Short at) =
    (IsTrue before.told → wrong ≡ Some (fault.Short at)) × (after.faults ≡ before.faults)
Fails wrong before after (fault.Long at) =
    (IsTrue before.told → wrong ≡ Some (fault.Long at)) × (after.faults ≡ before.faults)
Fails wrong before after (fault.Colour at) =
    (IsTrue before.told → wrong ≡ Some (fault.Colour at)) × (after.faults ≡ before.faults)

-- a colour for each wire is due: a byte that is 0 or 1
abbrev pub wrong_at_colours : List Label → (at : ℕ) → (left : List ℕ) → Option DriverFault
wrong_at_colours [] at left = None
wrong_at_colours (wire ∷ wires) at [] = Some (short_at at [])
wrong_at_colours (wire ∷ wires) at (byte ∷ left) =
    if nat_le byte 1 then wrong_at_colours wires (count_after at 1) left else Some (fault.Colour at)

-- nothing more is due
abbrev pub wrong_at_end : (at : ℕ) → (left : List ℕ) → Option DriverFault
wrong_at_end at [] = None
wrong_at_end at (byte ∷ left) = Some (fault.Long at)

-- how many bytes were read after some colours
abbrev pub at_after_colours : List Label → ℕ → ℕ
at_after_colours [] at = at
at_after_colours (wire ∷ wires) at = at_after_colours wires (count_after at 1)

-- how many bytes were read after some labels
abbrev pub at_after_labels : (count : ℕ) → ℕ → ℕ
at_after_labels zero at = at
at_after_labels (suc count) at = at_after_labels count (count_after at 16)

-- so many labels are taken
abbrev pub after_labels : Incoming → (count : ℕ) → Incoming
after_labels s count = record s {
  left = drop (16 * count) s.left;
  ready = s.ready - 16 * count;
  at = at_after_labels count s.at;
}

-- a colour was read; it is what the stream had, where that is told
pub record ReadsColour (before after : Incoming) (colour : Bool) : Type 0 where
  pub here : IsTrue before.told → before.left ≡ (if colour then 1 else 0) ∷ after.left
  pub at : after.at ≡ count_after before.at 1
  pub steady : after.steady ≡ before.steady
  pub faults : after.faults ≡ before.faults
  pub told : after.told ≡ before.told

-- a colour for each wire was read; they are what the stream had, where that is told
pub record ReadsColours (wires : List Label) (before after : Incoming) : Type 0 where
  pub right : IsTrue before.told → wrong_at_colours wires before.at before.left ≡ None
  pub left : IsTrue before.told → after.left ≡ drop (length wires) before.left
  pub at : after.at ≡ at_after_colours wires before.at
  pub steady : after.steady ≡ before.steady
  pub faults : after.faults ≡ before.faults
  pub told : after.told ≡ before.told
