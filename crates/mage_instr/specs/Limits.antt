-- Limits that a plan may have.
use Rattle.std.specs.Prelude.{◌≡◌, ◌≤◌, ◌+◌, ◌*◌, ◌^◌, ℕ}
use Rattle.mage_instr.specs.declared.replaced.Limits.{Limits}

-- the wires of a page are a power of two, from 64 to 65,536
abbrev pub IsPageSize : ℕ → Type 0
IsPageSize page = (k : ℕ) × (6 ≤ k) × (k ≤ 16) × (page ≡ 2 ^ k)

-- the most frames in memory
abbrev pub most_frames : ℕ
most_frames = 65536

-- the most slots of the buffer
abbrev pub most_slots : ℕ
most_slots = 4096

-- the most instructions ahead of its need that a page may be read
abbrev pub most_ahead : ℕ
most_ahead = 1000000

-- the most wires that frames and buffer hold together
abbrev pub most_wires : ℕ
most_wires = 4194304

-- each limit is in its range
pub record AreInRange (limits : Limits) : Type 0 where
  pub page : IsPageSize limits.page
  pub some_frame : 1 ≤ limits.frames
  pub frames : limits.frames ≤ most_frames
  pub buffer : limits.buffer ≤ most_slots
  pub ahead : limits.ahead ≤ most_ahead
  pub wires : (limits.frames + limits.buffer) * limits.page ≤ most_wires
