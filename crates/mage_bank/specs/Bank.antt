-- The frames of a machine, as buffers that it owns, and which values lie within them.
use Rattle.std.specs.Prelude.{◌≡◌, ◌≤◌, ◌<◌, ◌+◌, ◌*◌, ℕ, List, [], length, map, take, drop, replicate, slice_index_or, Vec}
use Rattle.std.specs.Global.{Global}
use Rattle.mage_instr.specs.declared.replaced.Spot.{Spot}
use Rattle.mage_driver.specs.Rules.{Rules}

-- the bytes of each frame
abbrev pub contents : List (Vec ℕ Global) → List (List ℕ)
contents frames = map (λ frame. frame.items) frames

-- the bytes of frame i; of one that isn't there, zeros, as many as the first frame has bytes
abbrev pub bank_of : List (List ℕ) → (i : ℕ) → List ℕ
bank_of frames i = slice_index_or frames i (replicate (length (slice_index_or frames 0 [])) 0)

-- how long each frame is
abbrev pub lengths_of : List (List ℕ) → List ℕ
lengths_of frames = map (λ frame. length frame) frames

-- so many frames of so many bytes each
abbrev pub AreOf : (count bytes : ℕ) → List (List ℕ) → Type 0
AreOf count bytes frames = lengths_of frames ≡ replicate count bytes

-- a value of so many wires lies within a frame that is there
pub record Lies (wire_bytes : ℕ) (frames : List (List ℕ)) (spot : Spot) (width : ℕ) : Type 0 where
  pub frame : spot.frame < length frames
  pub within : (spot.offset + width) * wire_bytes ≤ length (bank_of frames spot.frame)

-- the wire that stands packed in a frame at this place, counted in wires
abbrev pub wire_in : {W : Type 0} → Rules W → (frame : List ℕ) → (place : ℕ) → W
wire_in rules frame place =
    rules.unpack (take rules.wire_bytes (drop (place * rules.wire_bytes) frame))
