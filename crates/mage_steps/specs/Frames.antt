-- What frames hold: the bytes of packed wires.
use Rattle.std.specs.Prelude.{ℕ, ◌+◌, ◌-◌, ◌*◌, List, ◌++◌, length, take, drop, map, replicate}
use Rattle.std.specs.List.{flat_map, range_with_len}
use Rattle.mage_instr.specs.declared.replaced.Spot.{Spot}
use Rattle.mage_network.specs.Network.{put}
use Rattle.mage_driver.specs.Rules.{Rules}

-- how many bytes a link takes for a wire
abbrev pub link_bytes : ℕ
link_bytes = 16

-- some bytes, in which a piece stands from a place on
abbrev pub with_piece : (bytes : List ℕ) → (place : ℕ) → (piece : List ℕ) → List ℕ
with_piece bytes place piece = take place bytes ++ piece ++ drop (place + length piece) bytes

-- the spot of wire k of a value, as a value of its own
abbrev pub spot_of_wire : Spot → (k : ℕ) → Spot
spot_of_wire spot k = record { frame = spot.frame; offset = spot.offset + k }

module _ {W : Type 0} (rules : Rules W) where
  -- a frame of so many wires before it is filled
  abbrev pub cleared : (page : ℕ) → List ℕ
  cleared page = replicate (page * rules.wire_bytes) 0

  -- the first wire of a spot
  abbrev pub wire_at : (bank : ℕ → List ℕ) → Spot → W
  wire_at bank spot = rules.unpack
      (take rules.wire_bytes (drop (spot.offset * rules.wire_bytes) (bank spot.frame)))

  -- the wires of a value of this width
  abbrev pub wires_at : (bank : ℕ → List ℕ) → Spot → (width : ℕ) → List W
  wires_at bank spot width = map (λ k. wire_at bank (spot_of_wire spot k)) (range_with_len 0 width)

  -- the frames once these wires stand at a spot
  abbrev pub with_wires : (bank : ℕ → List ℕ) → Spot → List W → ℕ → List ℕ
  with_wires bank spot wires = put bank spot.frame
      (with_piece (bank spot.frame) (spot.offset * rules.wire_bytes) (flat_map rules.pack wires))

  -- a wire as a link carries it: packed, with zeros behind
  abbrev pub sent_form : W → List ℕ
  sent_form wire = rules.pack wire ++ replicate (link_bytes - rules.wire_bytes) 0

  -- the wire that a link's bytes carry
  abbrev pub received_form : List ℕ → W
  received_form bytes = rules.unpack (take rules.wire_bytes bytes)
