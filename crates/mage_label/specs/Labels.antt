-- Labels of wires, and where they come from. A label is 16 bytes; its lowest bit is that of its
-- last byte, byte 15. Numbers in a message are big-endian, and the first byte tells the kinds of
-- messages apart.
use Rattle.std.specs.Prelude.{◌≡◌, ℕ, ◌%◌, ◌==◌, Bool, List, [], ◌∷◌, ◌++◌, length, take, replicate, slice_index, slice_set, bit_or, bit_xor, if◌then◌else◌}
use Rattle.std.specs.Int.{w16, w64, to_be_bytes}
use Rattle.std.specs.Simd.Lanes.{zip2}
use Rattle.sha2.specs.Sha256.{sha256}
use Rattle.mage_label.specs.declared.labels.Label.{Label}

-- a label has its 16 bytes
abbrev pub IsWhole : Label → Type 0
IsWhole label = length label.bytes ≡ 16

-- the label whose bits are all 0
unfoldable pub blank : Label
blank = record { bytes = replicate 16 0 }

-- two labels, bit by bit
unfoldable pub xor : Label → Label → Label
xor a b = record { bytes = zip2 bit_xor a.bytes b.bytes }

-- a xor bit * b
abbrev pub xor_times : Label → Bool → Label → Label
xor_times a bit b = if bit then xor a b else a

-- the lowest bit of a label
unfoldable pub lsb : Label → Bool
lsb label = slice_index label.bytes 15 % 2 == 1

-- the label with its lowest bit set
unfoldable pub with_lsb : Label → Label
with_lsb label = record { bytes = slice_set label.bytes 15 (bit_or (slice_index label.bytes 15) 1) }

-- the first 16 bytes of the SHA-256 digest of a message
unfoldable pub digest_label : List ℕ → Label
digest_label message = record { bytes = take 16 (sha256 message) }

-- the offset R that a seed gives: the labels of a wire's two values differ by it
abbrev pub offset_of : List ℕ → Label
offset_of seed = with_lsb (digest_label (seed ++ 0x00 ∷ []))

-- the zero label of a worker's input wire i, of a seed
abbrev pub input_label_of : List ℕ → ℕ → ℕ → Label
input_label_of seed worker i =
    digest_label (seed ++ 0x01 ∷ to_be_bytes w16 worker ++ to_be_bytes w64 i)

-- the message that a worker's hash of a label with tweak j is of
abbrev pub hash_message : List ℕ → ℕ → ℕ → List ℕ
hash_message bytes worker j = 0x02 ∷ bytes ++ to_be_bytes w16 worker ++ to_be_bytes w64 j

-- a worker's hash of a label with tweak j
unfoldable pub hash_of : Label → ℕ → ℕ → Label
hash_of label worker j = digest_label (hash_message label.bytes worker j)
