-- Bytes that are added up to a room.
use Rattle.std.specs.Prelude.{ℕ, ◌-◌, nat_lt, List, [], ◌++◌, length, take, Bool}

-- the bytes so far, and the room for them in all
pub record Bounded : Type 0 where
  pub bytes : List ℕ
  pub room : ℕ

abbrev pub no_bytes : (room : ℕ) → Bounded
no_bytes room = record { bytes = []; room = room }

-- how many bytes may still be added
abbrev pub room_left : Bounded → ℕ
room_left held = held.room - length held.bytes

-- whether these bytes are more than that
abbrev pub passes_room : Bounded → List ℕ → Bool
passes_room held bytes = nat_lt (room_left held) (length bytes)

-- the bytes with what fits of these
abbrev pub with_fitting : Bounded → List ℕ → Bounded
with_fitting held bytes = record held { bytes = held.bytes ++ take (room_left held) bytes }
