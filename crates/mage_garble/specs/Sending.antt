-- Bytes on their way to a sink: some wait in a buffer, so that few calls of the sink are made.
use Rattle.std.specs.Prelude.{◌≡◌, ◌≤◌, ◌<◌, ℕ, ◌+◌, ◌-◌, nat_le, List, [], ◌++◌, length, take, Bool, IsTrue, Option, Some, None, IfSome, is_some, option_map, unwrap_or, if◌then◌else◌}
use Rattle.mage_base.specs.Faults.{Rose}
use Rattle.mage_base.specs.Sink.{SinkTold}

pub record Sending : Type 0 where
  -- what the sink has taken
  pub stream : List ℕ
  -- what waits to be put into it
  pub waiting : List ℕ
  -- how many bytes it may still take, where it is steady
  pub room : Option ℕ

-- the same, with how often the sink has failed, and whether it tells what it has taken
pub record Outgoing : Type 0 where
  pub sending : Sending
  pub faults : ℕ
  pub told : Bool

-- whether a sink tells what it has taken
abbrev pub tells_taken : SinkTold → Bool
tells_taken sink = is_some sink.taken

-- how many bytes may wait
abbrev pub most_waiting : ℕ
most_waiting = 4096

-- a sink before anything waits for it; of one that doesn't tell what it has taken, the stream says nothing
abbrev pub sending_to : SinkTold → Sending
sending_to sink = record {
  stream = unwrap_or sink.taken [];
  waiting = [];
  room = if sink.steady then Some sink.room else None;
}

-- all that waits is put
abbrev pub flushed : Sending → Sending
flushed s = record {
  stream = s.stream ++ s.waiting;
  waiting = [];
  room = option_map (λ room. room - length s.waiting) s.room;
}

-- as much more may wait: what waits is put where that would be too much
abbrev pub with_room : Sending → (more : ℕ) → Sending
with_room s more = if nat_le (length s.waiting + more) most_waiting then s else flushed s

-- more bytes wait
abbrev pub with_waiting : Sending → List ℕ → Sending
with_waiting s bytes = record s { waiting = s.waiting ++ bytes }

-- more bytes are said
abbrev pub saying : Sending → List ℕ → Sending
saying s bytes = with_waiting (with_room s (length bytes)) bytes

-- The sink failed on what waits: it has a front of it, and a steady one had no room for all of it.
pub record HasFailed (before after : Sending) : Type 0 where
  pub front : (n : ℕ) × (after.stream ≡ before.stream ++ take n before.waiting)
  pub full : IfSome before.room (λ room. room < length before.waiting)

-- the same where it is told, and its count of faults rose
pub record Broke (before after : Outgoing) : Type 0 where
  pub failed : IsTrue before.told → HasFailed before.sending after.sending
  pub told : after.told ≡ before.told
  pub kept : before.faults ≤ after.faults
  pub rose : Rose before.faults after.faults
