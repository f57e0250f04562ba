-- The sink in memory: what it tells, and what a call leaves.
use Rattle.std.specs.Prelude.{ℕ, List, Bool, ◌||◌, Some, if◌then◌else◌}
use Rattle.mage_base.specs.declared.calls.Calls.{Calls}
use Rattle.mage_base.specs.Bounded.{Bounded, no_bytes, room_left, passes_room, with_fitting}
use Rattle.mage_base.specs.Calls.{no_call_yet, is_listed, after_call, is_empty, counted}
use Rattle.mage_base.specs.Sink.{SinkTold}

pub record SinkState : Type 0 where
  pub taken : Bounded
  pub faults : ℕ
  pub calls : Calls

-- a sink that has taken nothing, of which these calls are to fail
abbrev pub new_sink : (room : ℕ) → (failing : List ℕ) → SinkState
new_sink room failing = record { taken = no_bytes room; faults = 0; calls = no_call_yet failing }

-- what it tells: it is steady where no call is to fail
abbrev pub sink_told : SinkState → SinkTold
sink_told sink =
    record {
      taken = Some sink.taken.bytes;
      faults = sink.faults;
      steady = is_empty sink.calls.failing;
      room = room_left sink.taken;
    }

-- whether putting these bytes fails: the call is to fail, or they pass the room
abbrev pub cannot_put : SinkState → (bytes : List ℕ) → Bool
cannot_put sink bytes = is_listed sink.calls || passes_room sink.taken bytes

-- the sink after that call: it took what fits, and nothing where the call is to fail
abbrev pub after_put : SinkState → (bytes : List ℕ) → SinkState
after_put sink bytes =
    record {
      taken = if is_listed sink.calls then sink.taken else with_fitting sink.taken bytes;
      faults = counted (cannot_put sink bytes) sink.faults;
      calls = after_call sink.calls;
    }
