use Rattle.std.proofs.Common.{◌≡◌, length, map, replicate, vec_len}
use Rattle.std.specs.List.{All}
use Rattle.mage_port.specs.Port.{Idle}
use Rattle.mage_store.specs.Slots.{state_of}
use Rattle.mage_store.proofs.slots.empty_slots.Given as goal

abbrev pub invariant-loop : goal.invariant-loop
invariant-loop l = record {
  states : map state_of l.slots.items ≡ replicate l.counter Idle;
  count : vec_len l.slots ≡ l.counter;
  lengths : All (λ slot. length slot.buffer.items ≡ l.page_bytes) l.slots.items;
}
