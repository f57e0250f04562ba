use Rattle.std.proofs.Common.{ap, map, set, [], ◌∙◌}
use Rattle.std.proofs.lemmas.List.{map-set}
use Rattle.mage_store.specs.Slots.{state_of}
use Rattle.mage_store.proofs.SlotLemmas.{state_with-any}
use Rattle.mage_store.proofs.slots.put_task.Goals as goal

pub returns-clause-states : goal.returns-clause-states
returns-clause-states c =
    map-set state_of c.args.slots.now.items c.args.slot (record { task = c.args.task; buffer = c.index_mut.result.now.buffer })
    ∙ ap (set (map state_of c.args.slots.now.items) c.args.slot) (state_with-any c.args.task c.index_mut.result.now.buffer.items [] c.requires.no_write)
