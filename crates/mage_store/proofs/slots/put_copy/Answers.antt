use Rattle.std.proofs.Common.{ap, map, set, ℕ, List, ◌∙◌}
use Rattle.std.proofs.lemmas.List.{map-set}
use Rattle.mage_port.specs.Port.{AskedWrite}
use Rattle.mage_store.specs.declared.slot.Task.TheVariants as tasks
use Rattle.mage_store.specs.Slots.{state_of}
use Rattle.mage_store.proofs.slots.put_copy.Goals as goal

pub returns-clause-states : goal.returns-clause-states
returns-clause-states c =
    map-set state_of c.args.slots.now.items c.args.slot (record { task = tasks.Write c.args.page; buffer = c.copy_from_slice.new.self })
    ∙ ap (λ (bytes : List ℕ). set (map state_of c.args.slots.now.items) c.args.slot (AskedWrite c.args.page bytes)) c.copy_from_slice.ensures.items
