use Rattle.std.proofs.Common.{◌≡◌, ◌∙◌, sym, true, get_or, arith}
use Rattle.std.proofs.lemmas.List.{get_or_default}
use Rattle.mage_base.specs.declared.ledger.LentStore.{LentStore}
use Rattle.mage_base.specs.Desk.{StoreId, is_store}
use Rattle.mage_base.specs.Ledger.{id_of}
use Rattle.mage_base.proofs.Ledgers.{passed_this}
use Rattle.mage_base.proofs.ledger.place_of.Goals as goal

pub returns-then-lent-place-2-clause-place : goal.returns-then-lent-place-2-clause-place
returns-then-lent-place-2-clause-place c =
    let lent = c.args.lent.now in
    let place = c.loop-place.place in
    let id : StoreId = record { worker = c.args.worker; shard = c.args.shard } in
    let none : LentStore = record { worker = 0; shard = 0 } in
    let same : is_store (id_of (get_or lent place none)) id ≡ true = grind (arith, get_or_default) in
    sym (c.loop-place.invariant ∙ passed_this lent place none id (grind arith) same)
