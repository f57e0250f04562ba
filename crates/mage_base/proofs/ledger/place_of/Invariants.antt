use Rattle.std.proofs.Common.{◌≡◌, map}
use Rattle.mage_base.specs.Desk.{without_store}
use Rattle.mage_base.specs.Ledger.{id_of}
use Rattle.mage_base.proofs.Ledgers.{passed}
use Rattle.mage_base.proofs.ledger.place_of.Given as goal

abbrev pub invariant-loop-place : goal.invariant-loop-place
invariant-loop-place l =
    without_store (map id_of l.lent) (record { worker = l.worker; shard = l.shard }) ≡ passed l.lent l.place (record { worker = l.worker; shard = l.shard })
