use Rattle.std.proofs.Common.{◌≡◌, ap, map}
use Rattle.mage_base.specs.Ledger.{id_of}
use Rattle.mage_base.proofs.Ledgers.{covered}
use Rattle.mage_base.proofs.ledger.Ledger.give.Goals as goal

pub add-requires : goal.add-requires
add-requires c =
    let same : map id_of c.self.inside.lent.items ≡ c.args.self.now.lent = ap (λ ledger. ledger.lent) c.self.view_is in
    covered c.self.inside.totals.items c.self.inside.lent.items (record { worker = c.args.worker; shard = c.args.shard }) c.self.invariant (rw same c.requires)

pub returns-in-Some-clause-returned : goal.returns-in-Some-clause-returned
returns-in-Some-clause-returned c = rw (← c.self.view_is) c.add.ensures.returned

pub returns-in_default-clause-returned : goal.returns-in_default-clause-returned
returns-in_default-clause-returned c = rw (← c.self.view_is) c.add.ensures.returned
