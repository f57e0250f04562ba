use Rattle.mage_base.specs.Desk.{StoreId}
use Rattle.mage_log_store.proofs.LogDeskLemmas.{covers_histories, covers_lending}
use Rattle.mage_log_store.proofs.log_desk.lend.Goals as goal

pub returns-in_err-reach-clause-covers : goal.returns-in_err-reach-clause-covers
returns-in_err-reach-clause-covers c =
    λ covers. covers_histories c.args.logs.now.items c.reach.new.logs.items c.args.ledger.now.lent c.reach.ensures.longer covers

pub returns-clause-covers : goal.returns-clause-covers
returns-clause-covers c =
    let id : StoreId = record { worker = c.args.worker; shard = c.args.shard } in
    λ covers. covers_lending c.lend.result c.args.logs.now.items c.reach.new.logs.items c.args.ledger.now.lent c.lend.new.self.lent id c.lend.ensures.ok c.lend.ensures.err c.reach.ensures.longer c.in_ok-reach.ensures.reached covers
