use Rattle.mage_log_store.proofs.LogDeskLemmas.{log_given}
use Rattle.mage_log_store.proofs.log_desk.give.Goals as goal

pub returns : goal.returns
returns c =
    record {
      logs = log_given c.args.logs.now.items c.args.worker c.index_mut.result.now c.append.new.log c.args.later.now.transfers c.requires c.index_mut.ensures.value c.append.ensures;
    }
