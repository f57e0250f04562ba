use Rattle.std.proofs.Common.{◌+◌, ◌∙◌, rules}
use Rattle.mage_bank.specs.Bank.{contents}
use Rattle.mage_bank.proofs.Fitting.{value_lies}
use Rattle.mage_bank_tests.proofs.doing.sent_back.Goals as goal

pub receive-requires : goal.receive-requires
receive-requires c = (search rules, value_lies 1 2 64 (contents c.args.bank.now) (c.args.wire + 1) c.args.spot c.requires.bank c.requires.fits)

pub send-requires : goal.send-requires
send-requires c = (search rules, value_lies 1 2 64 (contents c.receive.new.frames) (c.args.wire + 1) c.args.spot (c.receive.ensures.lengths ∙ c.requires.bank) c.requires.fits)
