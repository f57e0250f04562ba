use Rattle.std.proofs.Common.{◌+◌, ◌∙◌, rules}
use Rattle.mage_bank.specs.Bank.{contents}
use Rattle.mage_bank.proofs.Fitting.{value_lies}
use Rattle.mage_bank_tests.proofs.doing.sent_when_cleared.Goals as goal

pub send-requires : goal.send-requires
send-requires c = (search rules, value_lies 1 2 64 (contents c.clear.new.frames) (c.args.wire + 1) c.args.spot (c.clear.ensures.lengths ∙ c.requires.bank) c.requires.fits)
