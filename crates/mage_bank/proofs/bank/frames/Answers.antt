use Rattle.std.proofs.lemmas.Result.{IfOk-weaker}
use Rattle.mage_bank.specs.Bank.{contents}
use Rattle.mage_bank.proofs.Fitting.{zeros_are_of}
use Rattle.mage_bank.proofs.bank.frames.Goals as goal

pub returns-clause-lengths : goal.returns-clause-lengths
returns-clause-lengths c =
    IfOk-weaker c.zero_pages.result _ _ (λ frames zeros. zeros_are_of c.args.count c.args.bytes (contents frames.items) zeros) c.zero_pages.ensures.pages
