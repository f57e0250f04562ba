use Rattle.mage_printer.proofs.Printing as law
use Rattle.mage_printer.proofs.whole.print.Goals as goal

pub returns-clause-bytes : goal.returns-clause-bytes
returns-clause-bytes c tokens s =
    law.each_ok c.text_of.result (λ text e. law.bytes_of_tree c.args.source.now.workers c.args.source.now.body tokens text.items s e) c.text_of.ensures.made

pub returns-clause-tokens : goal.returns-clause-tokens
returns-clause-tokens c tokens s =
    law.each_ok c.text_of.result
    (λ text e. law.kinds_of_tree c.args.source.now.workers c.args.source.now.body tokens text.items c.text_of.ensures.tokens s e)
    c.text_of.ensures.made
