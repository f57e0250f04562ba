use Rattle.mage_parser.proofs.OneFault as law
use Rattle.mage_parser.proofs.whole.parse.Goals as goal

pub returns-in-Ok-clause-refuses : goal.returns-in-Ok-clause-refuses
returns-in-Ok-clause-refuses c kind back f = absurd (law.no_fault c.args.tokens.now c.in-Ok.workers c.in-Ok.body kind back c.in-Ok.ensures f)

pub returns-in-Err-clause-first : goal.returns-in-Err-clause-first
returns-in-Err-clause-first c = rw c.fault_of.ensures (law.stands c.args.text.now c.args.tokens.now c.in-Err.stop c.in-Err.ensures)

pub returns-in-Err-clause-refuses : goal.returns-in-Err-clause-refuses
returns-in-Err-clause-refuses c kind back f =
    rw c.fault_of.ensures (law.answers c.args.text.now c.args.tokens.now c.in-Err.stop kind back c.in-Err.ensures f)
