use Rattle.mage_base.proofs.FailLists.{lists_nothing-handed}
use Rattle.mage_base.proofs.mem_desk.MemDesk.make.Goals as goal

pub returns-clause-steady : goal.returns-clause-steady
returns-clause-steady c = rw (c.in_ok-make-3.ensures, c.in_ok-make-4.ensures, c.as_slice.ensures) (lists_nothing-handed c.args.fails.now)
