use Rattle.mage_progress.proofs.Lying.{stays}
use Rattle.mage_progress.proofs.MachineLemmas.{opened_first, next_is, moved_so, full_so, empty_so, never_pends, ended_so, done_so, capacity_stays}
use Rattle.mage_progress.proofs.machines.machines_go_on.Goals as goal

pub returns-clause-opened : goal.returns-clause-opened
returns-clause-opened g c = opened_first g.D.Driver.rules

pub returns-clause-next : goal.returns-clause-next
returns-clause-next g c = next_is g.D.Driver.rules

pub returns-clause-moved : goal.returns-clause-moved
returns-clause-moved g c parts worker stands later old new before after moved verified here move =
    moved_so g.D.Driver.rules parts worker old new before after verified here stands later moved move

pub returns-clause-full : goal.returns-clause-full
returns-clause-full g c parts worker old new before after to verified here waits =
    full_so g.D.Driver.rules parts worker old new before after verified here to waits

pub returns-clause-empty : goal.returns-clause-empty
returns-clause-empty g c parts worker old new before after from verified here waits =
    empty_so g.D.Driver.rules parts worker old new before after verified here from waits

pub returns-clause-slot : goal.returns-clause-slot
returns-clause-slot g c = never_pends g.D.Driver.rules

pub returns-clause-ended : goal.returns-clause-ended
returns-clause-ended g c = ended_so g.D.Driver.rules

pub returns-clause-room : goal.returns-clause-room
returns-clause-room g c = capacity_stays g.D.Driver.rules

pub returns-clause-stays : goal.returns-clause-stays
returns-clause-stays g c = stays

pub returns-clause-done : goal.returns-clause-done
returns-clause-done g c = done_so g.D.Driver.rules
