use Rattle.mage_progress.specs.Stands.{Starts, Goes}
use Rattle.mage_progress.proofs.Tracking.{reached_same}
use Rattle.mage_progress.proofs.Stuck.{program_verified, reached_ends, still_same}
use Rattle.mage_progress.proofs.Shrinking.{step_shrinks, left_same}
use Rattle.mage_progress.proofs.laws.machines_are_never_all_stuck.Goals as goal

pub returns-clause-programs : goal.returns-clause-programs
returns-clause-programs c = program_verified

pub returns-clause-starts : goal.returns-clause-starts
returns-clause-starts c parts stands held first none = Starts first none

pub returns-clause-moves : goal.returns-clause-moves
returns-clause-moves c parts stands later held left worker reached inside on = Goes reached inside on

pub returns-clause-never_stuck : goal.returns-clause-never_stuck
returns-clause-never_stuck c = reached_ends

pub returns-clause-shrinks : goal.returns-clause-shrinks
returns-clause-shrinks c = step_shrinks

pub returns-clause-same : goal.returns-clause-same
returns-clause-same c = reached_same

pub returns-clause-still : goal.returns-clause-still
returns-clause-still c = left_same

pub returns-clause-rests : goal.returns-clause-rests
returns-clause-rests c = still_same
