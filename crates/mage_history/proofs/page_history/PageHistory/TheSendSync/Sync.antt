-- A history owns nothing, so any thread may share it.
use denote.Param.Send.{IsSync, part_keyless}
use Rattle.mage_history.specs.contracts.page_history.PageHistory.{the_row}
use Rattle.mage_history.proofs.page_history.PageHistory.TheSendSync.Send.{send}

pub sync : IsSync the_row
sync = record { shared = λ d b o κ q. part_keyless the_row send q d b o }
