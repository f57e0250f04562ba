use Rattle.mage_base.proofs.FileTables.{files_in_table}
use Rattle.mage_base.proofs.mem_desk.file_table.FileTable.find.Goals as goal

pub returns-in-Some : goal.returns-in-Some
returns-in-Some c = rw (← c.self.view_is, files_in_table, ← c.in-Some.ensures.value, c.as_slice.ensures.value)

pub returns-in-None : goal.returns-in-None
returns-in-None c = rw (← c.self.view_is, files_in_table, ← c.in-None.ensures.value)
