use Rattle.std.proofs.Common.{string_bytes}
use Rattle.mage_base.proofs.FileTables.{files_in_updated}
use Rattle.mage_base.proofs.mem_desk.file_table.FileTable.put.Goals as goal

pub returns-clause-ok : goal.returns-clause-ok
returns-clause-ok c = rw (← c.self.view_is, ← c.in_ok-key.ensures.ok, ← c.in_ok-value.ensures.items) (files_in_updated (string_bytes c.in_ok-key.key) c.self.inside.files c.insert.new.self c.in_ok-value.value c.in_ok-insert.ensures.updates)
