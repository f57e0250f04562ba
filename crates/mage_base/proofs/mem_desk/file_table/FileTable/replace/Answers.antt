use Rattle.std.proofs.Common.{◌≡◌, None, refl, sym, ap, is_some}
use Rattle.mage_base.specs.MemDesk.{files_in}
use Rattle.mage_base.proofs.FileTables.{files_in_table, files_in_updated, missing}
use Rattle.mage_base.proofs.mem_desk.file_table.FileTable.replace.Goals as goal

pub returns-in_default : goal.returns-in_default
returns-in_default c =
    let none : files_in c.args.self.now c.args.name.now ≡ None = rw (← c.self.view_is, files_in_table, ← c.in_default.ensures.value) refl in
    absurd (missing (files_in c.args.self.now c.args.name.now) none c.requires)

pub returns : goal.returns
returns c =
    let there = sym (ap is_some c.in-Some.ensures.value) in
    rw (← c.self.view_is) (files_in_updated c.args.name.now c.self.inside.files (c.get_mut.follows.lender c.args.bytes) c.args.bytes ((c.get_mut.follows.holds c.args.bytes).3 there))
