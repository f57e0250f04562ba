use Rattle.std.proofs.Common.{◌≡◌, ℕ, List, Result, Ok, Err, sym, ap, ◌∙◌}
use Rattle.mage_base.specs.Store.{StoreTold, Writes}
use Rattle.mage_outside.proofs.real_desk.tests.use_store.Goals as goal

-- the page length stays when a page is written
page_bytes_after_write : {T E : Type 0} (before after : StoreTold) (page : ℕ) (bytes : List ℕ) (result : Result T E) → Writes before after page bytes result → after.page_bytes ≡ before.page_bytes
page_bytes_after_write before after page bytes (Ok _) writes = ap (λ told. told.page_bytes) writes.1
page_bytes_after_write before after page bytes (Err _) writes = ap (λ told. told.page_bytes) writes.1

pub read-requires : goal.read-requires
read-requires g c = sym (page_bytes_after_write _ _ _ _ c.write.result c.write.ensures.writes ∙ c.requires)
