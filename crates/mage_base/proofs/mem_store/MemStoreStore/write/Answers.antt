use Rattle.std.proofs.Common.{◌<◌, ap, map, arith}
use Rattle.std.proofs.lemmas.List.{length-map}
use Rattle.mage_base.specs.Faults.{top}
use Rattle.mage_base.specs.MemStore.{StoreState, pages_in}
use Rattle.mage_base.proofs.Pages.{told_written, told_failed}
use Rattle.mage_base.proofs.mem_store.MemStoreStore.write.Goals as goal

pub returns-then-begin-clause-writes : goal.returns-then-begin-clause-writes
returns-then-begin-clause-writes c =
    let inside = c.self.inside in
    let store : StoreState = record { page_bytes = inside.page_bytes; pages = map (λ page. page.items) inside.pages.items; reads = inside.reads; writes = inside.writes; faults = inside.faults; calls = inside.calls } in
    (pages_in c.args.self.now.page_bytes c.args.self.now.pages c.args.page, rw (← c.self.view_is) (told_failed store c.args.page c.saturating_add-self-inside.result c.begin.new.self (ap (λ calls. calls.failing) c.begin.ensures.after)))

pub returns-clause-writes : goal.returns-clause-writes
returns-clause-writes c =
    let inside = c.self.inside in
    let store : StoreState = record { page_bytes = inside.page_bytes; pages = map (λ page. page.items) inside.pages.items; reads = inside.reads; writes = inside.writes; faults = inside.faults; calls = inside.calls } in
    let below : inside.writes < top = grind arith in
    rw (← c.self.view_is, c.overwrite.ensures.pages) (below, told_written store c.args.page c.args.from.now c.begin.new.self (grind (arith, length-map)) (ap (λ calls. calls.failing) c.begin.ensures.after))
