use Rattle.std.proofs.Common.{◌≡◌, List, ℕ, length, refl, sym, ap, ◌∙◌, arith}
use Rattle.mage_bank.specs.Bank.{contents}
use Rattle.mage_network.specs.Network.{put}
use Rattle.mage_world.specs.declared.slot.Transfer.TheVariants as goes
use Rattle.mage_world.specs.declared.slot.Work.TheVariants as work
use Rattle.mage_world.specs.Slots.{page_at}
use Rattle.mage_world.proofs.SlotLemmas.{long_at}
use Rattle.mage_world.proofs.SlotCalls.{in_here, within_was, long_page, page_is, page_put, page_lengths, served_read, served_write}
use Rattle.mage_world.proofs.slot.serve.Goals as goal

pub copy_from_slice-requires : goal.copy_from_slice-requires
copy_from_slice-requires c =
    let slots = c.args.slots.now.items in
    let pages = c.args.pages.now.items in
    let old = c.index_mut-slot.result.now in
    let page = c.in-Busy-Read.page in
    let inside = in_here c.args.slots.now.items c.from.result c.args.slot c.from.ensures c.requires.inside c.index_mut-slot.result.now c.index_mut-slot.ensures.value in
    let inner = rw c.in-Busy-Read.is at c.in-Busy-Read.field-0-is in
    let busy = c.in-Busy-Read.is ∙ ap work.Busy inner in
    let below = within_was c.args.slots.now.items c.from.result c.args.slot c.from.ensures c.requires.inside c.index_mut-slot.result.now c.index_mut-slot.ensures.value (length pages) (work.Busy (goes.Read page)) busy c.requires.within in
    let long = long_at c.requires.whole.0 slots c.from.result old c.requires.whole.1 inside c.index_mut-slot.ensures.value in
    let whole = long_page pages c.requires.whole.0 c.requires.whole.2 page c.index.result.now below c.index.ensures in
    let value = ap (λ (l : List ℕ). length l) c.as_slice.ensures.value in
    let ok = old.bytes.ok.0 in
    let same : old.bytes.len ≡ length c.as_slice.result.now = omega (arith, long, whole, value, ok) in same

pub copy_from_slice-requires-in-Busy-Write : goal.copy_from_slice-requires-in-Busy-Write
copy_from_slice-requires-in-Busy-Write c =
    let slots = c.args.slots.now.items in
    let pages = c.args.pages.now.items in
    let old = c.index_mut-slot.result.now in
    let page = c.in-Busy-Write.page in
    let inside = in_here c.args.slots.now.items c.from.result c.args.slot c.from.ensures c.requires.inside c.index_mut-slot.result.now c.index_mut-slot.ensures.value in
    let inner = rw c.in-Busy-Write.is at c.in-Busy-Write.field-0-is in
    let busy = c.in-Busy-Write.is ∙ ap work.Busy inner in
    let below = within_was c.args.slots.now.items c.from.result c.args.slot c.from.ensures c.requires.inside c.index_mut-slot.result.now c.index_mut-slot.ensures.value (length pages) (work.Busy (goes.Write page)) busy c.requires.within in
    let long = long_at c.requires.whole.0 slots c.from.result old c.requires.whole.1 inside c.index_mut-slot.ensures.value in
    let whole = long_page pages c.requires.whole.0 c.requires.whole.2 page c.index_mut.result.now below c.index_mut.ensures.value in
    let value = ap (λ (l : List ℕ). length l) c.as_slice-in-Busy-Write.ensures.value in
    let ok = c.index_mut.result.now.ok.0 in
    let same : c.index_mut.result.now.len ≡ length c.as_slice-in-Busy-Write.result.now = omega (arith, long, whole, value, ok) in same

pub returns-in-Busy-Read-clause-served : goal.returns-in-Busy-Read-clause-served
returns-in-Busy-Read-clause-served c =
    let slots = c.args.slots.now.items in
    let pages = c.args.pages.now.items in
    let old = c.index_mut-slot.result.now in
    let page = c.in-Busy-Read.page in
    let inside = in_here c.args.slots.now.items c.from.result c.args.slot c.from.ensures c.requires.inside c.index_mut-slot.result.now c.index_mut-slot.ensures.value in
    let inner = rw c.in-Busy-Read.is at c.in-Busy-Read.field-0-is in
    let busy = c.in-Busy-Read.is ∙ ap work.Busy inner in
    let below = within_was c.args.slots.now.items c.from.result c.args.slot c.from.ensures c.requires.inside c.index_mut-slot.result.now c.index_mut-slot.ensures.value (length pages) (work.Busy (goes.Read page)) busy c.requires.within in
    let long = long_at c.requires.whole.0 slots c.from.result old c.requires.whole.1 inside c.index_mut-slot.ensures.value in
    let whole = long_page pages c.requires.whole.0 c.requires.whole.2 page c.index.result.now below c.index.ensures in
    let are = c.copy_from_slice.ensures.items ∙ c.as_slice.ensures.value in
    served_read c.args.slots.now.items c.from.result c.args.slot c.from.ensures c.requires.inside c.index_mut-slot.result.now c.index_mut-slot.ensures.value page c.index.result.now.items c.copy_from_slice.new.self
    (contents pages) busy are (whole ∙ sym long) (page_is pages page page refl below c.index.result.now c.index.ensures)

pub returns-in-Busy-Write-clause-served : goal.returns-in-Busy-Write-clause-served
returns-in-Busy-Write-clause-served c =
    let slots = c.args.slots.now.items in
    let pages = c.args.pages.now.items in
    let old = c.index_mut-slot.result.now in
    let page = c.in-Busy-Write.page in
    let inside = in_here c.args.slots.now.items c.from.result c.args.slot c.from.ensures c.requires.inside c.index_mut-slot.result.now c.index_mut-slot.ensures.value in
    let inner = rw c.in-Busy-Write.is at c.in-Busy-Write.field-0-is in
    let busy = c.in-Busy-Write.is ∙ ap work.Busy inner in
    let below = within_was c.args.slots.now.items c.from.result c.args.slot c.from.ensures c.requires.inside c.index_mut-slot.result.now c.index_mut-slot.ensures.value (length pages) (work.Busy (goes.Write page)) busy c.requires.within in
    let long = long_at c.requires.whole.0 slots c.from.result old c.requires.whole.1 inside c.index_mut-slot.ensures.value in
    let was = c.index_mut.result.now in
    let whole = long_page pages c.requires.whole.0 c.requires.whole.2 page was below c.index_mut.ensures.value in
    let now = c.copy_from_slice-in-Busy-Write.new.self in
    let are : now.items ≡ old.bytes.items = c.copy_from_slice-in-Busy-Write.ensures.items ∙ c.as_slice-in-Busy-Write.ensures.value in
    let same : length now.items ≡ length was.items = ap (λ (l : List ℕ). length l) are ∙ long ∙ sym whole in
    served_write c.args.slots.now.items c.from.result c.args.slot c.from.ensures c.requires.inside c.index_mut-slot.result.now c.index_mut-slot.ensures.value page (contents pages) _ busy
    (λ empty. page_put pages page page refl below was c.index_mut.ensures.value now empty ∙ ap (put (page_at empty (contents pages)) page) are)
    (page_lengths pages page page refl below was c.index_mut.ensures.value now same)
