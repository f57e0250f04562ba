use Rattle.std.proofs.Common.{◌≡◌, List, ℕ, length, ap, ◌∙◌}
use Rattle.mage_bank.specs.Bank.{contents, bank_of}
use Rattle.mage_network.specs.Network.{put}
use Rattle.mage_world.specs.declared.slot.Work.TheVariants as work
use Rattle.mage_world.proofs.SlotLemmas.{long_at}
use Rattle.mage_world.proofs.SlotCalls.{in_here, ended_read, frame_put, frame_is, page_lengths}
use Rattle.mage_world.proofs.slot.end_read.Goals as goal

pub returns-in-Served-Read-clause-ended : goal.returns-in-Served-Read-clause-ended
returns-in-Served-Read-clause-ended c =
    let frames = c.args.frames.now.items in
    let i = c.from-in-Served-Read.result in
    let frame = c.index_mut.result.now in
    let now = c.copy_from_slice.new.self in
    let inside = in_here c.args.slots.now.items c.from.result c.args.slot c.from.ensures c.requires.inside c.index_mut-slot.result.now c.index_mut-slot.ensures.value in
    let are : now.items ≡ c.index_mut-slot.result.now.bytes.items = c.copy_from_slice.ensures.items ∙ c.as_slice.ensures.value in
    let same : length now.items ≡ length frame.items =
    ap (λ (l : List ℕ). length l) are
    ∙ long_at (length (bank_of (contents frames) c.args.frame)) c.args.slots.now.items c.from.result c.index_mut-slot.result.now c.requires.long inside c.index_mut-slot.ensures.value
    ∙ ap (λ (l : List ℕ). length l) (frame_is frames i c.args.frame c.from-in-Served-Read.ensures c.requires.there frame c.index_mut.ensures.value) in
    let filled = frame_put frames i c.args.frame c.from-in-Served-Read.ensures c.requires.there frame c.index_mut.ensures.value now same
    ∙ ap (put (bank_of (contents frames)) c.args.frame) are in
    let lengths = page_lengths frames i c.args.frame c.from-in-Served-Read.ensures c.requires.there frame c.index_mut.ensures.value now same in
    ended_read c.args.slots.now.items c.from.result c.args.slot c.from.ensures c.requires.inside c.index_mut-slot.result.now c.index_mut-slot.ensures.value c.in-Served-Read.field-0-0 c.args.frame (contents frames) _
    (c.in-Served-Read.is ∙ ap work.Served (rw c.in-Served-Read.is at c.in-Served-Read.field-0-is)) filled lengths
