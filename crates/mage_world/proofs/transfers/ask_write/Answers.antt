use Rattle.std.proofs.Common.{◌<◌, ℕ, Bool, List, length, sym, ap, ◌∙◌, subst, arith}
use Rattle.mage_instr.specs.declared.directive.Directive.TheVariants as entry
use Rattle.mage_network.specs.Slots as net
use Rattle.mage_steps.specs.Engines.{advanced}
use Rattle.mage_world.specs.Slots.{Begins, AreLong}
use Rattle.mage_world.proofs.SlotCalls.{frame_is}
use Rattle.mage_world.proofs.Standing.{meets, few, frames_count, frame_whole}
use Rattle.mage_world.proofs.Handling.{old, ask_stands, ask_turns}
use Rattle.mage_world.proofs.transfers.ask_write.Goals as goal

pub begin_write-requires-clause-long : goal.begin_write-requires-clause-long
begin_write-requires-clause-long g c =
    let rules = g.D.Driver.rules in
    let part = c.args._part.now in
    let driver = g.D.Driver.tells c.args._driver.now in
    let worker = c.args.worker.now in
    let stands = c.requires.stands in
    let at = c.requires.here in
    let x = entry.IssueOut c.args.slot c.args.frame c.args.page in
    let m = meets rules part driver worker stands x at in
    let count = frames_count rules part driver worker stands in
    let frame_in = m.1 in
    let there : c.args.frame < length worker.frames.items = omega (arith, count, frame_in) in
    let bytes = c.as_slice-bytes.result.now in
    let holds = frame_is worker.frames.items c.from.result c.args.frame c.from.ensures there c.index.result.now c.index.ensures ∙ sym c.as_slice-bytes.ensures.value in
    subst (λ (n : ℕ). AreLong n worker.slots.items) (sym (frame_whole rules part driver worker stands c.args.frame frame_in) ∙ ap (λ (l : List ℕ). length l) holds)
    stands.worker_is.long

pub overflow_add-worker : goal.overflow_add-worker
overflow_add-worker g c =
    let rules = g.D.Driver.rules in
    let part = c.args._part.now in
    let driver = g.D.Driver.tells c.args._driver.now in
    let worker = c.args.worker.now in
    let stands = c.requires.stands in
    let at = c.requires.here in
    let x = entry.IssueOut c.args.slot c.args.frame c.args.page in
    let m = meets rules part driver worker stands x at in
    let count = frames_count rules part driver worker stands in
    let frame_in = m.1 in
    let there : c.args.frame < length worker.frames.items = omega (arith, count, frame_in) in
    let bytes = c.as_slice-bytes.result.now in
    let holds = frame_is worker.frames.items c.from.result c.args.frame c.from.ensures there c.index.result.now c.index.ensures ∙ sym c.as_slice-bytes.ensures.value in
    let f = few rules part driver worker stands x at in omega (arith, f)

pub returns-clause-stands : goal.returns-clause-stands
returns-clause-stands g c =
    let rules = g.D.Driver.rules in
    let part = c.args._part.now in
    let driver = g.D.Driver.tells c.args._driver.now in
    let worker = c.args.worker.now in
    let stands = c.requires.stands in
    let at = c.requires.here in
    let x = entry.IssueOut c.args.slot c.args.frame c.args.page in
    let m = meets rules part driver worker stands x at in
    let count = frames_count rules part driver worker stands in
    let frame_in = m.1 in
    let there : c.args.frame < length worker.frames.items = omega (arith, count, frame_in) in
    let bytes = c.as_slice-bytes.result.now in
    let holds = frame_is worker.frames.items c.from.result c.args.frame c.from.ensures there c.index.result.now c.index.ensures ∙ sym c.as_slice-bytes.ensures.value in
    let asks = ap (λ (b : List ℕ). net.Asks c.args.slot (net.Writes c.args.page b) (advanced (old rules part driver worker stands).core.engine)) holds in
    let begins = subst (λ (b : Bool). Begins worker.slots.items c.begin_write.new.slots.items c.args.slot (net.Writes c.args.page bytes) b) c.if-not-begin_write.false c.begin_write.ensures.asked in
    ask_stands rules part driver worker stands c.args.slot (net.Writes c.args.page bytes) x at asks c.begin_write.new.slots begins.1
    (c.begin_write.ensures.within part.pages m.2 stands.worker_is.named)

pub returns-clause-turn : goal.returns-clause-turn
returns-clause-turn g c =
    let rules = g.D.Driver.rules in
    let part = c.args._part.now in
    let driver = g.D.Driver.tells c.args._driver.now in
    let worker = c.args.worker.now in
    let stands = c.requires.stands in
    let at = c.requires.here in
    let x = entry.IssueOut c.args.slot c.args.frame c.args.page in
    let m = meets rules part driver worker stands x at in
    let count = frames_count rules part driver worker stands in
    let frame_in = m.1 in
    let there : c.args.frame < length worker.frames.items = omega (arith, count, frame_in) in
    let bytes = c.as_slice-bytes.result.now in
    let holds = frame_is worker.frames.items c.from.result c.args.frame c.from.ensures there c.index.result.now c.index.ensures ∙ sym c.as_slice-bytes.ensures.value in
    let asks = ap (λ (b : List ℕ). net.Asks c.args.slot (net.Writes c.args.page b) (advanced (old rules part driver worker stands).core.engine)) holds in
    let begins = subst (λ (b : Bool). Begins worker.slots.items c.begin_write.new.slots.items c.args.slot (net.Writes c.args.page bytes) b) c.if-not-begin_write.false c.begin_write.ensures.asked in
    ask_turns rules part driver worker stands c.args.slot (net.Writes c.args.page bytes) x at asks c.begin_write.new.slots begins
