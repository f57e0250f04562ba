use Rattle.std.proofs.Common.{ℕ, Bool, sym, subst}
use Rattle.mage_instr.specs.declared.directive.Directive.TheVariants as entry
use Rattle.mage_bank.specs.Bank.{contents}
use Rattle.mage_world.specs.Slots.{EndsRead, AreLong}
use Rattle.mage_world.proofs.Standing.{meets, frame_whole}
use Rattle.mage_world.proofs.Handling.{read_stands, read_turns}
use Rattle.mage_world.proofs.transfers.finish_read.Goals as goal

pub end_read-requires-clause-long : goal.end_read-requires-clause-long
end_read-requires-clause-long g c =
    let rules = g.D.Driver.rules in
    let part = c.args._part.now in
    let driver = g.D.Driver.tells c.args._driver.now in
    let worker = c.args.worker.now in
    let stands = c.requires.stands in
    let at = c.requires.here in
    let x = entry.FinishIn c.args.slot c.args.frame in
    let m = meets rules part driver worker stands x at in
    subst (λ (n : ℕ). AreLong n worker.slots.items) (sym (frame_whole rules part driver worker stands c.args.frame m.1)) stands.worker_is.long

pub returns-clause-stands : goal.returns-clause-stands
returns-clause-stands g c =
    let rules = g.D.Driver.rules in
    let part = c.args._part.now in
    let driver = g.D.Driver.tells c.args._driver.now in
    let worker = c.args.worker.now in
    let stands = c.requires.stands in
    let at = c.requires.here in
    let x = entry.FinishIn c.args.slot c.args.frame in
    let ends = subst (λ (b : Bool). EndsRead worker.slots.items c.end_read.new.slots.items c.args.slot (contents worker.frames.items) (contents c.end_read.new.frames.items) c.args.frame b) c.if-not-end_read.false c.end_read.ensures.ended in
    read_stands rules part driver worker stands c.args.slot c.args.frame at c.end_read.new.frames c.end_read.new.slots ends
    (c.end_read.ensures.within part.pages stands.worker_is.named)

pub returns-clause-turn : goal.returns-clause-turn
returns-clause-turn g c =
    let rules = g.D.Driver.rules in
    let part = c.args._part.now in
    let driver = g.D.Driver.tells c.args._driver.now in
    let worker = c.args.worker.now in
    let stands = c.requires.stands in
    let at = c.requires.here in
    let x = entry.FinishIn c.args.slot c.args.frame in
    let ends = subst (λ (b : Bool). EndsRead worker.slots.items c.end_read.new.slots.items c.args.slot (contents worker.frames.items) (contents c.end_read.new.frames.items) c.args.frame b) c.if-not-end_read.false c.end_read.ensures.ended in
    read_turns rules part driver worker stands c.args.slot c.args.frame at c.end_read.new.frames c.end_read.new.slots ends
