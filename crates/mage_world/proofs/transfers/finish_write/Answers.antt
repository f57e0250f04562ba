use Rattle.std.proofs.Common.{Bool, subst}
use Rattle.mage_instr.specs.declared.directive.Directive.TheVariants as entry
use Rattle.mage_world.specs.Slots.{EndsWrite}
use Rattle.mage_world.proofs.Handling.{write_stands, write_turns}
use Rattle.mage_world.proofs.transfers.finish_write.Goals as goal

pub returns-clause-stands : goal.returns-clause-stands
returns-clause-stands g c =
    let rules = g.D.Driver.rules in
    let part = c.args._part.now in
    let driver = g.D.Driver.tells c.args._driver.now in
    let worker = c.args.worker.now in
    let stands = c.requires.stands in
    let at = c.requires.here in
    let x = entry.FinishOut c.args.slot in
    let ends = subst (λ (b : Bool). EndsWrite worker.slots.items c.end_write.new.slots.items c.args.slot b) c.if-not-end_write.false c.end_write.ensures.ended in
    write_stands rules part driver worker stands c.args.slot at c.end_write.new.slots ends
    (c.end_write.ensures.within part.pages stands.worker_is.named)

pub returns-clause-turn : goal.returns-clause-turn
returns-clause-turn g c =
    let rules = g.D.Driver.rules in
    let part = c.args._part.now in
    let driver = g.D.Driver.tells c.args._driver.now in
    let worker = c.args.worker.now in
    let stands = c.requires.stands in
    let at = c.requires.here in
    let x = entry.FinishOut c.args.slot in
    let ends = subst (λ (b : Bool). EndsWrite worker.slots.items c.end_write.new.slots.items c.args.slot b) c.if-not-end_write.false c.end_write.ensures.ended in
    write_turns rules part driver worker stands c.args.slot at c.end_write.new.slots ends
