use Rattle.std.proofs.Common.{Bool, refl, subst}
use Rattle.mage_instr.specs.declared.directive.Directive.TheVariants as entry
use Rattle.mage_network.specs.Slots as net
use Rattle.mage_world.specs.Slots.{Begins}
use Rattle.mage_world.proofs.Standing.{meets}
use Rattle.mage_world.proofs.Handling.{ask_stands, ask_turns}
use Rattle.mage_world.proofs.transfers.ask_read.Goals as goal

pub returns-clause-stands : goal.returns-clause-stands
returns-clause-stands g c =
    let rules = g.D.Driver.rules in
    let part = c.args._part.now in
    let driver = g.D.Driver.tells c.args._driver.now in
    let worker = c.args.worker.now in
    let stands = c.requires.stands in
    let at = c.requires.here in
    let x = entry.IssueIn c.args.slot c.args.page in
    let begins = subst (λ (b : Bool). Begins worker.slots.items c.begin_read.new.slots.items c.args.slot (net.Reads c.args.page) b) c.if-not-begin_read.false c.begin_read.ensures.asked in
    let m = meets rules part driver worker stands x at in
    ask_stands rules part driver worker stands c.args.slot (net.Reads c.args.page) x at refl c.begin_read.new.slots begins.1
    (c.begin_read.ensures.within part.pages m.1 stands.worker_is.named)

pub returns-clause-turn : goal.returns-clause-turn
returns-clause-turn g c =
    let rules = g.D.Driver.rules in
    let part = c.args._part.now in
    let driver = g.D.Driver.tells c.args._driver.now in
    let worker = c.args.worker.now in
    let stands = c.requires.stands in
    let at = c.requires.here in
    let x = entry.IssueIn c.args.slot c.args.page in
    let begins = subst (λ (b : Bool). Begins worker.slots.items c.begin_read.new.slots.items c.args.slot (net.Reads c.args.page) b) c.if-not-begin_read.false c.begin_read.ensures.asked in
    ask_turns rules part driver worker stands c.args.slot (net.Reads c.args.page) x at refl c.begin_read.new.slots begins
