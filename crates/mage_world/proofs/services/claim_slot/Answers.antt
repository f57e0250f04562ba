use Rattle.std.proofs.Common.{refl}
use Rattle.mage_world.proofs.Serving.{claim_done, claim_stands}
use Rattle.mage_world.proofs.services.claim_slot.Goals as goal

pub returns-then-claim-clause-stands : goal.returns-then-claim-clause-stands
returns-then-claim-clause-stands g c =
    claim_stands g.D.Driver.rules c.args._part.now (g.D.Driver.tells c.args._driver.now) c.args.worker.now c.requires c.args.slot c.claim.new.slots c.if-claim.ensures.claimed
    (c.if-claim.ensures.within c.args._part.now.pages c.requires.worker_is.named)

pub returns-then-claim-clause-served : goal.returns-then-claim-clause-served
returns-then-claim-clause-served g c =
    (claim_done g.D.Driver.rules c.args._part.now (g.D.Driver.tells c.args._driver.now) c.args.worker.now c.requires c.args.slot c.claim.new.slots c.if-claim.ensures.claimed, refl)
