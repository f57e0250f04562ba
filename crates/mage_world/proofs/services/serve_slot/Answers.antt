use Rattle.std.proofs.Common.{ℕ, refl, sym, subst}
use Rattle.mage_bank.specs.Bank.{contents, AreOf}
use Rattle.mage_world.specs.Slots.{AreWithin}
use Rattle.mage_world.specs.Seats.{page_bytes}
use Rattle.mage_world.proofs.Serving.{serve_done, serve_stands}
use Rattle.mage_world.proofs.Standing.{pages_count}
use Rattle.mage_world.proofs.services.serve_slot.Goals as goal

pub serve-requires-clause-within : goal.serve-requires-clause-within
serve-requires-clause-within g c =
    let count = pages_count g.D.Driver.rules c.args._part.now (g.D.Driver.tells c.args._driver.now) c.args.worker.now c.requires in
    subst (λ (n : ℕ). AreWithin n c.args.worker.now.slots.items) (sym count) c.requires.worker_is.named

pub serve-requires-clause-whole : goal.serve-requires-clause-whole
serve-requires-clause-whole g c =
    let bytes = page_bytes g.D.Driver.rules.wire_bytes c.args._part.now in
    let count = pages_count g.D.Driver.rules c.args._part.now (g.D.Driver.tells c.args._driver.now) c.args.worker.now c.requires in (
      bytes,
      c.requires.worker_is.long,
      subst (λ (n : ℕ). AreOf n bytes (contents c.args.worker.now.pages.items)) (sym count) c.requires.worker_is.pages,
    )

pub returns-then-serve-clause-stands : goal.returns-then-serve-clause-stands
returns-then-serve-clause-stands g c =
    serve_stands g.D.Driver.rules c.args._part.now (g.D.Driver.tells c.args._driver.now) c.args.worker.now c.requires c.args.slot c.serve.new.slots c.serve.new.pages c.if-serve.ensures.served
    (c.if-serve.ensures.within c.args._part.now.pages c.requires.worker_is.named)

pub returns-then-serve-clause-served : goal.returns-then-serve-clause-served
returns-then-serve-clause-served g c =
    (serve_done g.D.Driver.rules c.args._part.now (g.D.Driver.tells c.args._driver.now) c.args.worker.now c.requires c.args.slot c.serve.new.slots c.serve.new.pages c.if-serve.ensures.served, refl)
