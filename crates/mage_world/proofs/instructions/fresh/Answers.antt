use Rattle.std.proofs.Common.{◌≡◌, ℕ, List, length, replicate, ap, ◌∙◌}
use Rattle.std.specs.Prelude.{Vec}
use Rattle.std.specs.Global.{Global}
use Rattle.std.specs.Vec.{with_items}
use Rattle.mage_instr.specs.declared.directive.Directive.TheVariants as entry
use Rattle.mage_network.specs.Network.{put}
use Rattle.mage_bank.specs.Bank.{contents, bank_of, lengths_of}
use Rattle.mage_world.proofs.SlotCalls.{back_again}
use Rattle.mage_world.proofs.Standing.{meets}
use Rattle.mage_world.proofs.Handling.{fresh_stands, fresh_turns}
use Rattle.mage_world.proofs.instructions.fresh.Goals as goal

pub returns-clause-stands : goal.returns-clause-stands
returns-clause-stands g c =
    let rules = g.D.Driver.rules in
    let part = c.args._part.now in
    let driver = g.D.Driver.tells c.args._driver.now in
    let worker = c.args.worker.now in
    let stands = c.requires.stands in
    let at = c.requires.here in
    let x = entry.Fresh c.args.frame c.args._page in
    let value : c.as_mut_slice.result.now ≡ worker.frames.items = c.as_mut_slice.ensures.value in
    let same : length c.clear.new.frames ≡ length worker.frames.items = c.clear.auto.frames ∙ ap (λ (l : List (Vec ℕ Global)). length l) value in
    let back = back_again worker.frames c.clear.new.frames same in
    let filled = ap (λ (l : List (Vec ℕ Global)). bank_of (contents l)) back ∙ c.clear.ensures.bank
    ∙ ap (λ (l : List (Vec ℕ Global)). put (bank_of (contents l)) c.args.frame (replicate (length (bank_of (contents l) c.args.frame)) 0)) value in
    let lengths = ap (λ (l : List (Vec ℕ Global)). lengths_of (contents l)) back ∙ c.clear.ensures.lengths ∙ ap (λ (l : List (Vec ℕ Global)). lengths_of (contents l)) value in
    fresh_stands rules part driver worker stands c.args.frame c.args._page at (with_items worker.frames c.clear.new.frames) filled lengths

pub returns-clause-turn : goal.returns-clause-turn
returns-clause-turn g c =
    let rules = g.D.Driver.rules in
    let part = c.args._part.now in
    let driver = g.D.Driver.tells c.args._driver.now in
    let worker = c.args.worker.now in
    let stands = c.requires.stands in
    let at = c.requires.here in
    let x = entry.Fresh c.args.frame c.args._page in
    let value : c.as_mut_slice.result.now ≡ worker.frames.items = c.as_mut_slice.ensures.value in
    let same : length c.clear.new.frames ≡ length worker.frames.items = c.clear.auto.frames ∙ ap (λ (l : List (Vec ℕ Global)). length l) value in
    let back = back_again worker.frames c.clear.new.frames same in
    let filled = ap (λ (l : List (Vec ℕ Global)). bank_of (contents l)) back ∙ c.clear.ensures.bank
    ∙ ap (λ (l : List (Vec ℕ Global)). put (bank_of (contents l)) c.args.frame (replicate (length (bank_of (contents l) c.args.frame)) 0)) value in
    let lengths = ap (λ (l : List (Vec ℕ Global)). lengths_of (contents l)) back ∙ c.clear.ensures.lengths ∙ ap (λ (l : List (Vec ℕ Global)). lengths_of (contents l)) value in
    fresh_turns rules part driver worker stands c.args.frame c.args._page at (with_items worker.frames c.clear.new.frames) filled lengths
    (meets rules part driver worker stands x at)
