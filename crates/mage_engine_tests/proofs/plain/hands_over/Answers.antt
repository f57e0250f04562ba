use Rattle.std.proofs.Common.{sym, subst}
use Rattle.mage_link.specs.Queues.{queue_told}
use Rattle.mage_verify.specs.Parts.{WorkerPart}
use Rattle.mage_engine.specs.Ready.{Connects}
use Rattle.mage_engine_tests.proofs.plain.hands_over.Goals as goal

pub stepped-requires-2-after_bounds : goal.stepped-requires-2-after_bounds
stepped-requires-2-after_bounds c κs =
    c.stepped.ensures.links c.args.sender.part (c.in_ok-link.ensures c.args.sender.part c.requires.sender)

pub in_turn-requires-clause-first : goal.in_turn-requires-clause-first
in_turn-requires-clause-first c κs =
    subst (λ (part : WorkerPart). Connects (queue_told c.stepped-2.new.link) part) (sym c.stepped-2.ensures.part)
    (c.stepped-2.ensures.links c.args.sender.part (c.stepped.ensures.links c.args.sender.part (c.in_ok-link.ensures c.args.sender.part c.requires.sender)))

pub in_turn-requires-clause-second : goal.in_turn-requires-clause-second
in_turn-requires-clause-second c κs =
    subst (λ (part : WorkerPart). Connects (queue_told c.stepped-2.new.link) part) (sym c.stepped.ensures.part)
    (c.stepped-2.ensures.links c.args.receiver.part (c.stepped.ensures.links c.args.receiver.part (c.in_ok-link.ensures c.args.receiver.part c.requires.receiver)))
