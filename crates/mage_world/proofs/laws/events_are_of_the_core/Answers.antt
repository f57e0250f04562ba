use Rattle.std.proofs.Common.{refl}
use Rattle.mage_verify.specs.Parts.{parts_of}
use Rattle.mage_world.specs.Worlds.{worker_in, what_in}
use Rattle.mage_world.proofs.CoreLemmas.{opening_shown, done}
use Rattle.mage_world.proofs.laws.events_are_of_the_core.Goals as goal

pub returns-clause-opens : goal.returns-clause-opens
returns-clause-opens g c = λ plan states drivers capacity count told.
    opening_shown g.D.Driver.rules g.D.Driver.tells plan states (parts_of plan) drivers capacity refl count told

pub returns-clause-done : goal.returns-clause-done
returns-clause-done g c = λ plan states old new event network shows is told.
    done g.D.Driver.rules plan states old new (worker_in event) is.1 is.2 is.3 is.4 network shows (what_in event) (told is.2 is.4.was_is) is.5
