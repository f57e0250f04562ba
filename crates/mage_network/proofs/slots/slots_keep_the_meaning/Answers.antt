use Rattle.mage_network.specs.Slots.{idle, over_slots, at_once, IsServed}
use Rattle.mage_network.proofs.Tied.{events_begin, events_stop}
use Rattle.mage_network.proofs.SlotLemmas.{settled}
use Rattle.mage_network.proofs.SlotsMean.{slots_mean}
use Rattle.mage_network.proofs.slots.slots_keep_the_meaning.Goals as goal

pub returns-clause-means : goal.returns-clause-means
returns-clause-means g c = slots_mean

pub returns-clause-begins : goal.returns-clause-begins
returns-clause-begins g c engine engines pages never =
    events_begin (IsServed engine (λ n. idle (engines n) (pages n))) (over_slots engine)
    (at_once engine) (λ n. idle (engines n) (pages n)) (λ n. idle (engines n) (pages n))
    (slots_mean engine engines pages never)

pub returns-clause-stuck : goal.returns-clause-stuck
returns-clause-stuck g c engine engines pages never =
    events_stop (IsServed engine (λ n. idle (engines n) (pages n))) (over_slots engine)
    (at_once engine) (λ n. idle (engines n) (pages n)) (λ n. idle (engines n) (pages n))
    (slots_mean engine engines pages never)

pub returns-clause-settled : goal.returns-clause-settled
returns-clause-settled g c = settled
