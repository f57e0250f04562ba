use Rattle.mage_network.specs.Waiting.{IsPair}
use Rattle.mage_network.proofs.Tied.{events_comparable, events_begin, events_stop}
use Rattle.mage_network.proofs.waiting.what_is_meant_happens.Goals as goal

pub returns-clause-comparable : goal.returns-clause-comparable
returns-clause-comparable g c real_of meant_of =
    events_comparable (λ n. IsPair (real_of n) (meant_of n))

pub returns-clause-begins : goal.returns-clause-begins
returns-clause-begins g c real_of meant_of = events_begin (λ n. IsPair (real_of n) (meant_of n))

pub returns-clause-stuck : goal.returns-clause-stuck
returns-clause-stuck g c real_of meant_of = events_stop (λ n. IsPair (real_of n) (meant_of n))
