-- What was renamed, and then what the rest gives, is the whole; and so is the number of store pages.
use Rattle.std.proofs.Common.{◌≡◌, ◌++◌, drop, length, max}
use Rattle.mage_sched.specs.Homes.{Store, homed_from, homed_of}
use Rattle.mage_sched.specs.Views.{Keeps}
use Rattle.mage_sched.proofs.homes.homed.Given as goal

abbrev pub invariant-loop-k : goal.invariant-loop-k
invariant-loop-k l =
    (store : Store)
    × Keeps l.homes store (drop l.k l.directives)
    × (l.list.items ++ (homed_from store (drop l.k l.directives)).directives ≡ (homed_of l.directives).directives)
    × (max (length store.holders) (homed_from store (drop l.k l.directives)).count ≡ (homed_of l.directives).count)
