-- The store pages and the directives so far are those of the parts so far.
use Rattle.std.proofs.Common.{◌≡◌, map, take}
use Rattle.mage_sched.specs.Homes.{Homed}
use Rattle.mage_rehome.specs.Rehomed.{homed_parts}
use Rattle.mage_rehome.proofs.rehoming.renamed.Given as goal

abbrev pub invariant-loop-part : goal.invariant-loop-part
invariant-loop-part l = record {
  stores : l.stores ≡ map (λ (part : Homed). part.count) (homed_parts (take l.part-index l.parts));
  workers : l.workers ≡ map (λ (part : Homed). part.directives) (homed_parts (take l.part-index l.parts));
}
