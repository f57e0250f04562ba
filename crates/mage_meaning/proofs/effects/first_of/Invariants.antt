use Rattle.std.proofs.Common.{◌≡◌, ◌++◌, ◌-◌, drop}
use Rattle.mage_meaning.specs.Value.{first_of}
use Rattle.mage_meaning.proofs.effects.first_of.Given as goal

abbrev pub invariant-loop-place : goal.invariant-loop-place
invariant-loop-place l = l.items.items ++ first_of (l.count - l.place) (drop l.place l.values) ≡ first_of l.count l.values
