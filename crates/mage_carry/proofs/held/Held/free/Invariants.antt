-- Below the offset the variables that overlap are gone, and from there on all are as they were.
use Rattle.std.proofs.Common.{◌≡◌, ℕ, if◌then◌else◌}
use Rattle.std.specs.Prelude.{nat_lt}
use Rattle.mage_carry.specs.Steps.{freed}
use Rattle.mage_carry.specs.Views.{content_of}
use Rattle.mage_carry.proofs.held.Held.free.Given as goal

abbrev pub invariant-loop-offset : goal.invariant-loop-offset
invariant-loop-offset l = (q : ℕ) → content_of l.self q ≡ (if nat_lt q l.offset then freed l.instrs l.other l.count (content_of l.initial.self) q else content_of l.initial.self q)
