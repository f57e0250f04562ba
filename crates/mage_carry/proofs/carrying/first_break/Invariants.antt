-- The walk so far broke no rule, and the break of the rest is that of all.
use Rattle.std.proofs.Common.{◌≡◌, drop, length}
use Rattle.mage_carry.specs.Carrying.{walked, broken_at, break_of}
use Rattle.mage_carry.specs.Views.{state_of}
use Rattle.mage_carry.proofs.carrying.first_break.Given as goal

abbrev pub invariant-loop-d : goal.invariant-loop-d
invariant-loop-d l = broken_at l.instrs (length l.part) (walked l.instrs l.limits.page l.store l.d (state_of l.walk) (drop l.d l.part)) ≡ break_of l.limits l.store l.instrs l.part
