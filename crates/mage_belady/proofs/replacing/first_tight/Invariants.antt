-- No step so far has too many pages.
use Rattle.std.proofs.Common.{◌≡◌, drop}
use Rattle.mage_belady.specs.Rule.{tight_of}
use Rattle.mage_belady.proofs.replacing.first_tight.Given as goal

abbrev pub invariant-loop-t : goal.invariant-loop-t
invariant-loop-t l = tight_of l.frames 0 l.trace ≡ tight_of l.frames l.t (drop l.t l.trace)
