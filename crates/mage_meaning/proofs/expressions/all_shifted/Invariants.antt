use Rattle.std.proofs.Common.{◌≡◌, drop}
use Rattle.mage_meaning.specs.Run.{moment_of}
use Rattle.mage_meaning.specs.Value.{all_shifted}
use Rattle.mage_meaning.proofs.expressions.all_shifted.Given as goal

abbrev pub invariant-loop-term : goal.invariant-loop-term
invariant-loop-term l = all_shifted (drop l.term-index l.rest) l.so_far (moment_of l.run) ≡ all_shifted l.rest l.initial.so_far (moment_of l.run)
