use Rattle.std.proofs.Common.{◌≡◌, drop}
use Rattle.mage_unroll.specs.Expressions.{all_shifted}
use Rattle.mage_unroll.specs.Unroller.{state_of}
use Rattle.mage_unroll.proofs.expressions.all_shifted.Given as goal

abbrev pub invariant-loop-term : goal.invariant-loop-term
invariant-loop-term l =
    all_shifted (drop l.term-index l.rest) l.word l.so_far (state_of l.unroller)
    ≡ all_shifted l.rest l.word l.initial.so_far (state_of l.initial.unroller)
