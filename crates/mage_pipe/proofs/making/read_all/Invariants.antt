-- The instructions that were read have three arguments.
use Rattle.std.proofs.Common.{◌≡◌, ◌<◌, ℕ, length, IfSome}
use Rattle.std.specs.Prelude.{slice_get}
use Rattle.mage_pipe.proofs.making.read_all.Given as goal

abbrev pub invariant-loop-k : goal.invariant-loop-k
invariant-loop-k l = (t : ℕ) → t < l.k → IfSome (slice_get l.instrs t) (λ i. length i.args ≡ 3)
