-- What was counted, and what is left to count.
use Rattle.std.proofs.Common.{◌≡◌, ◌+◌, ℕ, drop}
use Rattle.mage_sched.specs.Homes.{transfers_of}
use Rattle.mage_sched.specs.Views.{count_in}
use Rattle.mage_sched.proofs.transfers.transfers_of.Given as goal

abbrev pub invariant-loop-k : goal.invariant-loop-k
invariant-loop-k l = (page : ℕ) → count_in l.counts page + transfers_of (drop l.k l.directives) page ≡ transfers_of l.directives page
