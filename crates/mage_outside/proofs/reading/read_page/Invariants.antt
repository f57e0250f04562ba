use Rattle.std.proofs.Common.{◌≤◌, ◌-◌, length}
use Rattle.mage_outside.proofs.reading.read_page.Given as goal

abbrev pub invariant-loop-filled : goal.invariant-loop-filled
invariant-loop-filled g l = l.filled ≤ length l.page

abbrev pub decreases-loop-filled : goal.decreases-loop-filled
decreases-loop-filled g l = length l.page - l.filled
