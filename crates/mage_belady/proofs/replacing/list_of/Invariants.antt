-- The list so far, and then what the rule gives for the rest, is the whole list.
use Rattle.std.proofs.Common.{◌≤◌, ◌+◌, ◌*◌, drop}
use Rattle.mage_belady.specs.Rule.{page_uses}
use Rattle.mage_belady.proofs.Stages.{Stage}
use Rattle.mage_belady.proofs.replacing.list_of.Given as goal

abbrev pub invariant-loop-t : goal.invariant-loop-t
invariant-loop-t g l = record {
  stage : Stage l.frames l.instrs l.places l.trace l.t l.paging;
  counted : l.steps + 3 * page_uses (drop l.t l.trace) ≤ l.initial.steps + 3 * page_uses l.trace;
}
