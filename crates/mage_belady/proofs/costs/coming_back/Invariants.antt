-- The pages so far are counted.
use Rattle.std.proofs.Common.{◌≡◌, ◌≤◌, ◌+◌, ◌&&◌, not, drop, nat_eq}
use Rattle.std.specs.HashSet.{contains}
use Rattle.mage_belady.specs.Plan.{is_in, how_many}
use Rattle.mage_belady.proofs.costs.coming_back.Given as goal

abbrev pub invariant-loop-page : goal.invariant-loop-page
invariant-loop-page l = record {
  count : l.count + how_many (λ page. contains nat_eq l.seen page && not (is_in page l.before))
      (drop l.page-index l.set)
      ≡ how_many (λ page. contains nat_eq l.seen page && not (is_in page l.before)) l.set;
  bound : l.count ≤ l.page-index;
}
