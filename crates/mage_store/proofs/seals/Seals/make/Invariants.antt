use Rattle.std.proofs.Common.{◌≡◌, ℕ, is_some, take}
use Rattle.std.specs.Prelude.{◌==◌}
use Rattle.std.specs.List.{list_any}
use Rattle.std.specs.Ordering.{nat_cmp}
use Rattle.std.specs.BTreeMap.{get}
use Rattle.mage_store.proofs.seals.Seals.make.Given as goal

abbrev pub invariant-loop-page : goal.invariant-loop-page
invariant-loop-page l = (page : ℕ) → is_some (get nat_cmp l.digests page) ≡ list_any (λ p. p == page) (take l.page-index l.pages)
