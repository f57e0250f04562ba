use Rattle.std.proofs.Common.{◌≡◌, drop}
use Rattle.mage_place.specs.TooWide.{too_wide_from, page_tight}
use Rattle.mage_place.proofs.too_wide.page_tight.Given as goal

-- what is found from here on is what is found
abbrev pub invariant-loop-t : goal.invariant-loop-t
invariant-loop-t l = too_wide_from l.t l.page (drop l.t l.instrs) ≡ page_tight l.page l.instrs
