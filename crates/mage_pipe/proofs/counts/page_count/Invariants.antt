-- The pages so far and those of the rest are the pages of all.
use Rattle.std.proofs.Common.{◌≡◌, max, drop}
use Rattle.mage_place.specs.Places.{next_page}
use Rattle.mage_pipe.proofs.counts.page_count.Given as goal

abbrev pub invariant-loop-place : goal.invariant-loop-place
invariant-loop-place l = max l.count (next_page (drop l.place-index l.places)) ≡ next_page l.places
