use Rattle.std.proofs.Common.{◌≡◌, length, map, replicate}
use Rattle.std.specs.List.{All}
use Rattle.mage_base.specs.Store.{zero_page}
use Rattle.mage_base.proofs.memory_pages.zero_pages.Given as goal

abbrev pub invariant-loop : goal.invariant-loop
invariant-loop l = record {
  pages : map (λ page. page.items) l.pages.items ≡ replicate l.counter (zero_page l.page_bytes);
  lengths : All (λ page. length page.items ≡ l.page_bytes) l.pages.items;
}
