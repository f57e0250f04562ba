use Rattle.std.proofs.Common.{◌≡◌, ◌<◌, length, slice_get, Some, arith, refl, ◌∙◌}
use Rattle.std.proofs.lemmas.Option.{slice_get_read}
use Rattle.mage_place.specs.Pages.{IsPage}
use Rattle.mage_place.specs.Pools.{list_count}
use Rattle.mage_place.proofs.Changed.{open_pages-relisted, other_numbers}
use Rattle.std.proofs.lemmas.List.{length-set}
use Rattle.mage_place.proofs.pool.relist.Goals as goal
use Rattle.mage_place.proofs.pool.relist.Goals.{After-index-changed}

page_is : (c : After-index-changed) → slice_get c.args.pool.now.pages.items c.args.page ≡ Some c.index-changed.result.now
page_is c = slice_get_read c.args.pool.now.pages.items (length c.args.pool.now.pages.items) c.args.page c.index-changed.result.now refl c.requires.page c.index-changed.ensures

page_ok : (c : After-index-changed) → IsPage c.args.pool.now.wires c.index-changed.result.now
page_ok c = c.requires.pool.pages c.args.page c.index-changed.result.now (page_is c)

pub is_partly_taken-open-requires : goal.is_partly_taken-open-requires
is_partly_taken-open-requires c = page_ok (goal.at.is_partly_taken-open-requires c).After-index-changed

pub index_mut-requires : goal.index_mut-requires
index_mut-requires c = let ok = page_ok (goal.at.index_mut-requires c).After-index-changed in
    omega (arith, ok.class_below, c.requires.pool.classes, c.args.pool.now.open.ok.0, c.from-class.ensures)

pub index_mut-requires-else-open : goal.index_mut-requires-else-open
index_mut-requires-else-open c = let ok = page_ok (goal.at.index_mut-requires-else-open c).After-index-changed in
    omega (arith, ok.class_below, c.requires.pool.classes, c.args.pool.now.open.ok.0, c.from-class.ensures)

pub returns-in_ok-insert-clause-pool : goal.returns-in_ok-insert-clause-pool
returns-in_ok-insert-clause-pool c =
    let start = (goal.at.returns-in_ok-insert-clause-pool c).After-index-changed in
    let pool = c.args.pool.now in let p = c.index-changed.result.now in let s = c.index_mut.result.now in
    let below : p.class < list_count = omega (arith, (page_ok start).class_below) in
    let was : slice_get pool.open.items p.class ≡ Some s = slice_get_read pool.open.items (length pool.open.items) p.class s refl (omega (arith, below, c.requires.pool.classes)) (rw c.from-class.ensures at c.index_mut.ensures.value) in
    rw c.from-class.ensures (record {
      classes = length-set pool.open.items p.class c.insert.new.self ∙ c.requires.pool.classes;
      pages = c.requires.pool.pages;
      open_pages = open_pages-relisted pool.wires pool.pages.items pool.open.items c.args.page p s c.insert.new.self (page_is start) c.requires.pool.classes below was
          c.requires.pool.open_pages (c.in_ok-insert.ensures.updates.1 ∙ c.if-open.ensures) (λ q ne. c.in_ok-insert.ensures.updates.2 q (other_numbers c.args.page q ne));
    })

pub returns-else-open-clause-pool : goal.returns-else-open-clause-pool
returns-else-open-clause-pool c =
    let start = (goal.at.returns-else-open-clause-pool c).After-index-changed in
    let pool = c.args.pool.now in let p = c.index-changed.result.now in let s = c.index_mut-else-open.result.now in
    let below : p.class < list_count = omega (arith, (page_ok start).class_below) in
    let was : slice_get pool.open.items p.class ≡ Some s = slice_get_read pool.open.items (length pool.open.items) p.class s refl (omega (arith, below, c.requires.pool.classes)) (rw c.from-class.ensures at c.index_mut-else-open.ensures.value) in
    rw c.from-class.ensures (record {
      classes = length-set pool.open.items p.class c.remove.new.self ∙ c.requires.pool.classes;
      pages = c.requires.pool.pages;
      open_pages = open_pages-relisted pool.wires pool.pages.items pool.open.items c.args.page p s c.remove.new.self (page_is start) c.requires.pool.classes below was
          c.requires.pool.open_pages (c.remove.ensures.updates.1 ∙ c.if-open.ensures) (λ q ne. c.remove.ensures.updates.2 q (other_numbers c.args.page q ne));
    })
