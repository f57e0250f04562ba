use Rattle.std.proofs.Common.{◌≡◌, ◌<◌, ◌*◌, ◌/◌, Some, Result, Ok, Err, OnOk, length, set, slice_get, arith, refl, sym, ap, ◌∙◌}
use Rattle.std.proofs.lemmas.List.{length-set}
use Rattle.std.proofs.lemmas.Option.{slice_get_read}
use Rattle.std.proofs.Math.Nat.{mul-div_cancel}
use Rattle.mage_place.specs.Pages.{IsPage}
use Rattle.mage_place.specs.Pools.{class_at}
use Rattle.mage_place.proofs.Changed.{Changed-set, ArePages-changed, open_pages-changed}
use Rattle.mage_place.proofs.Given.{class_at-at, closed-by_class, is_taken-at, Frees-changed}
use Rattle.mage_place.proofs.pool.free.Goals as goal
use Rattle.mage_place.proofs.pool.free.Goals.{After-index_mut-page}

page_is : (c : After-index_mut-page) → slice_get c.args.pool.now.pages.items c.args.place.page ≡ Some c.index_mut-page.result.now
page_is c = slice_get_read c.args.pool.now.pages.items (length c.args.pool.now.pages.items) c.args.place.page c.index_mut-page.result.now refl c.requires.place.0 c.index_mut-page.ensures.value

page_ok : (c : After-index_mut-page) → IsPage c.args.pool.now.wires c.index_mut-page.result.now
page_ok c = c.requires.pool.pages c.args.place.page c.index_mut-page.result.now (page_is c)

pub nonzero_div-number : goal.nonzero_div-number
nonzero_div-number c = let ok = page_ok (goal.at.nonzero_div-number c).After-index_mut-page in omega (arith, ok.class_above, c.from-2.ensures)

pub free_place-requires : goal.free_place-requires
free_place-requires c = page_ok (goal.at.free_place-requires c).After-index_mut-page

pub relist-requires-clause-pool : goal.relist-requires-clause-pool
relist-requires-clause-pool c =
    let start = (goal.at.relist-requires-clause-pool c).After-index_mut-page in
    let pool = c.args.pool.now in let r = c.args.place.page in let p = c.free_place.new.page in
    let old = pool.pages.items in
    let changed = Changed-set old r p c.requires.place.0 in
    record {
      classes = c.requires.pool.classes;
      pages = ArePages-changed old (set old r p) r p changed pool.wires c.in_ok-free_place.ensures.ok c.requires.pool.pages;
      open_pages = open_pages-changed old (set old r p) r p changed pool.wires pool.open.items
          (λ k ne. closed-by_class pool.wires old k r c.index_mut-page.result.now (page_is start) (λ e. ne (e ∙ sym c.in_ok-free_place.ensures.class))) c.requires.pool.open_pages;
    }

on_ok : {T E P : Type 0} (r : Result T E) → P → OnOk r P
on_ok (Ok x) h = h
on_ok (Err e) h = tt

pub returns-clause-freed : goal.returns-clause-freed
returns-clause-freed c =
    let start = (goal.at.returns-clause-freed c).After-index_mut-page in
    let pool = c.args.pool.now in let place = c.args.place in let r = place.page in let p = c.free_place.new.page in
    let old = pool.pages.items in let was = c.index_mut-page.result.now in
    let changed = Changed-set old r p c.requires.place.0 in
    let class : p.class ≡ class_at old r = c.in_ok-free_place.ensures.class ∙ sym (class_at-at old r was (page_is start)) in
    let pos : 0 < p.class = omega (arith, (page_ok start).class_above, c.in_ok-free_place.ensures.class) in
    let k = c.requires.place.1 in
    let offset : place.offset ≡ k * p.class = c.requires.place.2 ∙ ap (λ x. k * x) (sym class) in
    let divisor : c.from-2.result ≡ p.class = c.from-2.ensures ∙ sym c.in_ok-free_place.ensures.class in
    let number : c.from.result / c.from-2.result ≡ k = rw (divisor, c.from.ensures, offset) (mul-div_cancel k pos) in
    rw c.relist.ensures.pages (on_ok c.relist.result (Frees-changed old (set old r p) r p changed place k refl (length-set old r p) class pos offset
    (λ j. rw (is_taken-at old r j was (page_is start), ← number) (c.in_ok-free_place.ensures.taken j))))
