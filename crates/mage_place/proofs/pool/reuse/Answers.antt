use Rattle.std.proofs.Common.{◌≡◌, ◌<◌, ◌*◌, ◌/◌, ℕ, Some, length, set, slice_get, arith, refl, sym, ap, ◌∙◌}
use Rattle.std.proofs.lemmas.List.{length-set}
use Rattle.std.proofs.lemmas.Option.{slice_get_read}
use Rattle.mage_place.proofs.Changed.{Changed-set, ArePages-changed, open_pages-changed}
use Rattle.mage_place.proofs.Given.{class_at-at, class-of_open, closed-by_class, is_taken-at, is_open-within, place_below, TakesPlace-changed}
use Rattle.mage_place.proofs.pool.reuse.Goals as goal
use Rattle.mage_place.proofs.pool.reuse.Goals.{After-take_lowest-number}

within : (c : After-take_lowest-number) → c.args.page < length c.args.pool.now.pages.items
within c = is_open-within c.args.pool.now.wires c.args.pool.now.pages.items c.args.class c.args.page c.requires.open

page_is : (c : After-take_lowest-number) → slice_get c.args.pool.now.pages.items c.args.page ≡ Some c.index_mut.result.now
page_is c = slice_get_read c.args.pool.now.pages.items (length c.args.pool.now.pages.items) c.args.page c.index_mut.result.now refl (within c) c.index_mut.ensures.value

class_is : (c : After-take_lowest-number) → c.index_mut.result.now.class ≡ c.args.class
class_is c = class-of_open c.args.pool.now.wires c.args.pool.now.pages.items c.args.class c.args.page c.index_mut.result.now (page_is c) c.requires.open

pub relist-requires-clause-pool : goal.relist-requires-clause-pool
relist-requires-clause-pool d =
    let c = (goal.at.relist-requires-clause-pool d).After-take_lowest-number in
    let pool = c.args.pool.now in let r = c.args.page in let p = c.take_lowest-number.new.page in
    let old = pool.pages.items in
    let changed = Changed-set old r p (within c) in
    record {
      classes = c.requires.pool.classes;
      pages = ArePages-changed old (set old r p) r p changed pool.wires c.take_lowest-number.ensures.ok c.requires.pool.pages;
      open_pages = open_pages-changed old (set old r p) r p changed pool.wires pool.open.items
          (λ k ne. closed-by_class pool.wires old k r c.index_mut.result.now (page_is c) (λ e. ne (e ∙ sym c.take_lowest-number.ensures.class))) c.requires.pool.open_pages;
    }

pub relist-requires-clause-page : goal.relist-requires-clause-page
relist-requires-clause-page d =
    let c = (goal.at.relist-requires-clause-page d).After-take_lowest-number in
    rw (length-set c.args.pool.now.pages.items c.args.page c.take_lowest-number.new.page) (within c)

below : (c : After-take_lowest-number) → c.take_lowest-number.result < c.args.pool.now.wires / c.args.class
below c = rw (← class_is c) c.take_lowest-number.ensures.within

pub overflow_cast-offset : goal.overflow_cast-offset
overflow_cast-offset d =
    let c = (goal.at.overflow_cast-offset d).After-take_lowest-number in
    rw d.from.ensures (omega (arith, place_below c.args.pool.now.wires c.args.class c.take_lowest-number.result (below c), c.requires.wires, c.requires.class))

pub returns-clause-given : goal.returns-clause-given
returns-clause-given d =
    let c = (goal.at.returns-clause-given d).After-take_lowest-number in
    let pool = c.args.pool.now in let r = c.args.page in let p = c.take_lowest-number.new.page in let k = c.take_lowest-number.result in
    let old = pool.pages.items in
    let changed = Changed-set old r p (within c) in
    let was = c.index_mut.result.now in
    let shown = λ (j : ℕ). is_taken-at old r j was (page_is c) in
    rw d.relist.ensures.pages (
      k,
      refl,
      ap (λ x. k * x) d.from.ensures,
      length-set old r p,
      TakesPlace-changed old (set old r p) r p changed pool.wires c.args.class k (below c) (c.take_lowest-number.ensures.class ∙ class_is c) (λ h. class_at-at old r was (page_is c) ∙ class_is c) (λ j. rw (shown j) (c.take_lowest-number.ensures.taken j)),
      shown k ∙ c.take_lowest-number.ensures.free,
      (λ j h. shown j ∙ c.take_lowest-number.ensures.lowest j h),
    )
