use Rattle.std.proofs.Common.{◌≡◌, length, arith, refl, ◌∙◌}
use Rattle.std.proofs.lemmas.Nat.{le-div}
use Rattle.mage_place.specs.declared.page.Page.{Page}
use Rattle.mage_place.proofs.Changed.{Changed, Changed-push, ArePages-changed, open_pages-changed}
use Rattle.mage_place.proofs.Given.{IsPage-fresh, is_taken_on-fresh, is_open-past, is_taken-past, TakesPlace-changed}
use Rattle.mage_place.proofs.pool.add.Goals as goal
use Rattle.mage_place.proofs.pool.add.Goals.{In_ok-push}

fresh : In_ok-push → Page
fresh c = record { class = c.args.class; next = 1; freed = c.new.result }

changed : (c : In_ok-push) → Changed c.args.pool.now.pages.items c.push.new.self.items (length c.args.pool.now.pages.items) (fresh c)
unfolding fresh
changed c = rw c.in_ok-push.ensures.items (Changed-push c.args.pool.now.pages.items _)

pub relist-requires-clause-pool : goal.relist-requires-clause-pool
unfolding fresh
relist-requires-clause-pool d =
    let c = (goal.at.relist-requires-clause-pool d).In_ok-push in
    let pool = c.args.pool.now in let new = c.push.new.self.items in let n = length pool.pages.items in
    let number : c.len-page.result ≡ n = omega (arith, c.len-page.ensures, pool.pages.ok.0) in
    rw number (record {
      classes = c.requires.pool.classes;
      pages = ArePages-changed pool.pages.items new n (fresh c) (changed c) pool.wires (IsPage-fresh pool.wires c.args.class c.new.result c.requires.class.0 c.requires.class.1 c.requires.fits c.new.ensures.empty c.new.ensures.ordered) c.requires.pool.pages;
      open_pages = open_pages-changed pool.pages.items new n (fresh c) (changed c) pool.wires pool.open.items (λ k ne. is_open-past pool.wires pool.pages.items k n (omega arith)) c.requires.pool.open_pages;
    })

pub returns-clause-taken : goal.returns-clause-taken
unfolding fresh
returns-clause-taken d =
    let c = (goal.at.returns-clause-taken d).In_ok-push in
    let pool = c.args.pool.now in let n = length pool.pages.items in
    rw d.relist.ensures.pages (TakesPlace-changed pool.pages.items c.push.new.self.items n (fresh c) (changed c) pool.wires c.args.class 0
    (le-div 1 pool.wires c.args.class c.requires.class.0 (omega (arith, c.requires.class, c.requires.fits))) refl (λ h. absurd (omega arith))
    (λ j. is_taken_on-fresh c.args.class c.new.result j c.new.ensures.empty ∙ rw (is_taken-past pool.pages.items n j (omega arith)) refl))
