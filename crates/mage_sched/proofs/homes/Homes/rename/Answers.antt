use Rattle.std.proofs.Common.{◌≡◌, ◌∷◌, ℕ, refl, sym, subst, ap}
use Rattle.mage_instr.specs.declared.directive.Directive.{Directive}
use Rattle.mage_instr.specs.declared.directive.Directive.TheVariants as directive
use Rattle.mage_sched.specs.Homes.{store_after, housed, renamed}
use Rattle.mage_sched.specs.Views.{Keeps, holders_after}
use Rattle.mage_sched.proofs.Keeping.{passes}
use Rattle.mage_sched.proofs.homes.Homes.rename.Goals as goal

pub returns-in_ok-begin-in-IssueIn-clause-one : goal.returns-in_ok-begin-in-IssueIn-clause-one
returns-in_ok-begin-in-IssueIn-clause-one c = λ store later kept.
    let one = directive.IssueIn c.in-IssueIn.slot c.in-IssueIn.page in
    let P : Directive → Type 0 = λ d. Keeps c.args.self.now store (d ∷ later) in
    let begun = c.in_ok-begin-in-IssueIn.ensures store one later (λ other. refl) (subst P c.in-IssueIn.is kept) in
    let home = c.home-page.ensures (store_after one later store) later begun in
    let Q : Directive → Type 0 = λ d. directive.IssueIn c.in-IssueIn.slot c.home-page.result ≡ renamed d (store_after d later store).holders in
    subst Q (sym c.in-IssueIn.is) (ap (λ (n : ℕ). directive.IssueIn c.in-IssueIn.slot n) home)

pub returns-in_ok-begin-in-IssueIn-clause-keeps : goal.returns-in_ok-begin-in-IssueIn-clause-keeps
returns-in_ok-begin-in-IssueIn-clause-keeps c = λ store later kept.
    let one = directive.IssueIn c.in-IssueIn.slot c.in-IssueIn.page in
    let P : Directive → Type 0 = λ d. Keeps c.args.self.now store (d ∷ later) in
    let Q : Directive → Type 0 = λ d. Keeps c.begin.new.self (store_after d later store) later in
    subst Q (sym c.in-IssueIn.is) (c.in_ok-begin-in-IssueIn.ensures store one later (λ other. refl) (subst P c.in-IssueIn.is kept))

pub returns-in_ok-begin-in-IssueOut-clause-one : goal.returns-in_ok-begin-in-IssueOut-clause-one
returns-in_ok-begin-in-IssueOut-clause-one c = λ store later kept.
    let one = directive.IssueOut c.in-IssueOut.slot c.in-IssueOut.frame c.in-IssueOut.page in
    let P : Directive → Type 0 = λ d. Keeps c.args.self.now store (d ∷ later) in
    let housed_in = c.in_ok-house-in-IssueOut.ensures store (one ∷ later) (subst P c.in-IssueOut.is kept) in
    let begun = c.in_ok-begin-in-IssueOut.ensures (holders_after store (housed c.in-IssueOut.page store.holders)) one later (λ other. refl) housed_in in
    let home = c.home-page-in-IssueOut.ensures (store_after one later store) later begun in
    let Q : Directive → Type 0 = λ d. directive.IssueOut c.in-IssueOut.slot c.in-IssueOut.frame c.home-page-in-IssueOut.result ≡ renamed d (store_after d later store).holders in
    subst Q (sym c.in-IssueOut.is) (ap (λ (n : ℕ). directive.IssueOut c.in-IssueOut.slot c.in-IssueOut.frame n) home)

pub returns-in_ok-begin-in-IssueOut-clause-keeps : goal.returns-in_ok-begin-in-IssueOut-clause-keeps
returns-in_ok-begin-in-IssueOut-clause-keeps c = λ store later kept.
    let one = directive.IssueOut c.in-IssueOut.slot c.in-IssueOut.frame c.in-IssueOut.page in
    let P : Directive → Type 0 = λ d. Keeps c.args.self.now store (d ∷ later) in
    let housed_in = c.in_ok-house-in-IssueOut.ensures store (one ∷ later) (subst P c.in-IssueOut.is kept) in
    let Q : Directive → Type 0 = λ d. Keeps c.begin-in-IssueOut.new.self (store_after d later store) later in
    subst Q (sym c.in-IssueOut.is) (c.in_ok-begin-in-IssueOut.ensures (holders_after store (housed c.in-IssueOut.page store.holders)) one later (λ other. refl) housed_in)

pub returns-in_ok-finish-in-FinishIn-clause-keeps : goal.returns-in_ok-finish-in-FinishIn-clause-keeps
returns-in_ok-finish-in-FinishIn-clause-keeps c = λ store later kept.
    let one = directive.FinishIn c.in-FinishIn.slot c.in-FinishIn.frame in
    let P : Directive → Type 0 = λ d. Keeps c.args.self.now store (d ∷ later) in
    let Q : Directive → Type 0 = λ d. Keeps c.finish.new.self (store_after d later store) later in
    subst Q (sym c.in-FinishIn.is) (c.in_ok-finish-in-FinishIn.ensures store later (passes c.args.self.now store one later (λ page. refl) (subst P c.in-FinishIn.is kept)))

pub returns-in_ok-finish-in-FinishOut-clause-keeps : goal.returns-in_ok-finish-in-FinishOut-clause-keeps
returns-in_ok-finish-in-FinishOut-clause-keeps c = λ store later kept.
    let one = directive.FinishOut c.in-FinishOut.slot in
    let P : Directive → Type 0 = λ d. Keeps c.args.self.now store (d ∷ later) in
    let Q : Directive → Type 0 = λ d. Keeps c.finish-in-FinishOut.new.self (store_after d later store) later in
    subst Q (sym c.in-FinishOut.is) (c.in_ok-finish-in-FinishOut.ensures store later (passes c.args.self.now store one later (λ page. refl) (subst P c.in-FinishOut.is kept)))
