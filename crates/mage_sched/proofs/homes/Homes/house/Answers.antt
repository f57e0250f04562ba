use Rattle.std.proofs.Common.{◌≡◌, sym, subst, ℕ, List, Option, Some, None, OnOk, nat_eq}
use Rattle.std.specs.HashMap.{get}
use Rattle.mage_sched.specs.Views.{Keeps, holders_after}
use Rattle.mage_sched.proofs.Keeping.{housed_stays, housed_fresh}
use Rattle.mage_sched.proofs.homes.Homes.house.Goals as goal

pub returns-in-Some : goal.returns-in-Some
returns-in-Some c = λ store later kept.
    let held : get nat_eq c.args.self.now.held c.args.page ≡ Some c.in-Some.field-0 = cc (c.get.ensures.value) in
    housed_stays c.args.self.now store later c.args.page c.in-Some.field-0 kept held

pub returns-in-None : goal.returns-in-None
returns-in-None c = λ store later kept.
    let held : get nat_eq c.args.self.now.held c.args.page ≡ None = cc (c.get.ensures.value) in
    let P : List (Option ℕ) → Type 0 = λ xs. OnOk c.take.result (Keeps c.take.new.self (holders_after store xs) later) in
    subst P (sym (housed_fresh c.args.self.now store later c.args.page kept held)) (c.take.ensures store later kept)
