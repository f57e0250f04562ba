use Rattle.std.proofs.Common.{◌≡◌, refl, sym, subst, true, ℕ, Option, Some, None, nat_eq}
use Rattle.std.specs.HashMap.{get}
use Rattle.mage_sched.specs.Homes.{let_go}
use Rattle.mage_sched.specs.Views.{Keeps, holders_after}
use Rattle.mage_sched.proofs.Keeping.{leaves, leaves_none}
use Rattle.mage_sched.proofs.Numbers.{in_after}
use Rattle.mage_sched.proofs.homes.Homes.let_go.Goals as goal

pub returns : goal.returns
returns c = λ store later kept.
    let homes = c.args.self.now in
    let left = record homes { held = c.remove.new.self; free = c.insert.new.self } in
    let P : Option ℕ → Type 0 = λ o. Keeps left (holders_after store (let_go o store.holders)) later in
    let held : get nat_eq homes.held c.in-Some.page ≡ Some c.in-Some-remove.home = cc (c.in-Some-remove.ensures.value) in
    subst P (sym c.in-Some.is) (leaves homes left store later c.in-Some.page c.in-Some-remove.home kept held c.in-Some-remove.ensures.updates.0
    (in_after homes.free c.insert.new.self c.in-Some-remove.home true c.in_ok-insert.ensures.updates) refl (λ q. refl) (λ slot. refl))

pub returns-in_default-remove : goal.returns-in_default-remove
returns-in_default-remove c = λ store later kept.
    let homes = c.args.self.now in
    let left = record homes { held = c.remove.new.self } in
    let P : Option ℕ → Type 0 = λ o. Keeps left (holders_after store (let_go o store.holders)) later in
    let held : get nat_eq homes.held c.in-Some.page ≡ None = cc (c.in_default-remove.ensures.value) in
    subst P (sym c.in-Some.is) (leaves_none homes left store later c.in-Some.page kept held c.in_default-remove.ensures.updates.0 (λ k. refl) refl (λ q. refl) (λ slot. refl))
