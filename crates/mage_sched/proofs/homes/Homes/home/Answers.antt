use Rattle.std.proofs.Common.{◌≡◌, ap, ℕ, Option, unwrap_or, sym, ◌∙◌, nat_eq}
use Rattle.std.specs.HashMap.{get}
use Rattle.mage_sched.proofs.Keeping.{home_kept}
use Rattle.mage_sched.proofs.homes.Homes.home.Goals as goal

pub returns : goal.returns
returns c = λ store later kept.
    let homes = c.args.self.now in
    let held : c.copied.result ≡ get nat_eq homes.held c.args.page = cc (c.get.ensures.value) in
    c.unwrap_or.ensures ∙ ap (λ (o : Option ℕ). unwrap_or o 0) (held ∙ sym (home_kept homes store later c.args.page kept))
