use Rattle.std.proofs.Common.{◌≡◌, ◌-◌, ℕ, List, [], ◌++◌, length, take, ap, ◌∙◌, arith, rules}
use Rattle.std.specs.Prelude.{unwrap_or}
use Rattle.mage_eval.proofs.Bytes.{compact, refilled}
use Rattle.mage_eval.proofs.incoming.Stream.refill.Goals as goal

pub returns-clause-same : goal.returns-clause-same
returns-clause-same g c = rw (← c.self.view_is) (λ told.
    let s = c.self.inside in
    let src : List ℕ = unwrap_or (g.R.Source.tells s.source).left [] in
    let src' : List ℕ = unwrap_or (g.R.Source.tells c.fill.new.source).left [] in
    let held : length s.held ≡ 4096 = search rules in
    let now = c.in-Ok.now in
    let none : now - 0 ≡ now = omega arith in
    ap (λ (k : ℕ). take k c.fill.new.buffer ++ src') none ∙ c.in-Ok.ensures.same told
    ∙ ap (λ (xs : List ℕ). take (s.to - s.from) xs ++ src) c.copy_within.ensures.after
    ∙ ap (λ (xs : List ℕ). xs ++ src) (compact s.held s.from s.to c.self.invariant.0 (omega (arith, held, c.self.invariant.1))))

pub returns-clause-rest : goal.returns-clause-rest
returns-clause-rest g c = rw (← c.self.view_is) (refilled _ _ c.self.inside.at _ _ _ _ _ _ c.in-Ok.ensures.rest c.in-Ok.ensures.cause c.in-Ok.ensures.told)
