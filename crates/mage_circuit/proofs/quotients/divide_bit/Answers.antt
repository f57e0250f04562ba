use Rattle.std.proofs.Common.{◌≡◌, length, get_or, take, drop, sym, ap, subst, ◌∙◌, arith}
use Rattle.std.proofs.lemmas.Result.{err_from_is_err_and}
use Rattle.std.specs.List.{zip}
use Rattle.std.proofs.lemmas.List.{length-take, take_at}
use Rattle.mage_driver.specs.Circuits.{Went, formed, anded}
use Rattle.mage_driver.specs.Operations.{each, replace_bit, compared, with_carry, either, moved_in, highest_of, taken_away}
use Rattle.mage_driver.proofs.Making.{FellIn, went_to}
use Rattle.mage_circuit.proofs.Dividing.{moved_in-window, highest_of-window, taken_away_went, taken_away_falls_first, taken_away_falls_next, taken_away_falls_last}
use Rattle.mage_circuit.proofs.quotients.divide_bit.Goals as goal

pub returns-in_err-carry : goal.returns-in_err-carry
returns-in_err-carry g c = λ bit rest split.
    let p = err_from_is_err_and c.from_residual.result c.from_residual.ensures.1 in
    let w = length c.args.b.now in
    let b = c.args.b.now in
    let window = c.args.window.now in
    let before = (g.D.Driver.tells c.args.driver.now) in
    let mid = (g.D.Driver.tells c.compare.new.driver) in
    let long : length rest ≡ w = omega (arith, ap length split) in
    let low : take w window ≡ moved_in g.D.Driver.rules bit rest = ap (λ ws. take w ws) split ∙ moved_in-window g.D.Driver.rules bit rest w long c.requires.some in
    rw (p.1, p.2) (taken_away_falls_first g.D.Driver.rules b bit rest before mid c.in_err-carry.field-0.0
    (subst (λ ws. FellIn g.D.Driver.rules (compared g.D.Driver.rules (zip ws b)) before mid c.in_err-carry.field-0.0) low c.in_err-carry.ensures))

pub returns-in_err-goes : goal.returns-in_err-goes
returns-in_err-goes g c = λ bit rest split.
    let p = err_from_is_err_and c.from_residual-in_err-goes.result c.from_residual-in_err-goes.ensures.1 in
    let w = length c.args.b.now in
    let b = c.args.b.now in
    let window = c.args.window.now in
    let before = (g.D.Driver.tells c.args.driver.now) in
    let mid = (g.D.Driver.tells c.compare.new.driver) in
    let long : length rest ≡ w = omega (arith, ap length split) in
    let low : take w window ≡ moved_in g.D.Driver.rules bit rest = ap (λ ws. take w ws) split ∙ moved_in-window g.D.Driver.rules bit rest w long c.requires.some in
    let top = c.index-window-width.result in
    let carry = c.in_ok-carry.carry in
    let next = (g.D.Driver.tells c.either_of.new.driver) in
    let bits = c.compare.new.out in
    let high : top ≡ highest_of g.D.Driver.rules bit rest = c.index-window-width.is ∙ ap (λ ws. get_or ws w top) split ∙ highest_of-window g.D.Driver.rules bit rest w top long c.requires.some in
    let first = subst (λ ws. Went g.D.Driver.rules (compared g.D.Driver.rules (zip ws b)) before mid (with_carry g.D.Driver.rules carry bits)) low c.in_ok-carry.ensures in
    rw (p.1, p.2) (taken_away_falls_next g.D.Driver.rules b bits bit carry rest before mid next c.in_err-goes.field-0.0 first
    (subst (λ h. FellIn g.D.Driver.rules (formed g.D.Driver.rules (either g.D.Driver.rules h carry) (anded g.D.Driver.rules h carry)) mid next c.in_err-goes.field-0.0) high c.in_err-goes.ensures))

pub returns-in_err-replace_each : goal.returns-in_err-replace_each
returns-in_err-replace_each g c = λ bit rest split.
    let p = err_from_is_err_and c.from_residual-in_err-replace_each.result c.from_residual-in_err-replace_each.ensures.1 in
    let w = length c.args.b.now in
    let b = c.args.b.now in
    let window = c.args.window.now in
    let before = (g.D.Driver.tells c.args.driver.now) in
    let mid = (g.D.Driver.tells c.compare.new.driver) in
    let long : length rest ≡ w = omega (arith, ap length split) in
    let low : take w window ≡ moved_in g.D.Driver.rules bit rest = ap (λ ws. take w ws) split ∙ moved_in-window g.D.Driver.rules bit rest w long c.requires.some in
    let top = c.index-window-width.result in
    let carry = c.in_ok-carry.carry in
    let next = (g.D.Driver.tells c.either_of.new.driver) in
    let bits = c.compare.new.out in
    let high : top ≡ highest_of g.D.Driver.rules bit rest = c.index-window-width.is ∙ ap (λ ws. get_or ws w top) split ∙ highest_of-window g.D.Driver.rules bit rest w top long c.requires.some in
    let first = subst (λ ws. Went g.D.Driver.rules (compared g.D.Driver.rules (zip ws b)) before mid (with_carry g.D.Driver.rules carry bits)) low c.in_ok-carry.ensures in
    let goes = c.in_ok-goes.goes in
    let after = (g.D.Driver.tells c.replace_each.new.driver) in
    rw (p.1, p.2) (taken_away_falls_last g.D.Driver.rules b bits bit carry goes rest before mid next after c.in_err-replace_each.field-0.0 first
    (subst (λ h. Went g.D.Driver.rules (formed g.D.Driver.rules (either g.D.Driver.rules h carry) (anded g.D.Driver.rules h carry)) mid next goes) high c.in_ok-goes.ensures)
    (subst (λ ws. FellIn g.D.Driver.rules (each g.D.Driver.rules (replace_bit g.D.Driver.rules goes) (zip ws bits)) next after c.in_err-replace_each.field-0.0) low c.in_err-replace_each.ensures))

pub returns : goal.returns
returns g c = λ bit rest split.
    let w = length c.args.b.now in
    let b = c.args.b.now in
    let window = c.args.window.now in
    let before = (g.D.Driver.tells c.args.driver.now) in
    let mid = (g.D.Driver.tells c.compare.new.driver) in
    let long : length rest ≡ w = omega (arith, ap length split) in
    let low : take w window ≡ moved_in g.D.Driver.rules bit rest = ap (λ ws. take w ws) split ∙ moved_in-window g.D.Driver.rules bit rest w long c.requires.some in
    let top = c.index-window-width.result in
    let carry = c.in_ok-carry.carry in
    let next = (g.D.Driver.tells c.either_of.new.driver) in
    let bits = c.compare.new.out in
    let high : top ≡ highest_of g.D.Driver.rules bit rest = c.index-window-width.is ∙ ap (λ ws. get_or ws w top) split ∙ highest_of-window g.D.Driver.rules bit rest w top long c.requires.some in
    let first = subst (λ ws. Went g.D.Driver.rules (compared g.D.Driver.rules (zip ws b)) before mid (with_carry g.D.Driver.rules carry bits)) low c.in_ok-carry.ensures in
    let goes = c.in_ok-goes.goes in
    let after = (g.D.Driver.tells c.replace_each.new.driver) in
    let new = c.replace_each.new.bits in
    let new_long : length new ≡ w = omega (arith, length-take w window) in
    went_to g.D.Driver.rules (taken_away g.D.Driver.rules b bit rest) before after _ _
    (taken_away_went g.D.Driver.rules b bits new bit carry goes rest before mid next after first
    (subst (λ h. Went g.D.Driver.rules (formed g.D.Driver.rules (either g.D.Driver.rules h carry) (anded g.D.Driver.rules h carry)) mid next goes) high c.in_ok-goes.ensures)
    (subst (λ ws. Went g.D.Driver.rules (each g.D.Driver.rules (replace_bit g.D.Driver.rules goes) (zip ws bits)) next after new) low c.in_ok-replace_each.ensures))
    (ap (λ ws. with_carry g.D.Driver.rules goes ws) (sym (take_at new (drop w window) w new_long)))
