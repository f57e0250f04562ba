use Rattle.std.proofs.Common.{◌≡◌, ◌-◌, ◌++◌, ◌∷◌, [], length, take, drop, sym, ap, refl, ◌∙◌, arith}
use Rattle.std.proofs.lemmas.Result.{err_from_is_err_and}
use Rattle.std.proofs.lemmas.List.{length-take, length-drop}
use Rattle.mage_driver.specs.Circuits.{folded, closed}
use Rattle.mage_driver.specs.Operations.{count_up, count_last, starting, with_carry}
use Rattle.mage_driver.proofs.Making.{went_formed, went_to, went_runs}
use Rattle.mage_circuit.specs.Numbers.{increased, without_top}
use Rattle.mage_circuit.proofs.Ends.{top_is, top_written, closed_went, closed_falls, last_counted}
use Rattle.mage_circuit.proofs.counts.count_more.Goals as goal

pub returns-in_err-carry : goal.returns-in_err-carry
returns-in_err-carry g c =
    let p = err_from_is_err_and c.from_residual.result c.from_residual.ensures.1 in
    let old = c.args.number.now in
    let last = length old - 1 in
    let start = starting g.D.Driver.rules c.args.bit in
    let fell = closed_falls g.D.Driver.rules (count_up g.D.Driver.rules) (count_last g.D.Driver.rules) start old last (g.D.Driver.tells c.args.driver.now) (g.D.Driver.tells c.count_up.new.driver) c.in_err-carry.field-0.0 refl c.in_err-carry.ensures in
    rw (p.1, p.2) (record { stopped = fell.stopped; failed = fell.failed; counted = fell.counted; told = fell.told })

pub returns : goal.returns
returns g c =
    let old = c.args.number.now in
    let last = length old - 1 in
    let new = c.count_up.new.number in
    let before = (g.D.Driver.tells c.args.driver.now) in
    let after = (g.D.Driver.tells c.count_up.new.driver) in
    let carry = c.in_ok-carry.carry in
    let start = starting g.D.Driver.rules c.args.bit in
    let x = c.index-number-last.result in
    let w = c.xor.result in
    let fold = folded g.D.Driver.rules (count_up g.D.Driver.rules) start (take last old) in
    let whole = closed g.D.Driver.rules (count_up g.D.Driver.rules) (count_last g.D.Driver.rules) start old in
    let long : length new ≡ last = omega (arith, length-take last old) in
    let one : length (drop last old) ≡ 1 = omega (arith, length-drop last old) in
    let split = top_is new (drop last old) last x long one c.index-number-last.is in
    let runs = went_runs g.D.Driver.rules fold before after (with_carry g.D.Driver.rules carry new) c.in_ok-carry.ensures in
    let went = closed_went g.D.Driver.rules (count_up g.D.Driver.rules) (count_last g.D.Driver.rules) start (with_carry g.D.Driver.rules carry new) _ old last x before after refl split c.in_ok-carry.ensures (last_counted g.D.Driver.rules (with_carry g.D.Driver.rules carry new) x after runs) in
    went_to g.D.Driver.rules (increased g.D.Driver.rules c.args.bit old) before after (new ++ g.D.Driver.rules.xor x carry ∷ []) _
    (went_formed g.D.Driver.rules without_top whole before after _ went)
    (ap (λ v. new ++ v ∷ []) (sym c.xor.ensures) ∙ sym (top_written new (drop last old) last w long one))
