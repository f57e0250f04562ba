use Rattle.std.proofs.Common.{◌≡◌, ◌+◌, ◌-◌, ◌++◌, ◌∷◌, [], false, length, get_or, set, take, drop, reverse, sym, ap, subst, refl, ◌∙◌, arith}
use Rattle.std.proofs.lemmas.Result.{err_from_is_err_and}
use Rattle.std.proofs.lemmas.List.{length-take, length-drop, take_all}
use Rattle.mage_driver.specs.Operations.{divide_bit}
use Rattle.mage_driver.proofs.Making.{goes_start, goes_same, goes_turn, goes_falls, goes_end, went_to}
use Rattle.mage_circuit.specs.Windows.{started, divided_window}
use Rattle.mage_circuit.proofs.Dividing.{InWindow, halves, first_window, next_part, next_window, last_window, divide_step, reverse_next}
use Rattle.mage_circuit.proofs.quotients.divide_window.Goals as goal

pub loop-k-init : goal.loop-k-init
loop-k-init g c =
    let w = length c.args.b.now in
    let old = c.args.window.now in
    let a = take w old in
    let start = started w old in
    let told = (g.D.Driver.tells c.args.driver.now) in
    let whole : take (w - 0) a ≡ a = take_all (w - 0) a (omega (arith, length-take w old)) in (
      start,
      first_window old w (omega arith),
      goes_same g.D.Driver.rules (divide_bit g.D.Driver.rules c.args.b.now) start told (reverse a) start start told (reverse a) (reverse (take (w - 0) a))
          (goes_start g.D.Driver.rules (divide_bit g.D.Driver.rules c.args.b.now) start told (reverse a) c.requires.running) refl (ap (λ xs. reverse xs) (sym whole)),
    )

pub returns-in_err-goes : goal.returns-in_err-goes
returns-in_err-goes g c =
    let p = err_from_is_err_and c.from_residual.result c.from_residual.ensures.1 in
    let l = c.loop-k in
    let w = length c.args.b.now in
    let b = c.args.b.now in
    let old = c.args.window.now in
    let a = take w old in
    let before = (g.D.Driver.tells c.args.driver.now) in
    let told = (g.D.Driver.tells l.driver) in
    let start = started w old in
    let all = l.invariant.0 in
    let place = w - 1 - l.k in
    let next : w - l.k ≡ place + 1 = omega arith in
    let a_long : length a ≡ w = omega (arith, length-take w old) in
    let so = subst (λ n. InWindow a n l.window all) next l.invariant.1 in
    let after = (g.D.Driver.tells c.divide_bit.new.driver) in
    let m = place + w + 1 - place in
    let size : m ≡ w + 1 = omega arith in
    let f = c.in_err-goes.field-0.0 in
    let none = g.D.Driver.rules.constant told.state false in
    let bit = get_or a place none in
    let part : take m (drop place l.window) ≡ bit ∷ all.rest = next_part a l.window place w m all none so a_long size in
    let fell = c.in_err-goes.ensures bit all.rest part in
    let turns : reverse (take (w - l.k) a) ≡ bit ∷ reverse (take place a) = ap (λ n. reverse (take n a)) next ∙ reverse_next a place none (omega arith) in
    rw (p.1, p.2) (goes_falls g.D.Driver.rules (divide_bit g.D.Driver.rules b) start before (reverse a) all told after f bit (reverse (take (w - l.k) a)) (reverse (take place a)) l.invariant.2 turns
    (record { stopped = fell.stopped; failed = fell.failed; counted = fell.counted; told = fell.told }))

pub loop-k-preserved : goal.loop-k-preserved
loop-k-preserved g c =
    let l = c.loop-k in
    let w = length c.args.b.now in
    let b = c.args.b.now in
    let old = c.args.window.now in
    let a = take w old in
    let before = (g.D.Driver.tells c.args.driver.now) in
    let told = (g.D.Driver.tells l.driver) in
    let start = started w old in
    let all = l.invariant.0 in
    let place = w - 1 - l.k in
    let next : w - l.k ≡ place + 1 = omega arith in
    let a_long : length a ≡ w = omega (arith, length-take w old) in
    let so = subst (λ n. InWindow a n l.window all) next l.invariant.1 in
    let after = (g.D.Driver.tells c.divide_bit.new.driver) in
    let m = place + w + 1 - place in
    let size : m ≡ w + 1 = omega arith in
    let goes = c.in_ok-goes.goes in
    let new = c.divide_bit.new.window in
    let bit = get_or a place goes in
    let part : take m (drop place l.window) ≡ bit ∷ all.rest = next_part a l.window place w m all goes so a_long size in
    let went = c.in_ok-goes.ensures bit all.rest part in
    let step = divide_step g.D.Driver.rules b all bit goes (take w new) told after went in
    let turns : reverse (take (w - l.k) a) ≡ bit ∷ reverse (take place a) = ap (λ n. reverse (take n a)) next ∙ reverse_next a place goes (omega arith) in
    let less : place ≡ w - (l.k + 1) = omega arith in
    let now = halves (goes ∷ all.quotient) (take w new) in
    let new_long : length new ≡ w + 1 = omega (arith, length-take m (drop place l.window), length-drop place l.window) in
    let window = next_window a l.window new place w m all goes so a_long size new_long in
    let full = set (take place l.window ++ (new ++ drop m (drop place l.window))) (place + w) goes in (
      now,
      subst (λ n. InWindow a n full now) less window,
      goes_same g.D.Driver.rules (divide_bit g.D.Driver.rules b) start before (reverse a) now now after (reverse (take place a)) (reverse (take (w - (l.k + 1)) a))
          (goes_turn g.D.Driver.rules (divide_bit g.D.Driver.rules b) start before (reverse a) all now told after bit (reverse (take (w - l.k) a)) (reverse (take place a)) l.invariant.2 turns step)
          refl (ap (λ n. reverse (take n a)) less),
    )

pub returns : goal.returns
returns g c =
    let l = c.loop-k in
    let w = length c.args.b.now in
    let b = c.args.b.now in
    let old = c.args.window.now in
    let a = take w old in
    let before = (g.D.Driver.tells c.args.driver.now) in
    let told = (g.D.Driver.tells l.driver) in
    let start = started w old in
    let all = l.invariant.0 in
    let a_long : length a ≡ w = omega (arith, length-take w old) in
    let none : w - l.k ≡ 0 = omega arith in
    let done : reverse (take (w - l.k) a) ≡ [] = ap (λ n. reverse (take n a)) none in
    went_to g.D.Driver.rules (divided_window g.D.Driver.rules b w old) before told all _
    (goes_end g.D.Driver.rules (divide_bit g.D.Driver.rules b) start before (reverse a) all told (reverse (take (w - l.k) a)) l.invariant.2 done)
    (last_window a l.window (w - l.k) w all l.invariant.1 none a_long)
