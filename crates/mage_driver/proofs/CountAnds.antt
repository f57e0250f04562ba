-- How many ANDs it takes to count bits.
use Rattle.std.proofs.Common.{◌≡◌, ◌≤◌, ◌<◌, ℕ, zero, suc, ◌+◌, ◌*◌, ◌^◌, ◌==◌, nat_lt, List, [], ◌∷◌, Bool, true, false, length, refl, sym, ap, ◌∙◌, arith, inl, inr}
use Rattle.std.proofs.lemmas.List.{length_push}
use Rattle.std.proofs.lemmas.Bool.{eqb-true, cases_lt}
use Rattle.std.proofs.lemmas.Bool.Decides.{nat_tests}
use Rattle.std.proofs.Math.Nat.{pow-suc}
use Rattle.std.proofs.Math.Pow.{pow_mono}
use Rattle.mage_instr.specs.Ands.{log_up_to, log_of, ands_of_count}
use Rattle.mage_driver.specs.Rules.{Rules}
use Rattle.mage_driver.specs.Circuits.{Made, folded, closed}
use Rattle.mage_driver.specs.Counts.{ands_in}
use Rattle.mage_driver.specs.Operations.{Carried, Counted, starting, count_up, count_last, count_bit, counted}
use Rattle.mage_driver.proofs.Counts.{Costs, ands_in-append, costs_folded, costs_closed, size_folded, size_closed}

-- the greatest power of two in a number
log_up_to-is : (n w m : ℕ) → 2 ^ m ≤ w → w < 2 ^ suc m → m ≤ n → log_up_to n w ≡ m
log_up_to-is zero w m low high most = omega arith
log_up_to-is (suc n) w m low high most = cases (nat_lt w (2 ^ suc n)) refl (λ less. log_up_to-is n w m low high less)
  where
    cases : (t : Bool) → nat_lt w (2 ^ suc n) ≡ t → (m ≤ n → log_up_to n w ≡ m) → log_up_to (suc n) w ≡ m
    cases true test lower =
        let below : w < 2 ^ suc n = grind (arith, nat_tests) in
        let less : m ≤ n = elim (cases_lt n m) [ inl more ↦ absurd (omega (arith, pow_mono {i = suc n} {j = m} (omega arith))) | inr here ↦ here ] in
        rw test (lower less)
    cases false test lower =
        let above : 2 ^ suc n ≤ w = grind (arith, nat_tests) in
        let same : suc n ≡ m = elim (cases_lt m (suc n)) [ inl less ↦ absurd (omega (arith, pow_mono {i = suc m} {j = suc n} (omega arith))) | inr more ↦ omega arith ] in
        rw test same

pub log_of-is : (w m : ℕ) → 2 ^ m ≤ w → w < 2 ^ suc m → w ≤ 128 → log_of w ≡ m
log_of-is w m low high few =
    log_up_to-is 7 w m low high (elim (cases_lt 7 m) [ inl more ↦ absurd (omega (arith, pow_mono {i = 8} {j = m} (omega arith))) | inr here ↦ here ])

module _ {W : Type 0} (rules : Rules W) where
  -- what one bit more, or some bits more, come to: how many bits the number has, and how many ANDs were made
  record CountsOn (so_far : Counted W) (k more : ℕ) (made : Made rules.State W (Counted W)) : Type 0 where
    log : ℕ
    long : length made.wires.bits ≡ suc log
    seen : made.wires.seen ≡ so_far.seen + more
    least : 2 ^ log ≤ made.wires.seen
    most : made.wires.seen < 2 ^ suc log
    ands : ands_in made.calls + ((so_far.seen + 1) * k + 2 ^ suc log) ≡ (made.wires.seen + 1) * log + 2 ^ suc k

  up_costs : (x : Carried W) (bit : W) → Costs rules (count_up rules x bit) 1
  up_costs x bit s = refl

  last_costs : (x : Carried W) (bit : W) → Costs rules (count_last rules x bit) 0
  last_costs x bit s = refl

  one_bit : (t : Bool) (so_far : Counted W) (bit : W) (s : rules.State) (k : ℕ) → (so_far.seen + 1 == 2 ^ length so_far.bits) ≡ t →
      length so_far.bits ≡ suc k → 2 ^ k ≤ so_far.seen → so_far.seen < 2 ^ suc k → CountsOn so_far k 1 (count_bit rules so_far bit s)
  one_bit true so_far bit s k test long least most =
      let up = folded rules (count_up rules) (starting rules bit) so_far.bits s in
      let costs = costs_folded rules (count_up rules) 1 up_costs (starting rules bit) so_far.bits s in
      let size = size_folded rules (λ (x : Carried W). length x.bits) (count_up rules) (λ x i u. length_push x.bits _) (starting rules bit) so_far.bits s in
      let full : so_far.seen + 1 ≡ 2 ^ suc k = eqb-true (so_far.seen + 1) (2 ^ length so_far.bits) test ∙ ap (λ n. 2 ^ n) long in
      let twice = pow-suc 2 (suc k) in
      let pushed = length_push up.wires.bits up.wires.carry in
      rw test (record {
        log = suc k;
        long = omega arith;
        seen = refl;
        least = omega arith;
        most = omega arith;
        ands = omega arith;
      })
  one_bit false so_far bit s k test long least most =
      let up = closed rules (count_up rules) (count_last rules) (starting rules bit) so_far.bits s in
      let costs = costs_closed rules (count_up rules) (count_last rules) up_costs last_costs (starting rules bit) so_far.bits s in
      let size = size_closed rules (λ (x : Carried W). length x.bits) (count_up rules) (count_last rules) (λ x i u. length_push x.bits _) (λ x i u. length_push x.bits _) (starting rules bit) so_far.bits s in
      let same : (so_far.seen + 1 == 2 ^ suc k) ≡ false = rw (← long) test in
      let less : so_far.seen + 1 < 2 ^ suc k = grind (arith, nat_tests) in
      rw test (record {
        log = k;
        long = omega arith;
        seen = refl;
        least = omega arith;
        most = omega arith;
        ands = omega arith;
      })

  counting : (so_far : Counted W) (bits : List W) (s : rules.State) (k : ℕ) →
      length so_far.bits ≡ suc k → 2 ^ k ≤ so_far.seen → so_far.seen < 2 ^ suc k →
      CountsOn so_far k (length bits) (folded rules (count_bit rules) so_far bits s)
  counting so_far [] s k long least most =
      record { log = k; long = long; seen = omega arith; least = least; most = most; ands = omega arith }
  counting so_far (bit ∷ bits) s k long least most =
      let one = count_bit rules so_far bit s in
      let here = one_bit (so_far.seen + 1 == 2 ^ length so_far.bits) so_far bit s k refl long least most in
      let rest = counting one.wires bits one.state here.log here.long here.least here.most in
      let calls = ands_in-append one.calls ((folded rules (count_bit rules) one.wires bits one.state).calls) in
      record {
        log = rest.log;
        long = rest.long;
        seen = rest.seen ∙ ap (λ n. n + length bits) here.seen ∙ (omega arith);
        least = rest.least;
        most = rest.most;
        ands = add_up (ands_in one.calls) (ands_in ((folded rules (count_bit rules) one.wires bits one.state).calls)) so_far.seen one.wires.seen _ k here.log rest.log _ (2 ^ suc here.log) (2 ^ suc rest.log) (2 ^ suc k) calls here.seen here.ands rest.ands;
      }
    where
      add_up : (a b n n' n'' k k' k'' c p' p'' p : ℕ) → c ≡ a + b → n' ≡ n + 1 → a + ((n + 1) * k + p') ≡ (n' + 1) * k' + p →
          b + ((n' + 1) * k' + p'') ≡ (n'' + 1) * k'' + p' → c + ((n + 1) * k + p'') ≡ (n'' + 1) * k'' + p
      add_up a b n n' n'' k k' k'' c p' p'' p calls seen here rest = omega arith

  pub costs_counted : (a : List W) (s : rules.State) → 1 ≤ length a → length a ≤ 128 →
      ands_in ((counted rules a s).calls) ≡ ands_of_count (length a) (log_of (length a))
  costs_counted [] s some few = absurd (omega arith)
  costs_counted (bit ∷ bits) s some few =
      let all = counting (record { seen = 1; bits = bit ∷ [] }) bits s 0 refl (omega arith) (omega arith) in
      let seen : 1 + length bits ≡ length (bit ∷ bits) = omega arith in
      let whole : (folded rules (count_bit rules) (record { seen = 1; bits = bit ∷ [] }) bits s).wires.seen ≡ length (bit ∷ bits) = all.seen ∙ seen in
      let log : log_of (length (bit ∷ bits)) ≡ all.log = log_of-is (length (bit ∷ bits)) all.log (rw (← whole) all.least) (rw (← whole) all.most) few in
      let ands : ands_in ((counted rules (bit ∷ bits) s).calls) ≡ ands_of_count (length (bit ∷ bits)) all.log =
      finish _ (length (bit ∷ bits)) _ all.log whole all.ands in
      ands ∙ ap (λ m. ands_of_count (length (bit ∷ bits)) m) (sym log)
    where
      finish : (c w n m : ℕ) → n ≡ w → c + ((1 + 1) * 0 + 2 ^ suc m) ≡ (n + 1) * m + 2 ^ 1 → c ≡ ands_of_count w m
      finish c w n m same sum =
          let more : m + 1 ≡ suc m = omega arith in
          rw (more, ← same) (omega arith)
