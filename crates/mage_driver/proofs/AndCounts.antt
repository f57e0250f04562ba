-- Circuits have as many ANDs as the table of opcodes says.
use Rattle.std.proofs.Common.{◌≡◌, ◌≤◌, ℕ, zero, suc, ◌+◌, ◌-◌, ◌*◌, ◌/◌, List, [], length, get_or, reverse, replicate, false, refl, sym, ap, ◌∙◌, arith}
use Rattle.std.specs.List.{zip}
use Rattle.std.proofs.lemmas.List.{append-nil, length-replicate, length-reverse}
use Rattle.std.proofs.lemmas.Slice.Zip.{length-zip}
use Rattle.mage_instr.specs.declared.op.Op.{Op}
use Rattle.mage_instr.specs.declared.op.Op.TheVariants as op
use Rattle.mage_instr.specs.Ands.{log_of, ands_of_count}
use Rattle.mage_driver.specs.Rules.{Rules}
use Rattle.mage_driver.specs.Counts.{ands_in, HasItsAnds}
use Rattle.mage_driver.specs.Operations.{and_bit, or_bit, choose_bit, divided, counted}
use Rattle.mage_driver.proofs.CountAnds.{costs_counted}
use Rattle.mage_driver.proofs.Counts.{costs_each, costs_added, costs_subtracted, costs_less, costs_equal, costs_least, costs_greatest, costs_multiplied, costs_turns}

-- the sum of the numbers up to one
triangle : ℕ → ℕ
triangle zero = 0
triangle (suc n) = triangle n + n + 1

double_triangle : (n : ℕ) → 2 * triangle n ≡ n * (n + 1)
unfolding triangle
double_triangle zero = refl
double_triangle (suc n) = omega (arith, double_triangle n)

-- the rows of a product and the sums under them
rows-count : (n : ℕ) → 1 ≤ n → n + (n - 1) * (n - 1) ≡ n * (n + 1) / 2 + (n - 1) * (n - 2) / 2
unfolding triangle
rows-count zero some = absurd (omega arith)
rows-count (suc zero) some = refl
rows-count (suc (suc n)) some =
    let lower : 2 * triangle n ≡ n * (n + 1) = double_triangle n in
    let upper : 2 * triangle (suc (suc n)) ≡ suc (suc n) * (suc (suc n) + 1) = double_triangle (suc (suc n)) in
    let less : suc (suc n) - 1 ≡ n + 1 = omega arith in
    let less' : suc (suc n) - 2 ≡ n = omega arith in
    let turned : (n + 1) * n ≡ n * (n + 1) = omega arith in
    rw (less, less', turned) (omega arith)

module _ {W : Type 0} (rules : Rules W) where
  pairs_long : (a b : List W) (w : ℕ) → length a ≡ w → length b ≡ w → length (zip a b) ≡ w
  pairs_long a b w same same' = omega (arith, length-zip a b)

  add_ands : HasItsAnds rules op.Add
  add_ands width imm a b c s ok la lb lc = costs_added rules (zip a b) s ∙ ap (λ n. n - 1) (pairs_long a b width la lb)

  sub_ands : HasItsAnds rules op.Sub
  sub_ands width imm a b c s ok la lb lc = costs_subtracted rules (zip a b) s ∙ ap (λ n. n - 1) (pairs_long a b width la lb)

  mul_ands : HasItsAnds rules op.Mul
  mul_ands width imm a b c s ok la lb lc =
      costs_multiplied rules a b s (la ∙ sym lb) (omega (arith, lb, ok.0)) ∙ ap (λ n. n + (length b - 1) * (length b - 1)) la ∙ ap (λ n. width + (n - 1) * (n - 1)) lb ∙ rows-count width ok.0

  and_ands : HasItsAnds rules op.And
  and_ands width imm a b c s ok la lb lc = costs_each rules (and_bit rules) (λ i t. refl) (zip a b) s ∙ pairs_long a b width la lb

  or_ands : HasItsAnds rules op.Or
  or_ands width imm a b c s ok la lb lc = costs_each rules (or_bit rules) (λ i t. refl) (zip a b) s ∙ pairs_long a b width la lb

  eq_ands : HasItsAnds rules op.Eq
  eq_ands width imm a b c s ok la lb lc = costs_equal rules (zip a b) s ∙ ap (λ n. n - 1) (pairs_long a b width la lb)

  lt_ands : HasItsAnds rules op.Lt
  lt_ands width imm a b c s ok la lb lc = costs_less rules (zip a b) s ∙ pairs_long a b width la lb

  mux_ands : HasItsAnds rules op.Mux
  mux_ands width imm a b c s ok la lb lc =
      costs_each rules (choose_bit rules (get_or a 0 (rules.constant s false))) (λ i t. refl) (zip b c) s ∙ pairs_long b c width lb lc

  min_ands : HasItsAnds rules op.Min
  min_ands width imm a b c s ok la lb lc = costs_least rules (zip a b) s ∙ ap (λ n. 2 * n) (pairs_long a b width la lb)

  max_ands : HasItsAnds rules op.Max
  max_ands width imm a b c s ok la lb lc = costs_greatest rules (zip a b) s ∙ ap (λ n. 2 * n) (pairs_long a b width la lb)

  divided_ands : (width : ℕ) (a b : List W) (s : rules.State) → 1 ≤ width → length a ≡ width → length b ≡ width → ands_in ((divided rules a b s).calls) ≡ width * (2 * width + 1)
  divided_ands width a b s some la lb =
      let zeros : length (replicate (length a) (rules.constant s false)) ≡ length b = length-replicate (length a) (rules.constant s false) ∙ la ∙ sym lb in
      costs_turns rules b (record { quotient = []; rest = replicate (length a) (rules.constant s false) }) (reverse a) s zeros (omega (arith, lb, some))
      ∙ ap (λ n. n * (2 * length b + 1)) (length-reverse a ∙ la) ∙ ap (λ n. width * (2 * n + 1)) lb

  div_ands : HasItsAnds rules op.Div
  div_ands width imm a b c s ok la lb lc = divided_ands width a b s ok.0 la lb

  rem_ands : HasItsAnds rules op.Rem
  rem_ands width imm a b c s ok la lb lc = divided_ands width a b s ok.0 la lb

  count_ands : HasItsAnds rules op.Count
  count_ands width imm a b c s ok la lb lc =
      let calls = (counted rules a s).calls in
      ap ands_in (append-nil calls) ∙ costs_counted rules a s (omega (arith, la, ok.0)) (omega (arith, la, ok.1))
      ∙ ap (λ n. ands_of_count n (log_of n)) la

  -- every instruction has its number of ANDs
  pub all_ands : (o : Op) → HasItsAnds rules o
  all_ands op.Input = λ width imm a b c s ok la lb lc. refl
  all_ands op.Const = λ width imm a b c s ok la lb lc. refl
  all_ands op.Output = λ width imm a b c s ok la lb lc. refl
  all_ands op.Add = add_ands
  all_ands op.Sub = sub_ands
  all_ands op.Mul = mul_ands
  all_ands op.And = and_ands
  all_ands op.Or = or_ands
  all_ands op.Xor = λ width imm a b c s ok la lb lc. refl
  all_ands op.Not = λ width imm a b c s ok la lb lc. refl
  all_ands op.Eq = eq_ands
  all_ands op.Lt = lt_ands
  all_ands op.Mux = mux_ands
  all_ands op.Shl = λ width imm a b c s ok la lb lc. refl
  all_ands op.Shr = λ width imm a b c s ok la lb lc. refl
  all_ands op.Resize = λ width imm a b c s ok la lb lc. refl
  all_ands op.Send = λ width imm a b c s ok la lb lc. refl
  all_ands op.Recv = λ width imm a b c s ok la lb lc. refl
  all_ands op.Div = div_ands
  all_ands op.Rem = rem_ands
  all_ands op.Count = count_ands
  all_ands op.Min = min_ands
  all_ands op.Max = max_ands
