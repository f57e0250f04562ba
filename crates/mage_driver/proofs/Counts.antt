-- How many ANDs circuits have, and how many wires.
use Rattle.std.proofs.Common.{◌≡◌, ◌≤◌, ℕ, suc, ◌+◌, ◌-◌, ◌*◌, List, [], ◌∷◌, ◌++◌, length, take, drop, refl, arith}
use Rattle.std.specs.List.{zip}
use Rattle.std.proofs.lemmas.List.{length-take, length-drop, length_push}
use Rattle.std.proofs.lemmas.Slice.Zip.{length-zip}
use Rattle.mage_driver.specs.Rules.{Rules}
use Rattle.mage_driver.specs.Calls.{Call}
use Rattle.mage_driver.specs.Circuits.{Circuit, followed, anded, inverted, folded, closed}
use Rattle.mage_driver.specs.Counts.{ands_in}
use Rattle.mage_driver.specs.Operations.{Carried, Summed, Divided, one_more, each, add_bit, add_last, added, subtract_bit, subtract_last, subtracted, first_carry, compared, less, same_bit, equal, choose_bit, replace_bit, least, greatest, row, multiply_bit, multiplied, moved_in, highest_of, either, divide_bit, starting}

pub ands_in-append : {S W : Type 0} (xs ys : List (Call S W)) → ands_in (xs ++ ys) ≡ ands_in xs + ands_in ys
ands_in-append [] ys = omega arith
ands_in-append (x ∷ xs) ys = omega (arith, ands_in-append xs ys)

module _ {W : Type 0} (rules : Rules W) where
  -- a circuit has so many ANDs, from any state
  abbrev pub Costs : {X : Type 0} → Circuit rules X → ℕ → Type 0
  Costs circuit n = (s : rules.State) → ands_in ((circuit s).calls) ≡ n

  pub costs_followed : {X Y : Type 0} (first : Circuit rules X) (next : X → Circuit rules Y) (m n : ℕ) → Costs first m → ((x : X) → Costs (next x) n) → Costs (followed rules first next) (m + n)
  costs_followed first next m n here there s =
      omega (arith, ands_in-append (first s).calls ((next (first s).wires (first s).state).calls), here s, there (first s).wires (first s).state)

  pub costs_folded : {X I : Type 0} (step : X → I → Circuit rules X) (k : ℕ) → ((x : X) (i : I) → Costs (step x i) k) → (x : X) (items : List I) → Costs (folded rules step x items) (k * length items)
  costs_folded step k each_step x [] s = omega arith
  costs_folded step k each_step x (i ∷ is) s =
      omega (arith, costs_followed (step x i) (λ y. folded rules step y is) k (k * length is) (each_step x i) (λ y. costs_folded step k each_step y is) s)

  pub costs_closed : {X I : Type 0} (step last : X → I → Circuit rules X) → ((x : X) (i : I) → Costs (step x i) 1) → ((x : X) (i : I) → Costs (last x i) 0) → (x : X) (items : List I) → Costs (closed rules step last x items) (length items - 1)
  costs_closed {X} step last each_step each_last x items s =
      let fronts = length-take (length items - 1) items in
      let front = costs_folded step 1 each_step x (take (length items - 1) items) in
      let end = λ (y : X). costs_folded last 0 each_last y (drop (length items - 1) items) in
      omega (arith, fronts, costs_followed (folded rules step x (take (length items - 1) items)) (λ y. folded rules last y (drop (length items - 1) items)) _ _ front end s)

  module _ {I : Type 0} (bit : I → Circuit rules W) where
    pub costs_each : ((i : I) → Costs (bit i) 1) → (items : List I) → Costs (each rules bit items) (length items)
    costs_each one items s = omega (arith, costs_folded (one_more rules bit) 1 (λ x i. one i) [] items s)

    pub length-folded_bits : (bits : List W) (items : List I) (s : rules.State) → length ((folded rules (one_more rules bit) bits items s).wires) ≡ length bits + length items
    length-folded_bits bits [] s = omega arith
    length-folded_bits bits (i ∷ is) s =
        omega (arith, length-folded_bits (bits ++ (bit i s).wires ∷ []) is ((bit i s).state), length_push bits (bit i s).wires)

    pub length-each : (items : List I) (s : rules.State) → length ((each rules bit items s).wires) ≡ length items
    length-each items s = omega (arith, length-folded_bits [] items s)

  add_costs : (x : Carried W) (pair : W × W) → Costs (add_bit rules x pair) 1
  add_costs x pair s = refl

  add_last_costs : (x : Carried W) (pair : W × W) → Costs (add_last rules x pair) 0
  add_last_costs x pair s = refl

  subtract_costs : (x : Carried W) (pair : W × W) → Costs (subtract_bit rules x pair) 1
  subtract_costs x pair s = refl

  subtract_last_costs : (x : Carried W) (pair : W × W) → Costs (subtract_last rules x pair) 0
  subtract_last_costs x pair s = refl

  first_costs : (pair : W × W) → Costs (first_carry rules pair) 1
  first_costs pair s = refl

  pub costs_added : (pairs : List (W × W)) → Costs (added rules pairs) (length pairs - 1)
  costs_added [] s = refl
  costs_added (pair ∷ []) s = refl
  costs_added (pair ∷ next ∷ pairs) s =
      let rest = costs_closed (add_bit rules) (add_last rules) add_costs add_last_costs (starting rules (rules.and s pair.0 pair.1).1) (next ∷ pairs) ((rules.and s pair.0 pair.1).0) in
      omega (arith, rest)

  pub costs_subtracted : (pairs : List (W × W)) → Costs (subtracted rules pairs) (length pairs - 1)
  costs_subtracted [] s = refl
  costs_subtracted (pair ∷ []) s = refl
  costs_subtracted (pair ∷ next ∷ pairs) s =
      omega (
        arith,
        costs_followed (first_carry rules pair) (λ carry. closed rules (subtract_bit rules) (subtract_last rules) (starting rules carry) (next ∷ pairs)) 1 (length pairs)
            (first_costs pair) (λ carry t. omega (arith, costs_closed (subtract_bit rules) (subtract_last rules) subtract_costs subtract_last_costs (starting rules carry) (next ∷ pairs) t)) s,
      )

  pub costs_compared : (pairs : List (W × W)) → Costs (compared rules pairs) (length pairs)
  costs_compared [] s = refl
  costs_compared (pair ∷ pairs) s =
      omega (
        arith,
        costs_followed (first_carry rules pair) (λ carry. folded rules (subtract_bit rules) (starting rules carry) pairs) 1 (length pairs)
            (first_costs pair) (λ carry t. omega (arith, costs_folded (subtract_bit rules) 1 subtract_costs (starting rules carry) pairs t)) s,
      )

  pub costs_less : (pairs : List (W × W)) → Costs (less rules pairs) (length pairs)
  costs_less pairs s = omega (arith, costs_followed (compared rules pairs) (λ so_far. inverted rules so_far.carry) (length pairs) 0 (costs_compared pairs) (λ x t. refl) s)

  same_costs : (x : W) (pair : W × W) → Costs (same_bit rules x pair) 1
  same_costs x pair s = refl

  pub costs_equal : (pairs : List (W × W)) → Costs (equal rules pairs) (length pairs - 1)
  costs_equal [] s = refl
  costs_equal (pair ∷ pairs) s = omega (arith, costs_folded (same_bit rules) 1 same_costs (rules.not s (rules.xor pair.0 pair.1)) pairs s)

  pub costs_least : (pairs : List (W × W)) → Costs (least rules pairs) (2 * length pairs)
  costs_least pairs s = omega (arith, costs_followed (less rules pairs) (λ is_less. each rules (choose_bit rules is_less) pairs) (length pairs) (length pairs) (costs_less pairs) (λ x. costs_each (choose_bit rules x) (λ i t. refl) pairs) s)

  pub costs_greatest : (pairs : List (W × W)) → Costs (greatest rules pairs) (2 * length pairs)
  costs_greatest pairs s = omega (arith, costs_followed (less rules pairs) (λ is_less. each rules (replace_bit rules is_less) pairs) (length pairs) (length pairs) (costs_less pairs) (λ x. costs_each (replace_bit rules x) (λ i t. refl) pairs) s)

  pub costs_row : (a : List W) (b : W) → Costs (row rules a b) (length a)
  costs_row a b = costs_each (λ bit. anded rules bit b) (λ i t. refl) a

  -- each step makes a number one more
  pub size_folded : {X I : Type 0} (size : X → ℕ) (step : X → I → Circuit rules X) → ((x : X) (i : I) (s : rules.State) → size ((step x i s).wires) ≡ size x + 1) →
      (x : X) (items : List I) (s : rules.State) → size ((folded rules step x items s).wires) ≡ size x + length items
  size_folded size step more x [] s = omega arith
  size_folded size step more x (i ∷ is) s =
      let here = more x i s in
      let rest = size_folded size step more ((step x i s).wires) is ((step x i s).state) in
      omega arith

  pub size_closed : {X I : Type 0} (size : X → ℕ) (step last : X → I → Circuit rules X) → ((x : X) (i : I) (s : rules.State) → size ((step x i s).wires) ≡ size x + 1) →
      ((x : X) (i : I) (s : rules.State) → size ((last x i s).wires) ≡ size x + 1) →
      (x : X) (items : List I) (s : rules.State) → size ((closed rules step last x items s).wires) ≡ size x + length items
  size_closed size step last more more' x items s =
      let front = folded rules step x (take (length items - 1) items) s in
      omega (
        arith,
        size_folded size step more x (take (length items - 1) items) s,
        size_folded size last more' front.wires (drop (length items - 1) items) front.state,
        length-take (length items - 1) items,
        length-drop (length items - 1) items,
      )

  length-added : (pairs : List (W × W)) (s : rules.State) → length ((added rules pairs s).wires) ≡ length pairs
  length-added [] s = refl
  length-added (pair ∷ []) s = refl
  length-added (pair ∷ next ∷ pairs) s =
      let rest = size_closed (λ (x : Carried W). length x.bits) (add_bit rules) (add_last rules) (λ x i t. length_push x.bits _) (λ x i t. length_push x.bits _)
      (starting rules (rules.and s pair.0 pair.1).1) (next ∷ pairs) ((rules.and s pair.0 pair.1).0) in
      omega (arith, rest)

  pub length-compared : (pairs : List (W × W)) (s : rules.State) → length ((compared rules pairs s).wires.bits) ≡ length pairs
  length-compared [] s = refl
  length-compared (pair ∷ pairs) s =
      let first = first_carry rules pair s in
      let rest = size_folded (λ (x : Carried W). length x.bits) (subtract_bit rules) (λ x i t. length_push x.bits _) (starting rules first.wires) pairs first.state in
      omega (arith, rest)

  costs_rows : (a : List W) (so_far : Summed W) (bs : List W) (s : rules.State) → length so_far.sum ≡ suc (length bs) → length so_far.sum ≤ suc (length a) →
      ands_in ((folded rules (multiply_bit rules a) so_far bs s).calls) ≡ length bs * length bs
  costs_rows a so_far [] s long within = refl
  costs_rows a so_far (b ∷ bs) s long within =
      let part = take (length so_far.sum - 1) a in
      let line = row rules part b s in
      let pairs = zip (drop 1 so_far.sum) line.wires in
      let sum = added rules pairs line.state in
      let part_long : length part ≡ suc (length bs) = omega (arith, length-take (length so_far.sum - 1) a) in
      let line_long : length line.wires ≡ suc (length bs) = omega (arith, length-each (λ bit. anded rules bit b) part s) in
      let pairs_long : length pairs ≡ suc (length bs) = omega (arith, length-zip (drop 1 so_far.sum) line.wires, length-drop 1 so_far.sum) in
      let sum_long : length sum.wires ≡ suc (length bs) = omega (arith, length-added pairs line.state) in
      let rest = costs_rows a (record { done = so_far.done ++ take 1 so_far.sum; sum = sum.wires }) bs sum.state sum_long (omega arith) in
      let here = costs_row part b s in
      let there = costs_added pairs line.state in
      let calls = ands_in-append (line.calls ++ sum.calls) ((folded rules (multiply_bit rules a) (record { done = so_far.done ++ take 1 so_far.sum; sum = sum.wires }) bs sum.state).calls) in
      let calls' = ands_in-append line.calls sum.calls in
      omega arith

  pub costs_multiplied : (a b : List W) (s : rules.State) → length a ≡ length b → 1 ≤ length b →
      ands_in ((multiplied rules a b s).calls) ≡ length a + (length b - 1) * (length b - 1)
  costs_multiplied a [] s same some = absurd (omega arith)
  costs_multiplied a (b ∷ bs) s same some =
      let line = row rules a b s in
      let line_long = length-each (λ bit. anded rules bit b) a s in
      let rest = costs_rows a (record { done = []; sum = line.wires }) bs line.state (omega arith) (omega arith) in
      let here = costs_row a b s in
      let calls = ands_in-append line.calls ((folded rules (multiply_bit rules a) (record { done = []; sum = line.wires }) bs line.state).calls) in
      let fewer : length (b ∷ bs) - 1 ≡ length bs = omega arith in
      rw fewer (omega arith)

  length-moved : (bit : W) (rest : List W) → 1 ≤ length rest → length (moved_in rules bit rest) ≡ length rest
  length-moved bit rest some = omega (arith, length-take (length rest - 1) rest)

  pub costs_turns : (b : List W) (so_far : Divided W) (bits : List W) (s : rules.State) → length so_far.rest ≡ length b → 1 ≤ length b →
      ands_in ((folded rules (divide_bit rules b) so_far bits s).calls) ≡ length bits * (2 * length b + 1)
  costs_turns b so_far [] s same some = omega arith
  costs_turns b so_far (bit ∷ bits) s same some =
      let pairs = zip (moved_in rules bit so_far.rest) b in
      let difference = compared rules pairs s in
      let both = anded rules (highest_of rules bit so_far.rest) difference.wires.carry difference.state in
      let goes = either rules (highest_of rules bit so_far.rest) difference.wires.carry both.wires in
      let others = zip (moved_in rules bit so_far.rest) difference.wires.bits in
      let left = each rules (replace_bit rules goes) others both.state in
      let pairs_long : length pairs ≡ length b = omega (arith, length-zip (moved_in rules bit so_far.rest) b, length-moved bit so_far.rest (omega arith)) in
      let others_long : length others ≡ length b = omega (arith, length-zip (moved_in rules bit so_far.rest) difference.wires.bits, length-moved bit so_far.rest (omega arith), length-compared pairs s) in
      let left_long : length left.wires ≡ length b = omega (arith, length-each (replace_bit rules goes) others both.state) in
      let after : Divided W = record { quotient = goes ∷ so_far.quotient; rest = left.wires } in
      let rest = costs_turns b after bits left.state left_long some in
      let first = costs_compared pairs s in
      let last = costs_each (replace_bit rules goes) (λ i t. refl) others both.state in
      let calls = ands_in-append (difference.calls ++ (both.calls ++ left.calls)) ((folded rules (divide_bit rules b) after bits left.state).calls) in
      let calls' = ands_in-append difference.calls (both.calls ++ left.calls) in
      let calls'' = ands_in-append both.calls left.calls in
      omega arith
