-- A turn of a product.
use Rattle.std.proofs.Common.{◌≡◌, ◌<◌, ◌≤◌, ◌+◌, ◌-◌, ℕ, zero, suc, List, [], ◌∷◌, ◌++◌, length, take, drop, subst, refl, sym, ap, ◌∙◌, arith}
use Rattle.std.specs.List.{zip}
use Rattle.std.proofs.lemmas.List.{drop_at, take_at, length-drop, length-take, take-append-drop}
use Rattle.mage_instr.specs.declared.fault.DriverFault.{DriverFault}
use Rattle.mage_driver.specs.Rules.{Rules}
use Rattle.mage_driver.specs.Calls.{Told}
use Rattle.mage_driver.specs.Circuits.{Went, formed, folded}
use Rattle.mage_driver.specs.Operations.{Summed, row, added, multiply_bit, multiplied}
use Rattle.mage_driver.proofs.Making.{FellIn, went_formed, went_followed, went_to, fell_next, fell_first}

-- what is behind the first item
drop-one : {X : Type 0} (xs : List X) (i : ℕ) → drop 1 (drop i xs) ≡ drop (i + 1) xs
drop-one [] zero = refl
drop-one (x ∷ xs) zero = refl
drop-one [] (suc i) = let more : suc i + 1 ≡ suc (i + 1) = omega arith in rw more refl
drop-one (x ∷ xs) (suc i) = let more : suc i + 1 ≡ suc (i + 1) = omega arith in rw more (drop-one xs i)

take-one : {X : Type 0} (xs : List X) (i : ℕ) → take i xs ++ take 1 (drop i xs) ≡ take (i + 1) xs
take-one [] zero = refl
take-one (x ∷ xs) zero = refl
take-one [] (suc i) = let more : suc i + 1 ≡ suc (i + 1) = omega arith in rw more refl
take-one (x ∷ xs) (suc i) = let more : suc i + 1 ≡ suc (i + 1) = omega arith in rw more (ap (λ ys. x ∷ ys) (take-one xs i))

-- the bits that are done, and the sum of the others
abbrev pub summed_in : {W : Type 0} → ℕ → List W → Summed W
summed_in i out = record { done = take i out; sum = drop i out }

abbrev summed : {W : Type 0} → List W → List W → Summed W
summed done sum = record { done = done; sum = sum }

module _ {W : Type 0} (rules : Rules W) where
  -- what a turn is, once its row and its sum are known in terms of the wires that stand in `out`
  turn_parts : (a out : List W) (i width : ℕ) → 1 ≤ i → i < width → length out ≡ width →
      (take (length (drop (i - 1) out) - 1) a ≡ take (width - i) a) × (drop 1 (drop (i - 1) out) ≡ drop i out) × (take (i - 1) out ++ take 1 (drop (i - 1) out) ≡ take i out)
  turn_parts a out i width some inside long =
      let there : i - 1 + 1 ≡ i = omega arith in
      let rest : length (drop (i - 1) out) - 1 ≡ width - i = omega (arith, length-drop (i - 1) out) in
      (ap (λ k. take k a) rest, drop-one out (i - 1) ∙ ap (λ k. drop k out) there, take-one out (i - 1) ∙ ap (λ k. take k out) there)

  pub multiply_turn : (a out line sum out' : List W) (i width : ℕ) (b : W) (before mid after : Told rules.State) → 1 ≤ i → i < width → length out ≡ width →
      Went rules (row rules (take (width - i) a) b) before mid line → Went rules (added rules (zip (drop i out) line)) mid after sum →
      out' ≡ take i out ++ sum →
      Went rules (multiply_bit rules a (summed_in (i - 1) out) b) before after (summed_in (i + 1 - 1) out')
  multiply_turn a out line sum out' i width b before mid after some inside long first next same =
      let parts = turn_parts a out i width some inside long in
      let there : i + 1 - 1 ≡ i = omega arith in
      let front_long : length (take i out) ≡ i = omega (arith, length-take i out) in
      let done : take (i + 1 - 1) out' ≡ take i out = ap (λ k. take k out') there ∙ ap (λ xs. take i xs) same ∙ take_at (take i out) sum i front_long in
      let left : drop (i + 1 - 1) out' ≡ sum = ap (λ k. drop k out') there ∙ ap (λ xs. drop i xs) same ∙ drop_at (take i out) sum i front_long in
      let made : Went rules (multiply_bit rules a (summed_in (i - 1) out) b) before after (record { done = take (i - 1) out ++ take 1 (drop (i - 1) out); sum = sum }) =
      went_followed rules (row rules (take (length (drop (i - 1) out) - 1) a) b)
      (λ l. formed rules (λ (s : List W). summed (take (i - 1) out ++ take 1 (drop (i - 1) out)) s) (added rules (zip (drop 1 (drop (i - 1) out)) l)))
      before mid after line _ (subst (λ xs. Went rules (row rules xs b) before mid line) (sym parts.0) first)
      (went_formed rules (λ (s : List W). summed (take (i - 1) out ++ take 1 (drop (i - 1) out)) s) (added rules (zip (drop 1 (drop (i - 1) out)) line)) mid after sum
      (subst (λ xs. Went rules (added rules (zip xs line)) mid after sum) (sym parts.1) next)) in
      went_to rules (multiply_bit rules a (summed_in (i - 1) out) b) before after _ _ made
      (ap (λ xs. summed xs sum) (parts.2 ∙ sym done) ∙ ap (λ xs. summed (take (i + 1 - 1) out') xs) (sym left))

  pub multiply_falls_row : (a out : List W) (i width : ℕ) (b : W) (before after : Told rules.State) (f : DriverFault) → 1 ≤ i → i < width → length out ≡ width →
      FellIn rules (row rules (take (width - i) a) b) before after f → FellIn rules (multiply_bit rules a (summed_in (i - 1) out) b) before after f
  multiply_falls_row a out i width b before after f some inside long fell =
      let parts = turn_parts a out i width some inside long in
      fell_first rules (row rules (take (length (drop (i - 1) out) - 1) a) b)
      (λ l. formed rules (λ (s : List W). summed (take (i - 1) out ++ take 1 (drop (i - 1) out)) s) (added rules (zip (drop 1 (drop (i - 1) out)) l)))
      before after f (subst (λ xs. FellIn rules (row rules xs b) before after f) (sym parts.0) fell)

  pub multiply_falls_sum : (a out line : List W) (i width : ℕ) (b : W) (before mid after : Told rules.State) (f : DriverFault) → 1 ≤ i → i < width → length out ≡ width →
      Went rules (row rules (take (width - i) a) b) before mid line → FellIn rules (added rules (zip (drop i out) line)) mid after f →
      FellIn rules (multiply_bit rules a (summed_in (i - 1) out) b) before after f
  multiply_falls_sum a out line i width b before mid after f some inside long first fell =
      let parts = turn_parts a out i width some inside long in
      let sum = subst (λ xs. FellIn rules (added rules (zip xs line)) mid after f) (sym parts.1) fell in
      fell_next rules (row rules (take (length (drop (i - 1) out) - 1) a) b)
      (λ l. formed rules (λ (s : List W). summed (take (i - 1) out ++ take 1 (drop (i - 1) out)) s) (added rules (zip (drop 1 (drop (i - 1) out)) l)))
      before mid after line f (subst (λ xs. Went rules (row rules xs b) before mid line) (sym parts.0) first)
      (record { stopped = sum.stopped; failed = sum.failed; counted = sum.counted; told = sum.told })

  -- the first row, and then the turns
  pub multiplied_went : (a b rest : List W) (bit : W) (line out : List W) (before mid after : Told rules.State) → b ≡ bit ∷ rest →
      Went rules (row rules a bit) before mid line →
      Went rules (folded rules (multiply_bit rules a) (summed_in 0 line) rest) mid after (summed_in (length out - 1) out) →
      Went rules (multiplied rules a b) before after out
  multiplied_went a b rest bit line out before mid after split first turns =
      rw split (went_followed rules (row rules a bit)
      (λ l. formed rules (λ (s : Summed W). s.done ++ s.sum) (folded rules (multiply_bit rules a) (record { done = []; sum = l }) rest)) before mid after line out first
      (went_to rules (formed rules (λ (s : Summed W). s.done ++ s.sum) (folded rules (multiply_bit rules a) (record { done = []; sum = line }) rest)) mid after _ out
      (went_formed rules (λ (s : Summed W). s.done ++ s.sum) (folded rules (multiply_bit rules a) (record { done = []; sum = line }) rest) mid after (summed_in (length out - 1) out) turns)
      (take-append-drop (length out - 1) out)))

  pub multiplied_falls_first : (a b rest : List W) (bit : W) (before after : Told rules.State) (f : DriverFault) → b ≡ bit ∷ rest →
      FellIn rules (row rules a bit) before after f → FellIn rules (multiplied rules a b) before after f
  multiplied_falls_first a b rest bit before after f split fell =
      rw split (fell_first rules (row rules a bit)
      (λ l. formed rules (λ (s : Summed W). s.done ++ s.sum) (folded rules (multiply_bit rules a) (record { done = []; sum = l }) rest)) before after f fell)

  pub multiplied_falls : (a b rest : List W) (bit : W) (line : List W) (before mid after : Told rules.State) (f : DriverFault) → b ≡ bit ∷ rest →
      Went rules (row rules a bit) before mid line →
      FellIn rules (folded rules (multiply_bit rules a) (summed_in 0 line) rest) mid after f → FellIn rules (multiplied rules a b) before after f
  multiplied_falls a b rest bit line before mid after f split first fell =
      rw split (fell_next rules (row rules a bit)
      (λ l. formed rules (λ (s : Summed W). s.done ++ s.sum) (folded rules (multiply_bit rules a) (record { done = []; sum = l }) rest)) before mid after line f first
      (record { stopped = fell.stopped; failed = fell.failed; counted = fell.counted; told = fell.told }))
