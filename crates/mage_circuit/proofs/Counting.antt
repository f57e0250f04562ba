-- A turn of a count.
use Rattle.std.proofs.Common.{◌≡◌, ◌≤◌, ◌+◌, ◌-◌, ◌*◌, ◌^◌, ◌==◌, ℕ, zero, suc, List, [], ◌∷◌, ◌++◌, true, false, length, take, drop, replicate, subst, refl, sym, ap, ◌∙◌, arith, inl, inr}
use Rattle.std.proofs.lemmas.Bool.Decides.{eqb_tells}
use Rattle.std.proofs.lemmas.List.{append-nil, drop_all, length-take, length-drop}
use Rattle.std.proofs.Math.Seq.{take-append-add}
use Rattle.std.proofs.Math.Nat.{pow-suc}
use Rattle.mage_driver.specs.declared.standing.Standing.TheVariants as standing
use Rattle.mage_instr.specs.declared.fault.DriverFault.{DriverFault}
use Rattle.mage_driver.specs.Rules.{Rules}
use Rattle.mage_driver.specs.Calls.{Told}
use Rattle.mage_driver.specs.Circuits.{Went, followed, formed, folded}
use Rattle.mage_driver.specs.Operations.{Counted, count_bit, counted, resized}
use Rattle.mage_circuit.specs.Numbers.{grown, increased, bits_of}
use Rattle.mage_driver.proofs.Making.{FellIn, went_given, went_formed, went_followed, went_to}

-- what was counted so far
abbrev pub counted_to : {W : Type 0} → ℕ → List W → Counted W
counted_to seen bits = record { seen = seen; bits = bits }

pub pow_next : (n : ℕ) → 2 ^ (n + 1) ≡ 2 ^ n * 2
pow_next n = let more : n + 1 ≡ suc n = omega arith in ap (λ k. 2 ^ k) more ∙ pow-suc 2 n

pub test_fails : (a b : ℕ) → (a ≡ b → ⊥) → (a == b) ≡ false
test_fails a b apart = elim (eqb_tells a b) [ inl alike ↦ absurd (apart alike.1) | inr other ↦ other.0 ]

take_less : {X : Type 0} (n m : ℕ) (xs : List X) → n ≤ m → take n (take m xs) ≡ take n xs
take_less zero m xs less = refl
take_less (suc n) zero xs less = absurd (omega arith)
take_less (suc n) (suc m) [] less = refl
take_less (suc n) (suc m) (x ∷ xs) less = ap (λ ys. x ∷ ys) (take_less n m xs (omega arith))

pub front_of : {X : Type 0} (xs : List X) (n : ℕ) → n + 1 ≤ length xs → take (length (take (n + 1) xs) - 1) (take (n + 1) xs) ≡ take n xs
front_of xs n within =
    let long : length (take (n + 1) xs) - 1 ≡ n = omega (arith, length-take (n + 1) xs) in
    ap (λ k. take k (take (n + 1) xs)) long ∙ take_less n (n + 1) xs (omega arith)

take_same : {X : Type 0} (n m : ℕ) (x : X) → n ≤ m → take n (replicate m x) ≡ replicate n x
take_same zero m x less = refl
take_same (suc n) zero x less = absurd (omega arith)
take_same (suc n) (suc m) x less = ap (λ ys. x ∷ ys) (take_same n m x (omega arith))

-- zeros above the bits that were counted
pub zeros_above : {W : Type 0} (bits number z : List W) (o : W) (k w m : ℕ) → bits ≡ take k number → length number ≡ w → k ≤ w → m ≡ w - k → z ≡ replicate m o →
    take k number ++ (z ++ drop m (drop k number)) ≡ take w (bits ++ replicate w o)
zeros_above bits number z o k w m same long within rest zeros =
    let front_long : length (take k number) ≡ k = omega (arith, length-take k number) in
    let none : drop m (drop k number) ≡ [] = drop_all m (drop k number) (omega (arith, length-drop k number)) in
    let whole : k + m ≡ w = omega arith in
    let taken : take w (take k number ++ replicate w o) ≡ take k number ++ take m (replicate w o) =
    ap (λ n. take n (take k number ++ replicate w o)) (sym whole) ∙ ap (λ n. take (n + m) (take k number ++ replicate w o)) (sym front_long) ∙ take-append-add (take k number) (replicate w o) m in
    ap (λ ys. take k number ++ (z ++ ys)) none ∙ ap (λ ys. take k number ++ ys) (append-nil z ∙ zeros ∙ sym (take_same m w o (omega arith)))
    ∙ sym taken ∙ ap (λ ds. take w (ds ++ replicate w o)) (sym same)

module _ {W : Type 0} (rules : Rules W) where
  pub count_full_step : (seen : ℕ) (bits found : List W) (bit : W) (before after : Told rules.State) → (seen + 1 == 2 ^ length bits) ≡ true →
      Went rules (grown rules bit bits) before after found → Went rules (count_bit rules (record { seen = seen; bits = bits }) bit) before after (record { seen = seen + 1; bits = found })
  count_full_step seen bits found bit before after full went =
      rw full (record { passed = went.passed; state = went.state; wires = λ t. ap (λ ds. record { seen = seen + 1; bits = ds }) (went.wires t); rest = went.rest })

  pub count_more_step : (seen : ℕ) (bits found : List W) (bit : W) (before after : Told rules.State) → (seen + 1 == 2 ^ length bits) ≡ false →
      Went rules (increased rules bit bits) before after found → Went rules (count_bit rules (record { seen = seen; bits = bits }) bit) before after (record { seen = seen + 1; bits = found })
  count_more_step seen bits found bit before after full went =
      rw full (record { passed = went.passed; state = went.state; wires = λ t. ap (λ ds. record { seen = seen + 1; bits = ds }) (went.wires t); rest = went.rest })

  pub count_full_falls : (seen : ℕ) (bits : List W) (bit : W) (before after : Told rules.State) (f : DriverFault) → (seen + 1 == 2 ^ length bits) ≡ true →
      FellIn rules (grown rules bit bits) before after f → FellIn rules (count_bit rules (record { seen = seen; bits = bits }) bit) before after f
  count_full_falls seen bits bit before after f full fell = rw full (record { stopped = fell.stopped; failed = fell.failed; counted = fell.counted; told = fell.told })

  pub count_more_falls : (seen : ℕ) (bits : List W) (bit : W) (before after : Told rules.State) (f : DriverFault) → (seen + 1 == 2 ^ length bits) ≡ false →
      FellIn rules (increased rules bit bits) before after f → FellIn rules (count_bit rules (record { seen = seen; bits = bits }) bit) before after f
  count_more_falls seen bits bit before after f full fell = rw full (record { stopped = fell.stopped; failed = fell.failed; counted = fell.counted; told = fell.told })

  -- the first bit is there, and the others are counted
  pub counted_went : (a rest bits : List W) (first : W) (before after : Told rules.State) (all : Counted W) → a ≡ first ∷ rest → bits ≡ first ∷ [] →
      Went rules (folded rules (count_bit rules) (counted_to 1 bits) rest) before after all → Went rules (formed rules bits_of (counted rules a)) before after all.bits
  counted_went a rest bits first before after all split start went =
      rw split (went_formed rules bits_of (folded rules (count_bit rules) (counted_to 1 (first ∷ [])) rest) before after all
      (subst (λ ds. Went rules (folded rules (count_bit rules) (counted_to 1 ds) rest) before after all) start went))

  pub counted_falls : (a rest bits : List W) (first : W) (before after : Told rules.State) (f : DriverFault) → a ≡ first ∷ rest → bits ≡ first ∷ [] →
      FellIn rules (folded rules (count_bit rules) (counted_to 1 bits) rest) before after f → FellIn rules (formed rules bits_of (counted rules a)) before after f
  counted_falls a rest bits first before after f split start fell =
      let same = subst (λ ds. FellIn rules (folded rules (count_bit rules) (counted_to 1 ds) rest) before after f) start fell in
      rw split (record { stopped = same.stopped; failed = same.failed; counted = same.counted; told = same.told })

  -- the number with zeros above it
  pub resized_went : (a wires found : List W) (w : ℕ) (before after : Told rules.State) → Went rules (formed rules bits_of (counted rules a)) before after found → after.standing ≡ standing.Running →
      wires ≡ take w (found ++ replicate w (rules.constant after.state false)) →
      Went rules (followed rules (counted rules a) (λ all. resized rules w all.bits)) before after wires
  resized_went a wires found w before after went runs same =
      let zeros = went_given rules (take w (found ++ replicate w (rules.constant after.state false))) after runs in
      let all = went_followed rules (formed rules bits_of (counted rules a)) (resized rules w) before after after found _ went
      (record { passed = zeros.passed; state = zeros.state; wires = zeros.wires; rest = zeros.rest }) in
      went_to rules (followed rules (counted rules a) (λ all. resized rules w all.bits)) before after _ wires
      (record { passed = all.passed; state = all.state; wires = all.wires; rest = all.rest }) (sym same)
