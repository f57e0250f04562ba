-- A turn of a division.
use Rattle.std.proofs.Common.{◌≡◌, ◌<◌, ◌≤◌, ◌+◌, ◌-◌, ◌*◌, ℕ, zero, suc, List, [], ◌∷◌, ◌++◌, length, get_or, set, take, drop, reverse, refl, sym, ap, ◌∙◌, arith, append_assoc}
use Rattle.std.specs.List.{zip}
use Rattle.std.proofs.lemmas.List.{append-nil, take_all, take_at, take_more, take_more_set, take-append-drop, drop_at, length-take, length-drop, length-set, reverse-append, set-append_left, set-append_right}
use Rattle.mage_instr.specs.declared.fault.DriverFault.{DriverFault}
use Rattle.mage_driver.specs.Rules.{Rules}
use Rattle.mage_driver.specs.Calls.{Told}
use Rattle.mage_driver.specs.Circuits.{Went, followed, formed, anded}
use Rattle.mage_driver.specs.Operations.{Divided, each, replace_bit, compared, with_carry, either, moved_in, highest_of, taken_away, divide_bit, divided_by}
use Rattle.mage_circuit.specs.Windows.{started, in_window}
use Rattle.mage_driver.proofs.Making.{FellIn, went_formed, went_followed, fell_next, fell_first}

-- the bits of the dividend that are still to come, what is left of those above them, and the quotient so far
pub record InWindow {W : Type 0} (a : List W) (place : ℕ) (window : List W) (all : Divided W) : Type 0 where
  pub stands : window ≡ take place a ++ (all.rest ++ all.quotient)
  pub long : length all.rest ≡ length a
  pub within : place ≤ length a

module _ {W : Type 0} (rules : Rules W) where
  -- the bits that are compared are those in the window but the highest, which is the last of what is left
  pub moved_in-window : (bit : W) (rest : List W) (n : ℕ) → length rest ≡ n → 1 ≤ n → take n (bit ∷ rest) ≡ moved_in rules bit rest
  moved_in-window bit rest zero long some = absurd (omega arith)
  moved_in-window bit rest (suc n) long some = let same : length rest - 1 ≡ n = omega arith in ap (λ k. bit ∷ take k rest) (sym same)

  pub highest_of-window : (bit : W) (rest : List W) (n : ℕ) (d : W) → length rest ≡ n → 1 ≤ n → get_or (bit ∷ rest) n d ≡ highest_of rules bit rest
  highest_of-window bit rest zero d long some = absurd (omega arith)
  highest_of-window bit rest (suc n) d long some =
      let same : length rest - 1 ≡ n = omega arith in
      default rest n d bit (omega arith) ∙ ap (λ k. get_or rest k bit) (sym same)
    where
      default : (xs : List W) (i : ℕ) (d e : W) → i < length xs → get_or xs i d ≡ get_or xs i e
      default [] i d e inside = absurd (omega arith)
      default (x ∷ xs) zero d e inside = refl
      default (x ∷ xs) (suc i) d e inside = default xs i d e (omega arith)

  -- one bit of a quotient
  pub taken_away_went : (b bits left : List W) (bit carry goes : W) (rest : List W) (before mid next after : Told rules.State) →
      Went rules (compared rules (zip (moved_in rules bit rest) b)) before mid (record { carry = carry; bits = bits }) →
      Went rules (formed rules (either rules (highest_of rules bit rest) carry) (anded rules (highest_of rules bit rest) carry)) mid next goes →
      Went rules (each rules (replace_bit rules goes) (zip (moved_in rules bit rest) bits)) next after left →
      Went rules (taken_away rules b bit rest) before after (record { carry = goes; bits = left })
  taken_away_went b bits left bit carry goes rest before mid next after first second third =
      let h = highest_of rules bit rest in
      let x = moved_in rules bit rest in
      let there = went_followed rules (formed rules (either rules h carry) (anded rules h carry)) (λ g. formed rules (with_carry rules g) (each rules (replace_bit rules g) (zip x bits)))
      mid next after goes _ second (went_formed rules (with_carry rules goes) (each rules (replace_bit rules goes) (zip x bits)) next after left third) in
      went_followed rules (compared rules (zip x b))
      (λ difference. followed rules (anded rules h difference.carry) (λ both. formed rules (with_carry rules (either rules h difference.carry both)) (each rules (replace_bit rules (either rules h difference.carry both)) (zip x difference.bits))))
      before mid after (record { carry = carry; bits = bits }) _ first
      (record { passed = there.passed; state = there.state; wires = there.wires; rest = there.rest })

  pub taken_away_falls_first : (b : List W) (bit : W) (rest : List W) (before after : Told rules.State) (f : DriverFault) →
      FellIn rules (compared rules (zip (moved_in rules bit rest) b)) before after f → FellIn rules (taken_away rules b bit rest) before after f
  taken_away_falls_first b bit rest before after f fell =
      let h = highest_of rules bit rest in
      let x = moved_in rules bit rest in
      fell_first rules (compared rules (zip x b))
      (λ difference. followed rules (anded rules h difference.carry) (λ both. formed rules (with_carry rules (either rules h difference.carry both)) (each rules (replace_bit rules (either rules h difference.carry both)) (zip x difference.bits))))
      before after f fell

  pub taken_away_falls_next : (b bits : List W) (bit carry : W) (rest : List W) (before mid after : Told rules.State) (f : DriverFault) →
      Went rules (compared rules (zip (moved_in rules bit rest) b)) before mid (record { carry = carry; bits = bits }) →
      FellIn rules (formed rules (either rules (highest_of rules bit rest) carry) (anded rules (highest_of rules bit rest) carry)) mid after f →
      FellIn rules (taken_away rules b bit rest) before after f
  taken_away_falls_next b bits bit carry rest before mid after f first fell =
      let h = highest_of rules bit rest in
      let x = moved_in rules bit rest in
      fell_next rules (compared rules (zip x b))
      (λ difference. followed rules (anded rules h difference.carry) (λ both. formed rules (with_carry rules (either rules h difference.carry both)) (each rules (replace_bit rules (either rules h difference.carry both)) (zip x difference.bits))))
      before mid after (record { carry = carry; bits = bits }) f first
      (fell_first rules (anded rules h carry) (λ both. formed rules (with_carry rules (either rules h carry both)) (each rules (replace_bit rules (either rules h carry both)) (zip x bits)))
      mid after f (record { stopped = fell.stopped; failed = fell.failed; counted = fell.counted; told = fell.told }))

  pub taken_away_falls_last : (b bits : List W) (bit carry goes : W) (rest : List W) (before mid next after : Told rules.State) (f : DriverFault) →
      Went rules (compared rules (zip (moved_in rules bit rest) b)) before mid (record { carry = carry; bits = bits }) →
      Went rules (formed rules (either rules (highest_of rules bit rest) carry) (anded rules (highest_of rules bit rest) carry)) mid next goes →
      FellIn rules (each rules (replace_bit rules goes) (zip (moved_in rules bit rest) bits)) next after f →
      FellIn rules (taken_away rules b bit rest) before after f
  taken_away_falls_last b bits bit carry goes rest before mid next after f first second fell =
      let h = highest_of rules bit rest in
      let x = moved_in rules bit rest in
      let there = fell_next rules (formed rules (either rules h carry) (anded rules h carry)) (λ g. formed rules (with_carry rules g) (each rules (replace_bit rules g) (zip x bits)))
      mid next after goes f second (record { stopped = fell.stopped; failed = fell.failed; counted = fell.counted; told = fell.told }) in
      fell_next rules (compared rules (zip x b))
      (λ difference. followed rules (anded rules h difference.carry) (λ both. formed rules (with_carry rules (either rules h difference.carry both)) (each rules (replace_bit rules (either rules h difference.carry both)) (zip x difference.bits))))
      before mid after (record { carry = carry; bits = bits }) f first
      (record { stopped = there.stopped; failed = there.failed; counted = there.counted; told = there.told })

  pub divide_step : (b : List W) (all : Divided W) (bit goes : W) (left : List W) (before after : Told rules.State) →
      Went rules (taken_away rules b bit all.rest) before after (record { carry = goes; bits = left }) →
      Went rules (divide_bit rules b all bit) before after (record { quotient = goes ∷ all.quotient; rest = left })
  divide_step b all bit goes left before after went =
      went_formed rules (divided_by all) (taken_away rules b bit all.rest) before after (record { carry = goes; bits = left }) went

-- the bits that are still to come, the next first
pub reverse_next : {W : Type 0} (a : List W) (place : ℕ) (d : W) → place < length a → reverse (take (place + 1) a) ≡ get_or a place d ∷ reverse (take place a)
reverse_next a place d inside = ap reverse (take_more a place d inside) ∙ reverse-append (take place a) (get_or a place d ∷ [])

-- a quotient and what is left
abbrev pub halves : {W : Type 0} → (quotient rest : List W) → Divided W
halves quotient rest = record { quotient = quotient; rest = rest }

-- how a window stands before a turn, and after it
stands_so : {W : Type 0} (a window : List W) (place : ℕ) (all : Divided W) (d : W) → InWindow a (place + 1) window all → window ≡ take place a ++ (get_or a place d ∷ (all.rest ++ all.quotient))
stands_so a window place all d so =
    so.stands ∙ ap (λ xs. xs ++ (all.rest ++ all.quotient)) (take_more a place d (omega (arith, so.within))) ∙ append_assoc (take place a) (get_or a place d ∷ []) (all.rest ++ all.quotient)

front_long : {W : Type 0} (a window : List W) (place : ℕ) (all : Divided W) → InWindow a (place + 1) window all → length (take place a) ≡ place
front_long a window place all so = omega (arith, length-take place a, so.within)

pub next_part : {W : Type 0} (a window : List W) (place w m : ℕ) (all : Divided W) (d : W) → InWindow a (place + 1) window all → length a ≡ w → m ≡ w + 1 → take m (drop place window) ≡ get_or a place d ∷ all.rest
next_part a window place w m all d so long size =
    let rest_long : length all.rest ≡ w = so.long ∙ long in
    let more : w + 1 ≡ suc w = omega arith in
    ap (λ xs. take m (drop place xs)) (stands_so a window place all d so)
    ∙ ap (λ xs. take m xs) (drop_at (take place a) (get_or a place d ∷ (all.rest ++ all.quotient)) place (front_long a window place all so))
    ∙ ap (λ n. take n (get_or a place d ∷ (all.rest ++ all.quotient))) (size ∙ more)
    ∙ ap (λ xs. get_or a place d ∷ xs) (take_at all.rest all.quotient w rest_long)

pub next_window : {W : Type 0} (a window new : List W) (place w m : ℕ) (all : Divided W) (goes : W) → InWindow a (place + 1) window all → length a ≡ w → m ≡ w + 1 → length new ≡ w + 1 →
    InWindow a place (set (take place window ++ (new ++ drop m (drop place window))) (place + w) goes) (record { quotient = goes ∷ all.quotient; rest = take w new })
next_window a window new place w m all goes so long size new_long =
    let rest_long : length all.rest ≡ w = so.long ∙ long in
    let more : w + 1 ≡ suc w = omega arith in
    let front = front_long a window place all so in
    let low : take place window ≡ take place a =
    ap (λ xs. take place xs) (stands_so a window place all goes so) ∙ take_at (take place a) (get_or a place goes ∷ (all.rest ++ all.quotient)) place front in
    let high : drop m (drop place window) ≡ all.quotient =
    ap (λ xs. drop m (drop place xs)) (stands_so a window place all goes so)
    ∙ ap (λ xs. drop m xs) (drop_at (take place a) (get_or a place goes ∷ (all.rest ++ all.quotient)) place front)
    ∙ ap (λ n. drop n (get_or a place goes ∷ (all.rest ++ all.quotient))) (size ∙ more)
    ∙ drop_at all.rest all.quotient w rest_long in
    let at : place + w - place ≡ w = omega arith in
    let top : set new w goes ≡ take w new ++ goes ∷ [] = sym (take_all (w + 1) (set new w goes) (omega (arith, length-set new w goes))) ∙ take_more_set new w goes (omega arith) in
    record {
      stands = ap (λ xs. set (xs ++ (new ++ drop m (drop place window))) (place + w) goes) low
          ∙ ap (λ ys. set (take place a ++ (new ++ ys)) (place + w) goes) high
          ∙ set-append_right (take place a) (new ++ all.quotient) place (place + w) goes front (omega arith)
          ∙ ap (λ k. take place a ++ set (new ++ all.quotient) k goes) at
          ∙ ap (λ ys. take place a ++ ys) (set-append_left new all.quotient w goes (omega arith) ∙ ap (λ ys. ys ++ all.quotient) top ∙ append_assoc (take w new) (goes ∷ []) all.quotient);
      long = omega (arith, length-take w new);
      within = omega (arith, so.within);
    }

pub first_window : {W : Type 0} (window : List W) (w : ℕ) → length window ≡ 2 * w → InWindow (take w window) (w - 0) window (started w window)
first_window window w long =
    let low : take (w - 0) (take w window) ≡ take w window = take_all (w - 0) (take w window) (omega (arith, length-take w window)) in
    record {
      stands = sym (take-append-drop w window) ∙ ap (λ xs. xs ++ drop w window) (sym low) ∙ ap (λ ys. take (w - 0) (take w window) ++ ys) (sym (append-nil (drop w window)));
      long = omega (arith, length-take w window, length-drop w window);
      within = omega (arith, length-take w window);
    }

pub last_window : {W : Type 0} (a window : List W) (place w : ℕ) (all : Divided W) → InWindow a place window all → place ≡ 0 → length a ≡ w → all ≡ in_window w window
last_window a window place w all so none long =
    let rest_long : length all.rest ≡ w = so.long ∙ long in
    let whole : window ≡ all.rest ++ all.quotient = so.stands ∙ ap (λ k. take k a ++ (all.rest ++ all.quotient)) none in
    let quotient : drop w window ≡ all.quotient = ap (λ xs. drop w xs) whole ∙ drop_at all.rest all.quotient w rest_long in
    let rest : take w window ≡ all.rest = ap (λ xs. take w xs) whole ∙ take_at all.rest all.quotient w rest_long in
    sym (ap (λ q. halves q (take w window)) quotient ∙ ap (λ r. halves all.quotient r) rest)
