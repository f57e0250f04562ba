-- Turns of the loops that make circuits.
use Rattle.std.proofs.Common.{◌≡◌, ◌<◌, ◌≤◌, ◌+◌, ◌-◌, ℕ, zero, suc, List, [], ◌∷◌, ◌++◌, length, get_or, set, take, drop, Result, Ok, Err, subst, refl, sym, ap, ◌∙◌, arith}
use Rattle.std.specs.List.{zip}
use Rattle.std.proofs.lemmas.List.{drop_more, drop_all, take_all, take_more_set, drop-set-lt, get_or-drop}
use Rattle.std.proofs.lemmas.Grind.{drop_more_same}
use Rattle.std.proofs.lemmas.Slice.Zip.{length-zip, get_or-zip}
use Rattle.mage_instr.specs.declared.fault.DriverFault.{DriverFault}
use Rattle.mage_driver.specs.declared.standing.Standing.TheVariants as standing
use Rattle.mage_driver.specs.Rules.{Rules}
use Rattle.mage_driver.specs.Calls.{Told, NoneIsDue, Fell}
use Rattle.mage_driver.specs.Circuits.{Made, Circuit, Went, Leaves, followed, anded, inverted, folded}
use Rattle.mage_driver.specs.Operations.{Carried, one_more, each, same_bit, equal, carry_of, sum_bit, add_bit, subtract_bit, count_up}
use Rattle.mage_driver.proofs.Making.{Goes, FellIn, goes_turn, goes_same, goes_falls, goes_end, went_formed, went_followed, went_inverted, went_to, fell_next}

-- the next item of a list, which was read
pub item_next : {X : Type 0} (xs : List X) (i : ℕ) (x : X) → i < length xs → x ≡ get_or xs i x → drop i xs ≡ x ∷ drop (i + 1) xs
item_next xs i x inside same = drop_more xs i x inside ∙ ap (λ y. y ∷ drop (i + 1) xs) (sym same)

-- the next pair of two lists, which were read
pub pair_next : {X Y : Type 0} (xs : List X) (ys : List Y) (i : ℕ) (x : X) (y : Y) → i < length xs → length ys ≡ length xs → x ≡ get_or xs i x → y ≡ get_or ys i y → drop i (zip xs ys) ≡ (x, y) ∷ drop (i + 1) (zip xs ys)
pair_next {X} {Y} xs ys i x y inside same here here' =
    let long : i < length (zip xs ys) = omega (arith, length-zip xs ys) in
    let pair : get_or (zip xs ys) i (x, y) ≡ (x, y) = get_or-zip xs ys i (x, y) inside (omega arith) ∙ ap (λ v. (v, get_or ys i y)) (sym here) ∙ ap (λ v. (x, v)) (sym here') in
    drop_more (zip xs ys) i (x, y) long ∙ ap (λ v. v ∷ drop (i + 1) (zip xs ys)) pair

pub pairs_end : {X Y : Type 0} (xs : List X) (ys : List Y) (i : ℕ) → length xs ≤ i → drop i (zip xs ys) ≡ []
pairs_end xs ys i past = drop_all i (zip xs ys) (omega (arith, length-zip xs ys))

-- the same of a front of the list
pub front_next : {X : Type 0} (xs : List X) (i last : ℕ) (x : X) → i < last → drop i xs ≡ x ∷ drop (i + 1) xs → take (last - i) (drop i xs) ≡ x ∷ take (last - (i + 1)) (drop (i + 1) xs)
front_next xs i last x inside split =
    let more : last - i ≡ suc (last - (i + 1)) = omega arith in
    rw (more, split) refl

pub front_end : {X : Type 0} (xs : List X) (i last : ℕ) → last ≤ i → take (last - i) (drop i xs) ≡ []
front_end xs i last past = let none : last - i ≡ 0 = omega arith in rw none refl

-- an item that stands where it stood when a loop in place began, and what is behind it
pub kept_item : {X : Type 0} (xs old : List X) (i : ℕ) (x : X) → drop i xs ≡ drop i old → x ≡ get_or xs i x → x ≡ get_or old i x
kept_item xs old i x kept here =
    let at : get_or (drop i xs) 0 x ≡ get_or xs (i + 0) x = get_or-drop i xs 0 x in
    let at' : get_or (drop i old) 0 x ≡ get_or old (i + 0) x = get_or-drop i old 0 x in
    let same : i + 0 ≡ i = omega arith in
    here ∙ ap (λ k. get_or xs k x) (sym same) ∙ sym at ∙ ap (λ ys. get_or ys 0 x) kept ∙ at' ∙ ap (λ k. get_or old k x) same

pub kept_rest : {X : Type 0} (xs old : List X) (i : ℕ) (y : X) → drop i xs ≡ drop i old → drop (i + 1) (set xs i y) ≡ drop (i + 1) old
kept_rest xs old i y kept = drop-set-lt (i + 1) xs i y (omega arith) ∙ drop_more_same xs old i kept

-- one bit more was written, behind the first
pub written_next : {W : Type 0} (xs : List W) (i : ℕ) (x : W) → 1 ≤ i → i < length xs → take (i + 1 - 1) (drop 1 (set xs i x)) ≡ take (i - 1) (drop 1 xs) ++ x ∷ []
written_next [] i x some inside = absurd (omega arith)
written_next (y ∷ ys) zero x some inside = absurd (omega arith)
written_next (y ∷ ys) (suc i) x some inside =
    let here : suc i + 1 - 1 ≡ i + 1 = omega arith in
    let there : suc i - 1 ≡ i = omega arith in
    rw (here, there) (take_more_set ys i x (omega arith))

module _ {W I : Type 0} (rules : Rules W) (bit : I → Circuit rules W) where
  -- one bit more was written
  pub each_turn : (before told told' : Told rules.State) (items : List I) (out : List W) (i : ℕ) (item : I) (left : List I) (wire : W) →
      Goes rules (one_more rules bit) [] before items (take i out) told left →
      left ≡ item ∷ drop (i + 1) items → i < length out → Went rules (bit item) told told' wire →
      Goes rules (one_more rules bit) [] before items (take (i + 1) (set out i wire)) told' (drop (i + 1) items)
  each_turn before told told' items out i item left wire goes split inside went =
      goes_same rules (one_more rules bit) [] before items (take i out ++ wire ∷ []) (take (i + 1) (set out i wire)) told' (drop (i + 1) items) (drop (i + 1) items)
      (goes_turn rules (one_more rules bit) [] before items (take i out) (take i out ++ wire ∷ []) told told' item left (drop (i + 1) items) goes split
      (went_formed rules (λ w. take i out ++ w ∷ []) (bit item) told told' wire went))
      (sym (take_more_set out i wire inside)) refl

  pub each_falls : (before told after : Told rules.State) (f : DriverFault) (items : List I) (now : List W) (item : I) (left rest : List I) →
      Goes rules (one_more rules bit) [] before items now told left → left ≡ item ∷ rest → FellIn rules (bit item) told after f →
      FellIn rules (each rules bit items) before after f
  each_falls before told after f items now item left rest goes split fell =
      goes_falls rules (one_more rules bit) [] before items now told after f item left rest goes split
      (record { stopped = fell.stopped; failed = fell.failed; counted = fell.counted; told = fell.told })

  pub each_end : (before told : Told rules.State) (items : List I) (out : List W) (i : ℕ) (left : List I) →
      Goes rules (one_more rules bit) [] before items (take i out) told left → left ≡ [] → length out ≤ i →
      Went rules (each rules bit items) before told out
  each_end before told items out i left goes split all =
      went_to rules (each rules bit items) before told (take i out) out
      (goes_end rules (one_more rules bit) [] before items (take i out) told left goes split) (take_all i out all)

module _ {W : Type 0} (rules : Rules W) where
  -- the first bits are compared without an AND, and the others in order
  pub equal_goes : (before after : Told rules.State) (pairs rest : List (W × W)) (x y start found : W) → pairs ≡ (x, y) ∷ rest → start ≡ rules.not before.state (rules.xor x y) → before.standing ≡ standing.Running →
      Went rules (folded rules (same_bit rules) start rest) before after found → Went rules (equal rules pairs) before after found
  equal_goes before after pairs rest x y start found split same runs went =
      rw (split) (went_followed rules (inverted rules (rules.xor x y)) (λ bit. folded rules (same_bit rules) bit rest) before before after (rules.not before.state (rules.xor x y)) found
      (went_inverted rules (rules.xor x y) before runs) (subst (λ v. Went rules (folded rules (same_bit rules) v rest) before after found) same went))

  pub equal_falls : (before after : Told rules.State) (f : DriverFault) (pairs rest : List (W × W)) (x y start : W) → pairs ≡ (x, y) ∷ rest → start ≡ rules.not before.state (rules.xor x y) → before.standing ≡ standing.Running →
      FellIn rules (folded rules (same_bit rules) start rest) before after f → FellIn rules (equal rules pairs) before after f
  equal_falls before after f pairs rest x y start split same runs fell =
      rw (split) (fell_next rules (inverted rules (rules.xor x y)) (λ bit. folded rules (same_bit rules) bit rest) before before after (rules.not before.state (rules.xor x y)) f
      (went_inverted rules (rules.xor x y) before runs) (subst (λ v. FellIn rules (folded rules (same_bit rules) v rest) before after f) same fell))

  -- a step of an addition, with the carry that was made
  pub add_step : (before after : Told rules.State) (so_far : Carried W) (x y next bit : W) → Went rules (carry_of rules x y so_far.carry) before after next → bit ≡ sum_bit rules x y so_far.carry →
      Went rules (add_bit rules so_far (x, y)) before after (record { carry = next; bits = so_far.bits ++ bit ∷ [] })
  add_step before after so_far x y next bit went same =
      subst (λ v. Went rules (add_bit rules so_far (x, y)) before after (record { carry = next; bits = so_far.bits ++ v ∷ [] })) (sym same)
      (went_formed rules (λ (carry : W). record { carry = carry; bits = so_far.bits ++ sum_bit rules x y so_far.carry ∷ [] }) (carry_of rules x y so_far.carry) before after next went)

  pub subtract_step : (before after : Told rules.State) (so_far : Carried W) (x y turned next bit : W) → before.standing ≡ standing.Running → turned ≡ rules.not before.state y →
      Went rules (carry_of rules x turned so_far.carry) before after next → bit ≡ sum_bit rules x turned so_far.carry →
      Went rules (subtract_bit rules so_far (x, y)) before after (record { carry = next; bits = so_far.bits ++ bit ∷ [] })
  subtract_step before after so_far x y turned next bit runs same went sum =
      went_followed rules (inverted rules y) (λ t. add_bit rules so_far (x, t)) before before after turned (record { carry = next; bits = so_far.bits ++ bit ∷ [] })
      (went_to rules (inverted rules y) before before (rules.not before.state y) turned (went_inverted rules y before runs) (sym same))
      (add_step before after so_far x turned next bit went sum)

  -- the same where a step falls
  pub add_step_falls : (before after : Told rules.State) (so_far : Carried W) (x y : W) (f : DriverFault) → FellIn rules (carry_of rules x y so_far.carry) before after f → FellIn rules (add_bit rules so_far (x, y)) before after f
  add_step_falls before after so_far x y f fell = record { stopped = fell.stopped; failed = fell.failed; counted = fell.counted; told = fell.told }

  pub subtract_step_falls : (before after : Told rules.State) (so_far : Carried W) (x y turned : W) (f : DriverFault) → before.standing ≡ standing.Running → turned ≡ rules.not before.state y →
      FellIn rules (carry_of rules x turned so_far.carry) before after f → FellIn rules (subtract_bit rules so_far (x, y)) before after f
  subtract_step_falls before after so_far x y turned f runs same fell =
      fell_next rules (inverted rules y) (λ t. add_bit rules so_far (x, t)) before before after turned f
      (went_to rules (inverted rules y) before before (rules.not before.state y) turned (went_inverted rules y before runs) (sym same))
      (add_step_falls before after so_far x turned f fell)

  -- a step of a count
  pub count_step : (before after : Told rules.State) (so_far : Carried W) (x next bit : W) → Went rules (anded rules x so_far.carry) before after next → bit ≡ rules.xor x so_far.carry →
      Went rules (count_up rules so_far x) before after (record { carry = next; bits = so_far.bits ++ bit ∷ [] })
  count_step before after so_far x next bit went same =
      subst (λ v. Went rules (count_up rules so_far x) before after (record { carry = next; bits = so_far.bits ++ v ∷ [] })) (sym same)
      (went_formed rules (λ (carry : W). record { carry = carry; bits = so_far.bits ++ rules.xor x so_far.carry ∷ [] }) (anded rules x so_far.carry) before after next went)

  pub count_step_falls : (before after : Told rules.State) (so_far : Carried W) (x : W) (f : DriverFault) → FellIn rules (anded rules x so_far.carry) before after f → FellIn rules (count_up rules so_far x) before after f
  count_step_falls before after so_far x f fell = record { stopped = fell.stopped; failed = fell.failed; counted = fell.counted; told = fell.told }

  -- one circuit after another, in terms of what is answered
  pub leaves_followed : {X Y Z : Type 0} (first : Circuit rules X) (next : X → Circuit rules Y) (before mid after : Told rules.State) (x : X) (wires_of : Z → Y) (result : Result Z DriverFault) →
      Went rules first before mid x → Leaves rules (next x) mid after wires_of result → Leaves rules (followed rules first next) before after wires_of result
  leaves_followed first next before mid after x wires_of (Ok z) went left = went_followed rules first next before mid after x (wires_of z) went left
  leaves_followed first next before mid after x wires_of (Err f) went left = fell_next rules first next before mid after x f went left

  -- the same wires in another form
  pub leaves_as : {X Y : Type 0} (circuit : Circuit rules X) (before after : Told rules.State) (wires_of wires_of' : Y → X) (result : Result Y DriverFault) →
      ((y : Y) → wires_of y ≡ wires_of' y) → Leaves rules circuit before after wires_of result → Leaves rules circuit before after wires_of' result
  leaves_as circuit before after wires_of wires_of' (Ok y) same went = went_to rules circuit before after (wires_of y) (wires_of' y) went (same y)
  leaves_as circuit before after wires_of wires_of' (Err f) same fell = fell

  -- a circuit that is the same from this state
  pub leaves_at : {X Y : Type 0} (circuit circuit' : Circuit rules X) (before after : Told rules.State) (wires_of : Y → X) (result : Result Y DriverFault) →
      circuit before.state ≡ circuit' before.state → Leaves rules circuit before after wires_of result → Leaves rules circuit' before after wires_of result
  leaves_at {X} circuit circuit' before after wires_of (Ok y) same went = record {
    passed = λ t. subst (λ (m : Made rules.State W X). NoneIsDue rules m.calls) same (went.passed t);
    state = λ t. went.state t ∙ ap (λ (m : Made rules.State W X). m.state) same;
    wires = λ t. went.wires t ∙ ap (λ (m : Made rules.State W X). m.wires) same;
    rest = went.rest;
  }
  leaves_at {X} circuit circuit' before after wires_of (Err f) same fell = subst (λ (m : Made rules.State W X). Fell rules m.calls before f after) same fell
