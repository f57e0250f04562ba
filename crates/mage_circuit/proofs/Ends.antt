-- The first bit of sums and differences, and the last, around the bits between them.
use Rattle.std.proofs.Common.{◌≡◌, ◌≤◌, ◌+◌, ◌-◌, ℕ, zero, suc, List, [], ◌∷◌, ◌++◌, length, get_or, set, take, drop, subst, refl, sym, ap, ◌∙◌, arith}
use Rattle.std.proofs.lemmas.List.{take_all, take_more_set}
use Rattle.std.proofs.Math.ListN.{length-set}
use Rattle.std.proofs.Math.Seq.{get_or-append_seam, set-append_seam}
use Rattle.mage_instr.specs.declared.fault.DriverFault.{DriverFault}
use Rattle.mage_driver.specs.declared.standing.Standing.TheVariants as standing
use Rattle.mage_driver.specs.Rules.{Rules}
use Rattle.mage_driver.specs.Calls.{Told}
use Rattle.mage_driver.specs.Circuits.{Circuit, Went, followed, formed, anded, inverted, folded, closed}
use Rattle.mage_driver.specs.Operations.{Carried, starting, below, with_carry, sum_bit, add_bit, add_last, added, subtract_bit, subtract_last, subtracted, first_carry, compared, count_last}
use Rattle.mage_driver.proofs.Making.{FellIn, went_given, went_formed, went_followed, went_inverted, went_runs, fell_next, fell_first}

-- both ends are written
pub written_ends : {W : Type 0} (xs : List W) (last : ℕ) (lowest highest : W) → 1 ≤ last → length xs ≡ last + 1 → set (set xs last highest) 0 lowest ≡ lowest ∷ take (last - 1) (drop 1 xs) ++ highest ∷ []
written_ends [] last lowest highest some long = absurd (omega arith)
written_ends (x ∷ xs) zero lowest highest some long = absurd (omega arith)
written_ends (x ∷ xs) (suc n) lowest highest some long =
    let there : suc n - 1 ≡ n = omega arith in
    rw there (ap (λ ys. lowest ∷ ys) (sym (take_all (n + 1) (set xs n highest) (omega (arith, length-set xs n highest))) ∙ take_more_set xs n highest (omega arith)))

-- the lowest is written
pub written_lowest : {W : Type 0} (xs : List W) (lowest : W) → 1 ≤ length xs → set xs 0 lowest ≡ lowest ∷ take (length xs - 1) (drop 1 xs)
written_lowest [] lowest some = absurd (omega arith)
written_lowest (x ∷ xs) lowest some =
    let there : length (x ∷ xs) - 1 ≡ length xs = omega arith in
    rw there (ap (λ ys. lowest ∷ ys) (sym (take_all (length xs) xs (omega arith))))

-- the lowest alone
pub first_written : {W : Type 0} (xs : List W) (lowest : W) → 1 ≤ length xs → take 1 (set xs 0 lowest) ≡ lowest ∷ []
first_written [] lowest some = absurd (omega arith)
first_written (x ∷ xs) lowest some = refl

-- the last item, behind the first
pub last_behind : {X : Type 0} (xs : List X) (last : ℕ) (x : X) → 1 ≤ last → drop last xs ≡ x ∷ [] → drop (last - 1) (drop 1 xs) ≡ x ∷ []
last_behind xs zero x some split = absurd (omega arith)
last_behind [] (suc n) x some split = cc
last_behind (y ∷ ys) (suc n) x some split = let there : suc n - 1 ≡ n = omega arith in rw there split

-- a front that was written, with one item above it
pub top_is : {W : Type 0} (xs ys : List W) (n : ℕ) (x : W) → length xs ≡ n → length ys ≡ 1 → x ≡ get_or (xs ++ ys) n x → ys ≡ x ∷ []
top_is xs [] n x long one here = absurd (omega arith)
top_is xs (y ∷ []) n x long one here = ap (λ v. v ∷ []) (sym (here ∙ ap (λ k. get_or (xs ++ y ∷ []) k x) (sym long) ∙ get_or-append_seam xs y [] x))
top_is xs (y ∷ z ∷ ys) n x long one here = absurd (omega arith)

pub top_written : {W : Type 0} (xs ys : List W) (n : ℕ) (x : W) → length xs ≡ n → length ys ≡ 1 → set (xs ++ ys) n x ≡ xs ++ x ∷ []
top_written xs [] n x long one = absurd (omega arith)
top_written xs (y ∷ []) n x long one = ap (λ k. set (xs ++ y ∷ []) k x) (sym long) ∙ set-append_seam xs y [] x
top_written xs (y ∷ z ∷ ys) n x long one = absurd (omega arith)

module _ {W : Type 0} (rules : Rules W) where
  module _ {I X : Type 0} (step last : X → I → Circuit rules X) where
    -- a fold with another last step
    pub closed_went : (x y z : X) (items : List I) (n : ℕ) (item : I) (before after : Told rules.State) → n ≡ length items - 1 → drop n items ≡ item ∷ [] →
        Went rules (folded rules step x (take n items)) before after y → Went rules (last y item) after after z → Went rules (closed rules step last x items) before after z
    closed_went x y z items n item before after same split front end =
        subst (λ m. Went rules (followed rules (folded rules step x (take m items)) (λ w. folded rules last w (drop m items))) before after z) same
        (went_followed rules (folded rules step x (take n items)) (λ w. folded rules last w (drop n items)) before after after y z front
        (subst (λ ys. Went rules (folded rules last y ys) after after z) (sym split)
        (went_followed rules (last y item) (λ w. folded rules last w []) after after after z z end (went_given rules z after (went_runs rules (last y item) after after z end)))))

    pub closed_falls : (x : X) (items : List I) (n : ℕ) (before after : Told rules.State) (f : DriverFault) → n ≡ length items - 1 →
        FellIn rules (folded rules step x (take n items)) before after f → FellIn rules (closed rules step last x items) before after f
    closed_falls x items n before after f same fell =
        subst (λ m. FellIn rules (followed rules (folded rules step x (take m items)) (λ w. folded rules last w (drop m items))) before after f) same
        (fell_first rules (folded rules step x (take n items)) (λ w. folded rules last w (drop n items)) before after f fell)

  last_added : (so_far : Carried W) (p q : W) (told : Told rules.State) → told.standing ≡ standing.Running →
      Went rules (add_last rules so_far (p, q)) told told (with_carry rules so_far.carry (so_far.bits ++ sum_bit rules p q so_far.carry ∷ []))
  last_added so_far p q told runs = went_given rules (with_carry rules so_far.carry (so_far.bits ++ sum_bit rules p q so_far.carry ∷ [])) told runs

  last_subtracted : (so_far : Carried W) (p q : W) (told : Told rules.State) → told.standing ≡ standing.Running →
      Went rules (subtract_last rules so_far (p, q)) told told (with_carry rules so_far.carry (so_far.bits ++ sum_bit rules p (rules.not told.state q) so_far.carry ∷ []))
  last_subtracted so_far p q told runs =
      went_followed rules (inverted rules q) (λ t. add_last rules so_far (p, t)) told told told (rules.not told.state q) _ (went_inverted rules q told runs)
      (last_added so_far p (rules.not told.state q) told runs)

  -- a sum of one bit
  pub added_one : (told : Told rules.State) (pairs : List (W × W)) (x y : W) → pairs ≡ (x, y) ∷ [] → told.standing ≡ standing.Running → Went rules (added rules pairs) told told (rules.xor x y ∷ [])
  added_one told pairs x y split runs = rw split (went_given rules (rules.xor x y ∷ []) told runs)

  pub subtracted_one : (told : Told rules.State) (pairs : List (W × W)) (x y : W) → pairs ≡ (x, y) ∷ [] → told.standing ≡ standing.Running → Went rules (subtracted rules pairs) told told (rules.xor x y ∷ [])
  subtracted_one told pairs x y split runs = rw split (went_given rules (rules.xor x y ∷ []) told runs)

  -- a longer one: the first carry, the bits between, and the last
  pub added_went : (before mid after : Told rules.State) (pairs rest : List (W × W)) (x y p q carry : W) (so_far : Carried W) (n : ℕ) → pairs ≡ (x, y) ∷ rest → n + 1 ≡ length rest → drop n rest ≡ (p, q) ∷ [] →
      Went rules (anded rules x y) before mid carry → Went rules (folded rules (add_bit rules) (starting rules carry) (take n rest)) mid after so_far →
      Went rules (added rules pairs) before after (rules.xor x y ∷ so_far.bits ++ sum_bit rules p q so_far.carry ∷ [])
  added_went before mid after pairs [] x y p q carry so_far n split long end first middle = absurd (omega arith)
  added_went before mid after pairs (next ∷ more) x y p q carry so_far n split long end first middle =
      let runs = went_runs rules (folded rules (add_bit rules) (starting rules carry) (take n (next ∷ more))) mid after so_far middle in
      rw split (went_followed rules (anded rules x y) (λ c. formed rules (λ (s : Carried W). rules.xor x y ∷ s.bits) (closed rules (add_bit rules) (add_last rules) (starting rules c) (next ∷ more))) before mid after carry _ first
      (went_formed rules (λ (s : Carried W). rules.xor x y ∷ s.bits) (closed rules (add_bit rules) (add_last rules) (starting rules carry) (next ∷ more)) mid after (with_carry rules so_far.carry (so_far.bits ++ sum_bit rules p q so_far.carry ∷ []))
      (closed_went (add_bit rules) (add_last rules) (starting rules carry) so_far (with_carry rules so_far.carry (so_far.bits ++ sum_bit rules p q so_far.carry ∷ [])) (next ∷ more) n (p, q) mid after (omega arith) end middle (last_added so_far p q after runs))))

  pub added_falls_first : (before after : Told rules.State) (f : DriverFault) (pairs rest : List (W × W)) (x y : W) → pairs ≡ (x, y) ∷ rest → 1 ≤ length rest →
      FellIn rules (anded rules x y) before after f → FellIn rules (added rules pairs) before after f
  added_falls_first before after f pairs [] x y split some fell = absurd (omega arith)
  added_falls_first before after f pairs (next ∷ more) x y split some fell =
      rw split (fell_first rules (anded rules x y) (λ c. formed rules (λ (s : Carried W). rules.xor x y ∷ s.bits) (closed rules (add_bit rules) (add_last rules) (starting rules c) (next ∷ more))) before after f fell)

  pub added_falls : (before mid after : Told rules.State) (f : DriverFault) (pairs rest : List (W × W)) (x y carry : W) (n : ℕ) → pairs ≡ (x, y) ∷ rest → n + 1 ≡ length rest →
      Went rules (anded rules x y) before mid carry → FellIn rules (folded rules (add_bit rules) (starting rules carry) (take n rest)) mid after f → FellIn rules (added rules pairs) before after f
  added_falls before mid after f pairs [] x y carry n split long first fell = absurd (omega arith)
  added_falls before mid after f pairs (next ∷ more) x y carry n split long first fell =
      let middle = closed_falls (add_bit rules) (add_last rules) (starting rules carry) (next ∷ more) n mid after f (omega arith) fell in
      rw split (fell_next rules (anded rules x y) (λ c. formed rules (λ (s : Carried W). rules.xor x y ∷ s.bits) (closed rules (add_bit rules) (add_last rules) (starting rules c) (next ∷ more))) before mid after carry f first
      (record { stopped = middle.stopped; failed = middle.failed; counted = middle.counted; told = middle.told }))

  pub subtracted_went : (before mid after : Told rules.State) (pairs rest : List (W × W)) (x y p q carry : W) (so_far : Carried W) (n : ℕ) → pairs ≡ (x, y) ∷ rest → n + 1 ≡ length rest → drop n rest ≡ (p, q) ∷ [] →
      Went rules (first_carry rules (x, y)) before mid carry → Went rules (folded rules (subtract_bit rules) (starting rules carry) (take n rest)) mid after so_far →
      Went rules (subtracted rules pairs) before after (rules.xor x y ∷ so_far.bits ++ sum_bit rules p (rules.not after.state q) so_far.carry ∷ [])
  subtracted_went before mid after pairs [] x y p q carry so_far n split long end first middle = absurd (omega arith)
  subtracted_went before mid after pairs (next ∷ more) x y p q carry so_far n split long end first middle =
      let runs = went_runs rules (folded rules (subtract_bit rules) (starting rules carry) (take n (next ∷ more))) mid after so_far middle in
      rw split (went_followed rules (first_carry rules (x, y)) (λ c. formed rules (λ (s : Carried W). rules.xor x y ∷ s.bits) (closed rules (subtract_bit rules) (subtract_last rules) (starting rules c) (next ∷ more))) before mid after carry _ first
      (went_formed rules (λ (s : Carried W). rules.xor x y ∷ s.bits) (closed rules (subtract_bit rules) (subtract_last rules) (starting rules carry) (next ∷ more)) mid after (with_carry rules so_far.carry (so_far.bits ++ sum_bit rules p (rules.not after.state q) so_far.carry ∷ []))
      (closed_went (subtract_bit rules) (subtract_last rules) (starting rules carry) so_far (with_carry rules so_far.carry (so_far.bits ++ sum_bit rules p (rules.not after.state q) so_far.carry ∷ [])) (next ∷ more) n (p, q) mid after (omega arith) end middle (last_subtracted so_far p q after runs))))

  pub subtracted_falls_first : (before after : Told rules.State) (f : DriverFault) (pairs rest : List (W × W)) (x y : W) → pairs ≡ (x, y) ∷ rest → 1 ≤ length rest →
      FellIn rules (first_carry rules (x, y)) before after f → FellIn rules (subtracted rules pairs) before after f
  subtracted_falls_first before after f pairs [] x y split some fell = absurd (omega arith)
  subtracted_falls_first before after f pairs (next ∷ more) x y split some fell =
      rw split (fell_first rules (first_carry rules (x, y)) (λ c. formed rules (λ (s : Carried W). rules.xor x y ∷ s.bits) (closed rules (subtract_bit rules) (subtract_last rules) (starting rules c) (next ∷ more))) before after f fell)

  pub subtracted_falls : (before mid after : Told rules.State) (f : DriverFault) (pairs rest : List (W × W)) (x y carry : W) (n : ℕ) → pairs ≡ (x, y) ∷ rest → n + 1 ≡ length rest →
      Went rules (first_carry rules (x, y)) before mid carry → FellIn rules (folded rules (subtract_bit rules) (starting rules carry) (take n rest)) mid after f → FellIn rules (subtracted rules pairs) before after f
  subtracted_falls before mid after f pairs [] x y carry n split long first fell = absurd (omega arith)
  subtracted_falls before mid after f pairs (next ∷ more) x y carry n split long first fell =
      let middle = closed_falls (subtract_bit rules) (subtract_last rules) (starting rules carry) (next ∷ more) n mid after f (omega arith) fell in
      rw split (fell_next rules (first_carry rules (x, y)) (λ c. formed rules (λ (s : Carried W). rules.xor x y ∷ s.bits) (closed rules (subtract_bit rules) (subtract_last rules) (starting rules c) (next ∷ more))) before mid after carry f first
      (record { stopped = middle.stopped; failed = middle.failed; counted = middle.counted; told = middle.told }))

  -- a difference with the carry of its last bit
  pub compared_went : (before mid after : Told rules.State) (pairs rest : List (W × W)) (x y carry : W) (so_far : Carried W) → pairs ≡ (x, y) ∷ rest →
      Went rules (first_carry rules (x, y)) before mid carry → Went rules (folded rules (subtract_bit rules) (starting rules carry) rest) mid after so_far →
      Went rules (compared rules pairs) before after (with_carry rules so_far.carry (rules.xor x y ∷ so_far.bits))
  compared_went before mid after pairs rest x y carry so_far split first middle =
      rw split (went_followed rules (first_carry rules (x, y)) (λ c. formed rules (below rules (rules.xor x y)) (folded rules (subtract_bit rules) (starting rules c) rest)) before mid after carry _ first
      (went_formed rules (below rules (rules.xor x y)) (folded rules (subtract_bit rules) (starting rules carry) rest) mid after so_far middle))

  pub compared_falls_first : (before after : Told rules.State) (f : DriverFault) (pairs rest : List (W × W)) (x y : W) → pairs ≡ (x, y) ∷ rest →
      FellIn rules (first_carry rules (x, y)) before after f → FellIn rules (compared rules pairs) before after f
  compared_falls_first before after f pairs rest x y split fell =
      rw split (fell_first rules (first_carry rules (x, y)) (λ c. formed rules (below rules (rules.xor x y)) (folded rules (subtract_bit rules) (starting rules c) rest)) before after f fell)

  pub compared_falls : (before mid after : Told rules.State) (f : DriverFault) (pairs rest : List (W × W)) (x y carry : W) → pairs ≡ (x, y) ∷ rest →
      Went rules (first_carry rules (x, y)) before mid carry → FellIn rules (folded rules (subtract_bit rules) (starting rules carry) rest) mid after f → FellIn rules (compared rules pairs) before after f
  compared_falls before mid after f pairs rest x y carry split first fell =
      rw split (fell_next rules (first_carry rules (x, y)) (λ c. formed rules (below rules (rules.xor x y)) (folded rules (subtract_bit rules) (starting rules c) rest)) before mid after carry f first
      (record { stopped = fell.stopped; failed = fell.failed; counted = fell.counted; told = fell.told }))

  -- the last step of a number to which a bit is added
  pub last_counted : (so_far : Carried W) (x : W) (told : Told rules.State) → told.standing ≡ standing.Running →
      Went rules (count_last rules so_far x) told told (with_carry rules so_far.carry (so_far.bits ++ rules.xor x so_far.carry ∷ []))
  last_counted so_far x told runs = went_given rules (with_carry rules so_far.carry (so_far.bits ++ rules.xor x so_far.carry ∷ [])) told runs
