-- Ordered sets of numbers.
use Rattle.std.proofs.Common.{◌≡◌, ◌≤◌, ℕ, [], Bool, true, false, cond, nat_eq, refl, ◌∙◌, ap, arith}
use Rattle.std.specs.Ordering.{nat_cmp, is_eq}
use Rattle.std.specs.BTreeSet.{BTreeSet, Updates, IsLowerBound}
use Rattle.std.proofs.lemmas.Bool.Decides.{nat_tests}
use Rattle.std.proofs.lemmas.Map.Keys.{le_from_not_gt}
use Rattle.mage_sched.specs.Views.{is_in}

same_key : (a b : ℕ) → is_eq (nat_cmp a b) ≡ nat_eq a b
same_key a b = grind (arith, nat_tests)

-- one number more or less
pub in_after : (old new : BTreeSet ℕ) (k : ℕ) (b : Bool) → Updates nat_cmp old new k b
    → (q : ℕ) → is_in new q ≡ cond (nat_eq k q) b (is_in old q)
in_after old new k b updates q = updates.0 q ∙ ap (λ (t : Bool). cond t b (is_in old q)) (same_key k q)

-- the least number is at most each other
pub at_least : (numbers : BTreeSet ℕ) (least : ℕ) → IsLowerBound nat_cmp numbers least
    → (k : ℕ) → is_in numbers k ≡ true → least ≤ k
at_least numbers least bound k h = le_from_not_gt least k (bound k h)

pub in_empty : (numbers : BTreeSet ℕ) → numbers.keys ≡ [] → (k : ℕ) → is_in numbers k ≡ false
in_empty numbers none k = rw none refl
