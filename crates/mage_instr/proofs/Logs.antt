-- The greatest power of two that a number reaches.
use Rattle.std.proofs.Common.{◌≡◌, ℕ, zero, suc, ◌^◌, ◌≤◌, ◌<◌, nat_lt, Bool, true, false, cond, inl, inr, refl, arith}
use Rattle.std.proofs.Math.Pow.{pow_mono}
use Rattle.std.proofs.lemmas.Bool.{cases_lt}
use Rattle.std.proofs.lemmas.Bool.Decides.{nat_tests}
use Rattle.mage_instr.specs.Ands.{log_up_to}

-- 2 to k is at most w, and 2 to k + 1 isn't
pub record IsLog (w k : ℕ) : Type 0 where
  pub reached : 2 ^ k ≤ w
  pub passed : w < 2 ^ suc k

-- one step of the search
log-step : (test : Bool) (k w : ℕ) → nat_lt w (2 ^ suc k) ≡ test → IsLog w (cond test (log_up_to k w) (suc k)) → IsLog w (log_up_to (suc k) w)
log-step true k w below found = rw below found
log-step false k w below found = rw below found

-- what is searched for among numbers up to k is found, where it is there
pub log_up_to-is : (k w : ℕ) → 1 ≤ w → w < 2 ^ suc k → IsLog w (log_up_to k w)
log_up_to-is zero w some small = record { reached = some; passed = small }
log_up_to-is (suc k) w some small = by_test (nat_lt w (2 ^ suc k)) refl (log_up_to-is k w some)
  where
    by_test : (test : Bool) → nat_lt w (2 ^ suc k) ≡ test → (w < 2 ^ suc k → IsLog w (log_up_to k w)) → IsLog w (log_up_to (suc k) w)
    by_test true below lower = log-step true k w below (lower (grind (arith, nat_tests)))
    by_test false above lower = log-step false k w above (record { reached = grind (arith, nat_tests); passed = small })

-- of two such numbers none is less
log-le : (w j k : ℕ) → IsLog w j → IsLog w k → k ≤ j
log-le w j k low high = elim (cases_lt j k) [ inl less ↦ absurd (higher less) | inr fine ↦ fine ]
  where
    higher : j < k → ⊥
    higher less = let more : 2 ^ suc j ≤ 2 ^ k = pow_mono {i = suc j} {j = k} less in omega (arith, low.passed, high.reached)

-- there is one such number
pub log-unique : (w j k : ℕ) → IsLog w j → IsLog w k → j ≡ k
log-unique w j k low high = omega (arith, log-le w j k low high, log-le w k j high low)
