-- Facts of each of four lanes.
use Rattle.std.proofs.Common.{◌≡◌, ℕ, zero, suc, ◌<◌, ◌-◌, ◌*◌, ◌/◌, ◌%◌, ◌^◌, List, [], ◌∷◌, length, slice_index, slice_set, bit_or, ap, arith, refl, ◌∙◌}
use Rattle.std.specs.Prelude.{slice_index_or}
use Rattle.std.specs.Int.{rotate_right, w32}
use Rattle.std.specs.Simd.Lanes.{zip2}
use Rattle.std.proofs.Math.ListN.{get_or-map}
use Rattle.std.proofs.lemmas.List.{map-set}
use Rattle.sha2.specs.Sha256.{IsWindow, first_words, schedule}
use Rattle.sha2.proofs.Schedule256.{IsWindow_first, length-first_words, slice_index-first_words}
use Rattle.mage_gate_hash.specs.Lanes.{lane}

-- what holds of each of the four lanes
pub below_four : (P : ℕ → Type 0) → P 0 → P 1 → P 2 → P 3 → (j : ℕ) → j < 4 → P j
below_four P p0 p1 p2 p3 zero h = p0
below_four P p0 p1 p2 p3 (suc zero) h = p1
below_four P p0 p1 p2 p3 (suc (suc zero)) h = p2
below_four P p0 p1 p2 p3 (suc (suc (suc zero))) h = p3
below_four P p0 p1 p2 p3 (suc (suc (suc (suc n)))) h = absurd (omega arith)

-- what holds of each vector of four lanes
pub four_lanes : (P : List ℕ → Type 0) → ((a b c d : ℕ) → P (a ∷ b ∷ c ∷ d ∷ [])) → (xs : List ℕ)
    → length xs ≡ 4 → P xs
four_lanes P p (a ∷ b ∷ c ∷ d ∷ []) h = p a b c d
four_lanes P p [] h = absurd (omega arith)
four_lanes P p (a ∷ []) h = absurd (omega arith)
four_lanes P p (a ∷ b ∷ []) h = absurd (omega arith)
four_lanes P p (a ∷ b ∷ c ∷ []) h = absurd (omega arith)
four_lanes P p (a ∷ b ∷ c ∷ d ∷ e ∷ xs) h = absurd (omega arith)

-- a shift of each lane
abbrev Shifts : ℕ → List ℕ → Type 0
Shifts by a = (j : ℕ) → j < 4
    → slice_index (zip2 (λ x n. x / 2 ^ n) a (by ∷ by ∷ by ∷ by ∷ [])) j ≡ slice_index a j / 2 ^ by

pub shifts : (by : ℕ) (a : List ℕ) → length a ≡ 4 → Shifts by a
shifts by = four_lanes (Shifts by) (λ a0 a1 a2 a3. below_four _ refl refl refl refl)

-- two shifts of each lane and an or are a rotation
abbrev Rotates : ℕ → List ℕ → Type 0
Rotates by a = (j : ℕ) → j < 4
    → slice_index (zip2 bit_or
    (zip2 (λ x n. x / 2 ^ n) a (by ∷ by ∷ by ∷ by ∷ []))
    (zip2 (λ x n. x * 2 ^ n % 2 ^ 32) a ((32 - by) ∷ (32 - by) ∷ (32 - by) ∷ (32 - by) ∷ []))) j
    ≡ rotate_right w32 (slice_index a j) by

pub shifts_rotate : (by : ℕ) → 0 < by → by < 32 → (a : List ℕ) → length a ≡ 4 → Rotates by a
shifts_rotate by low high =
    let right : by % 32 ≡ by = omega arith in
    let left : (32 - by) % 32 ≡ 32 - by = omega arith in
    four_lanes (Rotates by) (λ a0 a1 a2 a3.
    below_four _ (rw (right, left) refl) (rw (right, left) refl) (rw (right, left) refl) (rw (right, left) refl))

-- word k of the state in lane j
pub slice_index-lane : (words : List (List ℕ)) (j k : ℕ)
    → slice_index (lane j words) k ≡ slice_index (slice_index_or words k []) j
slice_index-lane words j k = get_or-map (λ (word : List ℕ). slice_index word j) words k []

pub lane-set : (words : List (List ℕ)) (j k : ℕ) (word : List ℕ)
    → lane j (slice_set words k word) ≡ slice_set (lane j words) k (slice_index word j)
lane-set words j k word = map-set (λ (word : List ℕ). slice_index word j) words k word

-- a lane that holds a block's words is the window before word 16
pub IsWindow-first_words : (b w : List ℕ) → w ≡ first_words b 16 → IsWindow w (schedule b 48) 16
IsWindow-first_words b w same =
    IsWindow_first b w (ap length same ∙ length-first_words b 16)
    (λ k low. ap (λ (words : List ℕ). slice_index words k) same ∙ slice_index-first_words b 16 k low)
