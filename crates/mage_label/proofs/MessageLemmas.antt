-- A message that is written piece by piece.
use Rattle.std.proofs.Common.{◌≡◌, ℕ, List, ◌∷◌, ◌++◌, length, refl, subst}
use Rattle.std.specs.Prelude.{replicate}
use Rattle.std.specs.List.{range_with_len}
use Rattle.std.specs.Simd.Lanes.{pick_l}
use Rattle.std.proofs.lemmas.Simd.{pick_l_whole}
use borrow.Rule.Slice.PartMut.{put_mid}

-- 16 bytes and 10, behind a first byte
abbrev IsWritten : ℕ → List ℕ → List ℕ → Type 0
IsWritten tag front back = put_mid 17 10 (put_mid 1 16 (replicate 27 tag) front) back ≡ tag ∷ front ++ back

pub pieces_written : (tag : ℕ) (front back : List ℕ) → length front ≡ 16 → length back ≡ 10
    → IsWritten tag front back
pieces_written tag front back front_len back_len =
    let explicit : List ℕ = pick_l 0 front (range_with_len 0 16) in
    subst (λ bytes. IsWritten tag bytes back) (pick_l_whole 0 front 16 front_len)
    (subst (λ bytes. IsWritten tag explicit bytes) (pick_l_whole 0 back 10 back_len) refl)
