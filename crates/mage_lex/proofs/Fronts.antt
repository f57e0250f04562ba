-- What the front of a list is.
use Rattle.std.proofs.Common.{◌≡◌, ℕ, ◌<◌, ◌≤◌, List, length, take, get_or, Bool, true, ap, ◌∙◌, arith}
use Rattle.std.specs.List.{take_while, prefix_len}
use Rattle.std.proofs.lemmas.List.{length-take-le, get_or-take}
use Rattle.std.proofs.lemmas.List.Sums.{prefix_len-le-length, prefix_len_passes}

-- what passes at the front has the length that the count says
pub taken_len : (p : ℕ → Bool) (xs : List ℕ) → length (take_while p xs) ≡ prefix_len p xs
taken_len p xs = length-take-le (prefix_len p xs) xs (prefix_len-le-length p xs)

-- and is taken by its length
pub taken_front : (p : ℕ → Bool) (xs : List ℕ) → take (length (take_while p xs)) xs ≡ take_while p xs
taken_front p xs = ap (λ n. take n xs) (taken_len p xs)

-- each byte of it passes
pub taken_passes : (p : ℕ → Bool) (xs : List ℕ) (n : ℕ) → n ≡ length (take_while p xs) → (k : ℕ) → k < length (take n xs) → p (get_or (take n xs) k 0) ≡ true
taken_passes p xs n e k h =
    let same : n ≡ prefix_len p xs = e ∙ taken_len p xs in
    let within : n ≤ length xs = omega (arith, prefix_len-le-length p xs) in
    let below : k < n = omega (arith, length-take-le n xs within) in
    rw (get_or-take n xs k 0 below) (prefix_len_passes p xs k 0 (omega arith))
