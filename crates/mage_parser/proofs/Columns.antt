-- The column after one more byte.
use Rattle.std.proofs.Common.{◌≡◌, ℕ, ◌+◌, ◌-◌, ◌<◌, true, false, ◌==◌, List, [], length, take, get_or, refl, ap, arith}
use Rattle.std.proofs.lemmas.List.Sums.{suffix_len-take_no, suffix_len-take_yes}
use Rattle.std.specs.List.{suffix_len}
use Rattle.mage_lex.specs.Bytes.{is_in_line}
use Rattle.mage_lex.specs.Places.{column_after}

one_less : (n : ℕ) → (n + 1) - 1 ≡ n
one_less n = omega arith

pub column_start : column_after [] ≡ 1
unfolding column_after
column_start = refl

pub column_new : (text : List ℕ) (n : ℕ) → n < length text → (get_or text n 0 == 10) ≡ true → column_after (take (n + 1) text) ≡ 1
unfolding column_after
column_new text n h e =
    ap (λ k. 1 + k) (suffix_len-take_no is_in_line text (n + 1) 0 (omega arith) (omega arith) (rw (one_less n, e) refl))

pub column_on : (text : List ℕ) (n : ℕ) → n < length text → (get_or text n 0 == 10) ≡ false → column_after (take (n + 1) text) ≡ column_after (take n text) + 1
unfolding column_after
column_on text n h e =
    let step : suffix_len is_in_line (take (n + 1) text) ≡ 1 + suffix_len is_in_line (take ((n + 1) - 1) text) = suffix_len-take_yes is_in_line text (n + 1) 0 (omega arith) (omega arith) (rw (one_less n, e) refl) in
    let back : suffix_len is_in_line (take ((n + 1) - 1) text) ≡ suffix_len is_in_line (take n text) = rw (one_less n) refl in
    omega (arith, step, back)
