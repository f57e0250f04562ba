-- Labels under xor, their lowest bits, and their lengths.
use Rattle.std.proofs.Common.{◌≡◌, ℕ, zero, suc, ◌%◌, ◌<◌, ◌==◌, true, IsTrue, List, [], ◌∷◌, length, slice_index, bit_or, bit_xor, refl, sym, ap, ap₂, ◌∙◌, arith}
use Rattle.std.specs.Prelude.{replicate}
use mathlib.Core.Bool.{xor as xor_bits}
use Rattle.std.specs.Simd.Lanes.{zip2}
use Rattle.std.specs.Int.Bits.{xor_assoc, xor_self, xor_zero_r}
use Rattle.std.proofs.lemmas.Nat.{xor_comm, xor_mod, or_mod}
use Rattle.std.proofs.lemmas.Simd.{length-zip2, get_or-zip2}
use Rattle.std.proofs.lemmas.List.{length-set, length-take-le, get_or-set_same}
use Rattle.sha2.proofs.Facts256.{length-sha256}
use Rattle.mage_label.specs.declared.labels.Label.{Label}
use Rattle.mage_label.specs.Labels.{IsWhole, blank, digest_label, hash_of, lsb, offset_of, with_lsb, xor}

-- ---- lists of bytes

assoc : (a b c : List ℕ) → zip2 bit_xor (zip2 bit_xor a b) c ≡ zip2 bit_xor a (zip2 bit_xor b c)
assoc [] b c = refl
assoc (x ∷ a) [] c = refl
assoc (x ∷ a) (y ∷ b) [] = refl
assoc (x ∷ a) (y ∷ b) (z ∷ c) = ap₂ (λ (u : ℕ) (us : List ℕ). u ∷ us) (xor_assoc x y z) (assoc a b c)

comm : (a b : List ℕ) → zip2 bit_xor a b ≡ zip2 bit_xor b a
comm [] [] = refl
comm [] (y ∷ b) = refl
comm (x ∷ a) [] = refl
comm (x ∷ a) (y ∷ b) = ap₂ (λ (u : ℕ) (us : List ℕ). u ∷ us) (xor_comm x y) (comm a b)

neutral : (n : ℕ) (a : List ℕ) → length a ≡ n → zip2 bit_xor a (replicate n 0) ≡ a
neutral n [] h = refl
neutral zero (x ∷ a) h = absurd (omega arith)
neutral (suc n) (x ∷ a) h =
    ap₂ (λ (u : ℕ) (us : List ℕ). u ∷ us) (xor_zero_r x) (neutral n a (omega arith))

inverse : (n : ℕ) (a : List ℕ) → length a ≡ n → zip2 bit_xor a a ≡ replicate n 0
inverse zero [] h = refl
inverse (suc n) [] h = absurd (omega arith)
inverse zero (x ∷ a) h = absurd (omega arith)
inverse (suc n) (x ∷ a) h =
    ap₂ (λ (u : ℕ) (us : List ℕ). u ∷ us) (xor_self x) (inverse n a (omega arith))

-- ---- labels

label_of : List ℕ → Label
label_of bytes = record { bytes = bytes }

pub xor_associative : (a b c : Label) → xor (xor a b) c ≡ xor a (xor b c)
unfolding xor label_of
xor_associative a b c = ap label_of (assoc a.bytes b.bytes c.bytes)

pub xor_commutative : (a b : Label) → xor a b ≡ xor b a
unfolding xor label_of
xor_commutative a b = ap label_of (comm a.bytes b.bytes)

pub xor_blank : (a : Label) → IsWhole a → xor a blank ≡ a
unfolding xor blank label_of
xor_blank a whole = ap label_of (neutral 16 a.bytes whole)

pub xor_inverse : (a : Label) → IsWhole a → xor a a ≡ blank
unfolding xor blank label_of
xor_inverse a whole = ap label_of (inverse 16 a.bytes whole)

pub xor_cancels : (a b : Label) → IsWhole a → IsWhole b → xor (xor a b) b ≡ a
xor_cancels a b whole_a whole_b =
    xor_associative a b b ∙ ap (xor a) (xor_inverse b whole_b) ∙ xor_blank a whole_a

-- ---- lengths

pub IsWhole-xor : (a b : Label) → IsWhole a → IsWhole b → IsWhole (xor a b)
unfolding xor
IsWhole-xor a b whole_a whole_b = length-zip2 bit_xor a.bytes b.bytes (whole_a ∙ sym whole_b) ∙ whole_a

pub IsWhole-blank : IsWhole blank
unfolding blank
IsWhole-blank = refl

pub IsWhole-digest_label : (message : List ℕ) → IsWhole (digest_label message)
unfolding digest_label
IsWhole-digest_label message = length-take-le 16 _ (omega (arith, length-sha256 message))

pub IsWhole-with_lsb : (label : Label) → IsWhole label → IsWhole (with_lsb label)
unfolding with_lsb
IsWhole-with_lsb label whole = length-set label.bytes 15 _ ∙ whole

pub IsWhole-offset_of : (seed : List ℕ) → IsWhole (offset_of seed)
IsWhole-offset_of seed = IsWhole-with_lsb _ (IsWhole-digest_label _)

pub IsWhole-hash_of : (label : Label) (worker j : ℕ) → IsWhole (hash_of label worker j)
unfolding hash_of
IsWhole-hash_of label worker j = IsWhole-digest_label _

-- ---- lowest bits

parities : (p q : ℕ) → p < 2 → q < 2 → (bit_xor p q == 1) ≡ xor_bits (p == 1) (q == 1)
unfolding xor_bits
parities zero zero hp hq = refl
parities zero (suc zero) hp hq = refl
parities (suc zero) zero hp hq = refl
parities (suc zero) (suc zero) hp hq = refl
parities zero (suc (suc q)) hp hq = absurd (omega arith)
parities (suc zero) (suc (suc q)) hp hq = absurd (omega arith)
parities (suc (suc p)) q hp hq = absurd (omega arith)

pub lsb-xor : (a b : Label) → IsWhole a → IsWhole b → lsb (xor a b) ≡ xor_bits (lsb a) (lsb b)
unfolding lsb xor
lsb-xor a b whole_a whole_b =
    let x : ℕ = slice_index a.bytes 15 in
    let y : ℕ = slice_index b.bytes 15 in
    let last = get_or-zip2 bit_xor a.bytes b.bytes 15 0 0 0 (omega (arith, whole_a)) (omega (arith, whole_b)) in
    ap (λ (byte : ℕ). byte % 2 == 1) last ∙ ap (λ (bit : ℕ). bit == 1) (xor_mod x y 1)
    ∙ parities (x % 2) (y % 2) (omega arith) (omega arith)

odd : (p : ℕ) → p < 2 → (bit_or p 1 == 1) ≡ true
odd zero h = refl
odd (suc zero) h = refl
odd (suc (suc p)) h = absurd (omega arith)

pub lsb-with_lsb : (label : Label) → IsWhole label → lsb (with_lsb label) ≡ true
unfolding lsb with_lsb
lsb-with_lsb label whole =
    let x : ℕ = slice_index label.bytes 15 in
    let last = get_or-set_same label.bytes 15 (bit_or x 1) 0 (omega (arith, whole)) in
    ap (λ (byte : ℕ). byte % 2 == 1) last ∙ ap (λ (bit : ℕ). bit == 1) (or_mod x 1 1)
    ∙ odd (x % 2) (omega arith)

pub lsb-offset_of : (seed : List ℕ) → IsTrue (lsb (offset_of seed))
lsb-offset_of seed = lsb-with_lsb _ (IsWhole-digest_label _)
