-- The block of a gate hash, and the digest after it.
use Rattle.std.proofs.Common.{◌≡◌, ℕ, List, [], ◌∷◌, length, take, slice_index, ap, refl, subst, sym, ◌∙◌}
use Rattle.std.specs.Prelude.{slice_index_or}
use Rattle.std.specs.Int.{from_be_bytes, to_be_bytes, w16, w32, w64}
use Rattle.std.proofs.lemmas.Simd.{pick_l_whole}
use Rattle.sha2.specs.Sha256.{compress, digest_bytes, first_words, hash_after, initial_hash_256, padded_message, sha256}
use Rattle.mage_label.specs.declared.labels.Label.{Label}
use Rattle.mage_label.specs.Labels.{digest_label, hash_message, hash_of}
use Rattle.mage_gate_hash.specs.Lanes.{lane}

-- word k in lane j
abbrev at : List (List ℕ) → ℕ → ℕ → ℕ
at words k j = slice_index (slice_index_or words k []) j

abbrev word : ℕ → ℕ → ℕ → ℕ → ℕ
word a b c d = from_be_bytes w32 (a ∷ b ∷ c ∷ d ∷ [])

-- the words of the block, from the bytes of its label, worker and tweak
abbrev words_from : List ℕ → List ℕ → List ℕ → List ℕ
words_from bytes ws ts =
    word 2 (slice_index bytes 0) (slice_index bytes 1) (slice_index bytes 2)
    ∷ word (slice_index bytes 3) (slice_index bytes 4) (slice_index bytes 5) (slice_index bytes 6)
    ∷ word (slice_index bytes 7) (slice_index bytes 8) (slice_index bytes 9) (slice_index bytes 10)
    ∷ word (slice_index bytes 11) (slice_index bytes 12) (slice_index bytes 13) (slice_index bytes 14)
    ∷ word (slice_index bytes 15) (slice_index ws 0) (slice_index ws 1) (slice_index ts 0)
    ∷ word (slice_index ts 1) (slice_index ts 2) (slice_index ts 3) (slice_index ts 4)
    ∷ word (slice_index ts 5) (slice_index ts 6) (slice_index ts 7) 0x80
    ∷ 0 ∷ 0 ∷ 0 ∷ 0 ∷ 0 ∷ 0 ∷ 0 ∷ 0 ∷ 216 ∷ []

pub first_words-block : (bytes ws ts : List ℕ) (worker tweak : ℕ) → length bytes ≡ 16
    → ws ≡ to_be_bytes w16 worker → ts ≡ to_be_bytes w64 tweak
    → words_from bytes ws ts ≡ first_words (padded_message (hash_message bytes worker tweak)) 16
unfolding first_words
first_words-block bytes ws ts worker tweak whole worker_bytes tweak_bytes =
    let target : List ℕ → List ℕ = λ xs. first_words (padded_message (hash_message xs worker tweak)) 16 in
    rw (worker_bytes, tweak_bytes)
    (subst (λ xs. words_from bytes (to_be_bytes w16 worker) (to_be_bytes w64 tweak) ≡ target xs)
    (pick_l_whole 0 bytes 16 whole) refl)

-- the message has one block, and its digest begins with the first four words after it
pub hash_of-block : (label : Label) (worker tweak : ℕ) → length label.bytes ≡ 16
    → hash_of label worker tweak ≡ record {
      bytes = digest_bytes (take 4 (compress initial_hash_256 (padded_message (hash_message label.bytes worker tweak)))) 4;
    }
unfolding hash_of digest_label sha256 hash_after compress digest_bytes
hash_of-block label worker tweak whole =
    let made : List ℕ → Label = λ bytes. record { bytes = bytes } in
    ap made
    (subst (λ xs. take 16 (sha256 (hash_message xs worker tweak))
    ≡ digest_bytes (take 4 (compress initial_hash_256 (padded_message (hash_message xs worker tweak)))) 4)
    (pick_l_whole 0 label.bytes 16 whole) refl)

-- the words, as each is computed
pub words_from-parts : (bytes ws ts : List ℕ) (r0 r1 r2 r3 r4 r5 r6 : ℕ)
    → r0 ≡ word 2 (slice_index bytes 0) (slice_index bytes 1) (slice_index bytes 2)
    → r1 ≡ word (slice_index bytes 3) (slice_index bytes 4) (slice_index bytes 5) (slice_index bytes 6)
    → r2 ≡ word (slice_index bytes 7) (slice_index bytes 8) (slice_index bytes 9) (slice_index bytes 10)
    → r3 ≡ word (slice_index bytes 11) (slice_index bytes 12) (slice_index bytes 13) (slice_index bytes 14)
    → r4 ≡ word (slice_index bytes 15) (slice_index ws 0) (slice_index ws 1) (slice_index ts 0)
    → r5 ≡ word (slice_index ts 1) (slice_index ts 2) (slice_index ts 3) (slice_index ts 4)
    → r6 ≡ word (slice_index ts 5) (slice_index ts 6) (slice_index ts 7) 0x80
    → r0 ∷ r1 ∷ r2 ∷ r3 ∷ r4 ∷ r5 ∷ r6 ∷ 0 ∷ 0 ∷ 0 ∷ 0 ∷ 0 ∷ 0 ∷ 0 ∷ 0 ∷ 216 ∷ [] ≡ words_from bytes ws ts
words_from-parts bytes ws ts r0 r1 r2 r3 r4 r5 r6 e0 e1 e2 e3 e4 e5 e6 =
    rw (e0, e1, e2, e3, e4, e5, e6) refl

-- the words in lane j of four vectors
pub lane-parts : (words : List (List ℕ)) (j : ℕ) → length words ≡ 4
    → at words 0 j ∷ at words 1 j ∷ at words 2 j ∷ at words 3 j ∷ [] ≡ lane j words
lane-parts words j four =
    subst (λ xs. at words 0 j ∷ at words 1 j ∷ at words 2 j ∷ at words 3 j ∷ [] ≡ lane j xs)
    (pick_l_whole [] words 4 four) refl

-- a label that is made of the first four words after its block is its hash
pub hash_of-lane : (label : Label) (worker tweak : ℕ) (words : List ℕ) (result : Label) → length label.bytes ≡ 16
    → words ≡ take 4 (compress initial_hash_256 (padded_message (hash_message label.bytes worker tweak)))
    → result.bytes ≡ digest_bytes words 4 → result ≡ hash_of label worker tweak
hash_of-lane label worker tweak words result whole same bytes =
    let made : List ℕ → Label = λ bytes. record { bytes = bytes } in
    ap made (bytes ∙ ap (λ (xs : List ℕ). digest_bytes xs 4) same) ∙ sym (hash_of-block label worker tweak whole)
