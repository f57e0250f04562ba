-- Half gates keep active labels.
use Rattle.std.proofs.Common.{◌≡◌, ℕ, Bool, true, false, not, ◌&&◌, List, refl, sym, ap, ap₂, ◌∙◌}
use mathlib.Core.Bool.{xor as xor_bits}
use Rattle.mage_label.specs.declared.labels.Label.{Label}
use Rattle.mage_label.specs.Labels.{IsWhole, blank, hash_of, input_label_of, lsb, offset_of, xor, xor_times}
use Rattle.mage_label.proofs.LabelLemmas.{IsWhole-blank, IsWhole-digest_label, IsWhole-hash_of, IsWhole-offset_of, IsWhole-xor, lsb-offset_of, lsb-xor, xor_associative, xor_cancels, xor_commutative, xor_inverse}
use Rattle.mage_halfgates.specs.HalfGates.{IsActive, IsOffset, Tables, and_label, and_zero, constant_zero, decoded_bit, evaluator_half, evaluator_tweak, generator_half, generator_tweak, tables_of}

-- ---- labels of 16 bytes

cancel_left : (a b : Label) → IsWhole a → IsWhole b → xor a (xor a b) ≡ b
cancel_left a b whole_a whole_b =
    xor_commutative a (xor a b) ∙ ap (λ label. xor label a) (xor_commutative a b) ∙ xor_cancels b a whole_b whole_a

cancel_middle : (a b : Label) → IsWhole a → IsWhole b → xor a (xor b a) ≡ b
cancel_middle a b whole_a whole_b = ap (xor a) (xor_commutative b a) ∙ cancel_left a b whole_a whole_b

swap_last : (a b c : Label) → xor (xor a b) c ≡ xor (xor a c) b
swap_last a b c = xor_associative a b c ∙ ap (xor a) (xor_commutative b c) ∙ sym (xor_associative a c b)

cancel_both : (a b r : Label) → IsWhole a → IsWhole b → IsWhole r → xor (xor a r) (xor b r) ≡ xor a b
cancel_both a b r whole_a whole_b whole_r =
    sym (xor_associative (xor a r) b r) ∙ ap (λ label. xor label r) (swap_last a r b)
    ∙ xor_cancels (xor a b) r (IsWhole-xor a b whole_a whole_b) whole_r

IsWhole-xor_times : (a r : Label) (u : Bool) → IsWhole a → IsWhole r → IsWhole (xor_times a u r)
IsWhole-xor_times a r true whole_a whole_r = IsWhole-xor a r whole_a whole_r
IsWhole-xor_times a r false whole_a whole_r = whole_a

xor-xor_times : (a b r : Label) (u v : Bool) → IsWhole a → IsWhole b → IsWhole r
    → xor (xor_times a u r) (xor_times b v r) ≡ xor_times (xor a b) (xor_bits u v) r
unfolding xor_bits
xor-xor_times a b r true true whole_a whole_b whole_r = cancel_both a b r whole_a whole_b whole_r
xor-xor_times a b r true false whole_a whole_b whole_r = swap_last a r b
xor-xor_times a b r false true whole_a whole_b whole_r = sym (xor_associative a b r)
xor-xor_times a b r false false whole_a whole_b whole_r = refl

-- ---- bits

xor_bits-false : (p : Bool) → xor_bits p false ≡ p
unfolding xor_bits
xor_bits-false true = refl
xor_bits-false false = refl

xor_bits-twice : (p q : Bool) → xor_bits p (xor_bits p q) ≡ q
unfolding xor_bits
xor_bits-twice true true = refl
xor_bits-twice true false = refl
xor_bits-twice false true = refl
xor_bits-twice false false = refl

-- the two halves of an AND: u and p, and u and p xor v
halves : (u v p : Bool) → xor_bits (u && p) (u && xor_bits p v) ≡ u && v
unfolding xor_bits
halves false v p = refl
halves true v p = xor_bits-twice p v

lsb-xor_times : (a r : Label) (u : Bool) → IsWhole a → IsOffset r → lsb (xor_times a u r) ≡ xor_bits (lsb a) u
lsb-xor_times a r true whole_a offset =
    lsb-xor a r whole_a offset.whole ∙ ap (xor_bits (lsb a)) offset.odd
lsb-xor_times a r false whole_a offset = sym (xor_bits-false (lsb a))

-- ---- the generator's half: the garbler knows p, the lowest bit of b

-- where the first input is 1
generator_one : (h0 h1 r : Label) (p q : Bool) → IsWhole h0 → IsWhole h1 → IsWhole r
    → xor_times h1 (xor_bits q true) (xor_times (xor h0 h1) p r)
    ≡ xor_times (xor_times h0 q (xor_times (xor h0 h1) p r)) p r
unfolding xor_bits
generator_one h0 h1 r false true w0 w1 wr = sym (cancel_left h0 h1 w0 w1)
generator_one h0 h1 r true true w0 w1 wr =
    sym (xor_associative h0 (xor (xor h0 h1) r) r
    ∙ ap (xor h0) (xor_cancels (xor h0 h1) r (IsWhole-xor h0 h1 w0 w1) wr) ∙ cancel_left h0 h1 w0 w1)
generator_one h0 h1 r false false w0 w1 wr = cancel_middle h1 h0 w1 w0
generator_one h0 h1 r true false w0 w1 wr =
    sym (xor_associative h1 (xor h0 h1) r) ∙ ap (λ label. xor label r) (cancel_middle h1 h0 w1 w0)

generator_half-active : (offset a b : Label) (u : Bool) (worker gate : ℕ) → IsOffset offset → IsWhole a
    → generator_half worker gate (tables_of offset worker gate a b) (xor_times a u offset)
    ≡ xor_times (generator_half worker gate (tables_of offset worker gate a b) a) (u && lsb b) offset
unfolding generator_half tables_of
generator_half-active offset a b false worker gate is_offset whole = refl
generator_half-active offset a b true worker gate is_offset whole =
    let j : ℕ = generator_tweak gate in
    let h0 : Label = hash_of a worker j in
    let h1 : Label = hash_of (xor a offset) worker j in
    let table : Label = xor_times (xor h0 h1) (lsb b) offset in
    ap (λ colour. xor_times h1 colour table) (lsb-xor_times a offset true whole is_offset)
    ∙ generator_one h0 h1 offset (lsb b) (lsb a) (IsWhole-hash_of _ _ _) (IsWhole-hash_of _ _ _) is_offset.whole

-- ---- the evaluator's half: the evaluator knows the lowest bit of the active label of b

-- the table and the active label of a, without a
without_zero : (g a r : Label) (u : Bool) → IsWhole g → IsWhole a → xor (xor g a) (xor_times a u r) ≡ xor_times g u r
without_zero g a r true wg wa =
    sym (xor_associative (xor g a) a r) ∙ ap (λ label. xor label r) (xor_cancels g a wg wa)
without_zero g a r false wg wa = xor_cancels g a wg wa

-- where the second input is 0, and where it is 1
evaluator_zero : (g0 g r : Label) (u p : Bool)
    → xor_times g0 p (xor_times g u r) ≡ xor_times (xor_times g0 p g) (u && p) r
evaluator_zero g0 g r true true = sym (xor_associative g0 g r)
evaluator_zero g0 g r true false = refl
evaluator_zero g0 g r false true = refl
evaluator_zero g0 g r false false = refl

evaluator_one : (g0 g1 r : Label) (u p : Bool) → IsWhole g0 → IsWhole g1
    → xor_times g1 (xor_bits p true) (xor_times (xor g0 g1) u r)
    ≡ xor_times (xor_times g0 p (xor g0 g1)) (u && xor_bits p true) r
unfolding xor_bits
evaluator_one g0 g1 r true true w0 w1 = sym (cancel_left g0 g1 w0 w1)
evaluator_one g0 g1 r false true w0 w1 = sym (cancel_left g0 g1 w0 w1)
evaluator_one g0 g1 r true false w0 w1 =
    sym (xor_associative g1 (xor g0 g1) r) ∙ ap (λ label. xor label r) (cancel_middle g1 g0 w1 w0)
evaluator_one g0 g1 r false false w0 w1 = cancel_middle g1 g0 w1 w0

evaluator_half-active : (offset a b : Label) (u v : Bool) (worker gate : ℕ) → IsOffset offset → IsWhole a → IsWhole b
    → evaluator_half worker gate (tables_of offset worker gate a b) (xor_times a u offset) (xor_times b v offset)
    ≡ xor_times (evaluator_half worker gate (tables_of offset worker gate a b) a b) (u && xor_bits (lsb b) v) offset
unfolding evaluator_half tables_of
evaluator_half-active offset a b u false worker gate is_offset whole_a whole_b =
    let k : ℕ = evaluator_tweak gate in
    let g0 : Label = hash_of b worker k in
    let g1 : Label = hash_of (xor b offset) worker k in
    let g : Label = xor g0 g1 in
    let wg : IsWhole g = IsWhole-xor g0 g1 (IsWhole-hash_of _ _ _) (IsWhole-hash_of _ _ _) in
    ap (λ label. xor_times g0 (lsb b) label) (without_zero g a offset u wg whole_a)
    ∙ evaluator_zero g0 g offset u (lsb b)
    ∙ ap₂ (λ label bit. xor_times (xor_times g0 (lsb b) label) (u && bit) offset)
    (sym (without_zero g a offset false wg whole_a)) (sym (xor_bits-false (lsb b)))
evaluator_half-active offset a b u true worker gate is_offset whole_a whole_b =
    let k : ℕ = evaluator_tweak gate in
    let g0 : Label = hash_of b worker k in
    let g1 : Label = hash_of (xor b offset) worker k in
    let g : Label = xor g0 g1 in
    let w0 : IsWhole g0 = IsWhole-hash_of b worker k in
    let w1 : IsWhole g1 = IsWhole-hash_of (xor b offset) worker k in
    let wg : IsWhole g = IsWhole-xor g0 g1 w0 w1 in
    ap₂ (λ colour label. xor_times g1 colour label) (lsb-xor_times b offset true whole_b is_offset)
    (without_zero g a offset u wg whole_a)
    ∙ evaluator_one g0 g1 offset u (lsb b) w0 w1
    ∙ ap (λ label. xor_times (xor_times g0 (lsb b) label) (u && xor_bits (lsb b) true) offset)
    (sym (without_zero g a offset false wg whole_a))

-- ---- lengths

IsWhole-generator_half : (offset a b : Label) (worker gate : ℕ) → IsWhole offset
    → IsWhole (generator_half worker gate (tables_of offset worker gate a b) a)
unfolding generator_half tables_of
IsWhole-generator_half offset a b worker gate whole =
    IsWhole-xor_times _ _ (lsb a) (IsWhole-hash_of _ _ _)
    (IsWhole-xor_times _ _ (lsb b) (IsWhole-xor _ _ (IsWhole-hash_of _ _ _) (IsWhole-hash_of _ _ _)) whole)

IsWhole-evaluator_half : (offset a b : Label) (worker gate : ℕ) → IsWhole a
    → IsWhole (evaluator_half worker gate (tables_of offset worker gate a b) a b)
unfolding evaluator_half tables_of
IsWhole-evaluator_half offset a b worker gate whole =
    let hashes = IsWhole-xor _ _ (IsWhole-hash_of b worker (evaluator_tweak gate))
    (IsWhole-hash_of (xor b offset) worker (evaluator_tweak gate)) in
    IsWhole-xor_times _ _ (lsb b) (IsWhole-hash_of _ _ _) (IsWhole-xor _ _ (IsWhole-xor _ _ hashes whole) whole)

-- ---- the laws

pub IsOffset-offset_of : (seed : List ℕ) → IsOffset (offset_of seed)
IsOffset-offset_of seed = record { whole = IsWhole-offset_of seed; odd = lsb-offset_of seed }

pub IsActive-input : (seed : List ℕ) (worker i : ℕ) (value : Bool)
    → IsActive (offset_of seed) (input_label_of seed worker i) value
    (xor_times (input_label_of seed worker i) value (offset_of seed))
IsActive-input seed worker i value = record { whole = IsWhole-digest_label _; label = refl }

pub IsActive-constant : (offset : Label) (value : Bool) → IsOffset offset
    → IsActive offset (constant_zero offset value) value blank
IsActive-constant offset true is_offset =
    record { whole = is_offset.whole; label = sym (xor_inverse offset is_offset.whole) }
IsActive-constant offset false is_offset = record { whole = IsWhole-blank; label = refl }

pub IsActive-xor : (offset a b x y : Label) (u v : Bool) → IsOffset offset
    → IsActive offset a u x → IsActive offset b v y → IsActive offset (xor a b) (xor_bits u v) (xor x y)
IsActive-xor offset a b x y u v is_offset at_a at_b =
    record {
      whole = IsWhole-xor a b at_a.whole at_b.whole;
      label = ap₂ xor at_a.label at_b.label
          ∙ xor-xor_times a b offset u v at_a.whole at_b.whole is_offset.whole;
    }

not_active : (offset a : Label) (u : Bool) → IsOffset offset → IsWhole a
    → xor_times a u offset ≡ xor_times (xor a offset) (not u) offset
not_active offset a true is_offset whole = refl
not_active offset a false is_offset whole = sym (xor_cancels a offset whole is_offset.whole)

pub IsActive-not : (offset a x : Label) (u : Bool) → IsOffset offset
    → IsActive offset a u x → IsActive offset (xor a offset) (not u) x
IsActive-not offset a x u is_offset at_a =
    record {
      whole = IsWhole-xor a offset at_a.whole is_offset.whole;
      label = at_a.label ∙ not_active offset a u is_offset at_a.whole;
    }

pub IsActive-and : (offset a b x y : Label) (u v : Bool) (worker gate : ℕ) → IsOffset offset
    → IsActive offset a u x → IsActive offset b v y
    → IsActive offset (and_zero offset worker gate a b) (u && v)
    (and_label worker gate (tables_of offset worker gate a b) x y)
IsActive-and offset a b x y u v worker gate is_offset at_a at_b =
    let tables : Tables = tables_of offset worker gate a b in
    let first : Label = generator_half worker gate tables a in
    let second : Label = evaluator_half worker gate tables a b in
    let p : Bool = lsb b in
    let whole_first : IsWhole first = IsWhole-generator_half offset a b worker gate is_offset.whole in
    let whole_second : IsWhole second = IsWhole-evaluator_half offset a b worker gate at_a.whole in
    record {
      whole = IsWhole-xor first second whole_first whole_second;
      label = ap₂ (λ x y. and_label worker gate tables x y) at_a.label at_b.label
          ∙ ap₂ xor (generator_half-active offset a b u worker gate is_offset at_a.whole)
          (evaluator_half-active offset a b u v worker gate is_offset at_a.whole at_b.whole)
          ∙ xor-xor_times first second offset (u && p) (u && xor_bits p v) whole_first whole_second is_offset.whole
          ∙ ap (λ bit. xor_times (xor first second) bit offset) (halves u v p);
    }

pub decoded_bit-active : (offset zero active : Label) (value : Bool) → IsOffset offset
    → IsActive offset zero value active → decoded_bit (lsb zero) active ≡ value
decoded_bit-active offset zero active value is_offset at =
    ap (λ label. xor_bits (lsb zero) (lsb label)) at.label
    ∙ ap (xor_bits (lsb zero)) (lsb-xor_times zero offset value at.whole is_offset) ∙ xor_bits-twice (lsb zero) value
