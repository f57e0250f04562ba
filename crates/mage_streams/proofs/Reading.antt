-- What was said is read as it was.
use Rattle.std.proofs.Common.{◌≡◌, ℕ, zero, suc, ◌+◌, ◌*◌, ◌/◌, ◌%◌, ◌==◌, List, [], ◌∷◌, ◌++◌, Bool, true, false, cond, length, take, drop, map, replicate, refl, sym, ap, ap₂, subst, ◌∙◌, append_assoc, arith}
use Rattle.std.proofs.Math.Seq.{take-append_seam, drop-append_seam, drop-append-add}
use Rattle.std.proofs.lemmas.List.{length-append}
use Rattle.mage_bits.specs.Bits.{bits}
use Rattle.mage_label.specs.declared.labels.Label.{Label}
use Rattle.mage_label.specs.Labels.{IsWhole, input_label_of, lsb, offset_of, xor, xor_times}
use Rattle.mage_label.proofs.LabelLemmas.{IsWhole-digest_label, IsWhole-hash_of, IsWhole-offset_of, IsWhole-xor}
use Rattle.mage_halfgates.specs.HalfGates.{IsActive, Tables, tables_of, generator_tweak, evaluator_tweak, decoded_bit}
use Rattle.mage_halfgates.proofs.GateLemmas.{IsActive-input, IsOffset-offset_of, decoded_bit-active}
use Rattle.mage_relations.specs.Each.{Each}
use Rattle.mage_streams.specs.Numbers.{number_after}
use Rattle.mage_streams.specs.Garbling.{zero_labels, active_labels, bytes_of, table_bytes, colour_of}
use Rattle.mage_streams.specs.Evaluating.{next_label, next_labels, first_labels, tables_read, decoded_bits}

-- the next label of a stream
pub take_bytes : (n : ℕ) (xs ys : List ℕ) → length xs ≡ n → take n (xs ++ ys) ≡ xs
take_bytes n xs ys long = subst (λ (k : ℕ). take k (xs ++ ys) ≡ xs) long (take-append_seam xs ys)

pub drop_bytes : (n : ℕ) (xs ys : List ℕ) → length xs ≡ n → drop n (xs ++ ys) ≡ ys
drop_bytes n xs ys long = subst (λ (k : ℕ). drop k (xs ++ ys) ≡ ys) long (drop-append_seam xs ys)

pub next_label-said : (label : Label) (others : List ℕ) → IsWhole label → next_label (label.bytes ++ others) ≡ label
next_label-said label others whole =
    let bytes = ap (λ (xs : List ℕ). take 16 xs) (append_assoc label.bytes others (replicate 16 0)) ∙ take_bytes 16 label.bytes (others ++ replicate 16 0) whole in
    ap (λ (xs : List ℕ). record { bytes = xs }) bytes

-- labels of tables have 16 bytes
IsWhole-xor_times : (a r : Label) (u : Bool) → IsWhole a → IsWhole r → IsWhole (xor_times a u r)
IsWhole-xor_times a r true whole_a whole_r = IsWhole-xor a r whole_a whole_r
IsWhole-xor_times a r false whole_a whole_r = whole_a

pub IsWhole-generator : (offset : Label) (worker gate : ℕ) (a b : Label) → IsWhole offset → IsWhole ((tables_of offset worker gate a b).generator)
unfolding tables_of
IsWhole-generator offset worker gate a b whole =
    IsWhole-xor_times _ _ (lsb b) (IsWhole-xor _ _ (IsWhole-hash_of a worker (generator_tweak gate)) (IsWhole-hash_of (xor a offset) worker (generator_tweak gate))) whole

pub IsWhole-evaluator : (offset : Label) (worker gate : ℕ) (a b : Label) → IsWhole a → IsWhole ((tables_of offset worker gate a b).evaluator)
unfolding tables_of
IsWhole-evaluator offset worker gate a b whole =
    IsWhole-xor _ _ (IsWhole-xor _ _ (IsWhole-hash_of b worker (evaluator_tweak gate)) (IsWhole-hash_of (xor b offset) worker (evaluator_tweak gate))) whole

-- the tables of an AND
pub tables_read-said : (tables : Tables) (others : List ℕ) → IsWhole tables.generator → IsWhole tables.evaluator → tables_read (table_bytes tables ++ others) ≡ tables
tables_read-said tables others whole whole' =
    let split : table_bytes tables ++ others ≡ tables.generator.bytes ++ (tables.evaluator.bytes ++ others) = append_assoc tables.generator.bytes tables.evaluator.bytes others in
    let first : next_label (table_bytes tables ++ others) ≡ tables.generator = ap next_label split ∙ next_label-said tables.generator _ whole in
    let second : next_label (drop 16 (table_bytes tables ++ others)) ≡ tables.evaluator =
    ap (λ (xs : List ℕ). next_label (drop 16 xs)) split ∙ ap next_label (drop_bytes 16 tables.generator.bytes _ whole) ∙ next_label-said tables.evaluator others whole' in
    ap₂ (λ (g e : Label). record { generator = g; evaluator = e }) first second

pub drop-tables : (tables : Tables) (others : List ℕ) → IsWhole tables.generator → IsWhole tables.evaluator → drop 32 (table_bytes tables ++ others) ≡ others
drop-tables tables others whole whole' =
    drop_bytes 32 (table_bytes tables) others (length-append tables.generator.bytes tables.evaluator.bytes ∙ omega (arith, whole, whole'))

-- wires at garbler and evaluator, with their values
abbrev pub Active : (seed : List ℕ) → Bool → Label → Label → Type 0
Active seed value zero_label active = IsActive (offset_of seed) zero_label value active

IsWhole-active : (seed : List ℕ) (worker i : ℕ) (value : Bool) → IsWhole (xor_times (input_label_of seed worker i) value (offset_of seed))
IsWhole-active seed worker i value = IsWhole-xor_times _ _ value (IsWhole-digest_label _) (IsWhole-offset_of seed)

-- how many bytes are said at an input
pub length-given : (seed : List ℕ) (worker first count value : ℕ) →
    length (bytes_of (active_labels (offset_of seed) (zero_labels seed worker first count) (bits value count))) ≡ 16 * count
length-given seed worker first zero value = refl
length-given seed worker first (suc count) value =
    let label : Label = xor_times (input_label_of seed worker first) (value % 2 == 1) (offset_of seed) in
    let later = length-given seed worker (number_after first 1) count (value / 2) in
    length-append label.bytes _ ∙ omega (arith, later, IsWhole-active seed worker first (value % 2 == 1))

-- how many bytes the tables of an AND have
pub length-tables : (offset : Label) (worker gate : ℕ) (a b : Label) → IsWhole offset → IsWhole a → length (table_bytes (tables_of offset worker gate a b)) ≡ 32
length-tables offset worker gate a b whole whole_a =
    let tables : Tables = tables_of offset worker gate a b in
    length-append tables.generator.bytes tables.evaluator.bytes
    ∙ omega (arith, IsWhole-generator offset worker gate a b whole, IsWhole-evaluator offset worker gate a b whole_a)

-- the labels of an input that are read, and what is left
pub record ReadsInput (seed : List ℕ) (worker first count value : ℕ) (others : List ℕ) : Type 0 where
  pub wires : Each (Active seed) (bits value count) (zero_labels seed worker first count)
      (next_labels count (bytes_of (active_labels (offset_of seed) (zero_labels seed worker first count) (bits value count)) ++ others))
  pub left : drop (16 * count) (bytes_of (active_labels (offset_of seed) (zero_labels seed worker first count) (bits value count)) ++ others) ≡ others

pub reads_input : (seed : List ℕ) (worker first count value : ℕ) (others : List ℕ) → ReadsInput seed worker first count value others
reads_input seed worker first zero value others = record { wires = tt; left = refl }
reads_input seed worker first (suc count) value others =
    let bit : Bool = value % 2 == 1 in
    let label : Label = xor_times (input_label_of seed worker first) bit (offset_of seed) in
    let more : List ℕ = bytes_of (active_labels (offset_of seed) (zero_labels seed worker (number_after first 1) count) (bits (value / 2) count)) in
    let later = reads_input seed worker (number_after first 1) count (value / 2) others in
    let whole : IsWhole label = IsWhole-active seed worker first bit in
    let split : label.bytes ++ more ++ others ≡ label.bytes ++ (more ++ others) = append_assoc label.bytes more others in
    let this : next_label (label.bytes ++ more ++ others) ≡ label = ap next_label split ∙ next_label-said label _ whole in
    let next : drop 16 (label.bytes ++ more ++ others) ≡ more ++ others = ap (λ (xs : List ℕ). drop 16 xs) split ∙ drop_bytes 16 label.bytes _ whole in
    let size : 16 * suc count ≡ length label.bytes + 16 * count = omega (arith, whole) in
    record {
      wires = (
        subst (λ (x : Label). Active seed bit (input_label_of seed worker first) x) (sym this) (IsActive-input seed worker first bit),
        subst (λ (xs : List ℕ). Each (Active seed) (bits (value / 2) count) (zero_labels seed worker (number_after first 1) count) (next_labels count xs)) (sym next) later.wires,
      );
      left = ap (λ (n : ℕ). drop n (label.bytes ++ more ++ others)) size ∙ ap (λ (xs : List ℕ). drop (length label.bytes + 16 * count) xs) split
          ∙ drop-append-add label.bytes (more ++ others) (16 * count) ∙ later.left;
    }

-- the labels of an input that were dealt
pub record TakesInput (seed : List ℕ) (worker first count value : ℕ) (others : List Label) : Type 0 where
  pub wires : Each (Active seed) (bits value count) (zero_labels seed worker first count)
      (first_labels count (active_labels (offset_of seed) (zero_labels seed worker first count) (bits value count) ++ others))
  pub left : drop count (active_labels (offset_of seed) (zero_labels seed worker first count) (bits value count) ++ others) ≡ others

pub takes_input : (seed : List ℕ) (worker first count value : ℕ) (others : List Label) → TakesInput seed worker first count value others
takes_input seed worker first zero value others = record { wires = tt; left = refl }
takes_input seed worker first (suc count) value others =
    let later = takes_input seed worker (number_after first 1) count (value / 2) others in
    record { wires = (IsActive-input seed worker first (value % 2 == 1), later.wires); left = later.left }

-- the bits of an output
colour_is : (bit : Bool) → (cond bit 1 0 % 2 == 1) ≡ bit
colour_is true = refl
colour_is false = refl

pub record ReadsOutput (seed : List ℕ) (values : List Bool) (zeros wires : List Label) (others : List ℕ) : Type 0 where
  pub bits : decoded_bits wires (map colour_of zeros ++ others) ≡ values
  pub left : drop (length wires) (map colour_of zeros ++ others) ≡ others

pub reads_output : (seed : List ℕ) (values : List Bool) (zeros wires : List Label) (others : List ℕ) → Each (Active seed) values zeros wires → ReadsOutput seed values zeros wires others
reads_output seed [] [] [] others e = record { bits = refl; left = refl }
reads_output seed [] [] (x ∷ wires) others e = absurd e
reads_output seed [] (z ∷ zeros) [] others e = absurd e
reads_output seed [] (z ∷ zeros) (x ∷ wires) others e = absurd e
reads_output seed (v ∷ values) [] [] others e = absurd e
reads_output seed (v ∷ values) [] (x ∷ wires) others e = absurd e
reads_output seed (v ∷ values) (z ∷ zeros) [] others e = absurd e
reads_output seed (v ∷ values) (z ∷ zeros) (x ∷ wires) others e =
    let later = reads_output seed values zeros wires others e.1 in
    let bit : decoded_bit (cond (lsb z) 1 0 % 2 == 1) x ≡ v = ap (λ (c : Bool). decoded_bit c x) (colour_is (lsb z)) ∙ decoded_bit-active (offset_of seed) z x v (IsOffset-offset_of seed) e.0 in
    record { bits = ap₂ (λ (b : Bool) (bs : List Bool). b ∷ bs) bit later.bits; left = later.left }
