-- Labels that were written are read back.
use Rattle.std.proofs.Common.{◌≡◌, ◌<◌, ◌+◌, ◌*◌, ◌-◌, ◌++◌, ℕ, zero, suc, List, [], ◌∷◌, length, take, drop, refl, sym, ap, ap₂, ◌∙◌, arith}
use Rattle.std.proofs.lemmas.List.{append_assoc, drop-drop, length-take-le, length-drop, take_at, drop_at}
use Rattle.mage_label.specs.declared.labels.Label.{Label}
use Rattle.mage_streams.specs.Garbling.{bytes_of}
use Rattle.mage_label_files.specs.Labels.{labels_from, LabelsAreReadBack, ReadLabelsAreWhole, AsManyLabels}

pub labels_are_read_back : LabelsAreReadBack
labels_are_read_back [] whole = refl
labels_are_read_back (label ∷ labels) whole =
    ap₂ (λ (bytes : List ℕ) (others : List Label). record { bytes = bytes } ∷ others) (take_at label.bytes (bytes_of labels) 16 whole.0)
    (ap (labels_from (length labels)) (drop_at label.bytes (bytes_of labels) 16 whole.0) ∙ labels_are_read_back labels whole.1)

pub read_labels_are_whole : ReadLabelsAreWhole
read_labels_are_whole zero bytes long = tt
read_labels_are_whole (suc count) bytes long =
    let rest = length-drop 16 bytes in
    (length-take-le 16 bytes (omega (arith, long)), read_labels_are_whole count (drop 16 bytes) (omega (arith, long, rest)))

pub as_many_labels : AsManyLabels
as_many_labels zero bytes = refl
as_many_labels (suc count) bytes = ap suc (as_many_labels count (drop 16 bytes))

-- a label more was read
pub one_more : (items : List Label) (count k : ℕ) (bytes : List ℕ) (label : Label) (whole : List Label) → k < count → label.bytes ≡ take 16 (drop (16 * k) bytes)
    → items ++ labels_from (count - k) (drop (16 * k) bytes) ≡ whole
    → (items ++ label ∷ []) ++ labels_from (count - (k + 1)) (drop (16 * (k + 1)) bytes) ≡ whole
one_more items count k bytes label whole inside same so_far = go (count - k) (omega (arith, inside)) so_far where
  go : (n : ℕ) → n ≡ suc (count - (k + 1)) → items ++ labels_from n (drop (16 * k) bytes) ≡ whole
      → (items ++ label ∷ []) ++ labels_from (count - (k + 1)) (drop (16 * (k + 1)) bytes) ≡ whole
  go zero is so_far = absurd (omega (arith, is))
  go (suc n) is so_far =
      let left : n ≡ count - (k + 1) = omega (arith, is) in
      let place : 16 * k + 16 ≡ 16 * (k + 1) = omega arith in
      append_assoc items (label ∷ []) _
      ∙ ap₂ (λ (own : List ℕ) (others : List Label). items ++ record { bytes = own } ∷ others) same
      (ap₂ labels_from (sym left) (sym (ap (λ (m : ℕ). drop m bytes) place) ∙ sym (drop-drop 16 (16 * k) bytes)))
      ∙ so_far
