-- Wires that stand packed in a frame are read as they are.
use Rattle.std.proofs.Common.{◌≡◌, ◌+◌, ◌*◌, ℕ, suc, List, [], ◌∷◌, ◌++◌, length, take, drop, map, refl, sym, ap, ap₂, ◌∙◌, subst, append_assoc, arith}
use Rattle.std.proofs.lemmas.List.{length-append}
use Rattle.std.specs.List.{flat_map, range_with_len}
use Rattle.std.proofs.lemmas.List.Concat.{flat_map-append}
use Rattle.mage_driver.specs.Rules.{Rules, AreLawful}
use Rattle.mage_carried.specs.Wires.{AreWires}
use Rattle.mage_carried.proofs.Pieces.{HasAt, has_read, has_within}

module _ {W : Type 0} (rules : Rules W) where
  -- the wires stand packed from an offset on
  abbrev pub HasWires : (bytes : List ℕ) → (offset : ℕ) → List W → Type 0
  HasWires bytes offset wires = HasAt bytes (offset * rules.wire_bytes) (flat_map rules.pack wires)

  -- the wire at an offset
  abbrev pub wire_in : (bytes : List ℕ) → (offset : ℕ) → W
  wire_in bytes offset = rules.unpack (take rules.wire_bytes (drop (offset * rules.wire_bytes) bytes))

module _ {W : Type 0} (rules : Rules W) (lawful : AreLawful rules) where
  pub packed_long : (wires : List W) → AreWires rules wires →
      length (flat_map rules.pack wires) ≡ length wires * rules.wire_bytes
  packed_long [] are = omega arith
  packed_long (w ∷ wires) are =
      length-append (rules.pack w) (flat_map rules.pack wires)
      ∙ ap₂ (λ m n. m + n) (lawful.packed w are.0) (packed_long wires are.1)
      ∙ (let e : rules.wire_bytes + length wires * rules.wire_bytes ≡ suc (length wires) * rules.wire_bytes = omega arith in e)

  -- one wire among them
  pub wire_read : (bytes : List ℕ) (offset : ℕ) (done : List W) (w : W) (wires : List W) →
      AreWires rules done → rules.IsWire w → HasWires rules bytes offset (done ++ w ∷ wires) →
      wire_in rules bytes (offset + length done) ≡ w
  wire_read bytes offset done w wires are is h =
      ap rules.unpack (ap (λ n. take n (drop ((offset + length done) * rules.wire_bytes) bytes)) (sym (lawful.packed w is))
      ∙ ap (λ n. take (length (rules.pack w)) (drop n bytes)) place
      ∙ has_read bytes (offset * rules.wire_bytes + length (flat_map rules.pack done)) (rules.pack w) piece)
      ∙ lawful.unpacked w is
    where
      place : (offset + length done) * rules.wire_bytes ≡ offset * rules.wire_bytes + length (flat_map rules.pack done)
      place = (let e : (offset + length done) * rules.wire_bytes ≡ offset * rules.wire_bytes + length done * rules.wire_bytes = omega arith in e)
          ∙ ap (λ n. offset * rules.wire_bytes + n) (sym (packed_long done are))

      piece : HasAt bytes (offset * rules.wire_bytes + length (flat_map rules.pack done)) (rules.pack w)
      piece = has_within bytes (offset * rules.wire_bytes) (flat_map rules.pack done) (rules.pack w) (flat_map rules.pack wires)
          (subst (λ l. HasAt bytes (offset * rules.wire_bytes) l)
          (flat_map-append rules.pack done (w ∷ wires)
          ∙ sym (append_assoc (flat_map rules.pack done) (rules.pack w) (flat_map rules.pack wires))) h)

  wires_one : (done : List W) (w : W) → AreWires rules done → rules.IsWire w → AreWires rules (done ++ w ∷ [])
  wires_one [] w are is = (is, tt)
  wires_one (x ∷ done) w are is = (are.0, wires_one done w are.1 is)

  wires_from : (bytes : List ℕ) (offset : ℕ) (done wires : List W) → AreWires rules done → AreWires rules wires →
      HasWires rules bytes offset (done ++ wires) →
      map (λ k. wire_in rules bytes (offset + k)) (range_with_len (length done) (length wires)) ≡ wires
  wires_from bytes offset done [] are more h = refl
  wires_from bytes offset done (w ∷ wires) are more h =
      ap₂ (λ x xs. x ∷ xs) (wire_read bytes offset done w wires are more.0 h)
      (ap (λ n. map (λ k. wire_in rules bytes (offset + k)) (range_with_len n (length wires)))
      (sym (length-append done (w ∷ [])))
      ∙ wires_from bytes offset (done ++ w ∷ []) wires (wires_one done w are more.0) more.1
      (subst (λ l. HasWires rules bytes offset l) (sym (append_assoc done (w ∷ []) wires)) h))

  -- all of them
  pub wires_read : (bytes : List ℕ) (offset : ℕ) (wires : List W) → AreWires rules wires → HasWires rules bytes offset wires →
      map (λ k. wire_in rules bytes (offset + k)) (range_with_len 0 (length wires)) ≡ wires
  wires_read bytes offset wires are h = wires_from bytes offset [] wires tt are h
