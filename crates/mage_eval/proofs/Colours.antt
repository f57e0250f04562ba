-- Colours, one after the other.
use Rattle.std.proofs.Common.{◌≡◌, ◌≤◌, ◌<◌, ℕ, suc, ◌+◌, ◌-◌, List, [], ◌∷◌, ◌++◌, Bool, true, false, cond, IsTrue, Option, length, drop, get_or, refl, sym, ap, subst, ◌∙◌, append_assoc, arith}
use Rattle.std.proofs.lemmas.List.{at_drop_more}
use Rattle.mage_base.specs.Faults.{Rose, count_after}
use Rattle.mage_instr.specs.declared.fault.DriverFault.{DriverFault}
use Rattle.mage_instr.specs.declared.fault.DriverFault.TheVariants as fault
use Rattle.mage_label.specs.declared.labels.Label.{Label}
use Rattle.mage_halfgates.specs.HalfGates.{decoded_bit}
use Rattle.mage_streams.specs.Evaluating.{decoded_bits}
use Rattle.mage_eval.specs.Reading.{Fails, Incoming, ReadsColour, at_after_colours, wrong_at_colours}

-- what a colour in front says
bits_front : (wire : Label) (wires : List Label) (colour : Bool) (left : List ℕ) →
    decoded_bits (wire ∷ wires) (cond colour 1 0 ∷ left) ≡ decoded_bit colour wire ∷ decoded_bits wires left
bits_front wire wires true left = refl
bits_front wire wires false left = refl

wrong_front : (wire : Label) (wires : List Label) (colour : Bool) (at : ℕ) (left : List ℕ) →
    wrong_at_colours (wire ∷ wires) at (cond colour 1 0 ∷ left) ≡ wrong_at_colours wires (count_after at 1) left
wrong_front wire wires true at left = refl
wrong_front wire wires false at left = refl

module _ (wires : List Label) (i : ℕ) (d : Label) (less : i < length wires) (colour : Bool) (s s' : Incoming) (reads : ReadsColour s s' colour) (told : IsTrue s.told) where
  pub bits_more : (bits : List Bool) (bit : Bool) → bit ≡ decoded_bit colour (get_or wires i d) →
      (bits ++ bit ∷ []) ++ decoded_bits (drop (i + 1) wires) s'.left ≡ bits ++ decoded_bits (drop i wires) s.left
  bits_more bits bit is =
      append_assoc bits (bit ∷ []) (decoded_bits (drop (i + 1) wires) s'.left)
      ∙ ap (λ (b : Bool). bits ++ (b ∷ decoded_bits (drop (i + 1) wires) s'.left)) is
      ∙ ap (λ (bs : List Bool). bits ++ bs) (sym (bits_front (get_or wires i d) (drop (i + 1) wires) colour s'.left))
      ∙ ap (λ (left : List ℕ). bits ++ decoded_bits (get_or wires i d ∷ drop (i + 1) wires) left) (sym (reads.here told))
      ∙ ap (λ (bs : List Bool). bits ++ bs) (sym (at_drop_more (λ (ws : List Label). decoded_bits ws s.left) wires i d less))

  pub wrong_more : wrong_at_colours (drop (i + 1) wires) s'.at s'.left ≡ wrong_at_colours (drop i wires) s.at s.left
  wrong_more =
      ap (λ (n : ℕ). wrong_at_colours (drop (i + 1) wires) n s'.left) reads.at
      ∙ sym (wrong_front (get_or wires i d) (drop (i + 1) wires) colour s.at s'.left)
      ∙ ap (λ (left : List ℕ). wrong_at_colours (get_or wires i d ∷ drop (i + 1) wires) s.at left) (sym (reads.here told))
      ∙ sym (at_drop_more (λ (ws : List Label). wrong_at_colours ws s.at s.left) wires i d less)

  pub left_more : drop (length wires - (i + 1)) s'.left ≡ drop (length wires - i) s.left
  left_more =
      let next : length wires - i ≡ suc (length wires - (i + 1)) = omega (arith, less) in
      ap (λ (left : List ℕ). drop (suc (length wires - (i + 1))) left) (sym (reads.here told)) ∙ ap (λ (k : ℕ). drop k s.left) (sym next)

module _ (wires : List Label) (i : ℕ) (d : Label) (less : i < length wires) (colour : Bool) (s s' : Incoming) (reads : ReadsColour s s' colour) where
  pub at_more : at_after_colours (drop (i + 1) wires) s'.at ≡ at_after_colours (drop i wires) s.at
  at_more =
      ap (λ (n : ℕ). at_after_colours (drop (i + 1) wires) n) reads.at
      ∙ sym (at_drop_more (λ (ws : List Label). at_after_colours ws s.at) wires i d less)

before : {a b : Bool} → a ≡ b → IsTrue b → IsTrue a
before same t = subst (λ (x : Bool). IsTrue x) (sym same) t

-- why reading failed, in terms of an earlier moment
pub fails_from : (f : DriverFault) (wrong wrong' : Option DriverFault) (s s' after : Incoming) → (IsTrue s'.told → wrong ≡ wrong') → s.steady ≡ s'.steady → s.faults ≡ s'.faults → s.told ≡ s'.told →
    Fails wrong s after f → Fails wrong' s' after f
fails_from fault.Source wrong wrong' s s' after same steady faults told fails =
    (sym steady ∙ fails.0, subst (λ (n : ℕ). n ≤ after.faults) faults fails.1, subst (λ (n : ℕ). Rose n after.faults) faults fails.2)
fails_from fault.Sink wrong wrong' s s' after same steady faults told fails = absurd fails
fails_from (fault.Short at) wrong wrong' s s' after same steady faults told fails = (λ t. sym (same t) ∙ fails.0 (before told t), fails.1 ∙ faults)
fails_from (fault.Long at) wrong wrong' s s' after same steady faults told fails = (λ t. sym (same t) ∙ fails.0 (before told t), fails.1 ∙ faults)
fails_from (fault.Colour at) wrong wrong' s s' after same steady faults told fails = (λ t. sym (same t) ∙ fails.0 (before told t), fails.1 ∙ faults)

-- a colour wasn't read, of those that were due
pub fails_at : (wires : List Label) (i : ℕ) (d : Label) (first s after : Incoming) (f : DriverFault) → i < length wires →
    (IsTrue first.told → wrong_at_colours (drop i wires) s.at s.left ≡ wrong_at_colours wires first.at first.left) → s.steady ≡ first.steady → s.faults ≡ first.faults → s.told ≡ first.told →
    Fails (wrong_at_colours (get_or wires i d ∷ drop (i + 1) wires) s.at s.left) s after f → Fails (wrong_at_colours wires first.at first.left) first after f
fails_at wires i d first s after f less wrong steady faults told fails =
    fails_from f _ _ s first after (λ t. sym (at_drop_more (λ (ws : List Label). wrong_at_colours ws s.at s.left) wires i d less) ∙ wrong t) steady faults told fails
