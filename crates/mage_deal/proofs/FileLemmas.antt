-- What the code makes, byte by byte.
use Rattle.std.proofs.Common.{◌≡◌, ◌<◌, ℕ, suc, ◌+◌, ◌-◌, ◌%◌, ◌/◌, ◌^◌, ◌==◌, List, [], ◌∷◌, ◌++◌, Bool, true, false, cond, refl, sym, ap, ◌∙◌, append_assoc, arith, Result, Ok, Err, IfOk, Vec}
use Rattle.std.specs.declared.alloc.Global.{Global}
use Rattle.mage_base.specs.declared.failure.Memory.{Memory}
use Rattle.mage_bits.specs.Bits.{bits}
use Rattle.mage_instr.specs.declared.instr.Instr.{Instr}
use Rattle.mage_instr.specs.declared.party.Party.{Party}
use Rattle.mage_instr.specs.declared.party.Party.TheVariants as party
use Rattle.mage_instr.specs.Inputs.{is_input}
use Rattle.mage_driver.specs.Operations.{party_of}
use Rattle.mage_label.specs.declared.labels.Label.{Label}
use Rattle.mage_label.specs.Labels.{input_label_of, xor_times}
use Rattle.mage_streams.specs.Garbling.{active_labels, bytes_of, zero_labels}
use Rattle.mage_deal.specs.Dealing.{Dealer, labels_for, after_input, all_labels}

pub bytes_of-append : (p q : List Label) → bytes_of (p ++ q) ≡ bytes_of p ++ bytes_of q
bytes_of-append [] q = refl
bytes_of-append (label ∷ p) q = ap (λ xs. label.bytes ++ xs) (bytes_of-append p q) ∙ sym (append_assoc label.bytes (bytes_of p) (bytes_of q))

-- the labels of an instruction, in front of those of the others
module _ (d : Dealer) (i : Instr) (others : List Instr) (before : List ℕ) where
  abbrev Adds : (after : List ℕ) → Dealer → Type 0
  Adds after next = after ++ bytes_of (all_labels next others) ≡ before ++ bytes_of (all_labels d (i ∷ others))

  pub no_input : is_input i.op ≡ false → Adds before d
  no_input none = ap (λ (b : Bool). before ++ bytes_of (cond b (labels_for d (party_of i.imm) i.width) [] ++ all_labels (cond b (after_input d (party_of i.imm) i.width) d) others)) (sym none)

  input_of : (whose : Party) → is_input i.op ≡ true → party_of i.imm ≡ whose →
      before ++ bytes_of (labels_for d whose i.width ++ all_labels (after_input d whose i.width) others) ≡ before ++ bytes_of (all_labels d (i ∷ others))
  input_of whose is own =
      ap (λ (p : Party). before ++ bytes_of (labels_for d p i.width ++ all_labels (after_input d p i.width) others)) (sym own)
      ∙ ap (λ (b : Bool). before ++ bytes_of (cond b (labels_for d (party_of i.imm) i.width) [] ++ all_labels (cond b (after_input d (party_of i.imm) i.width) d) others)) (sym is)

  pub garblers_input : is_input i.op ≡ true → (i.imm == 0) ≡ true → Adds before (after_input d party.Garbler i.width)
  garblers_input is zero_imm =
      input_of party.Garbler is (ap (λ (b : Bool). cond b party.Garbler party.Evaluator) zero_imm)

  pub evaluators_input : (after : List ℕ) → is_input i.op ≡ true → (i.imm == 0) ≡ false → after ≡ before ++ bytes_of (labels_for d party.Evaluator i.width) →
      Adds after (after_input d party.Evaluator i.width)
  evaluators_input after is other added =
      let next = all_labels (after_input d party.Evaluator i.width) others in
      ap (λ (xs : List ℕ). xs ++ bytes_of next) added
      ∙ append_assoc before (bytes_of (labels_for d party.Evaluator i.width)) (bytes_of next)
      ∙ ap (λ (xs : List ℕ). before ++ xs) (sym (bytes_of-append (labels_for d party.Evaluator i.width) next))
      ∙ input_of party.Evaluator is (ap (λ (b : Bool). cond b party.Garbler party.Evaluator) other)

-- one active label more
pub one_label : (bytes : List ℕ) (seed : List ℕ) (worker wire left count done : ℕ) (offset label : Label) (after : List ℕ) → done < count →
    label ≡ xor_times (input_label_of seed worker wire) (left % 2 == 1) offset → after ≡ bytes ++ label.bytes →
    after ++ bytes_of (active_labels offset (zero_labels seed worker ((wire + 1) % 2 ^ 63) (count - (done + 1))) (bits (left / 2) (count - (done + 1))))
    ≡ bytes ++ bytes_of (active_labels offset (zero_labels seed worker wire (count - done)) (bits left (count - done)))
one_label bytes seed worker wire left count done offset label after less is added =
    let n : ℕ = count - (done + 1) in
    let next : count - done ≡ suc n = omega (arith, less) in
    let rest : List ℕ = bytes_of (active_labels offset (zero_labels seed worker ((wire + 1) % 2 ^ 63) n) (bits (left / 2) n)) in
    ap (λ (xs : List ℕ). xs ++ rest) added
    ∙ append_assoc bytes label.bytes rest
    ∙ ap (λ (l : Label). bytes ++ (l.bytes ++ rest)) is
    ∙ ap (λ (k : ℕ). bytes ++ bytes_of (active_labels offset (zero_labels seed worker wire k) (bits left k))) (sym next)

-- the same bytes, said otherwise
pub other_bytes : (r : Result (Vec ℕ Global) Memory) (these those : List ℕ) → these ≡ those →
    IfOk r (λ bytes. bytes.items ≡ these) → IfOk r (λ bytes. bytes.items ≡ those)
other_bytes (Ok bytes) these those same is = is ∙ same
other_bytes (Err e) these those same is = is
