-- What is said of inputs, wire by wire.
use Rattle.std.proofs.Common.{◌≡◌, ◌<◌, ℕ, suc, ◌+◌, ◌-◌, ◌*◌, ◌/◌, ◌%◌, ◌^◌, ◌==◌, List, ◌++◌, Bool, IsTrue, length, drop, get_or, refl, sym, ap, ap₂, ◌∙◌, append_assoc, arith}
use Rattle.std.proofs.lemmas.List.{at_drop_more}
use Rattle.mage_bits.specs.Bits.{bits}
use Rattle.mage_label.specs.declared.labels.Label.{Label}
use Rattle.mage_label.specs.Labels.{offset_of, xor_times}
use Rattle.mage_instr.specs.declared.party.Party.TheVariants as party
use Rattle.mage_driver.specs.declared.standing.Standing.{Standing}
use Rattle.mage_driver.specs.declared.standing.Standing.TheVariants as standing
use Rattle.mage_driver.specs.Calls.{Told, Ask, Input, Answered, reached, standing_after}
use Rattle.mage_streams.specs.Numbers.{next_value}
use Rattle.mage_streams.specs.Garbling.{Garbler, active_labels, after_input, bytes_of, said_for, zero_labels}
use Rattle.mage_streams.proofs.Reading.{length-given}
use Rattle.mage_garble.specs.Sending.{Sending, Outgoing, saying, with_room, with_waiting}
use Rattle.mage_garble.specs.Rule.{Garbling, garble_rules}

-- one active label more
pub one_more : (waiting : List ℕ) (offset : Label) (zeros : List Label) (i left : ℕ) (d active : Label) → i < length zeros → active ≡ xor_times (get_or zeros i d) (left % 2 == 1) offset →
    (waiting ++ active.bytes) ++ bytes_of (active_labels offset (drop (i + 1) zeros) (bits (left / 2) (length zeros - (i + 1))))
    ≡ waiting ++ bytes_of (active_labels offset (drop i zeros) (bits left (length zeros - i)))
one_more waiting offset zeros i left d active less is =
    let n : ℕ = length zeros - (i + 1) in
    let next : length zeros - i ≡ suc n = omega (arith, less) in
    let rest : List ℕ = bytes_of (active_labels offset (drop (i + 1) zeros) (bits (left / 2) n)) in
    let here : bytes_of (active_labels offset (drop i zeros) (bits left (suc n))) ≡ (xor_times (get_or zeros i d) (left % 2 == 1) offset).bytes ++ rest =
    at_drop_more (λ (zs : List Label). bytes_of (active_labels offset zs (bits left (suc n)))) zeros i d less in
    append_assoc waiting active.bytes rest
    ∙ ap (λ (label : Label). waiting ++ (label.bytes ++ rest)) is
    ∙ ap (λ (xs : List ℕ). waiting ++ xs) (sym here)
    ∙ ap (λ (k : ℕ). waiting ++ bytes_of (active_labels offset (drop i zeros) (bits left k))) (sym next)

-- what was said, where it is told, and what stays always
module _ (out out' out'' : Outgoing) (bytes : List ℕ) (n : ℕ) (size : n ≡ length bytes)
    (room : out' ≡ record out { sending = record (with_room out.sending n) { stream = out'.sending.stream } })
    (stream : IsTrue out.told → out'.sending.stream ≡ (with_room out.sending n).stream)
    (said : out'' ≡ record out' { sending = with_waiting out'.sending bytes }) where
  pub said_all : IsTrue out.told → out''.sending ≡ saying out.sending bytes
  said_all told =
      ap (λ (o : Outgoing). o.sending) said
      ∙ ap (λ (o : Outgoing). with_waiting o.sending bytes) room
      ∙ ap (λ (xs : List ℕ). with_waiting (record (with_room out.sending n) { stream = xs }) bytes) (stream told)
      ∙ ap (λ (k : ℕ). with_waiting (with_room out.sending k) bytes) size

  pub same_faults : out''.faults ≡ out.faults
  same_faults = ap (λ (o : Outgoing). o.faults) said ∙ ap (λ (o : Outgoing). o.faults) room

  pub same_told : out''.told ≡ out.told
  same_told = ap (λ (o : Outgoing). o.told) said ∙ ap (λ (o : Outgoing). o.told) room

-- a driver that stands so
abbrev pub told_with : Garbler → Sending → Standing → ℕ → Bool → Told Garbling
told_with g sending standing faults told = record { state = record { garbler = g; sending = sending }; standing = standing; faults = faults; told = told }

-- a call was answered Ok
pub answered : (ask : Ask Label) (before : Told Garbling) (g : Garbler) (sending : Sending) (s : Standing) (faults : ℕ) (told : Bool) →
    (IsTrue before.told → ◌≡◌ {A = Garbling} (record { garbler = g; sending = sending }) (reached garble_rules before.state ask)) →
    s ≡ standing_after ask → faults ≡ before.faults → told ≡ before.told →
    Answered garble_rules ask before (told_with g sending s faults told)
answered ask before g sending s faults told state stands same same' = record {
  passed = λ t. (refl, tt);
  state = state;
  rest = ap (λ (x : Standing). told_with g sending x faults told) stands
      ∙ ap (λ (x : ℕ). told_with g sending (standing_after ask) x told) same
      ∙ ap (λ (x : Bool). told_with g sending (standing_after ask) before.faults x) same';
}

-- an input of the garbler was said
pub said_input : (g : Garbler) (out out' out'' : Outgoing) (into : List Label) (offset : Label) (n value : ℕ) (values : List ℕ) (s : Standing) →
    offset ≡ offset_of g.seed → into ≡ zero_labels g.seed g.worker g.wires n → length into ≡ n → value ≡ next_value g.values → values ≡ drop 1 g.values → s ≡ standing.Running →
    out' ≡ record out { sending = record (with_room out.sending (16 * n)) { stream = out'.sending.stream } } →
    (IsTrue out.told → out'.sending.stream ≡ (with_room out.sending (16 * n)).stream) →
    out'' ≡ record out' { sending = with_waiting out'.sending (bytes_of (active_labels offset into (bits value (length into)))) } →
    Answered garble_rules (Input party.Garbler n) (told_with g out.sending s out.faults out.told)
    (told_with (record g { values = values; wires = (g.wires + length into) % 2 ^ 63 }) out''.sending s out''.faults out''.told)
said_input g out out' out'' into offset n value values s is_offset is_into long is_value is_values runs room stream said =
    let bytes : List ℕ = said_for g (Input party.Garbler n) in
    let size : 16 * n ≡ length bytes = sym (length-given g.seed g.worker g.wires n (next_value g.values)) in
    let these : bytes_of (active_labels offset into (bits value (length into))) ≡ bytes = rw (long, is_into, is_offset, is_value) refl in
    let said' : out'' ≡ record out' { sending = with_waiting out'.sending bytes } = said ∙ ap (λ (xs : List ℕ). record out' { sending = with_waiting out'.sending xs }) these in
    let g' : record g { values = values; wires = (g.wires + length into) % 2 ^ 63 } ≡ after_input g party.Garbler n = rw (long, is_values) refl in
    answered (Input party.Garbler n) _ _ _ s _ _
    (λ t. ap₂ (λ (h : Garbler) (x : Sending). record { garbler = h; sending = x }) g' (said_all out out' out'' bytes (16 * n) size room stream said' t))
    runs (same_faults out out' out'' bytes (16 * n) size room stream said') (same_told out out' out'' bytes (16 * n) size room stream said')
