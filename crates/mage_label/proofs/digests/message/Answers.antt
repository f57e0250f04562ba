use Rattle.std.proofs.Common.{◌≡◌, List, ℕ, ◌∷◌, ◌++◌, length, sym, ap, ◌∙◌, append_assoc}
use Rattle.std.specs.Int.{to_be_bytes, w16, w64}
use Rattle.mage_label.proofs.MessageLemmas.{pieces_written}
use Rattle.mage_label.proofs.digests.message.Goals as goal

pub returns : goal.returns
returns c =
    let bytes = c.args.label.bytes in
    let front : length bytes ≡ 16 = ap length (sym c.copy_from_slice.ensures.after) ∙ c.copy_from_slice.ensures.len in
    let back : length c.place.result ≡ 10 = ap length c.place.ensures in
    rw (c.copy_from_slice-2.ensures.after, c.copy_from_slice.ensures.after)
    (pieces_written 2 bytes c.place.result front back ∙ ap (λ (l : List ℕ). (2 ∷ bytes) ++ l) c.place.ensures
    ∙ sym (append_assoc (2 ∷ bytes) (to_be_bytes w16 c.args.worker) (to_be_bytes w64 c.args.j)))
