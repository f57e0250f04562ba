use Rattle.std.proofs.Common.{◌≡◌, ◌∙◌, ℕ, List, ap, length, rules}
use Rattle.sha2.specs.Sha256.{digest_bytes}
use Rattle.mage_gate_hash.proofs.BlockLemmas.{lane-parts}
use Rattle.mage_gate_hash.proofs.hashes.label_at.Goals as goal

pub returns : goal.returns
returns c =
    let words = c.args.words.now in
    let four : length words ≡ 4 = search rules in
    c.label_of.ensures ∙ ap (λ (xs : List ℕ). digest_bytes xs 4) (lane-parts words c.args.at four)
