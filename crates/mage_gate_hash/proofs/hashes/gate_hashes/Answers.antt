use Rattle.std.proofs.Common.{◌∙◌, ap, lit<, rules}
use Rattle.mage_label.specs.Labels.{hash_of}
use Rattle.mage_gate_hash.proofs.BlockLemmas.{hash_of-lane}
use Rattle.mage_gate_hash.proofs.hashes.gate_hashes.Goals as goal

pub returns-clause-a_zero : goal.returns-clause-a_zero
returns-clause-a_zero c =
    let words = c.first_half_after-half.ensures 0 _ (lit< tt) (c.side_by_side.ensures.0 ∙ c.block_words.ensures) in
    hash_of-lane c.args.a c.args.worker c.args.j _ _ (search rules) words c.label_at.ensures

pub returns-clause-a_one : goal.returns-clause-a_one
returns-clause-a_one c =
    let words = c.first_half_after-half.ensures 1 _ (lit< tt) (c.side_by_side.ensures.1 ∙ c.block_words-2.ensures) in
    hash_of-lane c.xor.result c.args.worker c.args.j _ _ (search rules) words c.label_at-2.ensures
    ∙ ap (λ label. hash_of label c.args.worker c.args.j) c.xor.ensures

pub returns-clause-b_zero : goal.returns-clause-b_zero
returns-clause-b_zero c =
    let words = c.first_half_after-half.ensures 2 _ (lit< tt) (c.side_by_side.ensures.2 ∙ c.block_words-3.ensures) in
    hash_of-lane c.args.b c.args.worker c.args.k _ _ (search rules) words c.label_at-3.ensures

pub returns-clause-b_one : goal.returns-clause-b_one
returns-clause-b_one c =
    let words = c.first_half_after-half.ensures 3 _ (lit< tt) (c.side_by_side.ensures.3 ∙ c.block_words-4.ensures) in
    hash_of-lane c.xor-2.result c.args.worker c.args.k _ _ (search rules) words c.label_at-4.ensures
    ∙ ap (λ label. hash_of label c.args.worker c.args.k) c.xor-2.ensures
