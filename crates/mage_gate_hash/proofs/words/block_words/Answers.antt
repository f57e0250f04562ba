use Rattle.std.proofs.Common.{◌≡◌, ◌∙◌, length, rules}
use Rattle.mage_gate_hash.proofs.BlockLemmas.{first_words-block, words_from-parts}
use Rattle.mage_gate_hash.proofs.words.block_words.Goals as goal

pub returns : goal.returns
returns c =
    let bytes = c.args.label.bytes in
    let ws = c.to_be_bytes.result in
    let ts = c.to_be_bytes-2.result in
    let whole : length bytes ≡ 16 = search rules in
    words_from-parts bytes ws ts _ _ _ _ _ _ _ c.from_be_bytes.ensures c.from_be_bytes-2.ensures
    c.from_be_bytes-3.ensures c.from_be_bytes-4.ensures c.from_be_bytes-5.ensures c.from_be_bytes-6.ensures
    c.from_be_bytes-7.ensures
    ∙ first_words-block bytes ws ts c.args.worker c.args.tweak whole c.to_be_bytes.ensures c.to_be_bytes-2.ensures
