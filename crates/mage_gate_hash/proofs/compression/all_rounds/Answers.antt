use Rattle.sha2.specs.Sha256.{initial_hash_256}
use Rattle.mage_gate_hash.proofs.LaneLemmas.{IsWindow-first_words}
use Rattle.mage_gate_hash.proofs.compression.all_rounds.Goals as goal

pub returns : goal.returns
returns c j b low words =
    let h = initial_hash_256 in
    let window = IsWindow-first_words b _ words in
    let s1 = c.first_sixteen_steps-v.ensures j b low window in
    let s2 = c.sixteen_steps-v.ensures j b h low (window, s1) in
    let s3 = c.sixteen_steps-v-2.ensures j b h low s2 in
    let s4 = c.sixteen_steps.ensures j b h low s3 in
    s4.1
