use Rattle.sha2.specs.Sha256.{initial_hash_256, rounds}
use Rattle.mage_gate_hash.proofs.compression.first_sixteen_steps.Goals as goal

pub returns : goal.returns
unfolding rounds
returns c j b low window =
    let h = initial_hash_256 in
    let s1 = c.first_four_steps-v.ensures j b h low window (c.initial_state.ensures j low) in
    let s2 = c.first_four_steps-v-2.ensures j b h low window s1 in
    let s3 = c.first_four_steps-v-3.ensures j b h low window s2 in
    c.first_four_steps.ensures j b h low window s3
