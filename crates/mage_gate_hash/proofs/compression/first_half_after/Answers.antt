use Rattle.std.proofs.Common.{refl}
use Rattle.sha2.specs.Sha256.{compress}
use Rattle.mage_gate_hash.proofs.LaneLemmas.{slice_index-lane}
use Rattle.mage_gate_hash.proofs.compression.first_half_after.Goals as goal

pub returns : goal.returns
unfolding compress
returns c j b low words =
    let v = c.all_rounds.result in
    let done = c.all_rounds.ensures j b low words in
    rw (
      c.add.ensures j low,
      c.add-2.ensures j low,
      c.add-3.ensures j low,
      c.add-4.ensures j low,
      c.splat.ensures j low,
      c.splat-2.ensures j low,
      c.splat-3.ensures j low,
      c.splat-4.ensures j low,
      ← done,
      slice_index-lane v j 0,
      slice_index-lane v j 1,
      slice_index-lane v j 2,
      slice_index-lane v j 3,
    ) refl
