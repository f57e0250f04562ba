use Rattle.std.proofs.Common.{refl}
use Rattle.mage_gate_hash.proofs.LaneLemmas.{slice_index-lane}
use Rattle.mage_gate_hash.proofs.compression.round.Goals as goal

pub returns : goal.returns
returns c j h =
    let v = c.args.v in
    rw (
      c.add-4.ensures j h,
      c.add-5.ensures j h,
      c.add-t1.ensures j h,
      c.add-3.ensures j h,
      c.add-2.ensures j h,
      c.add.ensures j h,
      c.big_sigma1.ensures j h,
      c.ch.ensures j h,
      c.splat.ensures j h,
      c.add-t2.ensures j h,
      c.big_sigma0.ensures j h,
      c.maj.ensures j h,
      slice_index-lane v j 0,
      slice_index-lane v j 1,
      slice_index-lane v j 2,
      slice_index-lane v j 3,
      slice_index-lane v j 4,
      slice_index-lane v j 5,
      slice_index-lane v j 6,
      slice_index-lane v j 7,
    ) refl
