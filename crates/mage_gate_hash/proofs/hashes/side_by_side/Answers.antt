use Rattle.std.proofs.Common.{rules}
use Rattle.std.proofs.lemmas.Simd.{pick_l_whole}
use Rattle.mage_gate_hash.proofs.hashes.side_by_side.Goals as goal

pub returns : goal.returns
returns c = (
  pick_l_whole 0 c.args.a 16 (search rules),
  pick_l_whole 0 c.args.b 16 (search rules),
  pick_l_whole 0 c.args.c 16 (search rules),
  pick_l_whole 0 c.args.d 16 (search rules),
)
