use Rattle.std.proofs.Common.{refl, sym}
use Rattle.sha2.proofs.Schedule256.{rounds_first}
use Rattle.mage_gate_hash.proofs.LaneLemmas.{slice_index-lane}
use Rattle.mage_gate_hash.proofs.compression.first_step.Goals as goal

pub returns : goal.returns
returns c j b h low window held =
    rounds_first b h _ _ c.args.t _ _ _ c.requires window held refl
    (sym (slice_index-lane c.args.w.now j c.args.t)) (c.round.ensures j low)
