use Rattle.std.proofs.Common.{◌≡◌, Bool, true, false, not, refl}
use mathlib.Core.Bool.{xor as xor_bits}
use Rattle.mage_label.specs.Labels.{lsb}
use Rattle.mage_eval.proofs.outputs.decoded.Goals as goal

turned : (b : Bool) → not b ≡ xor_bits true b
unfolding xor_bits
turned true = refl
turned false = refl

kept : (b : Bool) → b ≡ xor_bits false b
unfolding xor_bits
kept true = refl
kept false = refl

pub returns-then-colour : goal.returns-then-colour
returns-then-colour c = rw (c.if-colour.true, c.lsb-low.ensures) (turned (lsb c.args.wire))

pub returns-else-colour : goal.returns-else-colour
returns-else-colour c = rw (c.if-colour.false, c.lsb-low.ensures) (kept (lsb c.args.wire))
