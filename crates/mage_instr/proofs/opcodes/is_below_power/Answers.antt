use Rattle.std.proofs.Common.{◌^◌, ◌≤◌, arith}
use Rattle.std.proofs.lemmas.Bool.Decides.{nat_tests}
use Rattle.std.proofs.Math.Pow.{pow_mono}
use Rattle.mage_instr.proofs.opcodes.is_below_power.Goals as goal

pub returns-then-width-ge64 : goal.returns-then-width-ge64
returns-then-width-ge64 c =
    let big : 2 ^ 64 ≤ 2 ^ c.args.width = pow_mono {i = 64} {j = c.args.width} (omega arith) in
    (λ _. omega (arith, big), λ _. grind (arith, nat_tests))
