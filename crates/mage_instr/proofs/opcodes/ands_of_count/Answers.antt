use Rattle.std.proofs.Common.{◌≡◌, ◌+◌, ◌*◌, ◌^◌, ◌≤◌, ◌<◌, ◌∙◌, ap, add-one, arith}
use Rattle.std.proofs.Math.Nat.{pow-suc}
use Rattle.mage_instr.specs.Ands.{log_of, ands_of_count}
use Rattle.mage_instr.proofs.Logs.{IsLog, log_up_to-is, log-unique}
use Rattle.mage_instr.proofs.opcodes.ands_of_count.Goals as goal

pub returns : goal.returns
returns c =
    let k = c.from-log.result in
    let widened : k ≡ c.ilog2.result = omega arith in
    let reached : 2 ^ k ≤ c.args.width = rw widened c.ilog2.ensures.power_le in
    let next : c.args.width < 2 * 2 ^ k = rw widened c.ilog2.ensures.next_power_gt in
    let double : 2 ^ (k + 1) ≡ 2 * 2 ^ k = rw add-one (omega (arith, pow-suc 2 k)) in
    let log : IsLog c.args.width k = record { reached = reached; passed = omega (arith, pow-suc 2 k) } in
    let same : k ≡ log_of c.args.width = log-unique c.args.width k (log_of c.args.width) log (log_up_to-is 7 c.args.width (omega arith) (omega arith)) in
    let here : c.saturating_sub.result ≡ ands_of_count c.args.width k = omega (arith, double) in
    here ∙ ap (ands_of_count c.args.width) same
