use Rattle.std.proofs.Common.{rules, ◌∙◌}
use Rattle.mage_deal.proofs.FileLemmas.{one_label}
use Rattle.mage_deal.proofs.inputs.add_active.Goals as goal

pub loop-preserved : goal.loop-preserved
loop-preserved c =
    let l = c.loop in (
      search rules,
      one_label l.bytes.items c.args.seed.now c.args.worker l.wire l.left c.args.count l.counter c.offset-offset.result c.active-label.result
          c.extend_from_slice.new.self.items c.loop-test.true (search rules) (search rules)
          ∙ l.invariant.1,
    )
