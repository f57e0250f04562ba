use Rattle.std.proofs.Common.{◌-◌, arith, rules}
use Rattle.mage_next.proofs.FirstUses.{first_uses_more, entries_more, AreNextUses-from_first_uses}
use Rattle.mage_next.proofs.next.next_uses.Goals as goal

pub loop-t-preserved : goal.loop-t-preserved
loop-t-preserved c =
    let t = c.loop-t.t in let kept = c.loop-t.invariant in
    record {
      seen = first_uses_more c.args.trace.now (t - 1) t _ _ _ (omega arith) (omega arith) kept.seen (λ q. c.in_ok-note.ensures q);
      count = search rules;
      done = entries_more c.args.trace.now c.loop-t.uses.items (t - 1) t c.uses_at.result _ _ (omega arith) (omega (arith, c.loop-t.uses.ok.0)) (omega arith) kept.seen c.uses_at.ensures kept.done;
    }

pub returns : goal.returns
returns c =
    AreNextUses-from_first_uses c.args.trace.now c.loop-t.uses.items c.requires (search rules)
    (λ s k d h four. c.loop-t.invariant.done s k d (omega arith) h four)
