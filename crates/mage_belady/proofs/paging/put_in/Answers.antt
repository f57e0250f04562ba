use Rattle.std.proofs.Common.{rules, ◌≡◌, ◌<◌, ◌&&◌, cond, Some, length, get_or, nat_eq, ◌∙◌, ap, arith}
use Rattle.mage_belady.proofs.Walking.{put-more}
use Rattle.mage_belady.proofs.paging.put_in.Goals as goal

pub loop-k-preserved : goal.loop-k-preserved
loop-k-preserved g c =
    let four : length c.args.step.pages ≡ 4 = search rules in
    let kept = c.loop-k.invariant in
    let below : c.loop-k.k < c.args.step.count =
    omega (arith, c.loop-k-test.true, c.from-k-end.ensures) in
    let one = c.insert.ensures.counted in
    record {
      counted = (let was = kept.counted in omega (arith, one, was));
      listed = λ after stands a s n q. c.in_ok-insert.ensures.listed n q
          ∙ ap (λ o. cond
          (nat_eq n (get_or c.args.next c.loop-k.k 0) && nat_eq q
          (get_or c.args.step.pages c.loop-k.k 0)) (Some (get_or c.args.at c.loop-k.k 0)) o)
          (kept.listed after stands a s n q)
          ∙ put-more c.args.step c.args.next c.args.at after stands a s c.loop-k.k below
          (omega (arith, four, c.requires.0)) n q _;
    }
