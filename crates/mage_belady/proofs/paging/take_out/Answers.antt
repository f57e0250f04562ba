use Rattle.std.proofs.Common.{rules, ◌≡◌, ◌<◌, ◌&&◌, cond, None, length, get_or, take, nat_eq, ◌∙◌, ap, arith, ⊎_elim, length-set}
use Rattle.std.proofs.lemmas.Bool.{cases_eq}
use Rattle.std.proofs.lemmas.List.{get_or-set_same, get_or-set_other}
use Rattle.mage_belady.specs.Plan.{is_in}
use Rattle.mage_belady.proofs.StepPages.{not_before}
use Rattle.mage_belady.proofs.Walking.{gone-more, found-here}
use Rattle.mage_belady.proofs.paging.take_out.Goals as goal

pub loop-k-preserved : goal.loop-k-preserved
loop-k-preserved g c =
    let four : length c.args.step.pages ≡ 4 = search rules in
    let k = c.loop-k.k in
    let kept = c.loop-k.invariant in
    let slots = kept.slots in
    let below : c.loop-k.k < c.args.step.count =
    omega (arith, c.loop-k-test.true, c.from-k-end.ensures) in
    let one = c.remove.ensures.counted in
    let few = c.requires.0 in
    record {
      slots = length-set c.loop-k.found k c.remove.result ∙ slots;
      counted = (let was = kept.counted in omega (arith, one, was));
      found = λ j l. ⊎_elim
          (λ e. rw e (get_or-set_same c.loop-k.found k c.remove.result None
          (omega (arith, slots, below, few)) ∙ c.remove.ensures.frame
          ∙ kept.gone c.args.t (get_or c.args.step.pages k 0)
          ∙ found-here (nat_eq c.args.t c.args.t)
          (is_in (get_or c.args.step.pages k 0) (take k c.args.step.pages)) _
          (not_before c.args.step c.requires (omega (arith, four, few)) k below)))
          (λ n. get_or-set_other c.loop-k.found k j c.remove.result None n
          ∙ kept.found j (omega (arith, l, n))) (cases_eq j k);
      gone = λ n q. c.remove.ensures.removed n q
          ∙ ap (λ o. cond (nat_eq n c.args.t && nat_eq q (get_or c.args.step.pages k 0)) None o)
          (kept.gone n q)
          ∙ gone-more (nat_eq n c.args.t) q k c.args.step.pages _ (omega (arith, four, few, below));
    }
