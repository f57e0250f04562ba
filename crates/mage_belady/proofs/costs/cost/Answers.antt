use Rattle.std.proofs.Common.{rules, ◌≡◌, ◌<◌, ◌&&◌, ◌||◌, ◌+◌, get_or, drop, ℕ, length, not, nat_eq, [], sym, ◌∙◌, ap, arith}
use Rattle.std.specs.Option.{option_or}
use Rattle.std.proofs.lemmas.List.Folds.{list_any-append}
use Rattle.std.specs.HashSet.{contains}
use Rattle.mage_instr.specs.declared.instr.Step.{Step}
use Rattle.mage_instr.specs.Trace.{pages_of}
use Rattle.mage_belady.specs.Plan.{is_in, comes_back}
use Rattle.mage_belady.specs.Rule.{pages_by_step}
use Rattle.mage_belady.specs.Cost.{fault_from, sets_in}
use Rattle.mage_belady.proofs.Scans.{IsStep-at, touched, touched-zero, touched-more, how_many-same}
use Rattle.mage_belady.proofs.PlanFaults.{Fine-from_none, Serves-from_none, no_fault_past, length-sets_in, length-pages_by_step, fault_more, reads_more}
use Rattle.mage_belady.proofs.costs.cost.Goals as goal

pub loop-t-init : goal.loop-t-init
loop-t-init c =
    let none = touched-zero c.args.trace.now in
    rw none (search rules)

pub check-requires : goal.check-requires
check-requires c = IsStep-at c.args.trace.now c.requires.each c.loop-t.t _ c.loop-t-test.true

pub note-requires : goal.note-requires
note-requires c = IsStep-at c.args.trace.now c.requires.each c.loop-t.t _ c.loop-t-test.true

pub loop-t-preserved : goal.loop-t-preserved
loop-t-preserved c =
    let d : Step = record { pages = []; count = 0 } in
    let kept = c.loop-t.invariant in
    let none = c.in_ok-check.ensures.none in
    let fine = Fine-from_none c.args.frames c.loop-t.t c.as_slice-set.result.now
    (pages_of (get_or c.args.trace.now c.loop-t.t d)) none in
    let in_plan : c.loop-t.t < length c.args.plan.now =
    omega (arith, kept.same, c.loop-t-test.true) in
    let faults = fault_more c.args.plan.now c.args.trace.now c.loop-t.t c.index-plan-t.result d
    c.as_slice-set.result.now in_plan c.loop-t-test.true c.index-plan-t.is
    c.as_slice-set.ensures.value c.args.frames in
    let reads = reads_more c.args.plan.now c.args.trace.now c.loop-t.t c.index-plan-t.result d
    c.as_slice-set.result.now in_plan c.loop-t-test.true c.index-plan-t.is
    c.as_slice-set.ensures.value c.loop-t.before.now in
    let more = touched-more c.args.trace.now c.loop-t.t d c.loop-t-test.true in
    let count = c.coming_back.ensures.count
    ∙ how_many-same _
    (comes_back (touched c.loop-t.t c.args.trace.now) c.loop-t.before.now)
    c.as_slice-set.result.now
    (λ x. ap (λ b. b && not (is_in x c.loop-t.before.now)) (kept.seen x)) in
    let noted : (q : ℕ)
    → contains nat_eq c.note.new.seen q
    ≡ (contains nat_eq c.loop-t.seen q || is_in q
    (pages_of (get_or c.args.trace.now c.loop-t.t d))) = search rules in
    let few = c.coming_back.ensures.bound in
    record {
      same = kept.same;
      seen = λ q. noted q
          ∙ ap (λ b. b || is_in q (pages_of (get_or c.args.trace.now c.loop-t.t d))) (kept.seen q)
          ∙ sym (list_any-append (nat_eq q) (touched c.loop-t.t c.args.trace.now)
          (pages_of (get_or c.args.trace.now c.loop-t.t d))) ∙ ap (is_in q) (sym more);
      fine = sym (faults
          ∙ ap (λ f. option_or f
          (fault_from c.args.frames (c.loop-t.t + 1)
          (sets_in (drop (c.loop-t.t + 1) c.args.plan.now))
          (pages_by_step (drop (c.loop-t.t + 1) c.args.trace.now)))) none) ∙ kept.fine;
      counted = let all = kept.counted in omega (arith, all, reads, count);
      bound = let fits = fine.fits in let was = kept.bound in let range = c.ranges.frames.fits in
          omega (arith, few, fits, was, range);
    }

pub returns-clause-serves : goal.returns-clause-serves
returns-clause-serves c =
    let kept = c.loop-t.invariant in
    let plan = length-sets_in c.args.plan.now in
    let trace = length-pages_by_step c.args.trace.now in
    Serves-from_none c.args.frames 0 _ _ (omega (arith, plan, trace, kept.same))
    (sym kept.fine
    ∙ no_fault_past c.args.frames c.loop-t.t c.args.plan.now _
    (omega (arith, kept.same, c.loop-t-test.false)))
