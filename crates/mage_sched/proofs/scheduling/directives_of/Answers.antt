use Rattle.std.proofs.Common.{◌≡◌, ◌<◌, ◌+◌, [], length, drop, ap, ◌∙◌, arith}
use Rattle.std.proofs.lemmas.List.{length-replicate}
use Rattle.mage_sched.specs.declared.slot.Slot.TheVariants as state
use Rattle.mage_sched.specs.Reads.{reads_of}
use Rattle.mage_instr.specs.declared.replaced.Replaced.{Replaced}
use Rattle.mage_instr.specs.declared.replaced.Replaced.TheVariants as entry
use Rattle.mage_sched.specs.Schedule.{no_timed, jobs_of, schedule_of}
use Rattle.mage_sched.specs.Slots.{Buffer}
use Rattle.mage_sched.specs.Views.{buffer_of}
use Rattle.mage_sched.proofs.Issues.{timed_of-ordered, length-timed_from}
use Rattle.mage_sched.proofs.Walks.{at_start, at_entry, loads_of, length-reads_from, fresh_more, save_more, load_read, do_lent, get_or_same, within_lent, before_lent, after_lent}
use Rattle.mage_sched.proofs.scheduling.directives_of.Goals as goal
use Rattle.mage_sched.proofs.scheduling.directives_of.Goals.{in-Fresh+in_ok-say-in-Fresh, in-Save+in_ok-issue_out-in-Save, in-Load+in_ok-load-in-Load, in-Do+in_ok-next-in-Do+in_ok-say-in-Do}

pub loop-k-init : goal.loop-k-init
loop-k-init c =
    let reads = reads_of c.args.list.now in
    let timed = ap length c.in_ok-reads.ensures in
    let all = length-timed_from c.args.buffer c.args.ahead reads reads 0 in
    let loads = length-reads_from [] c.args.list.now in
    record {
      count = ap (λ (b : Buffer). length b.slots) c.in_ok-slots.ensures.buffer ∙ length-replicate c.args.buffer state.Idle;
      list = at_start c.in_ok-reads.reads.items c.args.list.now c.args.buffer c.args.ahead (buffer_of c.in_ok-slots.slots) c.in_ok-slots.slots.list.items c.in_ok-slots.ensures.list c.in_ok-slots.ensures.buffer c.in_ok-reads.ensures;
      loads = omega (arith, timed, all, loads);
      room = omega (arith, c.requires);
      within = omega arith;
      before = λ k below. absurd (omega (arith, below));
      after = λ k from within. omega arith;
    }

pub issue_ahead-requires-clause-ordered : goal.issue_ahead-requires-clause-ordered
issue_ahead-requires-clause-ordered c = rw (c.as_slice.ensures.value, c.in_ok-reads.ensures) (timed_of-ordered c.args.buffer c.args.ahead (reads_of c.args.list.now))

pub loop-k-preserved : goal.loop-k-preserved
loop-k-preserved c =
    let kept = c.loop-k.invariant in
    let list = c.args.list.now in
    let k = c.loop-k.k in
    let first : Replaced = entry.Fresh 0 0 in
    let reads = c.in_ok-reads.reads.items in
    let whole = schedule_of c.args.buffer c.args.ahead list in
    elim c.match-list-k.branch [
      | in-Fresh+in_ok-say-in-Fresh w ↦
          let loads : loads_of (drop k list) ≡ loads_of (drop (k + 1) list) = at_entry loads_of list k first _ c.loop-k-test.true w.in-Fresh.is in
          let dos : jobs_of (drop k list) ≡ jobs_of (drop (k + 1) list) = at_entry jobs_of list k first _ c.loop-k-test.true w.in-Fresh.is in
          rw (w.slots-is, w.gap-is, w.loads-is, w.next-is) (record {
            count = w.say.ensures.count ∙ kept.count;
            list = fresh_more reads c.loop-k.gap c.loop-k.loads k list first w.in-Fresh.frame w.in-Fresh.page (buffer_of c.loop-k.slots) (buffer_of w.say.new.self) c.loop-k.slots.list.items w.say.new.self.list.items whole c.loop-k-test.true w.in-Fresh.is kept.list w.in_ok-say-in-Fresh.ensures.list w.in_ok-say-in-Fresh.ensures.buffer;
            loads = omega (arith, loads, kept.loads);
            room = omega (arith, dos, kept.room);
            within = kept.within;
            before = kept.before;
            after = kept.after;
          })
      | in-Save+in_ok-issue_out-in-Save w ↦
          let loads : loads_of (drop k list) ≡ loads_of (drop (k + 1) list) = at_entry loads_of list k first _ c.loop-k-test.true w.in-Save.is in
          let dos : jobs_of (drop k list) ≡ jobs_of (drop (k + 1) list) = at_entry jobs_of list k first _ c.loop-k-test.true w.in-Save.is in
          rw (w.slots-is, w.gap-is, w.loads-is, w.next-is) (record {
            count = w.issue_out.ensures.count ∙ kept.count;
            list = save_more reads c.loop-k.gap c.loop-k.loads k list first w.in-Save.frame w.in-Save.page (buffer_of c.loop-k.slots) (buffer_of w.issue_out.new.self) c.loop-k.slots.list.items w.issue_out.new.self.list.items whole c.loop-k-test.true w.in-Save.is kept.list w.in_ok-issue_out-in-Save.ensures.list w.in_ok-issue_out-in-Save.ensures.buffer;
            loads = omega (arith, loads, kept.loads);
            room = omega (arith, dos, kept.room);
            within = kept.within;
            before = kept.before;
            after = kept.after;
          })
      | in-Load+in_ok-load-in-Load w ↦
          let loads : loads_of (drop k list) ≡ 1 + loads_of (drop (k + 1) list) = at_entry loads_of list k first _ c.loop-k-test.true w.in-Load.is in
          let dos : jobs_of (drop k list) ≡ jobs_of (drop (k + 1) list) = at_entry jobs_of list k first _ c.loop-k-test.true w.in-Load.is in
          let inside : c.loop-k.loads < length reads = omega (arith, loads, kept.loads) in
          rw (w.slots-is, w.gap-is, w.loads-is, w.next-is) (record {
            count = w.load.ensures.count ∙ kept.count;
            list = load_read reads c.loop-k.gap c.loop-k.loads k list first w.in-Load.frame w.in-Load.page w.index.result.now (buffer_of c.loop-k.slots) (buffer_of w.load.new.self) c.loop-k.slots.list.items w.load.new.self.list.items whole c.loop-k-test.true w.in-Load.is (w.index.ensures ∙ get_or_same reads c.loop-k.loads w.index.result.now no_timed inside) kept.list w.in_ok-load-in-Load.ensures.list w.in_ok-load-in-Load.ensures.buffer;
            loads = omega (arith, loads, kept.loads);
            room = omega (arith, dos, kept.room);
            within = kept.within;
            before = kept.before;
            after = kept.after;
          })
      | in-Do+in_ok-next-in-Do+in_ok-say-in-Do w ↦
          let loads : loads_of (drop k list) ≡ loads_of (drop (k + 1) list) = at_entry loads_of list k first _ c.loop-k-test.true w.in-Do.is in
          let dos : jobs_of (drop k list) ≡ 1 + jobs_of (drop (k + 1) list) = at_entry jobs_of list k first _ c.loop-k-test.true w.in-Do.is in
          let lent = w.as_slice.result.now in
          let same = w.as_slice.ensures.value in
          rw (w.slots-is, w.gap-is, w.loads-is, w.next-is) (record {
            count = w.say-in-Do.ensures.count ∙ w.issue_ahead.ensures.count ∙ kept.count;
            list = do_lent reads lent c.loop-k.gap c.loop-k.loads k list first w.in-Do.job (buffer_of c.loop-k.slots) (buffer_of w.issue_ahead.new.self) (buffer_of w.say-in-Do.new.self) c.loop-k.slots.list.items w.issue_ahead.new.self.list.items w.say-in-Do.new.self.list.items whole c.loop-k-test.true w.in-Do.is same kept.list w.in_ok-next-in-Do.ensures.list w.in_ok-next-in-Do.ensures.buffer w.in_ok-say-in-Do.ensures.list w.in_ok-say-in-Do.ensures.buffer;
            loads = omega (arith, loads, kept.loads);
            room = omega (arith, dos, kept.room);
            within = within_lent lent reads w.in_ok-next-in-Do.next same w.in_ok-next-in-Do.ensures.within;
            before = before_lent lent reads w.in_ok-next-in-Do.next (c.loop-k.gap + 1) same w.in_ok-next-in-Do.ensures.before;
            after = after_lent lent reads w.in_ok-next-in-Do.next (c.loop-k.gap + 1) same w.in_ok-next-in-Do.ensures.after;
          })
    ]
