use Rattle.std.proofs.Common.{◌+◌, ◌++◌, ◌∷◌, get_or, drop, sym, ◌∙◌, arith}
use Rattle.std.proofs.lemmas.List.{at_drop_more}
use Rattle.mage_instr.specs.declared.replaced.Replaced.TheVariants as entry
use Rattle.mage_sched.specs.Reads.{reads_from}
use Rattle.mage_sched.proofs.Walks.{jobs_of-at, gap_after-more}
use Rattle.mage_sched.proofs.reads.reads_of.Goals as goal

pub note-requires : goal.note-requires
note-requires c =
    let kept = c.loop-k.invariant in
    let gap = kept.1.gap in
    let dos = jobs_of-at c.args.list.now c.loop-k.k (entry.Fresh 0 0) c.loop-k-test.true in
    omega (arith, gap, dos, kept.3)

pub loop-k-preserved : goal.loop-k-preserved
loop-k-preserved c =
    let kept = c.loop-k.invariant in
    let list = c.args.list.now in
    let dos = jobs_of-at list c.loop-k.k (entry.Fresh 0 0) c.loop-k-test.true in
    let gap = gap_after-more (get_or list c.loop-k.k (entry.Fresh 0 0)) kept.0 in (
      get_or list c.loop-k.k (entry.Fresh 0 0) ∷ kept.0,
      c.in_ok-note.ensures kept.0 kept.1,
      c.in_ok-add_read.ensures kept.0 (drop (c.loop-k.k + 1) list) kept.1 ∙ sym (at_drop_more (λ xs. c.loop-k.reads.items ++ reads_from kept.0 xs) list c.loop-k.k (entry.Fresh 0 0) c.loop-k-test.true) ∙ kept.2,
      omega (arith, gap, dos, kept.3),
    )
