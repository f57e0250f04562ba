use Rattle.mage_file.specs.declared.version.Version.TheVariants as version
use Rattle.mage_file.specs.Grammar.{section}
use Rattle.mage_file.proofs.Adding.{sections_next, sections_all}
use Rattle.mage_file.proofs.writing.put_sections.Goals as goal

pub loop-worker-preserved : goal.loop-worker-preserved
loop-worker-preserved c = λ more.
    sections_next (section version.Second 0 0) c.args.stores.now c.args.workers.now c.loop-worker.worker c.index-workers-worker.result more c.args.out.now.items c.loop-worker.out.items
    c.put_section.new.out.items c.loop-worker-test.true c.requires c.index-workers-worker.is (c.loop-worker.invariant more)
    (λ behind. rw c.as_slice.ensures at (c.in_ok-put_section.ensures behind))

pub returns : goal.returns
returns c = λ more.
    sections_all (section version.Second 0 0) c.args.stores.now c.args.workers.now c.loop-worker.worker more c.args.out.now.items c.loop-worker.out.items
    c.loop-worker-test.false c.requires (c.loop-worker.invariant more)
