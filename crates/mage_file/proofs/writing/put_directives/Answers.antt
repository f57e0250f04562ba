use Rattle.mage_instr.specs.declared.directive.Directive.{Directive}
use Rattle.mage_file.specs.Grammar.{directive}
use Rattle.mage_file.proofs.Adding.{adds_next, adds_all}
use Rattle.mage_file.proofs.writing.put_directives.Goals as goal

pub loop-directive-preserved : goal.loop-directive-preserved
loop-directive-preserved c = λ more.
    adds_next Directive (directive 0 0) c.args.directives.now c.loop-directive.directive-index _ more c.args.out.now.items c.loop-directive.out.items
    c.put_directive.new.out.items c.loop-directive-test.true (c.loop-directive.invariant more) c.in_ok-put_directive.ensures

pub returns : goal.returns
returns c = λ more.
    adds_all Directive (directive 0 0) c.args.directives.now c.loop-directive.directive-index more c.args.out.now.items c.loop-directive.out.items
    c.loop-directive-test.false (c.loop-directive.invariant more)
