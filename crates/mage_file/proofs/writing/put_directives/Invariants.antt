use Rattle.std.proofs.Common.{◌≡◌, ◌++◌, ℕ, List, drop}
use Rattle.mage_instr.specs.declared.directive.Directive.{Directive}
use Rattle.mage_file.specs.Grammar.{directive}
use Rattle.mage_file.proofs.Adding.{all}
use Rattle.mage_file.proofs.writing.put_directives.Given as goal

-- those so far are added, in front of the others
abbrev pub invariant-loop-directive : goal.invariant-loop-directive
invariant-loop-directive l = (more : List ℕ) →
    l.out.items ++ all Directive (directive 0 0) l.directive-index (drop l.directive-index l.directives) more
    ≡ l.initial.out.items ++ all Directive (directive 0 0) 0 l.directives more
