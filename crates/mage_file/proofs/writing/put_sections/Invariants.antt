use Rattle.std.proofs.Common.{◌≡◌, ◌++◌, ℕ, List, drop}
use Rattle.mage_file.specs.declared.section.Section.{Section}
use Rattle.mage_file.specs.declared.version.Version.TheVariants as version
use Rattle.mage_file.specs.Grammar.{section, sections_of}
use Rattle.mage_file.proofs.Adding.{all}
use Rattle.mage_file.proofs.writing.put_sections.Given as goal

-- those so far are added, in front of the others
abbrev pub invariant-loop-worker : goal.invariant-loop-worker
invariant-loop-worker l = (more : List ℕ) →
    l.out.items ++ all Section (section version.Second 0 0) l.worker (sections_of (drop l.worker l.stores) (drop l.worker l.workers)) more
    ≡ l.initial.out.items ++ all Section (section version.Second 0 0) 0 (sections_of l.stores l.workers) more
