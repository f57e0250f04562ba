use Rattle.std.proofs.Common.{◌≡◌, ◌-◌, List}
use Rattle.mage_file.specs.declared.section.Section.{Section}
use Rattle.mage_file.specs.Formats.{rest_of, read_all}
use Rattle.mage_file.specs.Grammar.{section}
use Rattle.mage_file.proofs.Loops.{with_front, AreSplit}
use Rattle.mage_file.proofs.reading.sections.Given as goal

-- some sections stand in the two lists, and these in front of what is read of the rest are what is read of the whole
abbrev pub invariant-loop-own : goal.invariant-loop-own
invariant-loop-own l = (front : List Section) × AreSplit front l.stores l.lists
    × (with_front front (read_all (section l.version l.workers) l.own (l.workers - l.own) (rest_of l.rest)) ≡ read_all (section l.version l.workers) 0 l.workers (rest_of l.fn.left))
