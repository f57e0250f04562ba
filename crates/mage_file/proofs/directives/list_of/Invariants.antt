use Rattle.std.proofs.Common.{◌≡◌, ◌-◌}
use Rattle.mage_file.specs.Formats.{rest_of, read_all}
use Rattle.mage_file.specs.Grammar.{directive}
use Rattle.mage_file.proofs.Loops.{with_front}
use Rattle.mage_file.proofs.directives.list_of.Given as goal

-- those so far, in front of what is read of the rest, are what is read of the whole
abbrev pub invariant-loop : goal.invariant-loop
invariant-loop l =
    with_front l.list (read_all (λ _. directive l.workers l.own) l.counter (l.count - l.counter) (rest_of l.rest))
    ≡ read_all (λ _. directive l.workers l.own) 0 l.count (rest_of l.fn.left)
