-- The example of docs/PLANNING.md: three values on a page each, in two frames, where page 1 leaves for page 2 and comes back.
use Rattle.std.proofs.Common.{◌≡◌, List, [], ◌∷◌, refl}
use Rattle.mage_instr.specs.declared.replaced.Job.{Job}
use Rattle.mage_instr.specs.declared.replaced.Replaced.{Replaced}
use Rattle.mage_instr.specs.declared.replaced.Replaced.TheVariants as entry
use Rattle.mage_instr.specs.declared.directive.Directive.{Directive}
use Rattle.mage_instr.specs.declared.directive.Directive.TheVariants as directive
use Rattle.mage_sched.specs.Homes.{homed_of}
use Rattle.mage_sched.specs.Issues.{unseen, issues_in}
use Rattle.mage_sched.specs.Rule.{IsReplaced}
use Rattle.mage_sched.specs.Schedule.{schedule_of}

module _ (job : Job) where
  abbrev round : List Replaced
  round = entry.Fresh 0 0 ∷ entry.Do job ∷ entry.Fresh 1 1 ∷ entry.Do job ∷ entry.Save 1 1 ∷ entry.Fresh 1 2 ∷ entry.Do job ∷ entry.Do job ∷ entry.Load 0 1 ∷ entry.Do job ∷ []

  -- the replacement rule makes such a list
  follows : IsReplaced round
  follows = (refl, (tt, (refl, (tt, ((refl, refl, refl), (refl, (tt, (tt, ((refl, refl), (tt, tt))))))))))

  -- with one slot the read is issued where it is due, in gap 4
  abbrev one_slot : List Directive
  one_slot = directive.Fresh 0 0 ∷ directive.Do job ∷ directive.Fresh 1 1 ∷ directive.Do job ∷ directive.IssueOut 0 1 1 ∷ directive.Fresh 1 2 ∷ directive.Do job ∷ directive.Do job
      ∷ directive.FinishOut 0 ∷ directive.IssueIn 0 1 ∷ directive.FinishIn 0 0 ∷ directive.Do job ∷ []

  with_one : schedule_of 1 64 round ≡ one_slot
  with_one = refl

  due : issues_in unseen one_slot ≡ 4 ∷ []
  due = refl

  -- with two where its page left, in gap 2
  abbrev two_slots : List Directive
  two_slots = directive.Fresh 0 0 ∷ directive.Do job ∷ directive.Fresh 1 1 ∷ directive.Do job ∷ directive.IssueOut 0 1 1 ∷ directive.Fresh 1 2
      ∷ directive.FinishOut 0 ∷ directive.IssueIn 0 1 ∷ directive.Do job ∷ directive.Do job ∷ directive.FinishIn 0 0 ∷ directive.Do job ∷ []

  with_two : schedule_of 2 64 round ≡ two_slots
  with_two = refl

  ahead : issues_in unseen two_slots ≡ 2 ∷ []
  ahead = refl

  -- one store page does, and its number is 0
  homes : (homed_of one_slot).count ≡ 1
  homes = refl

  homed : (homed_of two_slots).directives ≡ directive.Fresh 0 0 ∷ directive.Do job ∷ directive.Fresh 1 1 ∷ directive.Do job ∷ directive.IssueOut 0 1 0 ∷ directive.Fresh 1 2
      ∷ directive.FinishOut 0 ∷ directive.IssueIn 0 0 ∷ directive.Do job ∷ directive.Do job ∷ directive.FinishIn 0 0 ∷ directive.Do job ∷ []
  homed = refl
