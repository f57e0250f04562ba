-- That the rule of replacement makes lists that can be scheduled.
use Rattle.std.specs.Prelude.{◌≡◌, ℕ, List, None}
use Rattle.mage_instr.specs.declared.instr.Instr.{Instr}
use Rattle.mage_instr.specs.declared.instr.Place.{Place}
use Rattle.mage_instr.specs.declared.instr.Step.{Step}
use Rattle.mage_instr.specs.Sound.{IsSound}
use Rattle.mage_place.specs.Steps.{AreSteps}
use Rattle.mage_belady.specs.Rule.{rule_of, tight_of}
use Rattle.mage_sched.specs.Rule.{IsReplaced}

-- the list that the rule gives for the steps of instructions that can run is one of the rule's, as the schedule asks
abbrev pub RuleListsAreReplaced : Type 0
RuleListsAreReplaced =
    (frames : ℕ) (instrs : List Instr) (places : List Place) (trace : List Step)
    → IsSound instrs → AreSteps instrs places trace → tight_of frames 0 trace ≡ None
    → IsReplaced (rule_of frames instrs places trace)
