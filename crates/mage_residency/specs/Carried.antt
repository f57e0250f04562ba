-- That the list of the rule carries the program.
use Rattle.std.specs.Prelude.{◌≡◌, ℕ, List, length, None, IfSome, slice_get}
use Rattle.mage_instr.specs.declared.instr.Instr.{Instr}
use Rattle.mage_instr.specs.declared.instr.Place.{Place}
use Rattle.mage_instr.specs.declared.instr.Step.{Step}
use Rattle.mage_instr.specs.Sound.{IsSound}
use Rattle.mage_place.specs.Places.{ArePlaces}
use Rattle.mage_place.specs.Steps.{AreSteps}
use Rattle.mage_place.specs.TooWide.{page_tight}
use Rattle.mage_belady.specs.Rule.{rule_of, tight_of}
use Rattle.mage_residency.specs.Plain.{CarriesPlainly}

-- each instruction has three arguments, those that its opcode doesn't take included, as its type has it
abbrev pub HaveArguments : List Instr → Type 0
HaveArguments instrs = (t : ℕ) → IfSome (slice_get instrs t) (λ i. length i.args ≡ 3)

-- Where the instructions can run and no value is too wide for a page, the list that the rule gives for their places and their
-- trace carries them, in any number of frames that each step fits.
abbrev pub RuleCarries : Type 0
RuleCarries =
    (frames page : ℕ) (instrs : List Instr) (places : List Place) (trace : List Step)
    → IsSound instrs → HaveArguments instrs → page_tight page instrs ≡ None
    → ArePlaces instrs page places → AreSteps instrs places trace → tight_of frames 0 trace ≡ None
    → CarriesPlainly frames page instrs (rule_of frames instrs places trace)
