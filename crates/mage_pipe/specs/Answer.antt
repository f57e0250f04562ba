-- What a call answers, against a definition that gives a value or a fault.
use Rattle.std.specs.Prelude.{◌≡◌, Result, Ok, Err}
use Rattle.mage_belady.specs.declared.fault.ReplaceError.{ReplaceError}
use Rattle.mage_belady.specs.declared.fault.ReplaceError.TheVariants as errors
use Rattle.mage_instr.specs.declared.replaced.Tight.{Tight}
use Rattle.mage_lex.specs.declared.fault.LangFault.TheVariants as language
use Rattle.mage_pipe.specs.declared.fault.PlanFault.{PlanFault}
use Rattle.mage_pipe.specs.declared.fault.PlanFault.TheVariants as faults

-- The fault is the definition's, unless memory ran out. Want of memory never comes as a fault of the language.
abbrev pub Fails : {Y : Type 0} → PlanFault → Result Y PlanFault → Type 0
Fails (faults.Lang (language.At kind line column)) defined =
    defined ≡ Err (faults.Lang (language.At kind line column))
Fails (faults.Lang language.Memory) defined = ⊥
Fails (faults.Tight worker tight) defined = defined ≡ Err (faults.Tight worker tight)
Fails faults.Memory defined = Unit {0}

-- the answer, seen by view, is the definition's, unless memory ran out
abbrev pub Gives : {X Y : Type 0} → (X → Y) → Result X PlanFault → Result Y PlanFault → Type 0
Gives view (Ok x) defined = defined ≡ Ok (view x)
Gives view (Err fault) defined = Fails fault defined

-- of one worker the only fault is a limit that is too low, unless memory ran out
abbrev pub FailsTight : {Y : Type 0} → ReplaceError → Result Y Tight → Type 0
FailsTight (errors.Tight tight) defined = defined ≡ Err tight
FailsTight errors.Memory defined = Unit {0}

-- the answer for one worker, seen by view, is the definition's, unless memory ran out
abbrev pub TightOrGives : {X Y : Type 0} → (X → Y) → Result X ReplaceError → Result Y Tight → Type 0
TightOrGives view (Ok x) defined = defined ≡ Ok (view x)
TightOrGives view (Err fault) defined = FailsTight fault defined
