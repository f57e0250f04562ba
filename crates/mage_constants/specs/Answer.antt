-- Faults at tokens, and what a function of the code answers, against a definition that gives a
-- value or the first fault.
use Rattle.std.specs.Prelude.{◌≡◌, Option, Some, None, Result, Ok, Err}
use Rattle.mage_lex.specs.declared.fault.LangFault.{LangFault}
use Rattle.mage_lex.specs.declared.fault.LangFault.TheVariants as faults
use Rattle.mage_lex.specs.declared.fault.LangKind.{LangKind}
use Rattle.mage_lex.specs.declared.token.Token.{Token}

-- a fault at a token
abbrev pub fault_at : LangKind → Token → LangFault
fault_at kind token = faults.At kind token.line token.column

-- what is wanted, or the fault where it isn't there
abbrev pub or_fault : {A : Type 0} → LangKind → Token → Option A → Result A LangFault
or_fault kind token None = Err (fault_at kind token)
or_fault kind token (Some x) = Ok x

-- the fault is the definition's, unless memory ran out
abbrev pub Fails : {Y : Type 0} → LangFault → Result Y LangFault → Type 0
Fails (faults.At kind line column) defined = defined ≡ Err (faults.At kind line column)
Fails faults.Memory defined = Unit {0}

-- the answer, seen by view, is the definition's, unless memory ran out
abbrev pub Gives : {X Y : Type 0} → (X → Y) → Result X LangFault → Result Y LangFault → Type 0
Gives view (Ok x) defined = defined ≡ Ok (view x)
Gives view (Err fault) defined = Fails fault defined
