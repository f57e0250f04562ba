-- The calls of an object in memory, of which some are to fail.
use Rattle.std.specs.Prelude.{ℕ, ◌==◌, List, [], ◌∷◌, Bool, true, false, if◌then◌else◌}
use Rattle.std.specs.List.{list_any}
use Rattle.mage_base.specs.declared.calls.Calls.{Calls}
use Rattle.mage_base.specs.Faults.{next_count}

-- no call yet, and these numbers of calls that are to fail
abbrev pub no_call_yet : (failing : List ℕ) → Calls
no_call_yet failing = record { failing = failing; made = 0 }

-- whether the next call is to fail
abbrev pub is_listed : Calls → Bool
is_listed calls = list_any (λ call. call == calls.made) calls.failing

-- the same calls and one more
abbrev pub after_call : Calls → Calls
after_call calls = record calls { made = next_count calls.made }

-- whether a list of calls has none
abbrev pub is_empty : List ℕ → Bool
is_empty [] = true
is_empty (_ ∷ _) = false

-- a count of faults after a call that failed, or didn't
abbrev pub counted : (failed : Bool) → ℕ → ℕ
counted failed faults = if failed then next_count faults else faults
