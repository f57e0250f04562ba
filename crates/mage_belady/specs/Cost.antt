-- What is wrong with a plan of residency.
use Rattle.std.specs.Prelude.{◌+◌, ◌&&◌, ℕ, List, [], ◌∷◌, Bool, true, not, if◌then◌else◌, length, map, nat_eq, nat_lt, Option, Some, None, Vec}
use Rattle.std.specs.Global.{Global}
use Rattle.std.specs.List.{list_all}
use Rattle.std.specs.Option.{option_or}
use Rattle.mage_belady.specs.declared.fault.CostFault.{CostFault}
use Rattle.mage_belady.specs.declared.fault.CostFault.TheVariants as wrong
use Rattle.mage_belady.specs.Plan.{is_in}

-- whether each page is below the next
abbrev pub ascends : List ℕ → Bool
ascends [] = true
ascends (p ∷ []) = true
ascends (p ∷ q ∷ pages) = nat_lt p q && ascends (q ∷ pages)

-- what is wrong with the set of step t
abbrev pub fault_at : (frames t : ℕ) (set pages : List ℕ) → Option CostFault
fault_at frames t set pages =
    if not (ascends set) then Some (wrong.Order t)
    else if not (list_all (λ page. is_in page set) pages) then Some (wrong.Misses t)
    else if nat_lt frames (length set) then Some (wrong.Over t)
    else None

-- the first fault of some sets, where their steps are numbered from t
abbrev pub fault_from : (frames t : ℕ) (plan trace : List (List ℕ)) → Option CostFault
fault_from frames t (set ∷ plan) (pages ∷ trace) =
    option_or (fault_at frames t set pages) (fault_from frames (t + 1) plan trace)
fault_from frames t [] trace = None
fault_from frames t (set ∷ plan) [] = None

-- the first fault of a plan
abbrev pub fault_of : (frames : ℕ) (plan trace : List (List ℕ)) → Option CostFault
fault_of frames plan trace =
    if nat_eq (length plan) (length trace) then fault_from frames 0 plan trace
    else Some wrong.Length

-- the sets of a plan
abbrev pub sets_in : List (Vec ℕ Global) → List (List ℕ)
sets_in plan = map (λ set. set.items) plan
