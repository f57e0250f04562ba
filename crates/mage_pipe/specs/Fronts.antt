-- What is found so far, in front of what is found of the rest.
use Rattle.std.specs.Prelude.{List, ◌++◌, Result, Ok}
use Rattle.mage_pipe.specs.declared.fault.PlanFault.{PlanFault}
use Rattle.mage_chains.specs.Chains.{◌>>=◌}

-- some items in front of those of the rest, or the fault of the rest
abbrev pub in_front : {T : Type 0} → List T → Result (List T) PlanFault → Result (List T) PlanFault
in_front items rest = do
  others ← rest
  Ok (items ++ others)
