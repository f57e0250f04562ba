-- Variables in front of those that are still to come.
use Rattle.std.proofs.Common.{◌++◌, List, Result, Ok, Err}
use Rattle.mage_lex.specs.declared.fault.LangFault.{LangFault}
use Rattle.mage_unroll.specs.declared.state.Variable.{Variable}
use Rattle.mage_unroll.specs.State.{State}

-- these, and behind them those of the answer
abbrev pub behind : List Variable → Result (List Variable × State) LangFault → Result (List Variable × State) LangFault
behind front (Ok rest) = Ok (front ++ rest.0, rest.1)
behind front (Err fault) = Err fault
