-- What the code keeps while it unrolls, as the state of the definitions, and what a call does to
-- it.
use Rattle.std.specs.Prelude.{Result}
use Rattle.mage_constants.specs.Answer.{Gives}
use Rattle.mage_lex.specs.declared.fault.LangFault.{LangFault}
use Rattle.mage_scopes.specs.Scopes.{scopes_of}
use Rattle.mage_unroll.specs.declared.unroller.Unroller.{Unroller}
use Rattle.mage_unroll.specs.State.{State}

-- the state that an unroller is in
unfoldable pub state_of : Unroller → State
state_of u = record {
  worker = u.worker;
  workers = u.workers;
  scopes = scopes_of u.scopes;
  program = u.emission.emitted.items;
  steps = u.steps;
}

-- the call does what the act does, or has its fault
abbrev pub Does : {X : Type 0} →
    (State → Result State LangFault) → (old new : Unroller) → Result X LangFault → Type 0
Does act old new result = Gives (λ _. state_of new) result (act (state_of old))

-- the call answers what the act gives beside the state
abbrev pub Answers : {X : Type 0} →
    (State → Result (X × State) LangFault) → (old new : Unroller) → Result X LangFault → Type 0
Answers act old new result = Gives (λ x. (x, state_of new)) result (act (state_of old))
