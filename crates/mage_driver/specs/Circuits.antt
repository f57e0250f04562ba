-- Circuits over the rules of any driver: what they are put together from.
use Rattle.std.specs.Prelude.{◌≡◌, ◌-◌, List, [], ◌∷◌, ◌++◌, length, take, drop, IsTrue, Result, Ok, Err}
use Rattle.mage_instr.specs.declared.fault.DriverFault.{DriverFault}
use Rattle.mage_driver.specs.declared.standing.Standing.TheVariants as standing
use Rattle.mage_driver.specs.Rules.{Rules}
use Rattle.mage_driver.specs.Calls.{Told, And, Call, call_of, NoneIsDue, Fell}

-- what a circuit comes to: its calls in order, each with the state in which it is made where those
-- before it are answered Ok; the state after them; and the wires
pub record Made (S W X : Type 0) : Type 0 where
  pub calls : List (Call S W)
  pub state : S
  pub wires : X

module _ {W : Type 0} (rules : Rules W) where
  -- a circuit with wires of this form, from a state of the driver
  abbrev pub Circuit : Type 0 → Type 0
  Circuit X = rules.State → Made rules.State W X

  -- wires that are there already
  abbrev pub given : {X : Type 0} → X → Circuit X
  given wires s = record { calls = []; state = s; wires = wires }

  -- one circuit, and then another over its wires
  abbrev pub followed : {X Y : Type 0} → Circuit X → (X → Circuit Y) → Circuit Y
  followed first next s = record {
    calls = (first s).calls ++ (next (first s).wires (first s).state).calls;
    state = (next (first s).wires (first s).state).state;
    wires = (next (first s).wires (first s).state).wires;
  }

  -- a circuit whose wires are taken in another form
  abbrev pub formed : {X Y : Type 0} → (X → Y) → Circuit X → Circuit Y
  formed form circuit s = record {
    calls = (circuit s).calls;
    state = (circuit s).state;
    wires = form (circuit s).wires;
  }

  -- one AND
  abbrev pub anded : W → W → Circuit W
  anded a b s = record {
    calls = call_of rules s (And a b) ∷ [];
    state = (rules.and s a b).0;
    wires = (rules.and s a b).1;
  }

  -- the opposite of a wire
  abbrev pub inverted : W → Circuit W
  inverted a s = given (rules.not s a) s

  -- a step for each of some items, in order
  abbrev pub folded : {X I : Type 0} → (X → I → Circuit X) → X → List I → Circuit X
  folded step wires [] = given wires
  folded step wires (item ∷ items) = followed (step wires item) (λ wires'. folded step wires' items)

  -- the same, with another step for the last of them
  abbrev pub closed : {X I : Type 0} → (step last : X → I → Circuit X) → X → List I → Circuit X
  closed step last wires items =
      followed (folded step wires (take (length items - 1) items))
      (λ wires'. folded last wires' (drop (length items - 1) items))

  -- the driver made all of a circuit, from one moment to another, and these are the wires
  pub record Went {X : Type 0} (circuit : Circuit X) (before after : Told rules.State) (found : X) :
      Type 0 where
    pub passed : IsTrue before.told → NoneIsDue rules (circuit before.state).calls
    pub state : IsTrue before.told → after.state ≡ (circuit before.state).state
    pub wires : IsTrue before.told → found ≡ (circuit before.state).wires
    pub rest : after ≡ record before { state = after.state; standing = standing.Running }

  -- what a circuit leaves in a driver: it went, or it fell at one of the circuit's calls; and which
  -- wires it found, in terms of what is answered
  abbrev pub Leaves : {X Y : Type 0} → Circuit X → (before after : Told rules.State) → (Y → X) →
      Result Y DriverFault → Type 0
  Leaves circuit before after wires_of (Ok answer) = Went circuit before after (wires_of answer)
  Leaves circuit before after wires_of (Err f) =
      Fell rules (circuit before.state).calls before f after

  -- the same, where the wires are what is answered
  abbrev pub Gives : {X : Type 0} → Circuit X → (before after : Told rules.State) →
      Result X DriverFault → Type 0
  Gives circuit before after result = Leaves circuit before after (λ wires. wires) result
