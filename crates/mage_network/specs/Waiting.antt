-- Workers that may wait for others. Besides its own acts, things happen to a worker silently: they
-- change its state, and no deed tells of them.
use Rattle.std.specs.Prelude.{◌≡◌, ℕ, List, [], ◌∷◌, Bool, true, false, Option, None, Some, is_some, ◌⊎◌}
use Rattle.mage_network.specs.Workers.{Act, Moves, Sends, Takes, Stops, Worker}
use Rattle.mage_network.specs.Pasts.{IsBefore, BeginsSo}
use Rattle.mage_network.specs.Network.{Network, put, opening, acts, can_act}

-- Real workers: the act that one has in a state, or none where it waits; and what a thing that
-- happens makes of a state, where it can happen.
pub record Waiting (R E L W : Type 0) : Type 0 where
  pub act : ℕ → R → Option (Act R L W)
  pub becomes : ℕ → E → R → Option R

-- a worker has its turn, or a thing happens to it
pub data Event (E : Type 0) : Type 0 where
  Turn : (number : ℕ) → Event E
  Happens : (number : ℕ) → E → Event E

-- the turn of a worker that has this act, or waits
abbrev pub may_act : {R L W : Type 0} → (capacity number : ℕ) → Option (Act R L W) →
    Network R L W → Network R L W
may_act capacity number None network = network
may_act capacity number (Some act) network = acts capacity number act network

-- a worker is then in this state, if the thing can happen
abbrev pub may_become : {R L W : Type 0} → (number : ℕ) → Option R → Network R L W → Network R L W
may_become number None network = network
may_become number (Some after) network = record network {
  workers = put network.workers number
      (record { state = after; past = (network.workers number).past });
}

abbrev pub event : {R E L W : Type 0} → Waiting R E L W → (capacity : ℕ) → Event E →
    Network R L W → Network R L W
event real capacity (Turn number) network =
    may_act capacity number (real.act number (network.workers number).state) network
event real capacity (Happens number thing) network =
    may_become number (real.becomes number thing (network.workers number).state) network

-- a whole list of events
abbrev pub events : {R E L W : Type 0} → Waiting R E L W → (capacity : ℕ) → List (Event E) →
    Network R L W → Network R L W
events real capacity [] network = network
events real capacity (first ∷ rest) network =
    events real capacity rest (event real capacity first network)

-- the network after some events, from its opening
abbrev pub after_events : {R E L W : Type 0} → Waiting R E L W → (ℕ → R) → (capacity : ℕ) →
    List (Event E) → Network R L W
after_events real starts capacity list = events real capacity list (opening starts)

-- the turn of a worker that has this act, or waits, would go on
abbrev pub may_go_on : {R L W : Type 0} → (capacity number : ℕ) → Option (Act R L W) →
    (ℕ → ℕ → List W) → Bool
may_go_on capacity number None links = false
may_go_on capacity number (Some act) links = can_act capacity number act links

abbrev pub can_happen : {R E L W : Type 0} → Waiting R E L W → (capacity : ℕ) → Event E →
    Network R L W → Bool
can_happen real capacity (Turn number) network =
    may_go_on capacity number (real.act number (network.workers number).state) network.links
can_happen real capacity (Happens number thing) network =
    is_some (real.becomes number thing (network.workers number).state)

abbrev pub SomeCanHappen : {R E L W : Type 0} → Waiting R E L W → (capacity : ℕ) →
    Network R L W → Type 0
SomeCanHappen {R} {E} real capacity network =
    (one : Event E) × (can_happen real capacity one network ≡ true)

-- two acts are the same, and what they leave is tied again
abbrev pub SameAct : {R S L W : Type 0} → (R → S → Type 0) → Act R L W → Act S L W → Type 0
SameAct tied (Moves said r) (Moves meant s) = (said ≡ meant) × tied r s
SameAct tied (Sends n wire r) (Sends m meant s) = (n ≡ m) × (wire ≡ meant) × tied r s
SameAct {R} {S} {L} {W} tied (Takes n r) (Takes m s) =
    (n ≡ m) × ((wire : W) → tied (r wire) (s wire))
SameAct tied Stops Stops = Unit {0}
SameAct tied _ _ = ⊥

-- an act is the same, or the real worker waits
abbrev pub SameOrWaits : {R S L W : Type 0} → (R → S → Type 0) → Option (Act R L W) →
    Act S L W → Type 0
SameOrWaits tied None act = Unit {0}
SameOrWaits tied (Some real) act = SameAct tied real act

-- What ties real workers to their meaning, each a worker that never waits for what happens: their
-- starts are tied; where they are tied, both have the same act, or the real one waits; what
-- happens to it changes nothing that is meant; and where it waits, its meaning has stopped or
-- something can happen to it.
pub record Means {R E S L W : Type 0} (tied : ℕ → R → S → Type 0) (real : Waiting R E L W)
    (next : ℕ → S → Act S L W) (real_starts : ℕ → R) (starts : ℕ → S) : Type 0 where
  pub starts_tied : (n : ℕ) → tied n (real_starts n) (starts n)
  pub acts_alike : (n : ℕ) (r : R) (s : S) → tied n r s →
      SameOrWaits (tied n) (real.act n r) (next n s)
  pub happens : (n : ℕ) (thing : E) (r after : R) (s : S) → tied n r s →
      real.becomes n thing r ≡ Some after → tied n after s
  pub waits : (n : ℕ) (r : R) (s : S) → tied n r s → real.act n r ≡ None →
      (next n s ≡ Stops) ⊎ ((thing : E) × (is_some (real.becomes n thing r) ≡ true))

-- it stands where the whole run ends
pub record StandsAs {R S L W : Type 0} (tied : R → S → Type 0) (worker : Worker R L W)
    (whole : Worker S L W) : Type 0 where
  pub did : worker.past ≡ whole.past
  pub means : tied worker.state whole.state

-- all that it did begins what is done in the whole run; and if it is done, it did all of it
pub record BeginsTied {R S L W : Type 0} (tied : R → S → Type 0) (act : R → Option (Act R L W))
    (worker : Worker R L W) (whole : Worker S L W) : Type 0 where
  pub before : IsBefore worker.past whole.past
  pub prefixes : BeginsSo worker.past whole.past
  pub done : act worker.state ≡ Some Stops → StandsAs tied worker whole

-- a relation given by its pairs: each t is a real state with what it means
abbrev pub IsPair : {T R S : Type 0} → (T → R) → (T → S) → R → S → Type 0
IsPair {T} real_of meant_of r s = (t : T) × (real_of t ≡ r) × (meant_of t ≡ s)
