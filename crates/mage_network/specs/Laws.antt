-- What the laws of networks say.
use Rattle.std.specs.Prelude.{◌≡◌, ◌<◌, ℕ, List, ◌++◌, true, length}
use Rattle.mage_network.specs.Workers.{Act, Stops, Worker, said_in, sent_to, taken_from, own_run}
use Rattle.mage_network.specs.Pasts.{WentAlone, IsBefore, IsPrefix, BeginsSo, IsAlong}
use Rattle.mage_network.specs.Network.{Network, opening, run, is_enabled}

-- the network after a schedule, from its opening
abbrev pub network_after : {S L W : Type 0} → (ℕ → S → Act S L W) → (ℕ → S) →
    (capacity : ℕ) → List ℕ → Network S L W
network_after next starts capacity schedule = run next capacity schedule (opening starts)

-- each worker is where it comes on its own over what it took
abbrev pub EachIsOnItsOwnRun : {S L W : Type 0} → (ℕ → S → Act S L W) → (ℕ → S) →
    (ℕ → Worker S L W) → Type 0
EachIsOnItsOwnRun next starts workers = (n : ℕ) →
    own_run (next n) (starts n) (λ m. taken_from m (workers n).past) (length (workers n).past)
    ≡ workers n

-- what was sent on a link is what was taken from it, and then what lies on it
abbrev pub LinksHoldTheRest : {S L W : Type 0} → (ℕ → Worker S L W) → (ℕ → ℕ → List W) → Type 0
LinksHoldTheRest workers links = (n m : ℕ) →
    sent_to m (workers n).past ≡ taken_from n (workers m).past ++ links n m

-- the workers went each some way on its own, over prefixes of what was sent to it
pub record WentApart {S L W : Type 0} (next : ℕ → S → Act S L W) (starts : ℕ → S)
    (workers : ℕ → Worker S L W) : Type 0 where
  pub alone : (n : ℕ) → WentAlone (next n) (starts n) (workers n)
  pub received : (n m : ℕ) →
      IsPrefix (taken_from n (workers m).past) (sent_to m (workers n).past)

-- all that the worker did begins what it does in a whole run; and if it is done, it did all of it
pub record Begins {S L W : Type 0} (next : S → Act S L W) (worker whole : Worker S L W) :
    Type 0 where
  pub before : IsBefore worker.past whole.past
  pub prefixes : BeginsSo worker.past whole.past
  pub done : next worker.state ≡ Stops → worker ≡ whole

-- the same of workers that are along their own runs, for code that keeps no pasts
pub record AreAlong {S L W : Type 0} (next : ℕ → S → Act S L W) (starts states : ℕ → S)
    (said : ℕ → List L) (taken sent : ℕ → ℕ → List W) : Type 0 where
  pub along : (n : ℕ) → IsAlong (next n) (starts n) (states n) (said n) (taken n) (sent n)
  pub received : (n m : ℕ) → IsPrefix (taken m n) (sent n m)

-- all that was done, at the end
pub record IsAll {S L W : Type 0} (whole : Worker S L W) (state : S) (said : List L)
    (sent : ℕ → List W) : Type 0 where
  pub stands : state ≡ whole.state
  pub says : said ≡ said_in whole.past
  pub sends : (m : ℕ) → sent m ≡ sent_to m whole.past

pub record BeginsAlong {S L W : Type 0} (next : S → Act S L W) (whole : Worker S L W) (state : S)
    (said : List L) (sent : ℕ → List W) : Type 0 where
  pub says : IsPrefix said (said_in whole.past)
  pub sends : (m : ℕ) → IsPrefix (sent m) (sent_to m whole.past)
  pub done : next state ≡ Stops → IsAll whole state said sent

-- room for one wire at least on each link
abbrev pub IsCapacity : ℕ → Type 0
IsCapacity capacity = 0 < capacity

-- some worker can go on
abbrev pub SomeIsEnabled : {S L W : Type 0} → (ℕ → S → Act S L W) → (capacity : ℕ) →
    Network S L W → Type 0
SomeIsEnabled next capacity network = (n : ℕ) × (is_enabled next capacity n network ≡ true)

-- every worker is done
abbrev pub AreDone : {S L W : Type 0} → (ℕ → S → Act S L W) → (ℕ → Worker S L W) → Type 0
AreDone next workers = (n : ℕ) → next n (workers n).state ≡ Stops
